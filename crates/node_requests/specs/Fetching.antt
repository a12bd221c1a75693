-- Views that are asked for of other members.
use Rattle.std.specs.Prelude.{◌≡◌, ◌≢◌, ◌↔◌, ◌<◌, ◌∷◌, [], ℕ, Bool, true, false, List, All, Contains, None}
use Rattle.types_core.specs.declared.scheme.Scheme.{Ghosts}
use Rattle.voter_rules.specs.declared.certificate_fetch.CertificateFetch.{CertificateFetch}
use Rattle.voter_rules.specs.Requests.{CertificateIsWanted}
use Rattle.simplex_resolver.specs.declared.ask.Kind.TheVariants as kind
use Rattle.simplex_resolver.specs.declared.state.State.{State as Repair}
use Rattle.simplex_resolver.specs.Keeps as repairing
use Rattle.node_record.specs.declared.tables.Tables.{Tables}
use Rattle.node_record.specs.Tables.{KeepsTables}
use Rattle.simplex_member.specs.declared.action.Action.{Action}
use Rattle.simplex_member.specs.declared.asked.Asked.{Asked}
use Rattle.simplex_member.specs.Allowed.{AreAllowed}
use Rattle.simplex_member.specs.Asked.{IsAnswered, IsPending, IsSent, ancestry}
use Rattle.simplex_member.specs.Deeds.{Sends, all_deeds}
use Rattle.simplex_member.specs.Layers.{finalized_of, is_begun, known_of, repair_of}
use Rattle.simplex_member.specs.Member.{Goes}
use Rattle.simplex_member.specs.Packet.{Formats, of_ask}
use Rattle.simplex_member.specs.Point.{Point, Asks, History}
use Rattle.simplex_member.specs.Setup.{Setup, member_of}
use Rattle.node_outbox.specs.Handing.{AddsDeeds}
use Rattle.node_requests.specs.declared.acted.Acted.{Acted}
use Rattle.node_requests.specs.declared.acted.Acted.TheVariants as came

module _ {S D P G C : Type 0} where
  -- a view is asked for
  abbrev pub is_fetch : Point S D P G C → Bool
  is_fetch (Asks view ask to) = true
  is_fetch p = false

module _ {S D P G C : Type 0} (f : Formats S D P G C) (s : Setup S D C) where
  -- these are what was asked until a finalization, of views above the last finalized one
  abbrev pub ArePending : History S D P G C → List Asked → Type 0
  ArePending h pending = (a : Asked) → Contains pending a ↔ ((finalized_of s h < a.view) × IsPending h a.view a.ask a.to)

  -- this was asked now, since it isn't settled and didn't go out for now; or nothing was handed out, since one of the two is so
  abbrev pub Fetches : Tables S D P G C → History S D P G C → Asked → List (Action S D P G C) → List (Action S D P G C) → Bool → Type 0
  Fetches tables h asked before after true =
      (¬ IsSent f s h asked.view asked.ask asked.to) × KeepsTables (finalized_of s h) tables (Asks asked.view asked.ask asked.to ∷ h) × AddsDeeds f before after (Sends asked.to (of_ask asked.view) ∷ [])
  Fetches tables h asked before after false = IsSent f s h asked.view asked.ask asked.to × KeepsTables (finalized_of s h) tables h × (after ≡ before)

module _ {S D P G C : Type 0} (g : Ghosts S D P G C) (f : Formats S D P G C) (s : Setup S D C) where
  -- who repairs stands where this history leads: the record was gone through, each point was allowed, and the repair and the tables
  -- stand where their parts of it lead
  pub record RepairerKeeps (repair : Repair) (tables : Tables S D P G C) (h : History S D P G C) : Type 0 where
    pub begun : is_begun h ≡ true
    pub allowed : AreAllowed g f s h
    pub repair_is : repairing.Keeps s.voter.length repair (repair_of f h)
    pub tables_are : KeepsTables (finalized_of s h) tables h

  -- views were asked for, each allowed behind those before it, and the tables stand at the end; nothing else is handed out
  pub record HasFetched (tables : Tables S D P G C) (h : History S D P G C) (points : List (Point S D P G C)) (end : History S D P G C) (before after : List (Action S D P G C)) : Type 0 where
    pub are_fetches : All (λ p. is_fetch p ≡ true) points
    pub goes : Goes g f s h points end
    pub tables_are : KeepsTables (finalized_of s end) tables end
    pub acts : AddsDeeds f before after (all_deeds g f s h points)

  -- views were asked for
  pub record WasFetched (tables : Tables S D P G C) (h : History S D P G C) (before after : List (Action S D P G C)) : Type 0 where
    pub points : List (Point S D P G C)
    pub end : History S D P G C
    pub fetched : HasFetched tables h points end before after
    pub some : points ≢ []

  -- what comes of an act that asks for views: some were asked for; or nothing changed, and this holds
  abbrev pub ComesToFetch : (History S D P G C → Type 0) → Tables S D P G C → History S D P G C → List (Action S D P G C) → List (Action S D P G C) → Acted → Type 0
  ComesToFetch Done tables h before after came.Did = WasFetched tables h before after
  ComesToFetch Done tables h before after came.Nothing = Done h × KeepsTables (finalized_of s h) tables h × (after ≡ before)

  -- for each of these verdicts the notarization that it waits for was asked for of all, where it isn't settled
  pub record FetchesParents (tables : Tables S D P G C) (h : History S D P G C) (wanted : List CertificateFetch) (before after : List (Action S D P G C)) : Type 0 where
    pub points : List (Point S D P G C)
    pub end : History S D P G C
    pub fetched : HasFetched tables h points end before after
    pub answered : (fetch : CertificateFetch) → Contains wanted fetch → IsAnswered f s end fetch.view (ancestry kind.Notarization) None

  -- a verdict waits for each of these notarizations
  abbrev pub AreAllWanted : History S D P G C → List CertificateFetch → Type 0
  AreAllWanted h wanted = (fetch : CertificateFetch) → Contains wanted fetch → CertificateIsWanted (member_of s) (known_of s h) fetch.proposal fetch.view

module _ {S D P G C : Type 0} (g : Ghosts S D P G C) (formats : ℕ → Formats S D P G C) where
  -- what holds of each history that leads here, where values are compared, spelled and read as in a committee of its size
  abbrev pub AtRepairer : Repair → Tables S D P G C → (Formats S D P G C → Setup S D C → History S D P G C → Type 0) → Type 0
  AtRepairer repair tables Holds = (s : Setup S D C) (h : History S D P G C) → RepairerKeeps g (formats (g.size s.voter.scheme)) s repair tables h → Holds (formats (g.size s.voter.scheme)) s h
