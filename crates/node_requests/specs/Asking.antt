-- Where a member stands that asks, and what comes of its acts.
use Rattle.std.specs.Prelude.{◌≡◌, ◌≢◌, ℕ, Bool, true, false, List, [], All}
use Rattle.types_core.specs.declared.scheme.Scheme.{Ghosts}
use Rattle.types_terms.specs.declared.elector.Elector as elector
use Rattle.simplex_state.specs.declared.state.State.{State}
use Rattle.simplex_state.specs.State as voting
use Rattle.simplex_resolver.specs.declared.state.State.{State as Repair}
use Rattle.simplex_resolver.specs.Keeps as repairing
use Rattle.node_record.specs.declared.tables.Tables.{Tables}
use Rattle.node_record.specs.Tables.{KeepsTables}
use Rattle.simplex_member.specs.declared.action.Action.{Action}
use Rattle.simplex_member.specs.Allowed.{AreAllowed}
use Rattle.simplex_member.specs.Deeds.{all_deeds}
use Rattle.simplex_member.specs.Layers.{finalized_of, is_begun, repair_of, voter_of}
use Rattle.simplex_member.specs.Member.{Goes}
use Rattle.simplex_member.specs.Packet.{Formats}
use Rattle.simplex_member.specs.Point.{Point, Latches, Polls, AsksBuild, AsksVerify, AsksCertify, GivesBack, LeavesBehind, PutsOff, Asks, Resolves, History}
use Rattle.simplex_member.specs.Setup.{Setup}
use Rattle.node_outbox.specs.Handing.{AddsDeeds}
use Rattle.node_requests.specs.declared.acted.Acted.{Acted}
use Rattle.node_requests.specs.declared.acted.Acted.TheVariants as came

module _ {S D P G C : Type 0} where
  -- a point is an ask, or is about one or about a reason to give a view up: nothing is recorded at it, and it says nothing of votes and
  -- of the repair
  abbrev pub is_ask : Point S D P G C → Bool
  is_ask (Latches view why) = true
  is_ask (AsksBuild number handoff context) = true
  is_ask (AsksVerify number context p) = true
  is_ask (AsksCertify p) = true
  is_ask (GivesBack number view) = true
  is_ask (LeavesBehind number) = true
  is_ask (PutsOff view) = true
  is_ask (Asks view ask to) = true
  is_ask (Resolves view kind u) = true
  is_ask p = false

  -- no point is of this kind
  abbrev pub is_none : Point S D P G C → Bool
  is_none p = false

  -- a verdict is put off
  abbrev pub is_put_off : Point S D P G C → Bool
  is_put_off (PutsOff view) = true
  is_put_off p = false

  -- a reason to give a view up counts
  abbrev pub is_latch : Point S D P G C → Bool
  is_latch (Latches view why) = true
  is_latch p = false

  -- a verdict is put off, a reason to give a view up counts, or the next timeout is polled: nothing is handed out
  abbrev pub is_silent : Point S D P G C → Bool
  is_silent (Latches view why) = true
  is_silent Polls = true
  is_silent (PutsOff view) = true
  is_silent p = false

  -- the next timeout is polled
  abbrev pub is_poll : Point S D P G C → Bool
  is_poll Polls = true
  is_poll p = false

module _ {S L D P G C : Type 0} (g : Ghosts S D P G C) (e : elector.Ghosts L S D P G C) (f : Formats S D P G C) (s : Setup S D C) where
  -- who asks stands where this history leads: the record was gone through, each point was allowed, and the voter, the repair and the
  -- tables stand where their parts of it lead
  pub record AskerKeeps (voter : State S L D P G C) (repair : Repair) (tables : Tables S D P G C) (h : History S D P G C) : Type 0 where
    pub begun : is_begun h ≡ true
    pub allowed : AreAllowed g f s h
    pub voter_is : voting.Keeps g e s.voter voter (voter_of s h)
    pub repair_is : repairing.Keeps s.voter.length repair (repair_of f h)
    pub tables_are : KeepsTables (finalized_of s h) tables h

  -- these points of asking were gone through, each allowed behind those before it, and voter and tables stand at their end; what they
  -- hand out is behind the actions before
  pub record HasAsked (voter : State S L D P G C) (tables : Tables S D P G C) (h : History S D P G C) (points : List (Point S D P G C)) (end : History S D P G C) (before after : List (Action S D P G C)) : Type 0 where
    pub are_asks : All (λ p. is_ask p ≡ true) points
    pub goes : Goes g f s h points end
    pub voter_is : voting.Keeps g e s.voter voter (voter_of s end)
    pub tables_are : KeepsTables (finalized_of s end) tables end
    pub acts : AddsDeeds f before after (all_deeds g f s h points)

  -- something that was due was asked
  pub record WasAsked (voter : State S L D P G C) (tables : Tables S D P G C) (h : History S D P G C) (before after : List (Action S D P G C)) : Type 0 where
    pub points : List (Point S D P G C)
    pub end : History S D P G C
    pub asked : HasAsked voter tables h points end before after
    pub some : points ≢ []

  -- nothing was left to be asked, behind points of this kind alone: this holds where they led
  pub record HadNothingToAsk (is_kind : Point S D P G C → Bool) (Done : History S D P G C → Type 0) (voter : State S L D P G C) (tables : Tables S D P G C) (h : History S D P G C) (before after : List (Action S D P G C)) : Type 0 where
    pub points : List (Point S D P G C)
    pub end : History S D P G C
    pub are_kind : All (λ p. is_kind p ≡ true) points
    pub asked : HasAsked voter tables h points end before after
    pub none : Done end

  -- what comes of an act that asks
  abbrev pub ComesToAsk : (Point S D P G C → Bool) → (History S D P G C → Type 0) → State S L D P G C → Tables S D P G C → History S D P G C → List (Action S D P G C) → List (Action S D P G C) → Acted → Type 0
  ComesToAsk is_kind Done voter tables h before after came.Did = WasAsked voter tables h before after
  ComesToAsk is_kind Done voter tables h before after came.Nothing = HadNothingToAsk is_kind Done voter tables h before after

module _ {S L D P G C : Type 0} (g : Ghosts S D P G C) (e : elector.Ghosts L S D P G C) (formats : ℕ → Formats S D P G C) where
  -- what holds of each history that leads here, where values are compared, spelled and read as in a committee of its size
  abbrev pub AtAsker : State S L D P G C → Repair → Tables S D P G C → (Formats S D P G C → Setup S D C → History S D P G C → Type 0) → Type 0
  AtAsker voter repair tables Holds = (s : Setup S D C) (h : History S D P G C) → AskerKeeps g e (formats (g.size s.voter.scheme)) s voter repair tables h → Holds (formats (g.size s.voter.scheme)) s h

  -- the same, whatever the repair is
  abbrev pub AtAnyAsker : State S L D P G C → Tables S D P G C → (Formats S D P G C → Setup S D C → History S D P G C → Type 0) → Type 0
  AtAnyAsker voter tables Holds = (repair : Repair) → AtAsker voter repair tables Holds
