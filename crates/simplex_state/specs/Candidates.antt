-- For which views' verdicts something may be to ask.
use Rattle.std.specs.Prelude.{◌≡◌, ◌⊎◌, ◌+◌, ◌<◌, ◌^◌, ◌↔◌, ◌++◌, ℕ, List, [], ◌∷◌, AllPairs, Contains, IsTrue}
use Rattle.std.specs.Ordering.{nat_cmp}
use Rattle.std.specs.BTreeSet.{BTreeSet, contains}
use Rattle.types_core.specs.declared.proposal.Proposal.{Proposal}
use Rattle.voter_history.specs.History.{Setup, Point, certify_waited}
use Rattle.voter_history.specs.Known.{Known, known}
use Rattle.voter_rules.specs.Ancestry.{Member, member}
use Rattle.voter_rules.specs.Requests.{MayBeAsked, CertificateIsWanted, AreReady, ArePutOff}
use Rattle.voter_rules.specs.declared.requests.CertifyRequest.{CertifyRequest}
use Rattle.voter_rules.specs.declared.requests.CertifyRequest.TheVariants as certify
use Rattle.voter_rules.specs.declared.certificate_fetch.CertificateFetch.{CertificateFetch}
use Rattle.simplex_state.specs.declared.state.certifying.Verdicts.{Verdicts}

module _ {S D P G C : Type 0} where
  -- the verdicts on these views were put off, one after the other
  abbrev pub put_off : List ℕ → List (Point S D P G C) → List (Point S D P G C)
  put_off [] h = h
  put_off (view ∷ views) h = put_off views (certify_waited view ∷ h)

  -- each view for whose verdict something may be to ask is among these
  pub record AreAmong (s : Setup S C) (h : List (Point S D P G C)) (views : BTreeSet ℕ) : Type 0 where
    pub all : (view : ℕ) (p : Proposal D) → view < 2 ^ 64 → MayBeAsked (member s) (known s h) view p → IsTrue (contains nat_cmp views view)

-- of a view something was learnt: with those that were there before, it is now among these, and so is the view behind it
pub record IsWoken (before now : BTreeSet ℕ) (view : ℕ) : Type 0 where
  pub kept : (u : ℕ) → IsTrue (contains nat_cmp before u) → IsTrue (contains nat_cmp now u)
  pub own : IsTrue (contains nat_cmp now view)
  pub behind : (u : ℕ) → u ≡ view + 1 → u < 2 ^ 64 → IsTrue (contains nat_cmp now u)

module _ {D : Type 0} (m : Member) (k : Known D) where
  -- the notarizations that are to be asked for, by the views whose verdicts wait for them, each once
  pub record AreWanted (fetches : List CertificateFetch) : Type 0 where
    pub exact : (fetch : CertificateFetch) → Contains fetches fetch ↔ CertificateIsWanted m k fetch.proposal fetch.view
    pub ascend : AllPairs (λ (x y : CertificateFetch). x.proposal < y.proposal) fetches

  -- all that is to be asked for verdicts; behind that, something may be to ask only where a verdict was, or where one was put off
  pub record AreAll (v : Verdicts D) : Type 0 where
    pub ready : AreReady m k v.ready.items
    pub wanted : AreWanted v.fetches.items
    pub put_off : ArePutOff m k v.put_off.items
    pub sorted : (view : ℕ) (p : Proposal D) → MayBeAsked m k view p → ((q : Proposal D) × Contains v.ready.items q × (q.round.view ≡ view)) ⊎ Contains v.put_off.items view

module _ {D : Type 0} where
  -- what is to be asked for one more view's verdict comes last
  abbrev pub Adds : ℕ → CertifyRequest D → Verdicts D → Verdicts D → Type 0
  Adds view (certify.Ready p) old new = (new.ready.items ≡ old.ready.items ++ p ∷ []) × (new.fetches.items ≡ old.fetches.items) × (new.put_off.items ≡ old.put_off.items)
  Adds view (certify.Fetch u) old new =
      (new.ready.items ≡ old.ready.items) × (new.fetches.items ≡ old.fetches.items ++ record { proposal = view; view = u } ∷ []) × (new.put_off.items ≡ old.put_off.items ++ view ∷ [])
  Adds view (certify.PutOff u) old new = (new.ready.items ≡ old.ready.items) × (new.fetches.items ≡ old.fetches.items) × (new.put_off.items ≡ old.put_off.items ++ view ∷ [])
  Adds view certify.Wait old new = (new.ready.items ≡ old.ready.items) × (new.fetches.items ≡ old.fetches.items) × (new.put_off.items ≡ old.put_off.items)
