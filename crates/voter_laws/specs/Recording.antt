-- What the record of a voter says is known to it: a statement.
use Rattle.std.specs.Prelude.{◌≡◌, ◌↔◌, ℕ, Bool, true, List, IsSome}
use Rattle.types_core.specs.declared.position.Round.{Round}
use Rattle.types_core.specs.declared.proposal.Proposal.{Proposal}
use Rattle.types_core.specs.Subject.{notarize, nullify, finalize}
use Rattle.simplex_record.specs.Record as recorded
use Rattle.simplex_record.specs.Record.{Entry, HasTaken, HasJudged}
use Rattle.voter_history.specs.History.{Setup, Point}
use Rattle.voter_history.specs.Known.{Known, known}
use Rattle.voter_rules.specs.Ancestry.{Member, member}
use Rattle.voter_laws.specs.Matching.{IsOrderly, record_of}

-- what the record says is known: exactly of the views of the nullifications that were taken one is known; and of each view that is
-- kept there is a notarization, a finalization, a verdict where the record has one
pub record IsKnown {D : Type 0} (m : Member) (k : Known D) (r : List (Entry D)) : Type 0 where
  pub nullified : (view : ℕ) → (k.nullified view ≡ true) ↔ ((x : Round) × (x.view ≡ view) × HasTaken r (nullify x))
  pub notarized : (p : Proposal D) → HasTaken r (notarize p) → recorded.IsKept m.retention r p.round.view → IsSome (k.notarized p.round.view)
  pub finalized : (p : Proposal D) → HasTaken r (finalize p) → recorded.IsKept m.retention r p.round.view → IsSome (k.finalized p.round.view)
  pub judged : (x : Round) (ok : Bool) → HasJudged r x ok → recorded.IsKept m.retention r x.view → IsSome (k.verdict x.view)

module _ (S D P G C : Type 0) where
  -- what the record says is known at the end of an orderly history
  abbrev pub EachRecordIsKnown : Type 0
  EachRecordIsKnown = (s : Setup S C) (h : List (Point S D P G C)) → IsOrderly s h → IsKnown (member s) (known s h) (record_of s h)
