use Rattle.std.proofs.Common.{take}
use Rattle.std.specs.Prelude.{IsSome}
use Rattle.std.specs.BTreeSet.{IsSubset}
use Rattle.simplex_rules.specs.Choices.{choice_in}
use Rattle.simplex_rules.specs.Kept.{suspect_cmp}
use Rattle.simplex_rules.proofs.Gathering.{Gathers}
use Rattle.simplex_rules.proofs.survey.contest.Given as goal

-- of the suspects gone over those are there whose round was finalized
abbrev pub invariant-loop-suspect : goal.invariant-loop-suspect
invariant-loop-suspect g l = record {
  stay : IsSubset suspect_cmp l.initial.contested l.contested;
  added : Gathers (λ q. q) (λ q. IsSome (choice_in l.finalized q.round)) (take l.suspect-index l.nullified) l.contested;
}
