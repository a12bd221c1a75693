use Rattle.std.proofs.Common.{take}
use Rattle.std.specs.Prelude.{⊤}
use Rattle.std.specs.BTreeSet.{IsSubset}
use Rattle.simplex_rules.specs.Kept.{suspect_cmp}
use Rattle.simplex_rules.proofs.Gathering.{Gathers}
use Rattle.simplex_rules.proofs.roster.insert_all.Given as goal

-- the suspects gone over are there
abbrev pub invariant-loop-suspect : goal.invariant-loop-suspect
invariant-loop-suspect l = record {
  stay : IsSubset suspect_cmp l.initial.all l.all;
  added : Gathers (λ q. q) (λ q. ⊤) (take l.suspect-index l.suspects) l.all;
}
