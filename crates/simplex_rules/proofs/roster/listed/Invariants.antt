use Rattle.std.proofs.Common.{◌≡◌, map}
use Rattle.std.specs.Map.Iter.{deref}
use Rattle.simplex_rules.proofs.roster.listed.Given as goal

-- the suspects gone over
abbrev pub invariant-loop-suspect : goal.invariant-loop-suspect
invariant-loop-suspect l = l.ascending.items ≡ map deref l.yielded
