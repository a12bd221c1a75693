use Rattle.std.proofs.Common.{length}
use Rattle.simplex_record.proofs.Checks.{IsChecked}
use Rattle.simplex_record.proofs.checking.check.Given as goal

-- what was checked so far is lawful
abbrev pub invariant-loop-artifact : goal.invariant-loop-artifact
invariant-loop-artifact g l = IsChecked (g.S.Scheme.attests l.scheme) (g.S.Scheme.certifies l.scheme) l.owner l.artifacts l.rest l.standing

abbrev pub decreases-loop-artifact : goal.decreases-loop-artifact
decreases-loop-artifact g l = length l.rest
