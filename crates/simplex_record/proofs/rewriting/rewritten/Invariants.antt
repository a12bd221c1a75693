use Rattle.std.proofs.Common.{◌≡◌, ◌++◌, length}
use Rattle.std.specs.Prelude.{nat_lt}
use Rattle.std.specs.List.{filter}
use Rattle.simplex_record.specs.Record.{entry}
use Rattle.simplex_record.specs.Rules.{reach}
use Rattle.simplex_record.specs.Lawful.{rewritten}
use Rattle.simplex_record.proofs.rewriting.rewritten.Given as goal

-- what is left so far, and what the rest leaves, is all that a rewrite leaves
abbrev pub invariant-loop-artifact : goal.invariant-loop-artifact
invariant-loop-artifact g l = l.left.items ++ filter (λ x. nat_lt l.floor.proposal.round.view (reach l.length (entry x))) l.rest ≡ rewritten l.length l.floor l.artifacts

abbrev pub decreases-loop-artifact : goal.decreases-loop-artifact
decreases-loop-artifact g l = length l.rest
