use Rattle.std.proofs.Common.{◌++◌}
use Rattle.journal_single.specs.Moments.{weaker}
use Rattle.simplex_journal.specs.Reading.{ReadsAs}
use Rattle.simplex_journal.proofs.Finishing.{begun_reads, closing_reads}
use Rattle.simplex_journal.proofs.opening.finish.Goals as goal

pub returns-then-is_empty-clause-any_moment : goal.returns-then-is_empty-clause-any_moment
returns-then-is_empty-clause-any_moment g c = λ h bodies k x f. weaker (λ image. ReadsAs image h bodies) (c.begin.ensures.any_moment k x) (begun_reads f (c.requires.none k c.if-is_empty.true))

pub returns-clause-any_moment : goal.returns-clause-any_moment
returns-clause-any_moment g c = λ h bodies k x f. weaker (λ image. ReadsAs image h bodies) (c.close_gate.ensures.any_moment (f.head ++ f.found.left.front) f.found.rest k x f.found.left.split f.found.gate_is) (closing_reads f)
