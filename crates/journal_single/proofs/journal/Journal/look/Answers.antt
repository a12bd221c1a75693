use Rattle.journal_single.specs.LookingLaws.{reads_found}
use Rattle.journal_single.proofs.journal.Journal.look.Goals as goal

pub returns-in-Ok-clause-reading : goal.returns-in-Ok-clause-reading
returns-in-Ok-clause-reading g c = λ k. reads_found (c.in-Ok.ensures.found k)
