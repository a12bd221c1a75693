use Rattle.simplex_journal.specs.ReadingLaws.{one_pair, pair_any}
use Rattle.simplex_journal.proofs.laws.two_disks_read_as_one_record.Goals as goal

pub returns-clause-some : goal.returns-clause-some
returns-clause-some c = pair_any

pub returns-clause-one : goal.returns-clause-one
returns-clause-one c = λ one two bodies others r s. one_pair one two bodies others r s
