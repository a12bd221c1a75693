use Rattle.std.proofs.Common.{arith}
use Rattle.journal_single.specs.OneReading.{unique, messages-one}
use Rattle.journal_single.specs.Total.{reads_any}
use Rattle.journal_single.proofs.laws.a_disk_reads_as_one_record.Goals as goal

pub returns-clause-some : goal.returns-clause-some
returns-clause-some g c = reads_any

pub returns-clause-one : goal.returns-clause-one
returns-clause-one g c = λ image bodies others r s. unique bodies others image r s

pub returns-clause-messages : goal.returns-clause-messages
returns-clause-messages g c = λ image messages others fits_messages fits_others r s. messages-one (g.met.M.Read.one_spelling 65535 (omega arith)) messages others fits_messages fits_others image r s
