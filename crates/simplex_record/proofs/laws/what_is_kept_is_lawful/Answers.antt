use Rattle.simplex_record.proofs.Soundness.{kept-sound}
use Rattle.simplex_record.proofs.laws.what_is_kept_is_lawful.Goals as goal

pub returns-clause-lawful : goal.returns-clause-lawful
returns-clause-lawful g c = λ scheme owner ever kept some recorded. (kept-sound some recorded).lawful

pub returns-clause-stands : goal.returns-clause-stands
returns-clause-stands g c = λ scheme owner ever kept some recorded. (kept-sound some recorded).stands
