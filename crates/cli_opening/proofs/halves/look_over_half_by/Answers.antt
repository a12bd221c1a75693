use Rattle.cli_opening.proofs.Heads.{unread}
use Rattle.cli_opening.proofs.halves.look_over_half_by.Goals as goal

-- it was not read
pub returns-in-Err-Device-clause-barred : goal.returns-in-Err-Device-clause-barred
returns-in-Err-Device-clause-barred g c = λ keeps. (unread _ _ _ _).1

pub returns-in-Err-clause-barred : goal.returns-in-Err-clause-barred
returns-in-Err-clause-barred g c = λ keeps. (unread _ _ _ _).0
