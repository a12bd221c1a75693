use Rattle.cli_member.proofs.Unread.{unread}
use Rattle.cli_member.proofs.looking.look_for_half.Goals as goal

-- it was not read
pub returns-in-Err-clause-barred : goal.returns-in-Err-clause-barred
returns-in-Err-clause-barred g c = λ keeps. unread _ _ _ _
