use Rattle.cli_opening.proofs.Heads.{unread}
use Rattle.cli_opening.proofs.halves.look_at_half.Goals as goal

-- it was not looked at
pub returns-in-Err-clause-barred : goal.returns-in-Err-clause-barred
returns-in-Err-clause-barred c = (unread _ _ _ _).0
