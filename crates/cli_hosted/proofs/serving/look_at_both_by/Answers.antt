use Rattle.std.proofs.Common.{inl}
use Rattle.cli_hosted.proofs.LookedHalves.{unread}
use Rattle.cli_hosted.proofs.serving.look_at_both_by.Goals as goal

-- neither was looked at
pub returns-in_default-clause-barred : goal.returns-in_default-clause-barred
returns-in_default-clause-barred c = inl (unread _ _ _ c.args.stored.now)
