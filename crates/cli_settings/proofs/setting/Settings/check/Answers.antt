use Rattle.std.proofs.lemmas.Result.{on_ok_weaker}
use Rattle.cli_settings.proofs.Good.{good_of}
use Rattle.cli_settings.proofs.setting.Settings.check.Goals as goal

pub returns-clause-good : goal.returns-clause-good
returns-clause-good c =
    let good = rw c.config.ensures at c.in_default.ensures.good in
    on_ok_weaker c.check_beside.result (good_of c.args.self.now good) c.check_beside.ensures.good
