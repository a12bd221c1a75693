use Rattle.std.proofs.Common.{◌≡◌, sym}
use Rattle.cli_hosted.proofs.Opens.{if_opened, some-is}
use Rattle.cli_hosted.proofs.session.set_up.Goals as goal

pub returns-clause-opened : goal.returns-clause-opened
returns-clause-opened g c =
    let was = rw (c.config.ensures, c.in-Ok.ensures, c.in-Ok-elector.ensures.rotation) at c.begin.ensures.opened in
    if_opened c.begin.result _ _ was (λ node opened.
    let same : opened.0 ≡ c.args.member = some-is opened.0 c.args.member (sym opened.2) in
    (opened.1, opened.3, opened.4, rw same at opened.5))
