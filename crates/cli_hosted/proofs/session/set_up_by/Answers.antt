use Rattle.std.proofs.Common.{◌≡◌, sym}
use Rattle.cli_hosted.proofs.Opens.{committee_is, if_opened, some-is}
use Rattle.cli_hosted.proofs.session.set_up_by.Goals as goal

pub returns-clause-opened : goal.returns-clause-opened
returns-clause-opened g c =
    let was = rw (c.config.ensures, committee_is _ _ _ _ c.in-Ok.ensures.base c.in-Ok.ensures.members c.in-Ok.ensures.me) at c.begin.ensures.opened in
    if_opened c.begin.result _ _ was (λ node opened.
    let same : opened.0 ≡ c.args.settings.now.member = some-is opened.0 c.args.settings.now.member (sym opened.2) in
    (c.in-Ok-elector.elector, opened.1, record { order = c.in-Ok-elector.ensures.order; terms = c.in-Ok-elector.ensures.terms }, opened.3, opened.4, rw same at opened.5))
