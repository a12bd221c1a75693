use Rattle.std.proofs.Common.{ap, sym}
use Rattle.cli_hosted.proofs.session.begin.Goals as goal

pub returns-in-Ok-written-clause-opened : goal.returns-in-Ok-written-clause-opened
returns-in-Ok-written-clause-opened g c =
    let opened = c.in-Ok.ensures.opened in
    let whole = rw c.in-Ok-written.is at opened.4.whole in
    (opened.0, opened.1, opened.2, opened.3, rw (ap (λ w. w.inner) c.new-output.ensures, c.replace.ensures.value, sym c.into_inner.ensures) at whole, opened.5)
