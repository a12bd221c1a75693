use Rattle.std.proofs.Common.{◌≡◌, ◌≢◌, zero, refl}
use Rattle.cli_member.proofs.Comes.{comes_by, comes_rewriting, committee_is, led_by}
use Rattle.cli_member.proofs.running.drive_member.Goals as goal

-- it is rewritten at the end of the input alone
pub returns-then-views-eq0-clause-comes_to : goal.returns-then-views-eq0-clause-comes_to
returns-then-views-eq0-clause-comes_to g c =
    let none : c.args.settings.now.conduct.rewrite_views ≡ zero = c.if-views-eq0.true in
    let served = rw (c.config-config.ensures, committee_is _ _ _ _ c.in-Ok.ensures.base c.in-Ok.ensures.members c.in-Ok.ensures.me) at c.serve_over.ensures.serves in
    rw none (led_by c.args.settings.now.committee c.in-Ok-elector.elector _ _
    (record { order = c.in-Ok-elector.ensures.order; terms = c.in-Ok-elector.ensures.terms })
    (comes_by _ c.args.settings.now.member c.serve_over.result.0 _ _ _ _ refl served))

pub returns-then-views-eq0-clause-streams : goal.returns-then-views-eq0-clause-streams
returns-then-views-eq0-clause-streams g c = c.serve_over.ensures.streams

-- or while it runs
pub returns-clause-comes_to : goal.returns-clause-comes_to
returns-clause-comes_to g c =
    let some : c.args.settings.now.conduct.rewrite_views ≢ zero = c.if-views-eq0.false in
    let served = rw (c.config-config.ensures, committee_is _ _ _ _ c.in-Ok.ensures.base c.in-Ok.ensures.members c.in-Ok.ensures.me) at c.serve_rewriting.ensures.serves in
    led_by c.args.settings.now.committee c.in-Ok-elector.elector _ _
    (record { order = c.in-Ok-elector.ensures.order; terms = c.in-Ok-elector.ensures.terms })
    (comes_rewriting _ c.args.settings.now.member c.args.settings.now.conduct.rewrite_views some c.serve_rewriting.result.0 _ _ _ _ _ refl served)

pub returns-clause-streams : goal.returns-clause-streams
returns-clause-streams g c = c.serve_rewriting.ensures.streams
