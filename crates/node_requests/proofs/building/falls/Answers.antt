use Rattle.std.proofs.Common.{◌≡◌, ◌≤◌, ◌∙◌, sym, true, false, arith}
use Rattle.std.proofs.lemmas.Bool.{false≢true}
use Rattle.std.proofs.lemmas.Bool.Decides.{nat_tests}
use Rattle.node_requests.proofs.Builds.{stopped_falls, superseded_falls}
use Rattle.node_requests.proofs.building.falls.Goals as goal

pub returns-then-stops-clause-falls : goal.returns-then-stops-clause-falls
returns-then-stops-clause-falls g c =
    let ahead : c.current_view.result ≤ c.args.building.now.context.round.view = grind (arith, nat_tests, c.lt.ensures, c.if-lt.false) in
    stopped_falls g.S.Scheme g.L.Elector c.args.voter.now c.release.new.voter c.args.building.now.handoff c.args.building.now.context
    c.what_is_known_stays.ensures.known c.what_is_known_stays.ensures.views
    c.current_view.result c.current_view.ensures ahead c.release.result (λ f s h k. (c.stops.ensures f s h k).0 c.if-stops.true) c.release.ensures.answer c.release.ensures.keeps

pub returns-in-Ok-clause-falls : goal.returns-in-Ok-clause-falls
returns-in-Ok-clause-falls g c =
    let ahead : c.current_view.result ≤ c.args.building.now.context.round.view = grind (arith, nat_tests, c.lt.ensures, c.if-lt.false) in
    superseded_falls g.S.Scheme g.L.Elector c.args.voter.now c.supersede_proposal_request.new.self
    c.args.building.now.handoff c.args.building.now.context c.what_is_known_stays.ensures.known c.what_is_known_stays.ensures.views
    c.current_view.result c.current_view.ensures ahead c.in-Ok.superseded
    (λ f s h k stopped. false≢true (sym c.if-stops.false ∙ (c.stops.ensures f s h k).1 stopped)) c.in-Ok.ensures.answer c.in-Ok.ensures.keeps
