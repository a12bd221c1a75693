use Rattle.std.proofs.Common.{sym, subst}
use Rattle.std.specs.Prelude.{IsTrue, ◌↔◌}
use Rattle.voter_history.specs.Held.{held, Agrees}
use Rattle.voter_history.specs.Past.{offers}
use Rattle.voter_views.proofs.Choices.{held_at, is-one}
use Rattle.voter_history.specs.History.{seen}
use Rattle.voter_history.specs.Leaders.{leader}
use Rattle.voter_views.specs.Progress.{frame_of, tables}
use Rattle.voter_views.specs.Views.{Keeps, round_of}
use Rattle.voter_views.proofs.views.Views.takes.Goals as goal

pub returns-in-Some-proposal : goal.returns-in-Some-proposal
unfolding Keeps
returns-in-Some-proposal g c = λ s h k.
    let view = c.view.result in
    let round = c.in-Some.ensures (frame_of s) (tables s h) k.progress.tracked in
    let is = held_at (λ u. held (offers (seen s h u))) c.proposal.result c.in-Some-proposal.held view c.args.proposal.now.round.view
    (c.proposal.ensures (round_of s view) (leader s h view) (seen s h view) round.1) c.in-Some-proposal.is c.view.ensures in
    subst (λ o. IsTrue c.eq.result ↔ Agrees o c.args.proposal.now) (sym is) (is-one g.D.PartialEq.eq g.met.D.Digest.equal_is_same c.in-Some-proposal.held c.args.proposal.now c.eq.result c.eq.ensures)
