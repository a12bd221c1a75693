use Rattle.std.proofs.Common.{true, refl, sym}
use Rattle.node_votes.specs.Standing.{setup_now}
use Rattle.node_votes.proofs.Changing.{unknown}
use Rattle.node_votes.proofs.Known.{stands-here}
use Rattle.node_votes.proofs.rounds.Rounds.is_missing_voter.Goals as goal

pub returns-in-Some : goal.returns-in-Some
returns-in-Some g c = λ s up happened k. c.is_missing_voter.ensures (setup_now g.S.Scheme s up c.args.view 0) (happened c.args.view)
    (stands-here g.S.Scheme g.D.PartialEq.eq s c.args.self.now up happened c.args.view k 0 c.in-Some.round.now c.in-Some.ensures.value)

pub returns-in-None : goal.returns-in-None
returns-in-None g c = λ s up happened k.
    let bare = unknown g.S.Scheme g.D.PartialEq.eq s c.args.view _ (up c.args.view) (happened c.args.view) (sym c.in-None.ensures.value) (k.kept c.args.view) in rw bare.1 refl
