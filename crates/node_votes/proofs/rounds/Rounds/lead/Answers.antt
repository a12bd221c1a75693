use Rattle.std.proofs.Common.{ap, refl, sym}
use Rattle.simplex_member.specs.Layers.{is_up}
use Rattle.node_votes.specs.Standing.{setup_now}
use Rattle.node_votes.proofs.Changing.{some-is, unknown}
use Rattle.node_votes.proofs.Known.{known-same, stands-here}
use Rattle.node_votes.proofs.Opening.{known-again, known-led}
use Rattle.node_votes.proofs.rounds.Rounds.lead.Goals as goal

pub returns-in-Ok-clause-led : goal.returns-in-Ok-clause-led
returns-in-Ok-clause-led g c = λ s up happened k some none. known-led g.S.Scheme g.D.PartialEq.eq s c.touch.new.self up happened c.args.view c.args.leader c.in-Some.round.now c.set_leader.new.self (c.get_mut.follows.lender c.set_leader.new.self) c.remove.new.self
    c.in-Some.ensures.value ((c.get_mut.follows.holds c.set_leader.new.self).3 (some-is c.in-Some.ensures.value)) c.in_ok-touch.ensures.touched c.remove.ensures.updates c.in-Ok.ensures.ok none (c.touch.ensures.stands s up happened k)

pub returns-in-Ok-clause-again : goal.returns-in-Ok-clause-again
returns-in-Ok-clause-again g c = λ s up happened k known. known-again g.S.Scheme g.D.PartialEq.eq s c.touch.new.self up happened c.args.view c.args.leader c.in-Some.round.now c.set_leader.new.self (c.get_mut.follows.lender c.set_leader.new.self) c.remove.new.self
    c.in-Some.ensures.value ((c.get_mut.follows.holds c.set_leader.new.self).3 (some-is c.in-Some.ensures.value)) c.in_ok-touch.ensures.touched c.remove.ensures.updates c.in-Ok.ensures.ok known (c.touch.ensures.stands s up happened k)

pub returns-in-Err-clause-refused : goal.returns-in-Err-clause-refused
returns-in-Err-clause-refused g c = λ s up happened k none.
    let why = (c.in-Err.ensures.refused (setup_now g.S.Scheme s up c.args.view 0) (happened c.args.view) (stands-here g.S.Scheme g.D.PartialEq.eq s c.touch.new.self up happened c.args.view (c.touch.ensures.stands s up happened k) 0 c.in-Some.round.now c.in-Some.ensures.value)).1 in
    absurd (rw none at why)

pub returns-in-Err-clause-err : goal.returns-in-Err-clause-err
returns-in-Err-clause-err g c = known-same g.S.Scheme g.D.PartialEq.eq c.args.self.now c.touch.new.self c.touch.ensures.stands c.args.view c.in-Some.round.now c.set_leader.new.self (c.get_mut.follows.lender c.set_leader.new.self) c.in-Some.ensures.value ((c.get_mut.follows.holds c.set_leader.new.self).3 (some-is c.in-Some.ensures.value)) c.in_ok-touch.ensures.touched c.in-Err.ensures.err

pub returns-in-None-clause-led : goal.returns-in-None-clause-led
returns-in-None-clause-led g c = λ s up happened k some none.
    let bare = unknown g.S.Scheme g.D.PartialEq.eq s c.args.view _ (up c.args.view) (happened c.args.view) (sym c.in-None.ensures.value) ((c.touch.ensures.stands s up happened k).kept c.args.view) in
    absurd (cc (some, ap is_up bare.0))

pub returns-in-None-clause-again : goal.returns-in-None-clause-again
returns-in-None-clause-again g c = λ s up happened k known.
    let bare = unknown g.S.Scheme g.D.PartialEq.eq s c.args.view _ (up c.args.view) (happened c.args.view) (sym c.in-None.ensures.value) ((c.touch.ensures.stands s up happened k).kept c.args.view) in
    absurd (known (rw bare.1 refl))
