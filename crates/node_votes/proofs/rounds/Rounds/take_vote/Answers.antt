use Rattle.std.proofs.Common.{refl, sym}
use Rattle.std.proofs.lemmas.Result.{IfErr-weaker, IfOk-weaker}
use Rattle.node_votes.proofs.Changing.{some-is}
use Rattle.node_votes.proofs.Known.{known-admitted, known-refused, known-still}
use Rattle.node_votes.proofs.rounds.Rounds.take_vote.Goals as goal

pub returns-in-Some-clause-admitted : goal.returns-in-Some-clause-admitted
returns-in-Some-clause-admitted g c = known-admitted g.S.Scheme g.D.PartialEq.eq c.args.self.now c.touch.new.self c.touch.ensures.stands c.view-view.result c.in-Some.round.now c.add_network.new.self
    (c.get_mut.follows.lender c.add_network.new.self) c.in-Some.ensures.value ((c.get_mut.follows.holds c.add_network.new.self).3 (some-is c.in-Some.ensures.value)) c.in_ok-touch.ensures.touched c.args.vote c.view-view.ensures
    c.args.current c.args.sender c.add_network.result c.add_network.ensures.added c.add_network.ensures.block c.add_network.ensures.report c.add_network.ensures.ok

pub returns-in-Some-clause-refused : goal.returns-in-Some-clause-refused
returns-in-Some-clause-refused g c = known-refused g.S.Scheme g.D.PartialEq.eq c.args.self.now c.touch.new.self c.touch.ensures.stands c.view-view.result c.in-Some.round.now c.add_network.new.self
    (c.get_mut.follows.lender c.add_network.new.self) c.in-Some.ensures.value ((c.get_mut.follows.holds c.add_network.new.self).3 (some-is c.in-Some.ensures.value)) c.in_ok-touch.ensures.touched c.args.vote c.view-view.ensures
    c.add_network.result c.add_network.ensures.refused

pub returns-in-Some-clause-err : goal.returns-in-Some-clause-err
returns-in-Some-clause-err g c = known-still g.S.Scheme g.D.PartialEq.eq c.args.self.now c.touch.new.self c.touch.ensures.stands c.view-view.result c.in-Some.round.now c.add_network.new.self
    (c.get_mut.follows.lender c.add_network.new.self) c.in-Some.ensures.value ((c.get_mut.follows.holds c.add_network.new.self).3 (some-is c.in-Some.ensures.value)) c.in_ok-touch.ensures.touched
    c.add_network.result c.add_network.ensures.err

pub returns-in-None-clause-admitted : goal.returns-in-None-clause-admitted
returns-in-None-clause-admitted g c = IfOk-weaker c.take_first.result _ _
    (λ a f s up happened k. f s up happened (rw c.get_mut.follows.holds-at-none (c.touch.ensures.stands s up happened k))
    (rw (c.get_mut.follows.holds-at-none, ← c.view-view.ensures) (sym c.in-None.ensures.value)) (rw (← c.view-view.ensures) c.in_ok-touch.ensures.touched))
    c.take_first.ensures.admitted

pub returns-in-None-clause-refused : goal.returns-in-None-clause-refused
returns-in-None-clause-refused g c = IfErr-weaker c.take_first.result _ _
    (λ e f s up happened k. f s up happened (rw c.get_mut.follows.holds-at-none (c.touch.ensures.stands s up happened k))) c.take_first.ensures.refused

pub returns-in-None-clause-err : goal.returns-in-None-clause-err
returns-in-None-clause-err g c = IfErr-weaker c.take_first.result _ _
    (λ e f s up happened k. f s up happened (rw c.get_mut.follows.holds-at-none (c.touch.ensures.stands s up happened k)) (rw (c.get_mut.follows.holds-at-none, ← c.view-view.ensures) (sym c.in-None.ensures.value))) c.take_first.ensures.err
