use Rattle.std.proofs.Common.{refl, sym}
use Rattle.std.proofs.lemmas.Result.{IfErr-weaker, IfOk-weaker}
use Rattle.node_votes.proofs.Changing.{some-is}
use Rattle.node_votes.proofs.Known.{known-cast, known-own, known-still, known-why}
use Rattle.node_votes.proofs.rounds.Rounds.cast.Goals as goal

pub returns-in-Some-clause-cast : goal.returns-in-Some-clause-cast
returns-in-Some-clause-cast g c = known-cast g.S.Scheme g.D.PartialEq.eq c.args.self.now c.touch.new.self c.touch.ensures.stands c.view-view.result c.in-Some.round.now c.accept_vote.new.self
    (c.get_mut.follows.lender c.accept_vote.new.self) c.in-Some.ensures.value ((c.get_mut.follows.holds c.accept_vote.new.self).3 (some-is c.in-Some.ensures.value)) c.in_ok-touch.ensures.touched c.args.vote c.view-view.ensures
    c.args.current c.accept_vote.result c.accept_vote.ensures.report c.accept_vote.ensures.ok c.accept_vote.ensures.again c.accept_vote.ensures.agrees

pub returns-in-Some-clause-refused : goal.returns-in-Some-clause-refused
returns-in-Some-clause-refused g c = known-own g.S.Scheme g.D.PartialEq.eq c.args.self.now c.touch.new.self c.touch.ensures.stands c.view-view.result c.in-Some.round.now c.accept_vote.new.self
    (c.get_mut.follows.lender c.accept_vote.new.self) c.in-Some.ensures.value ((c.get_mut.follows.holds c.accept_vote.new.self).3 (some-is c.in-Some.ensures.value)) c.in_ok-touch.ensures.touched c.args.vote c.view-view.ensures
    c.accept_vote.result c.accept_vote.ensures.own

pub returns-in-Some-clause-why : goal.returns-in-Some-clause-why
returns-in-Some-clause-why g c = known-why g.S.Scheme g.D.PartialEq.eq c.args.self.now c.touch.new.self c.touch.ensures.stands c.view-view.result c.in-Some.round.now c.accept_vote.new.self
    (c.get_mut.follows.lender c.accept_vote.new.self) c.in-Some.ensures.value ((c.get_mut.follows.holds c.accept_vote.new.self).3 (some-is c.in-Some.ensures.value)) c.in_ok-touch.ensures.touched c.args.vote c.view-view.ensures
    c.args.current c.accept_vote.result c.accept_vote.ensures.refused

pub returns-in-Some-clause-err : goal.returns-in-Some-clause-err
returns-in-Some-clause-err g c = known-still g.S.Scheme g.D.PartialEq.eq c.args.self.now c.touch.new.self c.touch.ensures.stands c.view-view.result c.in-Some.round.now c.accept_vote.new.self
    (c.get_mut.follows.lender c.accept_vote.new.self) c.in-Some.ensures.value ((c.get_mut.follows.holds c.accept_vote.new.self).3 (some-is c.in-Some.ensures.value)) c.in_ok-touch.ensures.touched
    c.accept_vote.result c.accept_vote.ensures.err

pub returns-in-None-clause-cast : goal.returns-in-None-clause-cast
returns-in-None-clause-cast g c = IfOk-weaker c.cast_first.result _ _
    (λ a f s up happened k. f s up happened (rw c.get_mut.follows.holds-at-none (c.touch.ensures.stands s up happened k)) (rw (c.get_mut.follows.holds-at-none, ← c.view-view.ensures) (sym c.in-None.ensures.value)) (rw (← c.view-view.ensures) c.in_ok-touch.ensures.touched)) c.cast_first.ensures.cast

pub returns-in-None-clause-refused : goal.returns-in-None-clause-refused
returns-in-None-clause-refused g c = IfErr-weaker c.cast_first.result _ _
    (λ e f s up happened k. f s up happened (rw c.get_mut.follows.holds-at-none (c.touch.ensures.stands s up happened k)) (rw (c.get_mut.follows.holds-at-none, ← c.view-view.ensures) (sym c.in-None.ensures.value))) c.cast_first.ensures.refused

pub returns-in-None-clause-why : goal.returns-in-None-clause-why
returns-in-None-clause-why g c = IfErr-weaker c.cast_first.result _ _
    (λ e f s up happened k. f s up happened (rw c.get_mut.follows.holds-at-none (c.touch.ensures.stands s up happened k)) (rw (c.get_mut.follows.holds-at-none, ← c.view-view.ensures) (sym c.in-None.ensures.value))) c.cast_first.ensures.why

pub returns-in-None-clause-err : goal.returns-in-None-clause-err
returns-in-None-clause-err g c = IfErr-weaker c.cast_first.result _ _
    (λ e f s up happened k. f s up happened (rw c.get_mut.follows.holds-at-none (c.touch.ensures.stands s up happened k)) (rw (c.get_mut.follows.holds-at-none, ← c.view-view.ensures) (sym c.in-None.ensures.value))) c.cast_first.ensures.err
