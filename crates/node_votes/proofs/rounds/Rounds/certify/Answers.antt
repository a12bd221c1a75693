use Rattle.std.proofs.Common.{refl, sym}
use Rattle.std.proofs.lemmas.Result.{IfErr-weaker, IfOk-weaker}
use Rattle.node_votes.proofs.Changing.{some-is}
use Rattle.node_votes.proofs.Known.{known-certified, known-foreign, known-same}
use Rattle.node_votes.proofs.rounds.Rounds.certify.Goals as goal

pub returns-in-Ok-clause-certified : goal.returns-in-Ok-clause-certified
returns-in-Ok-clause-certified g c = known-certified g.S.Scheme g.D.PartialEq.eq c.args.self.now c.touch.new.self c.touch.ensures.stands c.view-view.result c.in-Some.round.now c.record_certificate.new.self
    (c.get_mut.follows.lender c.record_certificate.new.self) c.in-Some.ensures.value ((c.get_mut.follows.holds c.record_certificate.new.self).3 (some-is c.in-Some.ensures.value)) c.in_ok-touch.ensures.touched c.args.certificate.now c.view-view.ensures c.args.current c.in-Ok.ensures.ok

pub returns-in-Err-clause-refused : goal.returns-in-Err-clause-refused
returns-in-Err-clause-refused g c = known-foreign g.S.Scheme g.D.PartialEq.eq c.args.self.now c.touch.new.self c.touch.ensures.stands c.view-view.result c.in-Some.round.now c.record_certificate.new.self
    (c.get_mut.follows.lender c.record_certificate.new.self) c.in-Some.ensures.value ((c.get_mut.follows.holds c.record_certificate.new.self).3 (some-is c.in-Some.ensures.value)) c.in_ok-touch.ensures.touched c.args.certificate.now c.view-view.ensures c.in-Err.fault c.in-Err.ensures.refused

pub returns-in-Err-clause-err : goal.returns-in-Err-clause-err
returns-in-Err-clause-err g c = known-same g.S.Scheme g.D.PartialEq.eq c.args.self.now c.touch.new.self c.touch.ensures.stands c.view-view.result c.in-Some.round.now c.record_certificate.new.self
    (c.get_mut.follows.lender c.record_certificate.new.self) c.in-Some.ensures.value ((c.get_mut.follows.holds c.record_certificate.new.self).3 (some-is c.in-Some.ensures.value)) c.in_ok-touch.ensures.touched c.in-Err.ensures.err

pub returns-in-None-clause-certified : goal.returns-in-None-clause-certified
returns-in-None-clause-certified g c = IfOk-weaker c.certify_first.result _ _
    (λ a f s up happened k. f s up happened (rw c.get_mut.follows.holds-at-none (c.touch.ensures.stands s up happened k)) (rw (c.get_mut.follows.holds-at-none, ← c.view-view.ensures) (sym c.in-None.ensures.value)) (rw (← c.view-view.ensures) c.in_ok-touch.ensures.touched)) c.certify_first.ensures.certified

pub returns-in-None-clause-refused : goal.returns-in-None-clause-refused
returns-in-None-clause-refused g c = IfErr-weaker c.certify_first.result _ _
    (λ e f s up happened k. f s up happened (rw c.get_mut.follows.holds-at-none (c.touch.ensures.stands s up happened k))) c.certify_first.ensures.refused

pub returns-in-None-clause-err : goal.returns-in-None-clause-err
returns-in-None-clause-err g c = IfErr-weaker c.certify_first.result _ _
    (λ e f s up happened k. f s up happened (rw c.get_mut.follows.holds-at-none (c.touch.ensures.stands s up happened k)) (rw (c.get_mut.follows.holds-at-none, ← c.view-view.ensures) (sym c.in-None.ensures.value))) c.certify_first.ensures.err
