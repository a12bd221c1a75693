use Rattle.node_votes.proofs.Changing.{on-err}
use Rattle.node_votes.proofs.Firsts.{first-certified, first-foreign}
use Rattle.node_votes.proofs.rounds.Rounds.certify_first.Goals as goal

pub returns-in-Err-clause-refused : goal.returns-in-Err-clause-refused
returns-in-Err-clause-refused g c = first-foreign g.S.Scheme g.D.PartialEq.eq c.args.self.now c.args.current c.view-view.result c.in_ok-round.round c.in_ok-round.ensures c.args.certificate.now c.view-view.ensures c.in-Err.fault c.in-Err.ensures.refused

pub returns-in_ok-seat-in-Ok-clause-certified : goal.returns-in_ok-seat-in-Ok-clause-certified
returns-in_ok-seat-in-Ok-clause-certified g c = λ s up happened k none touched. first-certified g.S.Scheme g.D.PartialEq.eq c.args.self.now c.seat.new.self c.args.current c.view-view.result c.in_ok-round.round c.record_certificate.new.self c.in_ok-round.ensures c.in_ok-seat-in-Ok.ensures.seated c.args.certificate.now c.view-view.ensures c.in-Ok.ensures.ok s up happened k none touched

pub returns-in_err-seat-in-Ok-clause-err : goal.returns-in_err-seat-in-Ok-clause-err
returns-in_err-seat-in-Ok-clause-err g c = on-err c.from_residual-in_err-seat-in-Ok.result _
    (λ s up happened k none. c.in_err-seat-in-Ok.ensures.err s up happened k (rw c.view-view.ensures none))
