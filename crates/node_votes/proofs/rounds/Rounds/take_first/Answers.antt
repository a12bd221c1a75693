use Rattle.node_votes.proofs.Changing.{on-err}
use Rattle.node_votes.proofs.Firsts.{first-admitted, first-passed, first-refused}
use Rattle.node_votes.proofs.rounds.Rounds.take_first.Goals as goal

pub returns-then-not-admission-clause-admitted : goal.returns-then-not-admission-clause-admitted
returns-then-not-admission-clause-admitted g c = first-passed g.S.Scheme g.D.PartialEq.eq c.args.self.now c.args.current c.view-view.result c.in_ok-round.round c.in_ok-round.ensures c.args.vote c.view-view.ensures
    c.args.sender c.in-Ok.admission c.if-not-admission.true c.in-Ok.ensures.added c.in-Ok.ensures.block c.in-Ok.ensures.report

pub returns-in_ok-seat-in-Ok-clause-admitted : goal.returns-in_ok-seat-in-Ok-clause-admitted
returns-in_ok-seat-in-Ok-clause-admitted g c = first-admitted g.S.Scheme g.D.PartialEq.eq c.args.self.now c.seat.new.self c.args.current c.view-view.result c.in_ok-round.round c.add_network.new.self c.in_ok-round.ensures c.in_ok-seat-in-Ok.ensures.seated c.args.vote c.view-view.ensures
    c.args.sender c.in-Ok.admission c.if-not-admission.false c.in-Ok.ensures.added c.in-Ok.ensures.block c.in-Ok.ensures.report c.in-Ok.ensures.ok

pub returns-in-Err-clause-refused : goal.returns-in-Err-clause-refused
returns-in-Err-clause-refused g c = first-refused g.S.Scheme g.D.PartialEq.eq c.args.self.now c.args.current c.view-view.result c.in_ok-round.round c.in_ok-round.ensures c.args.vote c.view-view.ensures c.in-Err.fault c.in-Err.ensures.refused

pub returns-in_err-seat-in-Ok-clause-err : goal.returns-in_err-seat-in-Ok-clause-err
returns-in_err-seat-in-Ok-clause-err g c = on-err c.from_residual-in_err-seat-in-Ok.result _
    (λ s up happened k none. c.in_err-seat-in-Ok.ensures.err s up happened k (rw c.view-view.ensures none))
