use Rattle.node_votes.proofs.Changing.{on-err}
use Rattle.node_votes.proofs.Firsts.{first-cast, first-own, first-why}
use Rattle.node_votes.proofs.rounds.Rounds.cast_first.Goals as goal

pub returns-in-Err-clause-refused : goal.returns-in-Err-clause-refused
returns-in-Err-clause-refused g c = first-own g.S.Scheme g.D.PartialEq.eq c.args.self.now c.args.current c.view-view.result c.in_ok-round.round c.in_ok-round.ensures c.args.vote c.view-view.ensures c.in-Err.fault c.in-Err.ensures.own

pub returns-in-Err-clause-why : goal.returns-in-Err-clause-why
returns-in-Err-clause-why g c = first-why g.S.Scheme g.D.PartialEq.eq c.args.self.now c.args.current c.view-view.result c.in_ok-round.round c.in_ok-round.ensures c.args.vote c.view-view.ensures c.in-Err.fault c.in-Err.ensures.refused

pub returns-in_ok-seat-in-Ok-clause-cast : goal.returns-in_ok-seat-in-Ok-clause-cast
returns-in_ok-seat-in-Ok-clause-cast g c = first-cast g.S.Scheme g.D.PartialEq.eq c.args.self.now c.seat.new.self c.args.current c.view-view.result c.in_ok-round.round c.accept_vote.new.self c.in_ok-round.ensures c.in_ok-seat-in-Ok.ensures.seated c.args.vote c.view-view.ensures
    c.in-Ok.report c.in-Ok.ensures.report c.in-Ok.ensures.ok c.in-Ok.ensures.agrees

pub returns-in_err-seat-in-Ok-clause-err : goal.returns-in_err-seat-in-Ok-clause-err
returns-in_err-seat-in-Ok-clause-err g c = on-err c.from_residual-in_err-seat-in-Ok.result _
    (λ s up happened k none. c.in_err-seat-in-Ok.ensures.err s up happened k (rw c.view-view.ensures none))
