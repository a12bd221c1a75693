use Rattle.std.proofs.Common.{refl}
use Rattle.node_votes.proofs.Changing.{lacking, on-err, same-get, seated, unled_more, widened}
use Rattle.node_votes.proofs.rounds.Rounds.seat.Goals as goal

pub returns-in_err-insert-2-clause-err : goal.returns-in_err-insert-2-clause-err
returns-in_err-insert-2-clause-err g c = on-err c.from_residual-in_err-insert-2.result _ (λ s up happened k none.
    widened g.S.Scheme g.D.PartialEq.eq s c.args.self.now (record c.args.self.now { by_view = c.insert-2.new.self; unled = c.insert.new.self }) up happened refl
    (same-get c.args.self.now.by_view c.insert-2.new.self c.in_err-insert-2.ensures.err) (λ u no. no)
    (lacking c.args.self.now.unled c.insert.new.self c.args.view c.in_ok-insert.ensures.updates)
    (unled_more g.S.Scheme g.D.PartialEq.eq s c.args.self.now up happened c.insert.new.self c.args.view c.in_ok-insert.ensures.updates none k) k)

pub returns-clause-seated : goal.returns-clause-seated
returns-clause-seated g c = λ s up happened k none touched passed h nobody kept.
    seated g.S.Scheme g.D.PartialEq.eq s c.args.self.now (record c.args.self.now { by_view = c.insert-2.new.self; unled = c.insert.new.self }) up happened c.args.view c.args.round passed h k refl
    c.in_ok-insert-2.ensures.updates refl c.in_ok-insert.ensures.updates none touched nobody kept
