use Rattle.std.proofs.Common.{inl, refl}
use Rattle.node_votes.proofs.Changing.{lacking, widened}
use Rattle.node_votes.proofs.rounds.Rounds.touch.Goals as goal

pub returns-clause-stands : goal.returns-clause-stands
returns-clause-stands g c = λ s up happened k.
    widened g.S.Scheme g.D.PartialEq.eq s c.args.self.now (record c.args.self.now { touched = c.insert.new.self }) up happened refl (λ u. refl)
    (lacking c.args.self.now.touched c.insert.new.self c.args.view c.in_ok-insert.ensures.updates) (λ u no. no) (λ u more. inl more) k
