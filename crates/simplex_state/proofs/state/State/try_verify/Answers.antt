use Rattle.std.proofs.lemmas.Result.{IfOk-weaker}
use Rattle.simplex_state.proofs.Wanting.{answers_whole}
use Rattle.simplex_state.proofs.state.State.try_verify.Goals as goal

pub returns : goal.returns
returns g c = IfOk-weaker c.try_verify_from.result _ _
    (λ answer is s h k. answers_whole g.S.Scheme g.L.Elector s c.try_verify_from.new.self c.args.now h answer (rw c.zero.ensures at (is s h k)))
    c.try_verify_from.ensures.answer
