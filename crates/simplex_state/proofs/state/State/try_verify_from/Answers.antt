use Rattle.std.proofs.lemmas.Result.{IfOk-weaker}
use Rattle.simplex_state.proofs.Wanting.{answers_of, is_from}
use Rattle.simplex_state.proofs.state.State.try_verify_from.Goals as goal

pub returns-clause-answer : goal.returns-clause-answer
returns-clause-answer g c = IfOk-weaker c.ask.result _ _
    (λ answer asks s h k.
    let found = rw c.in-Some.is at (c.in_ok-found.ensures.found s h k) in
    answers_of g.S.Scheme g.L.Elector s c.ask.new.self c.args.now h c.args.from c.in-Some.waiting.0 found.end answer found.looked (asks s found.end found.holds.1 found.holds.0))
    c.ask.ensures.asks

pub returns-clause-rises : goal.returns-clause-rises
returns-clause-rises g c = IfOk-weaker c.ask.result _ _
    (λ answer is. is_from c.args.from c.in-Some.waiting.0 answer (rw c.in-Some.is at c.in_ok-found.ensures.rises) is)
    c.ask.ensures.of_view
