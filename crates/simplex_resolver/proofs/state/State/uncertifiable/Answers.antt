use Rattle.simplex_resolver.proofs.state.State.uncertifiable.Goals as goal

pub returns : goal.returns
returns c = λ views h k. c.has_failed.ensures views h k.stands.holds
