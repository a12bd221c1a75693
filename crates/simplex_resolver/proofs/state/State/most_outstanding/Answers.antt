use Rattle.simplex_resolver.proofs.state.State.most_outstanding.Goals as goal

pub returns : goal.returns
returns c = λ views h k. rw (← k.stands.holds.length_is, ← k.stands.current_is, ← k.stands.floor_is) c.terms_behind_floor.ensures
