use Rattle.simplex_state.proofs.state.State.supersede_proposal_request.Goals as goal

pub returns-clause-keeps : goal.returns-clause-keeps
returns-clause-keeps g c = λ s h k. c.in_ok-release_proposal_request.ensures s h k
