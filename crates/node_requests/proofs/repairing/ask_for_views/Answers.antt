use Rattle.node_requests.proofs.repairing.ask_for_views.Goals as goal

pub returns-clause-acts : goal.returns-clause-acts
returns-clause-acts g c = rw c.make_room.ensures.same at c.ask_for_each_view.ensures.acts
