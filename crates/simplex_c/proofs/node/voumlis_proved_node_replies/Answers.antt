use Rattle.simplex_c.proofs.Holding.{done_of, undone_of}
use Rattle.simplex_c.proofs.node.voumlis_proved_node_replies.Goals as goal

pub returns-clause-taken : goal.returns-clause-taken
returns-clause-taken c = done_of _ _ c.number.ensures _ _ c.replies_taken.ensures.taken

pub returns-clause-no_room : goal.returns-clause-no_room
returns-clause-no_room c = undone_of _ _ c.number.ensures _ _ c.replies_taken.ensures.no_room
