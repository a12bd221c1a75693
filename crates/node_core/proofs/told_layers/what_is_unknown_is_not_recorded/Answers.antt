use Rattle.node_core.proofs.Unknown.{told_of, unrecorded}
use Rattle.node_core.proofs.told_layers.what_is_unknown_is_not_recorded.Goals as goal

pub returns : goal.returns
returns g c = λ f s h x all some retained none.
    unrecorded g.S.Scheme f s h (told_of g.S.Scheme f s (c.voters_are_orderly.ensures f s) (c.voters_tell_the_record.ensures f s) c.what_is_known_is_recorded.ensures c.what_is_recorded_is_known.ensures h all some) x retained none
