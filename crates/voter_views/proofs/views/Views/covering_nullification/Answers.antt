use Rattle.std.specs.Prelude.{is_some}
use Rattle.voter_history.specs.History.{nullification}
use Rattle.voter_views.specs.Views.{Keeps}
use Rattle.voter_views.proofs.Covering.{highest_covering}
use Rattle.voter_views.proofs.views.Views.covering_nullification.Goals as goal

pub returns : goal.returns
unfolding Keeps
returns g c = λ s h k.
    highest_covering s h c.args.view c.term_start-start.result (rw k.length at c.term_start-start.ensures) c.in_ok-last.last c.nullification.result
    (c.in_ok-last.ensures (λ u. is_some (nullification s h u)) k.nullified) (c.nullification.ensures s h k)
