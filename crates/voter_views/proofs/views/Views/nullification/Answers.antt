use Rattle.std.proofs.Common.{ap, sym, ◌∙◌}
use Rattle.std.specs.BTreeMap.{get}
use Rattle.std.specs.Ordering.{nat_cmp}
use Rattle.voter_history.specs.Past as past
use Rattle.voter_views.proofs.Choices.{found_first, found_second}
use Rattle.voter_history.specs.History.{nullification, seen}
use Rattle.voter_history.specs.Leaders.{leader}
use Rattle.voter_views.specs.Progress.{frame_of, tables}
use Rattle.voter_views.specs.Views.{Keeps, round_of}
use Rattle.voter_views.proofs.views.Views.nullification.Goals as goal

pub returns-in-Some : goal.returns-in-Some
unfolding Keeps
returns-in-Some g c = λ s h k.
    let view = c.args.view in
    found_first c.get.result c.in-Some.certificate (get nat_cmp c.args.self.now.reaching view) (past.nullification (seen s h view)) (nullification s h view) c.get.ensures.value c.in-Some.is (k.nullifications view)

pub returns-in-Some-round : goal.returns-in-Some-round
unfolding Keeps
returns-in-Some-round g c = λ s h k.
    let view = c.args.view in
    let round = c.in-Some-round.ensures (frame_of s) (tables s h) k.progress.tracked in
    c.nullification.ensures (round_of s view) (leader s h view) (seen s h view) round.1
    ∙ found_second c.get.result (get nat_cmp c.args.self.now.reaching view) (past.nullification (seen s h view)) (nullification s h view) c.get.ensures.value c.in_default.is (k.nullifications view)

pub returns-in-None : goal.returns-in-None
unfolding Keeps
returns-in-None g c = λ s h k.
    let view = c.args.view in
    let round = c.in-None.ensures (frame_of s) (tables s h) k.progress.tracked in
    sym (ap past.nullification round.0)
    ∙ found_second c.get.result (get nat_cmp c.args.self.now.reaching view) (past.nullification (seen s h view)) (nullification s h view) c.get.ensures.value c.in_default.is (k.nullifications view)
