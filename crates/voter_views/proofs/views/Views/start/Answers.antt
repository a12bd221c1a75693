use Rattle.std.proofs.Common.{ap, ◌∙◌, ◌≡◌, ◌+◌}
use Rattle.std.specs.Prelude.{None}
use Rattle.voter_views.proofs.Advancing.{grown-tables}
use Rattle.voter_views.proofs.Learning.{behind-one, elected, elected-member, inside, started-closed, started-kept}
use Rattle.voter_history.specs.History.{current}
use Rattle.voter_views.specs.Progress.{frame_of, tables}
use Rattle.voter_views.specs.Views.{Keeps}
use Rattle.voter_views.proofs.views.Views.start.Goals as goal

pub returns : goal.returns
unfolding Keeps
returns g c = λ s h k.
    let first : c.next-first.result ≡ 1 = c.next-first.ensures ∙ ap (λ n. n + 1) c.zero.ensures in
    let led : c.elect-leader.result ≡ s.elect 1 None =
    elected k c.new.result 1 None c.elect-leader.result c.new.ensures.epoch (c.new.ensures.view ∙ first) (rw c.as_ref.ensures.value at c.elect-leader.ensures) in
    let entered = c.in_ok-enter.ensures s (current s h) (tables s h) k.progress in
    let table = grown-tables s h (inside s h c.args.now c.next-first.result) in
    started-kept k c.args.now c.args.payload c.enter.new.self c.lead.new.self c.next-first.result c.elect-leader.result table first led entered
    (c.in_ok-lead.ensures (frame_of s) table entered.tracked (behind-one c.next-first.result 0 first) (elected-member k 1 None c.elect-leader.result led)
    (λ u _ _. started-closed s h c.args.now c.next-first.result u))
