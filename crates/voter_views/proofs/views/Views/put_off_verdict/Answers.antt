use Rattle.std.proofs.lemmas.Result.{MatchResult-weaker}
use Rattle.voter_history.specs.History as History
use Rattle.voter_history.specs.History.{current, is_marked}
use Rattle.voter_history.specs.Known.{waits}
use Rattle.voter_views.specs.Views.{Keeps}
use Rattle.voter_views.proofs.Stepping.{still-kept, unled-progress, waited-still, waited-unled}
use Rattle.voter_views.proofs.views.Views.put_off_verdict.Goals as goal

pub returns : goal.returns
unfolding Keeps
returns g c = MatchResult-weaker c.mark.result c.mark.ensures
    (λ _ marked s h k.
    still-kept (History.certify_waited c.args.view) c.args.self.now.progress c.args.self.now.backed c.mark.new.self c.args.self.now.beginning k (waited-still s h c.args.view)
    (unled-progress (History.certify_waited c.args.view) c.args.self.now.progress (current s h) (waited-unled s h c.args.view) k.progress)
    k.backed (marked (is_marked s waits h) k.waiting) k.begun)
    (λ e _. tt)
