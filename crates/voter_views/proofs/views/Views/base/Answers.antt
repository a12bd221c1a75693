use Rattle.voter_views.specs.Views.{Keeps}
use Rattle.voter_views.proofs.Learning.{based-kept}
use Rattle.voter_views.proofs.views.Views.base.Goals as goal

pub returns : goal.returns
unfolding Keeps
returns g c = λ s h k. based-kept k c.args.view c.base.new.self c.base.ensures.floor c.base.ensures.blank
