use Rattle.std.proofs.Common.{◌∙◌}
use Rattle.cli_hosted.proofs.session.Session.views.Goals as goal

pub returns : goal.returns
returns c = λ f s h keeps.
    (c.get-current.ensures.value ∙ c.current_view.ensures f s h keeps, c.get.ensures.value ∙ c.last_finalized.ensures f s h keeps)
