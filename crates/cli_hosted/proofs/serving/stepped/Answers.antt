use Rattle.cli_hosted.proofs.Holding.{of_held}
use Rattle.cli_hosted.proofs.serving.stepped.Goals as goal

pub returns-clause-answered : goal.returns-clause-answered
returns-clause-answered c =
    of_held _ _ _ c.in-Some.ensures.held
    (c.step-ended.new.self, c.step-ended.result, c.of.ensures.held, rw c.deref_mut.ensures.value at c.step-ended.ensures, c.told.ensures.status, c.told.ensures.place)
