use Rattle.cli_hosted.proofs.Holding.{of_held}
use Rattle.cli_hosted.proofs.serving.rewritten.Goals as goal

pub returns-clause-shortened : goal.returns-clause-shortened
returns-clause-shortened c =
    of_held _ _ _ c.in-Some.ensures.held
    (c.rewrite-ended.new.self, c.rewrite-ended.result, c.of.ensures.held, rw c.deref_mut.ensures.value at c.rewrite-ended.ensures, c.shortened.ensures.status, c.shortened.ensures.place)
