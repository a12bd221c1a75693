use Rattle.cli_hosted.proofs.Holding.{held_of}
use Rattle.cli_hosted.proofs.serving.opened.Goals as goal

pub returns-in-Ok-clause-begun : goal.returns-in-Ok-clause-begun
returns-in-Ok-clause-begun c = λ is. held_of c.open.result (λ b. b.value) _ _ c.begun.ensures.held c.begun.ensures.not_held is c.open.ensures
