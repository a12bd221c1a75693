use Rattle.types_core.specs.Subject.{nullify}
use Rattle.messages_certificates.proofs.nullification.Nullification.from_nullifies.Goals as goal

pub returns-clause-made : goal.returns-clause-made
returns-clause-made g c = c.in_ok-round.ensures.made nullify
