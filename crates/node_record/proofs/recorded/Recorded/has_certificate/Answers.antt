use Rattle.simplex_record.specs.Record.{entries}
use Rattle.node_record.proofs.recorded.Recorded.has_certificate.Goals as goal

pub returns : goal.returns
returns g c = λ owner xs k. c.has_certificate.ensures owner.term_length (entries xs) k.standing
