use Rattle.simplex_record.specs.Record.{entries}
use Rattle.node_record.proofs.Nullifies.{last_none, last_one}
use Rattle.node_record.proofs.recorded.Recorded.last_nullify.Goals as goal

pub returns-in-Some : goal.returns-in-Some
returns-in-Some g c = λ owner xs k.
    last_one c.args.self.now.artifacts.items xs c.last_nullify-place.result c.in-Some.artifact.now c.nullify_of.result k.artifacts_are (c.last_nullify-place.ensures owner.term_length (entries xs) k.standing) c.in-Some.ensures c.nullify_of.ensures

pub returns-in-None : goal.returns-in-None
returns-in-None g c = λ owner xs k.
    last_none c.args.self.now.artifacts.items xs c.last_nullify-place.result k.artifacts_are (c.last_nullify-place.ensures owner.term_length (entries xs) k.standing) c.in-None.ensures
