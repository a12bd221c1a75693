use Rattle.std.proofs.Common.{◌∙◌}
use Rattle.node_record.proofs.Beginning.{last-known, none-known}
use Rattle.node_record.proofs.recorded.Recorded.last_finalized.Goals as goal

pub returns-in-Some : goal.returns-in-Some
returns-in-Some g c = λ owner xs k.
    last-known c.args.self.now.places.finalizations xs k.places.finalizations c.in-Some.last.now.0 _ c.in-Some.ensures.value c.in-Some.ensures.least

pub returns-in-None : goal.returns-in-None
returns-in-None g c = λ owner xs k.
    c.zero.ensures ∙ none-known c.args.self.now.places.finalizations xs k.places.finalizations (λ some. cc (c.in-None.ensures.variant.1 some))
