use Rattle.std.proofs.Common.{◌≡◌, ◌+◌, arith}
use Rattle.types_core.specs.Positions.{term_start}
use Rattle.types_terms.specs.Spans.{ends-before}
use Rattle.types_terms.proofs.viewport.Viewport.first_reaching.Goals as goal

pub returns-else-lt-clause-reaches : goal.returns-else-lt-clause-reaches
returns-else-lt-clause-reaches c fits view below =
    let next : c.new-next.result ≡ c.args.self.now.finalized + 1 = omega (arith, fits, c.new-next.ensures, c.saturating_add.ensures, c.get.ensures.value) in
    let start : c.term_start-start.result ≡ term_start c.args.self.now.lookahead.length (c.args.self.now.finalized + 1) = rw next at c.term_start-start.ensures in
    rw start (ends-before c.args.self.now.lookahead.length c.args.self.now.finalized view c.get-views.ensures.at_least_one)
