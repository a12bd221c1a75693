use Rattle.std.proofs.Common.{◌∙◌, sym}
use Rattle.node_requests.proofs.Verdicts.{both_empty, not_empty}
use Rattle.node_requests.proofs.certifying.are_none.Goals as goal

pub returns-then-is_empty : goal.returns-then-is_empty
returns-then-is_empty g c = both_empty c.args.ready.now c.args.fetches.now c.is_empty-then-is_empty.result (sym c.is_empty.ensures ∙ c.if-is_empty.true) c.is_empty-then-is_empty.ensures

pub returns-else-is_empty : goal.returns-else-is_empty
returns-else-is_empty g c = not_empty c.args.ready.now c.args.fetches.now c.is_empty.result c.is_empty.ensures c.if-is_empty.false
