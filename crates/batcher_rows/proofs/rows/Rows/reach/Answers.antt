use Rattle.std.proofs.Common.{arith}
use Rattle.batcher_rows.proofs.Holding.{stays-again}
use Rattle.batcher_rows.proofs.rows.Rows.reach.Goals as goal

pub returns-in_err-extend-clause-stays : goal.returns-in_err-extend-clause-stays
returns-in_err-extend-clause-stays g c = stays-again c.args.self.now c.loop.self c.extend.new.self c.loop.invariant.1 c.in_err-extend.ensures.stays

pub loop-preserved : goal.loop-preserved
loop-preserved g c = (
  omega (arith, c.in_ok-extend.ensures.len, c.loop.invariant.0),
  stays-again c.args.self.now c.loop.self c.extend.new.self c.loop.invariant.1 c.in_ok-extend.ensures.stays,
)
