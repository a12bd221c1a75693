use Rattle.cli_tool.proofs.Following.{behind}
use Rattle.cli_tool.proofs.decoding.size_of.Goals as goal

pub overflow_sub-result : goal.overflow_sub-result
overflow_sub-result g c = behind _ _ _ ((g.met.M.Read.one_spelling c.args.bound c.ranges.bound.fits).takes _ _ _ c.in-Ok.ensures).0
