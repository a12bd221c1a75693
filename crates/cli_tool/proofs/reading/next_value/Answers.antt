use Rattle.cli_tool.proofs.reading.next_value.Goals as goal

pub returns-in-Ok-clause-some : goal.returns-in-Ok-clause-some
returns-in-Ok-clause-some g c = (g.met.M.Read.one_spelling c.args.bound c.ranges.bound.fits).takes _ _ _ c.in-Ok.ensures
