use Rattle.cli_light.proofs.Chains.{shorter}
use Rattle.cli_light.proofs.chain.next_value.Goals as goal

pub returns-clause-shorter : goal.returns-clause-shorter
returns-clause-shorter g c = shorter (g.met.M.Read.one_spelling c.args.bound c.ranges.bound.fits) c.requires c.args.rest.now.now c.read_cfg.new.input.now c.read_cfg.result c.read_cfg.ensures
