use Rattle.simplex_rules.proofs.Reading.{IfOk-fits}
use Rattle.simplex_rules.proofs.auditing.next_message.Goals as goal

pub returns-clause-fitting : goal.returns-clause-fitting
returns-clause-fitting g c = IfOk-fits (g.met.M.Read.one_spelling c.args.bound c.ranges.bound.fits) c.args.input.now.now c.read_cfg.new.input.now c.read_cfg.result c.read_cfg.ensures
