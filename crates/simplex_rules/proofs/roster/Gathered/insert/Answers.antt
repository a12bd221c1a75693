use Rattle.simplex_rules.proofs.Standing.{among-first, stands-there}
use Rattle.simplex_rules.proofs.roster.Gathered.insert.Goals as goal

pub returns-in-Ok-clause-added : goal.returns-in-Ok-clause-added
returns-in-Ok-clause-added c = among-first c.self.inside.ascending.items c.self.inside.late.keys c.args.suspect.now (stands-there _ c.in-Ok.place c.args.suspect.now (rw c.deref.ensures.value at c.in-Ok.ensures.found))
