use Rattle.simplex_rules.proofs.Gathering.{inserted_stay}
use Rattle.simplex_rules.proofs.Standing.{second-stay}
use Rattle.simplex_rules.proofs.roster.Gathered.insert_new.Goals as goal

pub returns-in_ok-insert-clause-stay : goal.returns-in_ok-insert-clause-stay
returns-in_ok-insert-clause-stay c = λ q there. second-stay c.self.inside.ascending.items c.self.inside.late.keys c.insert.new.self.keys (inserted_stay c.self.inside.late c.insert.new.self c.args.suspect.now c.in_ok-insert.ensures.updates) q (rw (← c.self.view_is) at there)
