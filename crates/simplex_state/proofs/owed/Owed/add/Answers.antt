use Rattle.simplex_state.proofs.Members.{stays_in}
use Rattle.simplex_state.proofs.owed.Owed.add.Goals as goal

pub returns-clause-kept : goal.returns-clause-kept
returns-clause-kept c = λ u there. stays_in c.args.self.now.views c.insert.new.self c.args.view c.in_ok-insert.ensures.updates u there
