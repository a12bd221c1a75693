use Rattle.simplex_rules.proofs.Surveys.{Notes-none}
use Rattle.simplex_rules.proofs.survey.note_held.Goals as goal

pub returns-in-Nothing : goal.returns-in-Nothing
returns-in-Nothing g c = rw c.in-Nothing.is (Notes-none c.args.chosen.now c.args.contested.now)
