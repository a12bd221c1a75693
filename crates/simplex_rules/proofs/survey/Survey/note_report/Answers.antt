use Rattle.simplex_rules.proofs.Surveys.{OnOk-surveyed}
use Rattle.simplex_rules.proofs.survey.Survey.note_report.Goals as goal

pub returns : goal.returns
returns g c = OnOk-surveyed g.S.Scheme.lists c.insert_held.result c.args.report.now _ _ _ (rw c.held_notarizes-notarizes.ensures at c.in_ok-note_held.ensures) (rw c.held_finalizes-finalizes.ensures at c.in_ok-note_held-2.ensures) c.insert_held.ensures.stay (rw c.held_nullifies.ensures at c.insert_held.ensures.given_up)
