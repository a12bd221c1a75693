use Rattle.simplex_rules.proofs.Surveys.{OnOk-two}
use Rattle.simplex_rules.proofs.survey.note_both.Goals as goal

pub returns : goal.returns
returns g c = OnOk-two c.note-2.result _ _ _ _ _ _ c.args.both.now.0 c.args.both.now.1 (rw c.first.ensures.value at c.in_ok-note.ensures) (rw c.second.ensures.value at c.note-2.ensures)
