use Rattle.std.proofs.Common.{refl}
use Rattle.simplex_rules.proofs.Surveys.{surveyed-more}
use Rattle.simplex_rules.proofs.auditing.survey_read.Goals as goal

pub returns-in_ok-note_report-in-Ok : goal.returns-in_ok-note_report-in-Ok
returns-in_ok-note_report-in-Ok g c = rw c.in-Ok.is (refl, λ reports all. surveyed-more g.S.Scheme.lists reports c.in-Ok.report c.args.survey.now c.note_report.new.self c.in_ok-note_report-in-Ok.ensures all)
