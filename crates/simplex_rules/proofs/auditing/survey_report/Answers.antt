use Rattle.simplex_messages.specs.Activity.{activity_at}
use Rattle.simplex_rules.proofs.Reading.{IfOk-counts_next}
use Rattle.simplex_rules.proofs.auditing.survey_report.Goals as goal

pub returns : goal.returns
returns g c =
    let n = g.S.Scheme.size c.args.scheme.now in
    let reading = activity_at g.D.PartialEq.eq (g.D.Read.reading n) (g.S.Signature.Read.reading n) (g.S.Certificate.Read.reading n) in
    IfOk-counts_next _ _ _ reading c.args.rest.now.now c.next_message-read.new.input.now c.args.survey.now c.survey_read-noted.new.survey c.next_message-read.result c.survey_read-noted.result (rw c.requires.bound at c.next_message-read.ensures.exact) (rw c.requires.bound at c.next_message-read.ensures.fitting) c.next_message-read.ensures.spelled c.survey_read-noted.ensures
