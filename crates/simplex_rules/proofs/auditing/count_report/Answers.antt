use Rattle.simplex_messages.specs.Activity.{activity_at}
use Rattle.simplex_rules.proofs.Reading.{IfOk-counts_next}
use Rattle.simplex_rules.proofs.auditing.count_report.Goals as goal

pub returns : goal.returns
returns g c =
    let n = g.S.Scheme.size c.args.scheme.now in
    let reading = activity_at g.D.PartialEq.eq (g.D.Read.reading n) (g.S.Signature.Read.reading n) (g.S.Certificate.Read.reading n) in
    IfOk-counts_next _ _ _ reading c.args.rest.now.now c.next_message-read.new.input.now c.args.tally.now c.count_read-counted.new.tally c.next_message-read.result c.count_read-counted.result (rw c.requires.bound at c.next_message-read.ensures.exact) (rw c.requires.bound at c.next_message-read.ensures.fitting) c.next_message-read.ensures.spelled c.count_read-counted.ensures
