use Rattle.simplex_rules.proofs.Reading.{counts_none, counts_more, shorter}
use Rattle.simplex_rules.proofs.auditing.count_reports.Goals as goal

pub loop-rest-init : goal.loop-rest-init
loop-rest-init g c = counts_none _ c.args.bytes.now c.args.tally.now c.requires.empty

pub loop-rest-smaller : goal.loop-rest-smaller
loop-rest-smaller g c =
    let one = rw c.if-not-branch.false at c.in_ok-count_next.ensures in
    shorter g.D.Write.spelling g.S.Signature.Write.spelling g.S.Certificate.Write.spelling one.report c.loop-rest.rest.now c.count_next.new.rest.now one.whole

pub loop-rest-preserved : goal.loop-rest-preserved
loop-rest-preserved g c =
    let one = rw c.if-not-branch.false at c.in_ok-count_next.ensures in
    counts_more _ c.args.bytes.now c.loop-rest.rest.now c.count_next.new.rest.now c.loop-rest.tally c.count_next.new.tally c.loop-rest.invariant one
