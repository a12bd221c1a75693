use Rattle.std.proofs.Common.{◌<◌, arith}
use Rattle.std.proofs.lemmas.Bool.Decides.{nat_tests}
use Rattle.node_record.proofs.Asking.{none_ahead}
use Rattle.node_record.proofs.tables.forget_asks.Goals as goal

pub returns-then-lt-clause-gone : goal.returns-then-lt-clause-gone
returns-then-lt-clause-gone c = λ a le there.
    let above : c.args.last < c.in-Some.field-0.now.view = grind (arith, nat_tests, c.if-lt.ensures, c.in-Some.first-is) in
    absurd (none_ahead c.in-Some.field-0.now a (omega (arith, le, above)) (c.in-Some.ensures.least a there))
