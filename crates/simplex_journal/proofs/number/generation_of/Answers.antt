use Rattle.std.proofs.Common.{◌∙◌, arith}
use Rattle.simplex_journal.proofs.Numbers.{short_none, first_none, number_none, number_there}
use Rattle.simplex_journal.proofs.number.generation_of.Goals as goal

pub returns-then-bytes-lt10 : goal.returns-then-bytes-lt10
returns-then-bytes-lt10 c = record { number = short_none c.args.bytes.now (omega (arith, c.if-bytes-lt10.true)) }

pub returns-then-bytes-ne-MARK : goal.returns-then-bytes-ne-MARK
returns-then-bytes-ne-MARK c = record { number = first_none c.args.bytes.now (λ e. absurd (c.if-bytes-ne-MARK.true e)) }

pub returns-then-number_at-ne4294967295 : goal.returns-then-number_at-ne4294967295
returns-then-number_at-ne4294967295 c = record { number = number_none c.args.bytes.now (λ e. absurd (c.if-number_at-ne4294967295.true (c.number_at.ensures.number ∙ e))) }

pub returns : goal.returns
returns c =
    let high = c.number_at.ensures.greatest (omega (arith, c.if-number_at-ne4294967295.false)) in
    record { number = number_there c.args.bytes.now c.number_at-2.result (omega (arith, c.if-bytes-lt10.false)) (omega (arith, c.if-bytes-ne-MARK.false)) high.0 high.1 high.2 high.3 c.number_at-2.ensures.number }
