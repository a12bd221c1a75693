use Rattle.std.proofs.Common.{◌∙◌, arith}
use Rattle.cli_opening.proofs.Heads.{number_none, number_there, of_none, zero_none}
use Rattle.simplex_journal.specs.GenerationLaws.{none_first, none_short}
use Rattle.cli_opening.proofs.halves.head_of.Goals as goal

pub returns-then-bytes-lt10-clause-record : goal.returns-then-bytes-lt10-clause-record
returns-then-bytes-lt10-clause-record c = of_none c.args.bytes.now (none_short c.args.bytes.now (omega (arith, c.if-bytes-lt10.true)))

pub returns-then-bytes-ne2-clause-record : goal.returns-then-bytes-ne2-clause-record
returns-then-bytes-ne2-clause-record c = of_none c.args.bytes.now (none_first c.args.bytes.now (λ e. absurd (c.if-bytes-ne2.true e)))

pub returns-then-number_at-ne4294967295-clause-record : goal.returns-then-number_at-ne4294967295-clause-record
returns-then-number_at-ne4294967295-clause-record c = of_none c.args.bytes.now (number_none c.args.bytes.now (λ e. absurd (c.if-number_at-ne4294967295.true (c.number_at.ensures.number ∙ e))))

pub returns-then-number_at-eq0-clause-record : goal.returns-then-number_at-eq0-clause-record
returns-then-number_at-eq0-clause-record c = of_none c.args.bytes.now (zero_none c.args.bytes.now (omega (arith, c.if-number_at-eq0.true, c.number_at-2.ensures.number)))

pub returns-clause-record : goal.returns-clause-record
returns-clause-record c =
    let high = c.number_at.ensures.greatest (omega (arith, c.if-number_at-ne4294967295.false)) in
    number_there c.args.bytes.now c.number_at-2.result (omega (arith, c.if-bytes-lt10.false)) (omega (arith, c.if-bytes-ne2.false)) high.0 high.1 high.2 high.3 c.number_at-2.ensures.number
    (omega (arith, c.if-number_at-eq0.false))
