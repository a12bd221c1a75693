use Rattle.std.proofs.Common.{◌≡◌, ◌≢◌, get_or, length, arith}
use Rattle.cli_audit.proofs.Numerals.{StartsPlainly-spelled, parsed_is_spelled, unparsed_is_unspelled}
use Rattle.cli_audit.proofs.command.number_of.Goals as goal

pub returns-in_err-first-clause-refused : goal.returns-in_err-first-clause-refused
returns-in_err-first-clause-refused c none n spells =
    let plain = StartsPlainly-spelled c.args.word.now n spells in grind (arith, c.in_err-first.ensures, plain)

pub returns-then-not-is_ascii_digit-clause-refused : goal.returns-then-not-is_ascii_digit-clause-refused
returns-then-not-is_ascii_digit-clause-refused c none n spells =
    let plain = StartsPlainly-spelled c.args.word.now n spells in grind (arith, c.in_ok-first.ensures, plain)

pub returns-then-word-gt1-clause-refused : goal.returns-then-word-gt1-clause-refused
returns-then-word-gt1-clause-refused c none n spells =
    let plain = StartsPlainly-spelled c.args.word.now n spells in grind (arith, c.in_ok-first.ensures, plain)

pub returns-clause-spelled : goal.returns-clause-spelled
returns-clause-spelled c =
    let plus : get_or c.args.word.now 0 0 ≢ 43 = grind (arith, c.in_ok-first.ensures) in
    let zero : get_or c.args.word.now 0 0 ≡ 48 → length c.args.word.now ≡ 1 = grind (arith, c.in_ok-first.ensures) in
    rw c.ok.ensures.value (parsed_is_spelled c.args.word.now _ c.parse.ensures.value.0 plus zero)

pub returns-clause-refused : goal.returns-clause-refused
returns-clause-refused c none =
    unparsed_is_unspelled c.args.word.now _ c.parse.ensures.value.0 (rw c.ok.ensures.value at none)
