use Rattle.std.proofs.Common.{◌≡◌, arith}
use Rattle.cli_audit.specs.Words.{spelled_once}
use Rattle.cli_audit.proofs.command.count_of.Goals as goal

pub returns-in-Some-eq0-clause-refused : goal.returns-in-Some-eq0-clause-refused
returns-in-Some-eq0-clause-refused c none n some spells =
    let found = c.in-Some-eq0 in
    let same : n ≡ found.field-0 = spelled_once c.args.word.now n _ spells found.ensures.spelled in
    omega (arith, found.field-0-is)
