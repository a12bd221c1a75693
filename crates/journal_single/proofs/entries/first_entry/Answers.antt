use Rattle.std.proofs.Common.{arith}
use Rattle.journal_single.specs.Finding.{entry_here}
use Rattle.journal_single.proofs.entries.first_entry.Goals as goal

pub returns-clause-some : goal.returns-clause-some
returns-clause-some c = entry_here c.args.bytes.now _ (c.is_open.ensures.0 c.if-not-is_open.false) c.number_at-size.ensures.number (omega (arith, c.if-size-bytes.false, c.if-bytes-lt6.false))
