use Rattle.std.proofs.Common.{◌≤◌, ◌<◌, arith}
use Rattle.std.proofs.lemmas.Bool.Decides.{nat_tests}
use Rattle.simplex_record.specs.Record.{entries}
use Rattle.node_record.proofs.Beginning.{next-there, no-next}
use Rattle.node_record.proofs.recorded.Recorded.next_floor.Goals as goal

pub returns-then-ge : goal.returns-then-ge
returns-then-ge g c = λ owner xs k.
    let low : c.last_finalized-last.result ≤ c.floor.result = grind (arith, nat_tests, c.ge.ensures, c.if-ge.true) in
    no-next xs c.floor.result c.last_finalized-last.result (c.floor.ensures owner.term_length (entries xs) k.standing) (c.last_finalized-last.ensures owner xs k) low

pub returns : goal.returns
returns g c = λ owner xs k.
    let above : c.floor.result < c.last_finalized-last.result = grind (arith, nat_tests, c.ge.ensures, c.if-ge.false) in
    next-there xs c.floor.result c.last_finalized-last.result _ (c.floor.ensures owner.term_length (entries xs) k.standing) (c.last_finalized-last.ensures owner xs k) above (c.finalization.ensures owner xs k)
