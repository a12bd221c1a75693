use Rattle.std.proofs.Common.{◌≡◌, ◌<◌, arith}
use Rattle.std.proofs.lemmas.Bool.Decides.{nat_tests}
use Rattle.types_core.specs.Positions.{term_start}
use Rattle.simplex_resolver.specs.RepairHistory.{finalized}
use Rattle.simplex_resolver.proofs.Keeping.{finalized-first}
use Rattle.simplex_resolver.proofs.held.Held.take_finalization.Goals as goal

pub returns-clause-holds : goal.returns-clause-holds
returns-clause-holds g c = λ views h k.
    let last = k.finalized_is in
    let above : finalized h < c.args.view = grind (arith, nat_tests, last) in
    let start_is : c.term_start.result ≡ term_start views c.next-first.result = rw (← k.length_is) c.term_start.ensures in
    finalized-first views c.args.self.now h k c.args.view _ above c.in_ok-bytes.bytes _ _ _ _ _ c.term_start.result c.next-first.result c.zero.result c.in_ok-bytes.ensures c.zero.ensures c.next-first.ensures start_is
    c.drop_entries_below.ensures c.drop_entries_below-2.ensures c.drop_views_below.ensures c.drop_views_below-2.ensures c.in_ok-cover.ensures.ok
