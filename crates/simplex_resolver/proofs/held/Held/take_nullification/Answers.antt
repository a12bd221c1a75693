use Rattle.std.specs.Prelude.{is_some}
use Rattle.std.proofs.Common.{◌≡◌, ◌<◌, true, false, arith}
use Rattle.std.proofs.lemmas.Bool.Decides.{nat_tests}
use Rattle.std.specs.Ordering.{nat_cmp}
use Rattle.std.specs.BTreeMap.{get}
use Rattle.types_core.specs.Positions.{term_end}
use Rattle.simplex_resolver.specs.RepairHistory.{finalized}
use Rattle.simplex_resolver.proofs.Keeping.{nullified-low, nullified-again, nullified-first}
use Rattle.simplex_resolver.proofs.TermStarts.{term_end-ge}
use Rattle.simplex_resolver.proofs.held.Held.take_nullification.Goals as goal

pub cover-requires : goal.cover-requires
cover-requires g c = rw c.term_end-end.ensures (term_end-ge c.args.self.now.length c.requires.some c.args.view)

pub returns-then-le-clause-holds : goal.returns-then-le-clause-holds
returns-then-le-clause-holds g c = λ views h k.
    let end_is : c.term_end-end.result ≡ term_end views c.args.view = rw (← k.length_is) c.term_end-end.ensures in
    let last = k.finalized_is in
    nullified-low views c.args.self.now h k c.args.view _ (grind (arith, nat_tests, last, end_is))

pub returns-in_ok-cover-clause-holds : goal.returns-in_ok-cover-clause-holds
returns-in_ok-cover-clause-holds g c = λ views h k.
    let end_is : c.term_end-end.result ≡ term_end views c.args.view = rw (← k.length_is) c.term_end-end.ensures in
    let last = k.finalized_is in
    let late : finalized h < term_end views c.args.view = grind (arith, nat_tests, last, end_is) in
    let new : is_some (get nat_cmp c.args.self.now.nullifications c.args.view) ≡ false = grind (arith, c.contains_key.ensures) in
    nullified-first views c.args.self.now h k c.args.view _ _ _ c.in_ok-bytes.bytes c.term_end-end.result late new c.in_ok-bytes.ensures end_is c.in_ok-insert.ensures.updates.1 c.in_ok-insert.ensures.updates.2 c.in_ok-cover.ensures.ok

pub returns-else-not-contains_key-clause-holds : goal.returns-else-not-contains_key-clause-holds
returns-else-not-contains_key-clause-holds g c = λ views h k.
    let there : is_some (get nat_cmp c.args.self.now.nullifications c.args.view) ≡ true = grind (arith, c.contains_key.ensures) in
    nullified-again views c.args.self.now h k c.args.view _ there
