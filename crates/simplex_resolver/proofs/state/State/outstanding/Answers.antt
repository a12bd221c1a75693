use Rattle.std.proofs.Common.{ℕ, List, ◌↔◌, ◌-◌, sym, subst}
use Rattle.std.specs.Prelude.{Contains}
use Rattle.std.specs.List.Sorted.{IsStrictlySortedBy}
use Rattle.std.specs.Ordering.{nat_cmp}
use Rattle.simplex_resolver.specs.Outstanding.{IsOutstanding}
use Rattle.simplex_resolver.specs.Gaps.{is_gap, last_gap}
use Rattle.simplex_resolver.proofs.Gaps.{gaps_exact, those_ascend}
use Rattle.simplex_resolver.proofs.state.State.outstanding.Goals as goal

pub returns-clause-exact : goal.returns-clause-exact
returns-clause-exact c = λ views h k v.
    subst (λ (xs : List ℕ). Contains xs v ↔ IsOutstanding views h v) (sym c.above.ensures) (gaps_exact c.args.self.now.scanner views h k.stands k.fits v)

pub returns-clause-ascending : goal.returns-clause-ascending
returns-clause-ascending c =
    let s = c.args.self.now.scanner in
    subst (λ (xs : List ℕ). IsStrictlySortedBy nat_cmp xs) (sym c.above.ensures) (those_ascend (is_gap s) (last_gap s - s.floor) s.floor)
