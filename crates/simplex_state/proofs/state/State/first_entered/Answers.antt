use Rattle.std.proofs.Common.{◌≡◌, ◌<◌, ◌≤◌, ◌+◌, ◌-◌, ◌^◌, sym, ◌∙◌, arith}
use Rattle.std.specs.Prelude.{is_some}
use Rattle.std.proofs.lemmas.Bool.Decides.{nat_tests}
use Rattle.voter_history.specs.Past.{entered_at}
use Rattle.voter_history.specs.History.{seen}
use Rattle.voter_history.specs.Leaders.{leader}
use Rattle.simplex_state.specs.State.{Keeps}
use Rattle.simplex_state.proofs.Entries.{first_from-is, first_from-none, unentered_through, unentered_up}
use Rattle.simplex_state.proofs.state.State.first_entered.Goals as goal

pub returns-then-is_entered : goal.returns-then-is_entered
unfolding Keeps
returns-then-is_entered g c = λ s h k.
    let same : c.args.from ≡ c.args.last = grind (arith, nat_tests, c.eq.ensures, c.if-eq.true) in
    sym (first_from-is (λ u. is_some (entered_at (seen s h u))) c.args.from (c.args.last + 1 - c.args.from) c.args.from (omega arith) (omega (arith, same))
    (sym (c.is_entered.ensures s h k) ∙ c.if-is_entered.true)
    (λ u above under. absurd (omega (arith, above, under))))

pub views-preserved : goal.views-preserved
unfolding Keeps
views-preserved g c = record {
  within = omega (arith, c.in-Some.ensures.behind, c.views.invariant.within, c.next-next.ensures);
  bare = λ s h k u from below. unentered_through (leader s h) (seen s h) c.args.from c.views.next c.in-Some.view (c.views.invariant.bare s h k) (c.in-Some.ensures.tracked s h k.views).bare
      (sym (c.is_entered-in-Some.ensures s h k) ∙ c.if-is_entered-2.false) u from (omega (arith, below, c.next-next.ensures));
}

pub returns-then-lt : goal.returns-then-lt
unfolding Keeps
returns-then-lt g c = λ s h k.
    let past : c.args.last < c.in-Some.view = grind (arith, nat_tests, c.lt.ensures, c.if-lt.true) in
    sym (first_from-none (λ u. is_some (entered_at (seen s h u))) c.args.from (c.args.last + 1 - c.args.from)
    (λ u from below. unentered_up (leader s h) (seen s h) c.args.from c.views.next c.in-Some.view (c.views.invariant.bare s h k) (c.in-Some.ensures.tracked s h k.views).bare u from (omega (arith, past, from, below))))

pub returns-then-is_entered-2 : goal.returns-then-is_entered-2
unfolding Keeps
returns-then-is_entered-2 g c = λ s h k.
    let within : c.in-Some.view ≤ c.args.last = grind (arith, nat_tests, c.lt.ensures, c.if-lt.false) in
    let behind : c.args.from ≤ c.in-Some.view = omega (arith, c.in-Some.ensures.behind, c.views.invariant.within) in
    sym (first_from-is (λ u. is_some (entered_at (seen s h u))) c.args.from (c.args.last + 1 - c.args.from) c.in-Some.view behind (omega (arith, within, behind))
    (sym (c.is_entered-in-Some.ensures s h k) ∙ c.if-is_entered-2.true)
    (unentered_up (leader s h) (seen s h) c.args.from c.views.next c.in-Some.view (c.views.invariant.bare s h k) (c.in-Some.ensures.tracked s h k.views).bare))

pub returns-then-le : goal.returns-then-le
unfolding Keeps
returns-then-le g c = λ s h k.
    let reached : c.args.last ≤ c.in-Some.view = grind (arith, nat_tests, c.le.ensures, c.if-le.true) in
    sym (first_from-none (λ u. is_some (entered_at (seen s h u))) c.args.from (c.args.last + 1 - c.args.from)
    (λ u from below. unentered_through (leader s h) (seen s h) c.args.from c.views.next c.in-Some.view (c.views.invariant.bare s h k) (c.in-Some.ensures.tracked s h k.views).bare
    (sym (c.is_entered-in-Some.ensures s h k) ∙ c.if-is_entered-2.false) u from (omega (arith, reached, from, below))))

pub returns : goal.returns
unfolding Keeps
returns g c = λ s h k.
    let fits = c.get-number.ensures.fits in
    sym (first_from-none (λ u. is_some (entered_at (seen s h u))) c.args.from (c.args.last + 1 - c.args.from)
    (λ u from below. unentered_up (leader s h) (seen s h) c.args.from c.views.next (2 ^ 64) (c.views.invariant.bare s h k) (c.in_default.ensures.tracked s h k.views) u from (omega (arith, fits, from, below))))
