use Rattle.std.proofs.Common.{◌≡◌, ◌≤◌, ◌<◌, ◌+◌, inl, inr, sym, subst, refl, arith, ℕ, true}
use Rattle.std.specs.Ordering.{nat_cmp}
use Rattle.std.specs.BTreeMap.{get}
use Rattle.std.specs.declared.cmp.Ordering.TheVariants.{Less}
use Rattle.std.proofs.lemmas.Cmp.{ranked}
use Rattle.std.proofs.lemmas.Map.Keys.{le_from_not_gt}
use Rattle.simplex_resolver.specs.RepairHistory.{covered}
use Rattle.simplex_resolver.proofs.Choices.{less_from_lt, option_cases}
use Rattle.simplex_resolver.proofs.Covers.{bare-on, entry-covered}
use Rattle.simplex_resolver.proofs.held.Held.last_missing.Goals as goal

pub returns-in_default-clause-bare : goal.returns-in_default-clause-bare
returns-in_default-clause-bare c = λ views h k v above bare from to.
    let value = c.get.ensures.value in
    let is = c.new.ensures in
    let some = c.requires in
    bare-on views c.args.self.now h k v (omega (arith, above, from)) c.args.first from bare (λ u behind up. (c.range.ensures.in_range tt).5 c.in_default.ensures.steps.0 u (less_from_lt c.args.first u behind, less_from_lt u c.args.end (omega (arith, up, to, is, value, some))))

pub returns-clause-bare : goal.returns-clause-bare
returns-clause-bare c = λ views h k v above bare from to.
    let value = c.get-2.ensures.value in
    let is = c.new-2.ensures in
    let next_is = c.in-Some.next-is in
    let inside = rw c.in-Some.ensures.steps at (c.range.ensures.in_range tt).1 in
    let past : c.args.first < c.in-Some.field-0-0.now = ranked _ _ Less (sym inside.0.0) in
    let short : c.in-Some.field-0-0.now < c.args.end = ranked _ _ Less (sym inside.0.1) in
    bare-on views c.args.self.now h k v (omega (arith, above, from)) c.args.first from bare (λ u behind up. elim (option_cases (get nat_cmp c.args.self.now.nullifications u)) [
      | inl none ↦ none
      | inr there ↦ absurd (
          let least = rw c.in-Some.ensures.steps at ((c.range.ensures.in_range tt).2 u (less_from_lt c.args.first u behind, less_from_lt u c.args.end (omega (arith, up, to, is, value, next_is, past, short))) (rw there.1 refl)) in
          let low : c.in-Some.field-0-0.now ≤ u = le_from_not_gt _ _ least in
          omega (arith, low, up, to, is, value, next_is, past)
          )
    ])

pub returns-clause-most : goal.returns-clause-most
returns-clause-most c = λ views h k above short.
    let value = c.get-2.ensures.value in
    let made = c.new-2.ensures in
    let next_is = c.in-Some.next-is in
    let inside = rw c.in-Some.ensures.steps at (c.range.ensures.in_range tt).1 in
    let past : c.args.first < c.in-Some.field-0-0.now = ranked _ _ Less (sym inside.0.0) in
    let is : c.new-2.result + 1 ≡ c.in-Some.field-0-0.now = omega (arith, value, made, next_is, past) in
    subst (λ (w : ℕ). covered views h w ≡ true) (sym is) (entry-covered views c.args.self.now h k c.in-Some.field-0-0.now (omega (arith, above, past)) _ inside.1)
