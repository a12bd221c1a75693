use Rattle.std.proofs.Common.{arith, ◌≡◌, ◌<◌, ◌≤◌, ◌++◌, ◌+◌, ◌∷◌, ◌∙◌, ap, ℕ, []}
use Rattle.std.specs.Prelude.{true, false}
use Rattle.simplex_resolver.specs.declared.effect.Effect.{Effect}
use Rattle.simplex_resolver.specs.RepairHistory.{finalized, current, covered}
use Rattle.simplex_resolver.specs.Outstanding.{IsBare}
use Rattle.simplex_resolver.proofs.Anchors.{Asked-start, Asked-step, Asked-end}
use Rattle.simplex_resolver.proofs.Covers.{finalized-floor}
use Rattle.simplex_resolver.proofs.TermStarts.{room-next, room_before}
use Rattle.simplex_resolver.proofs.scanner.Scanner.ask_from.Goals as goal

pub gaps-init : goal.gaps-init
gaps-init c = record {
  above = c.requires;
  asked = λ views h k. Asked-start views h c.args.cause c.args.start c.args.effects.now.items;
}

pub first_missing-requires : goal.first_missing-requires
first_missing-requires c = let above = c.gaps.invariant.above in omega (arith, above)

pub gaps-preserved : goal.gaps-preserved
gaps-preserved c =
    let above = c.gaps.invariant.above in
    let start = c.in-Some.ensures.from in
    let some = c.last_missing-last.ensures.from in
    let next = c.next-from.ensures in
    record {
      above = omega (arith, above, start, some, next);
      asked = λ views h k.
          let low = finalized-floor h in
          let floor_is = k.floor_is in
          let current_is = k.current_is in
          let past : finalized h < c.gaps.from = omega (arith, low, floor_is, above) in
          let far : finalized h < c.in-Some.first = omega (arith, past, start) in
          let here = c.in-Some.ensures.bare views h k.holds past in
          let span : IsBare views h c.gaps.from (current h) (c.in-Some.first, c.last_missing-last.result) = record {
            start = start;
            some = some;
            below = let lt = c.last_missing-last.ensures.below in omega (arith, lt, current_is);
            before = λ v from to. c.in-Some.ensures.least views h k.holds v past from to;
            within = λ v from to. c.last_missing-last.ensures.bare views h k.holds v far here from to;
            behind = λ lt. c.last_missing-last.ensures.most views h k.holds far (omega (arith, lt, current_is));
          } in
          let step = Asked-step views h c.args.cause c.args.start c.args.effects.now.items c.gaps.effects.items c.gaps.from (c.in-Some.first, c.last_missing-last.result) (c.gaps.invariant.asked views h k) span in
          let items = c.in_ok-push.ensures.items ∙ ap (λ (e : Effect). c.gaps.effects.items ++ e ∷ []) c.fetch.ensures in
          rw (items, next) step;
    }

pub returns : goal.returns
returns c = λ views h k.
    let low = finalized-floor h in
    let floor_is = k.floor_is in
    let above = c.gaps.invariant.above in
    let past : finalized h < c.gaps.from = omega (arith, low, floor_is, above) in
    Asked-end views h c.args.cause c.args.start c.args.effects.now.items c.gaps.effects.items c.gaps.from (c.gaps.invariant.asked views h k)
    (λ v from to. c.in_default.ensures.none views h k.holds v past from (let is = k.current_is in omega (arith, to, is)))
