use Rattle.std.specs.Prelude.{not}
use Rattle.std.proofs.Common.{arith, ◌≡◌, ◌<◌, ◌≤◌, ◌++◌, ◌∙◌, ap, Bool}
use Rattle.simplex_resolver.specs.declared.effect.Effect.{Effect}
use Rattle.simplex_resolver.specs.RepairHistory.{floor, finalized, covered}
use Rattle.simplex_resolver.specs.Outstanding.{when}
use Rattle.simplex_resolver.proofs.Anchors.{Found-step, Found-end}
use Rattle.simplex_resolver.proofs.Covers.{finalized-floor}
use Rattle.simplex_resolver.proofs.scanner.Scanner.ask_for_failed.Goals as goal

pub loop-view-preserved : goal.loop-view-preserved
loop-view-preserved c =
    let from = c.loop-view.invariant.from in
    let past = c.in-Some.ensures.above in
    record {
      from = omega (arith, from, past);
      found = λ views h k.
          let low = finalized-floor h in
          let floor_is = k.floor_is in
          let reach : finalized h ≤ c.loop-view.last = omega (arith, low, floor_is, from) in
          let above : finalized h < c.in-Some.view = omega (arith, reach, past) in
          let failed = c.in-Some.ensures.failed views h k.holds in
          let missing : not c.is_covered-missing.result ≡ not (covered views h c.in-Some.view) = ap (λ (b : Bool). not b) (c.is_covered-missing.ensures views h k.holds above) in
          let step = Found-step views h (floor h) c.args.effects.now.items c.loop-view.effects.items c.loop-view.last c.in-Some.view (c.loop-view.invariant.found views h k) past failed (λ v start to. c.in-Some.ensures.least views h k.holds v reach start to) (not c.is_covered-missing.result) missing in
          let items = c.in_ok-push_if.ensures ∙ ap (λ (e : Effect). c.loop-view.effects.items ++ when (not c.is_covered-missing.result) e) c.fetch_failed.ensures in
          rw items step;
    }

pub returns : goal.returns
returns c = λ views h k.
    let low = finalized-floor h in
    let floor_is = k.floor_is in
    let from = c.loop-view.invariant.from in
    let reach : finalized h ≤ c.loop-view.last = omega (arith, low, floor_is, from) in
    Found-end views h (floor h) c.args.effects.now.items c.loop-view.effects.items c.loop-view.last (c.loop-view.invariant.found views h k) (λ v past. c.in_default.ensures.none views h k.holds v reach past)
