use Rattle.std.proofs.Common.{◌≡◌, ◌<◌, ◌≤◌, ◌+◌, ◌^◌, arith}
use Rattle.simplex_resolver.proofs.Gaps.{first_is_failed, no_failed, no_failed_at_the_end, no_failed_further}
use Rattle.simplex_resolver.proofs.scanner.Scanner.first_failed.Goals as goal

pub loop-view-init : goal.loop-view-init
loop-view-init c = record {
  behind = c.before_failed-above.ensures.behind;
  floor = c.before_failed-above.ensures.above;
  none = c.before_failed-above.ensures.none;
}

pub returns-then-is_last : goal.returns-then-is_last
returns-then-is_last c = no_failed_at_the_end c.args.self.now c.args.last c.loop-view.above c.in-Some.view (c.is_last.ensures.last c.if-is_last.true)
    c.loop-view.invariant.none c.in-Some.ensures.held_least

pub is_bare-requires-clause-some : goal.is_bare-requires-clause-some
is_bare-requires-clause-some c = let past = c.in-Some.ensures.above in omega (arith, past)

pub is_bare-requires-clause-fits : goal.is_bare-requires-clause-fits
is_bare-requires-clause-fits c = c.is_last.ensures.fits c.if-is_last.false

pub returns-then-is_bare : goal.returns-then-is_bare
returns-then-is_bare c = first_is_failed c.args.self.now c.args.last c.loop-view.above c.in-Some.view c.loop-view.invariant.floor c.loop-view.invariant.behind c.in-Some.ensures.above
    (c.is_last.ensures.fits c.if-is_last.false) c.loop-view.invariant.none c.in-Some.ensures.held_least c.in-Some.ensures.held (c.is_bare.ensures.0 c.if-is_bare.true)

pub loop-view-preserved : goal.loop-view-preserved
loop-view-preserved c =
    let behind = c.loop-view.invariant.behind in
    let floor = c.loop-view.invariant.floor in
    let past = c.in-Some.ensures.above in
    record {
      behind = omega (arith, behind, past);
      floor = omega (arith, floor, past);
      none = no_failed_further c.args.self.now c.args.last c.loop-view.above c.in-Some.view c.loop-view.invariant.none c.in-Some.ensures.held_least
          (λ bare. let yes = c.is_bare.ensures.1 bare in let no_one = c.if-is_bare.false in grind (arith, yes, no_one));
    }

pub returns : goal.returns
returns c = no_failed c.args.self.now c.args.last c.loop-view.above c.loop-view.invariant.none c.in_default.ensures.held_none
