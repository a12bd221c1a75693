use Rattle.std.proofs.Common.{refl, subst}
use Rattle.voter_rounds.specs.Tracked.{Holds, forgotten}
use Rattle.voter_views.proofs.Pruning.{IsPart-begun, IsPart-ended, IsPart-stands, IsPart-step, forgotten-none, forgotten-twice}
use Rattle.voter_views.proofs.views.pruning.clear_below.Goals as goal

pub loop-entry-init : goal.loop-entry-init
loop-entry-init g c = λ f t k. (0, subst (λ x. Holds g.S.Scheme f c.args.tracked.now x) (forgotten-none t) k, rw c.new-views.ensures.items IsPart-begun)

pub loop-entry-smaller-in_ok-keep_one : goal.loop-entry-smaller-in_ok-keep_one
loop-entry-smaller-in_ok-keep_one g c = c.pop_below.ensures.fewer (rw c.in-Some.is refl)

pub loop-entry-preserved-in_ok-keep_one : goal.loop-entry-preserved-in_ok-keep_one
loop-entry-preserved-in_ok-keep_one g c = λ f t k.
    let before = c.loop-entry.invariant f t k in
    let is = rw c.in-Some.is at (c.pop_below.ensures.popped f (forgotten before.0 t) before.1) in
    rw c.in_ok-push.ensures.items (IsPart-step g.S.Scheme f c.pop_below.new.self before.2 is (rw c.in-Some.is at (c.pop_below.ensures.keeps f (forgotten before.0 t) before.1)) (c.in_ok-keep_one.ensures _ _ _ (IsPart-stands before.2 is)))

pub loop-entry-preserved : goal.loop-entry-preserved
loop-entry-preserved g c = λ f t k.
    let before = c.loop-entry.invariant f t k in
    let is = rw c.in-Some.is at (c.pop_below.ensures.popped f (forgotten before.0 t) before.1) in
    rw c.in_ok-push.ensures.items (IsPart-step g.S.Scheme f c.pop_below.new.self before.2 is (rw c.in-Some.is at (c.pop_below.ensures.keeps f (forgotten before.0 t) before.1)) (c.in_ok-keep_one.ensures _ _ _ (IsPart-stands before.2 is)))

pub returns-clause-forgets : goal.returns-clause-forgets
returns-clause-forgets g c = λ f t k.
    let before = c.loop-entry.invariant f t k in
    let part = before.2 in
    subst (λ x. Holds g.S.Scheme f c.pop_below.new.self x) (forgotten-twice before.0 c.args.floor t part.up) (rw c.in_default.is at (c.pop_below.ensures.keeps f (forgotten before.0 t) before.1))

pub returns-clause-dropped : goal.returns-clause-dropped
returns-clause-dropped g c = λ f t k.
    let before = c.loop-entry.invariant f t k in
    let part = IsPart-ended before.2 (rw c.in_default.is at (c.pop_below.ensures.popped f (forgotten before.0 t) before.1)) in
    record { exact = part.exact; ascend = part.ascend }

pub returns-clause-keeps : goal.returns-clause-keeps
returns-clause-keeps g c = λ f t k u.
    let before = c.loop-entry.invariant f t k in
    let part = IsPart-ended before.2 (rw c.in_default.is at (c.pop_below.ensures.popped f (forgotten before.0 t) before.1)) in
    part.kept u
