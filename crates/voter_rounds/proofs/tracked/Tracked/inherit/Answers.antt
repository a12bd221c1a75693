use Rattle.std.proofs.Common.{◌≡◌, ◌-◌, true, false, ap, inl, inr, refl, sym}
use Rattle.std.specs.Prelude.{Some, None}
use Rattle.std.proofs.lemmas.Bool.{false_from_ne_true}
use Rattle.std.proofs.lemmas.Result.{MatchResult-weaker}
use Rattle.voter_rounds.specs.Tracked.{Holds, inherits_by}
use Rattle.voter_rounds.proofs.Choices.{false_is_not}
use Rattle.voter_rounds.proofs.Tables.{learn-members}
use Rattle.voter_history.specs.Leading.{or_none}
use Rattle.voter_rounds.specs.Laws.{inherits_from, inherits_says}
use Rattle.voter_rounds.proofs.Leading.{kept-still, known_stays, nothing_new, of_before}
use Rattle.voter_rounds.proofs.tracked.Tracked.inherit.Goals as goal

pub returns-in_default-clause-keeps : goal.returns-in_default-clause-keeps
unfolding Holds
returns-in_default-clause-keeps g c = λ f t k.
    let zero : c.args.view ≡ 0 = c.in_default.ensures.none.0 refl in
    let back : c.args.view - 1 ≡ c.args.view = rw zero refl in
    kept-still c.args.view (of_before f t c.args.view) k (nothing_new (t.led c.args.view) (t.led (c.args.view - 1)) (inherits_by f t c.args.view) (inr (ap t.led back)))

pub returns-in_default-clause-answer : goal.returns-in_default-clause-answer
returns-in_default-clause-answer g c = λ f t k _.
    let zero : c.args.view ≡ 0 = c.in_default.ensures.none.0 refl in
    let back : c.args.view - 1 ≡ c.args.view = rw zero refl in
    nothing_new (t.led c.args.view) (t.led (c.args.view - 1)) (inherits_by f t c.args.view) (inr (ap t.led back))

pub returns-in_default-leader-clause-keeps : goal.returns-in_default-leader-clause-keeps
unfolding Holds
returns-in_default-leader-clause-keeps g c = λ f t k.
    let none : t.led (c.args.view - 1) ≡ None = rw c.in-Some.ensures.before at (sym (c.in_default-leader.ensures f t k)) in
    kept-still c.args.view (of_before f t c.args.view) k (nothing_new (t.led c.args.view) (t.led (c.args.view - 1)) (inherits_by f t c.args.view) (inl none))

pub returns-in_default-leader-clause-answer : goal.returns-in_default-leader-clause-answer
returns-in_default-leader-clause-answer g c = λ f t k _.
    let none : t.led (c.args.view - 1) ≡ None = rw c.in-Some.ensures.before at (sym (c.in_default-leader.ensures f t k)) in
    nothing_new (t.led c.args.view) (t.led (c.args.view - 1)) (inherits_by f t c.args.view) (inl none)

pub returns-then-not-inherits-clause-keeps : goal.returns-then-not-inherits-clause-keeps
unfolding Holds
returns-then-not-inherits-clause-keeps g c = λ f t k.
    let never : inherits_by f t c.args.view ≡ false = false_from_ne_true _ (λ so. false_is_not c.if-not-inherits.true ((c.inherits.ensures f t k).1 (inherits_says f t c.args.view so))) in
    kept-still c.args.view (of_before f t c.args.view) k (rw never (or_none (t.led c.args.view)))

pub returns-then-not-inherits-clause-answer : goal.returns-then-not-inherits-clause-answer
returns-then-not-inherits-clause-answer g c = λ f t k _.
    let never : inherits_by f t c.args.view ≡ false = false_from_ne_true _ (λ so. false_is_not c.if-not-inherits.true ((c.inherits.ensures f t k).1 (inherits_says f t c.args.view so))) in
    rw never (or_none (t.led c.args.view))

pub returns-clause-keeps : goal.returns-clause-keeps
unfolding Holds
returns-clause-keeps g c = MatchResult-weaker c.learn.result c.learn.ensures.keeps
    (λ _ learns f t k.
    let so : inherits_by f t c.args.view ≡ true = inherits_from f t c.args.view ((c.inherits.ensures f t k).0 c.if-not-inherits.false) in
    let led : t.led (c.args.view - 1) ≡ Some c.in-Some-leader.leader = rw c.in-Some.ensures.before at (sym (c.in-Some-leader.ensures f t k)) in
    let member = k.members (c.args.view - 1) c.in-Some-leader.leader (rw (← c.in-Some.ensures.before) c.get-number.ensures.fits) led in
    rw (so, led) (record {
      length = k.length;
      optimistic_views = k.optimistic_views;
      rounds = learns f.common t.led t.past k.rounds member;
      signs = k.signs;
      noted = k.noted;
      members = learn-members (g.S.Scheme.size f.common.scheme) t.led c.args.view c.in-Some-leader.leader k.members member;
    }))
    (λ e _. tt)

pub returns-clause-answer : goal.returns-clause-answer
unfolding Holds
returns-clause-answer g c = MatchResult-weaker c.learn.result c.learn.ensures.answer
    (λ new is f t k. known_stays (t.led c.args.view) (of_before f t c.args.view) (is f.common t.led t.past k.rounds))
    (λ e _. tt)
