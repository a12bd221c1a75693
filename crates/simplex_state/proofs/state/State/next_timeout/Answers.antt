use Rattle.std.proofs.Common.{ap, refl, sym}
use Rattle.std.proofs.lemmas.Bool.{both_ways}
use Rattle.std.proofs.lemmas.Result.{IfOk-from_err}
use Rattle.voter_history.specs.History.{polled}
use Rattle.voter_history.specs.Past.{deadline}
use Rattle.std.specs.Prelude.{◌∷◌}
use Rattle.simplex_state.specs.State.{Keeps}
use Rattle.simplex_state.proofs.Keeping.{keeps_by, keeps_still}
use Rattle.simplex_state.proofs.Stalling.{own_alone, own_or_stall}
use Rattle.simplex_state.proofs.state.State.next_timeout.Goals as goal

pub returns-in_err-own-clause-keeps : goal.returns-in_err-own-clause-keeps
returns-in_err-own-clause-keeps g c = IfOk-from_err c.from_residual.result _ c.from_residual.ensures.0

pub returns-in_err-own-clause-unchanged : goal.returns-in_err-own-clause-unchanged
returns-in_err-own-clause-unchanged g c = IfOk-from_err c.from_residual.result _ c.from_residual.ensures.0

pub returns-in_err-own-clause-answer : goal.returns-in_err-own-clause-answer
returns-in_err-own-clause-answer g c = IfOk-from_err c.from_residual.result _ c.from_residual.ensures.0

pub returns-then-not-may_stall-clause-keeps : goal.returns-then-not-may_stall-clause-keeps
unfolding Keeps
returns-then-not-may_stall-clause-keeps g c = λ s h k.
    keeps_still g.S.Scheme g.L.Elector s h c.args.self.now c.next_timeout.new.self k (polled c.args.now) refl tt tt
    (c.in_ok-own.ensures.keeps s h k.views (sym k.timeout_retry))

pub returns-then-not-may_stall-clause-unchanged : goal.returns-then-not-may_stall-clause-unchanged
unfolding Keeps
returns-then-not-may_stall-clause-unchanged g c = λ s h k known.
    keeps_by g.S.Scheme g.L.Elector s h c.args.self.now _ k h c.args.self.now.candidates c.args.self.now.notarizes c.args.self.now.finalizes k.candidates k.notarizes k.finalizes
    (c.in_ok-own.ensures.unchanged s h k.views (c.the_timeout_is_the_earliest.ensures.seen s h) known)

pub returns-then-not-may_stall-clause-answer : goal.returns-then-not-may_stall-clause-answer
unfolding Keeps
returns-then-not-may_stall-clause-answer g c = λ s h k.
    let grown = keeps_still g.S.Scheme g.L.Elector s h c.args.self.now c.next_timeout.new.self k (polled c.args.now) refl tt tt (c.in_ok-own.ensures.keeps s h k.views (sym k.timeout_retry)) in
    own_alone s h c.args.now (deadline c.args.now c.args.self.now.timeout_retry) c.has_skip_budget-counts.result c.in_ok-own.own
    (λ may. both_ways c.may_stall.result c.if-not-may_stall.true ((c.may_stall.ensures s (polled c.args.now ∷ h) grown).1 may)) (c.has_skip_budget-counts.ensures s h k) (ap (λ n. deadline c.args.now n) k.timeout_retry) (c.in_ok-own.ensures.answer s h k.views)

pub returns-clause-keeps : goal.returns-clause-keeps
unfolding Keeps
returns-clause-keeps g c = λ s h k.
    keeps_still g.S.Scheme g.L.Elector s h c.args.self.now c.next_timeout.new.self k (polled c.args.now) refl tt tt
    (c.in_ok-own.ensures.keeps s h k.views (sym k.timeout_retry))

pub returns-clause-unchanged : goal.returns-clause-unchanged
unfolding Keeps
returns-clause-unchanged g c = λ s h k known.
    keeps_by g.S.Scheme g.L.Elector s h c.args.self.now _ k h c.args.self.now.candidates c.args.self.now.notarizes c.args.self.now.finalizes k.candidates k.notarizes k.finalizes
    (c.in_ok-own.ensures.unchanged s h k.views (c.the_timeout_is_the_earliest.ensures.seen s h) known)

pub returns-clause-answer : goal.returns-clause-answer
unfolding Keeps
returns-clause-answer g c = λ s h k.
    let grown = keeps_still g.S.Scheme g.L.Elector s h c.args.self.now c.next_timeout.new.self k (polled c.args.now) refl tt tt (c.in_ok-own.ensures.keeps s h k.views (sym k.timeout_retry)) in
    own_or_stall s h c.args.now (deadline c.args.now c.args.self.now.timeout_retry) c.has_skip_budget-counts.result c.in_ok-own.own c.term_deadline.result c.earlier.result c.earlier.ensures
    ((c.may_stall.ensures s (polled c.args.now ∷ h) grown).0 c.if-not-may_stall.false) (c.has_skip_budget-counts.ensures s h k) (c.term_deadline.ensures s (polled c.args.now ∷ h) grown) (ap (λ n. deadline c.args.now n) k.timeout_retry) (c.in_ok-own.ensures.answer s h k.views)
