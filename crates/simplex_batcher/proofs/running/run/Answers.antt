use Rattle.std.proofs.Common.{sym, ◌∙◌, ◌≡◌, rules, arith, length, ap}
use Rattle.std.proofs.lemmas.List.{nil_from_length}
use Rattle.simplex_batcher.specs.Run.{after_call}
use Rattle.simplex_batcher.proofs.Reaching.{Reached-start, Reached-asked, Reached-step, Reached-end}
use Rattle.simplex_batcher.proofs.Summing.{processed-taken}
use Rattle.simplex_batcher.proofs.Ending.{three-enough}
use Rattle.batcher_verifier.specs.Keeping.{kept-consistent, kept-needed}
use Rattle.simplex_batcher.specs.Rounds.{RoundKeeps}
use Rattle.simplex_batcher.proofs.running.run.Goals as goal

pub loop-call-init : goal.loop-call-init
loop-call-init g c =
    let items : c.into_iter-call-iterator.result.rest.items ≡ c.args.calls.items = search rules in (
      omega (arith, c.in_ok-answers.ensures.len, c.in_ok-answers.ensures.capacity, c.len.ensures, c.args.calls.ok.0, ap length items),
      λ s first k all. (first, k, rw (c.in_ok-answers.ensures.items, items) (Reached-start g.S.Scheme g.D.PartialEq.eq s first c.args.calls.items all)),
    )

pub push_reserved-requires : goal.push_reserved-requires
push_reserved-requires g c = omega (arith, c.loop-call.invariant.0, ap length c.in-Some.ensures.steps.0)

pub loop-call-preserved : goal.loop-call-preserved
loop-call-preserved g c = (
  omega (arith, c.loop-call.invariant.0, ap length c.in-Some.ensures.steps.0, c.push_reserved.ensures.len, c.push_reserved.ensures.capacity),
  λ s first k all.
      let i = c.loop-call.invariant.1 s first k all in
      let reached = rw c.in-Some.ensures.steps.0 at i.2 in
      (after_call g.D.PartialEq.eq s i.0 c.in-Some.call c.make-answer.result, c.make-answer.ensures.keeps s i.0 i.1 (Reached-asked _ _ _ _ _ _ _ _ _ reached), rw c.push_reserved.ensures.items (Reached-step _ _ _ _ _ _ _ _ _ _ reached (c.make-answer.ensures.answer s i.0 i.1))),
)

pub returns-clause-answers : goal.returns-clause-answers
returns-clause-answers g c = λ s first k all.
    let i = c.loop-call.invariant.1 s first k all in
    let none = nil_from_length _ (sym c.loop-call.call-iterator.rest.ok.0 ∙ c.in-None.ensures.steps.0) in
    (Reached-end _ _ _ _ _ _ _ _ i.2 none).0

pub returns-clause-keeps : goal.returns-clause-keeps
returns-clause-keeps g c = λ s first k all.
    let i = c.loop-call.invariant.1 s first k all in
    let none = nil_from_length _ (sym c.loop-call.call-iterator.rest.ok.0 ∙ c.in-None.ensures.steps.0) in
    rw (Reached-end _ _ _ _ _ _ _ _ i.2 none).1 i.1

pub returns-clause-processed : goal.returns-clause-processed
returns-clause-processed g c = λ s first k all.
    let i = c.loop-call.invariant.1 s first k all in
    let none = nil_from_length _ (sym c.loop-call.call-iterator.rest.ok.0 ∙ c.in-None.ensures.steps.0) in
    processed-taken g.S.Scheme g.D.PartialEq.eq s (λ h e. c.no_more_are_judged_than_came.ensures.events s h e) (λ h kind batch. c.no_more_are_judged_than_came.ensures.batches s h kind batch) (λ h. c.no_more_are_judged_than_came.ensures.waiting s h) first _ _ (Reached-end _ _ _ _ _ _ _ _ i.2 none).0

pub returns-clause-certified : goal.returns-clause-certified
unfolding RoundKeeps
returns-clause-certified g c = λ s first k all live ends.
    let i = c.loop-call.invariant.1 s first k all in
    let none = nil_from_length _ (sym c.loop-call.call-iterator.rest.ok.0 ∙ c.in-None.ensures.steps.0) in
    let reached = Reached-end _ _ _ _ _ _ _ _ i.2 none in
    let kept = i.1.verifier in
    three-enough g.S.Scheme g.D.PartialEq.eq s (λ h kind batch. c.constructions_end.ensures s h kind batch) (kept-needed g.D.PartialEq.eq g.S.Scheme g.S.Scheme.batchable s _ _ kept) (λ h. c.no_quorum_is_lost.ensures s h) first _ _ live reached.0 ends (rw reached.1 (kept-consistent g.D.PartialEq.eq g.S.Scheme g.S.Scheme.batchable s _ _ kept))
