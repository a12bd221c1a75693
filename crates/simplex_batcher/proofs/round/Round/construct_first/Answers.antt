use Rattle.std.proofs.Common.{◌≡◌, ◌∙◌, refl, sym, false, get_or}
use Rattle.std.specs.Prelude.{Some, is_none}
use Rattle.types_terms.specs.declared.kind.Kind.TheVariants.{Notarization}
use Rattle.batcher_verifier.specs.History.{is_due, next_kind}
use Rattle.batcher_verifier.specs.ConstructionResult.{after, IsBatch}
use Rattle.simplex_batcher.specs.Rounds.{RoundKeeps}
use Rattle.simplex_batcher.proofs.Turning.{turn-here, turn-past, match-at, after-accepted, after-new, after-forwarded}
use Rattle.simplex_batcher.proofs.round.Round.construct_first.Goals as goal

pub returns-in-Some-clause-none : goal.returns-in-Some-clause-none
unfolding RoundKeeps
returns-in-Some-clause-none g c = λ s h k.
    let now = c.loop-kind.invariant s h k in
    let due = sym (c.in_ok-batch.ensures.due s h now.0.verifier) ∙ rw c.in-Some.is refl in
    let next : next_kind g.D.PartialEq.eq s h ≡ Some (get_or c.in_turn-kind-items.result c.loop-kind.kind-index Notarization) = now.1 ∙ turn-here (λ kind. is_due g.D.PartialEq.eq s kind h) c.in_turn-kind-items.result c.loop-kind.kind-index Notarization c.in_turn-kind-items.ensures c.loop-kind-test.true due in
    let some : false ≡ is_none (next_kind g.D.PartialEq.eq s h) = rw next refl in
    some

pub returns-in-Some-clause-batch : goal.returns-in-Some-clause-batch
unfolding RoundKeeps
returns-in-Some-clause-batch g c = λ s h k.
    let now = c.loop-kind.invariant s h k in
    let due = sym (c.in_ok-batch.ensures.due s h now.0.verifier) ∙ rw c.in-Some.is refl in
    let kind = get_or c.in_turn-kind-items.result c.loop-kind.kind-index Notarization in
    let next : next_kind g.D.PartialEq.eq s h ≡ Some kind = now.1 ∙ turn-here (λ kind. is_due g.D.PartialEq.eq s kind h) c.in_turn-kind-items.result c.loop-kind.kind-index Notarization c.in_turn-kind-items.ensures c.loop-kind-test.true due in
    match-at ⊥ (λ kind. IsBatch g.S.Scheme g.D.PartialEq.eq s kind h c.in-Some.batch) (next_kind g.D.PartialEq.eq s h) kind next ((rw c.in-Some.is at c.in_ok-batch.ensures.batch) s h now.0.verifier)

pub returns-in-Some-clause-readable : goal.returns-in-Some-clause-readable
unfolding RoundKeeps
returns-in-Some-clause-readable g c = λ s h k. (rw c.in-Some.is at c.in_ok-batch.ensures.readable) s h (c.loop-kind.invariant s h k).0.verifier

pub returns-in-Some-clause-ok : goal.returns-in-Some-clause-ok
unfolding RoundKeeps
returns-in-Some-clause-ok g c = λ s h k.
    let now = c.loop-kind.invariant s h k in
    let due = sym (c.in_ok-batch.ensures.due s h now.0.verifier) ∙ rw c.in-Some.is refl in
    let kind = get_or c.in_turn-kind-items.result c.loop-kind.kind-index Notarization in
    let made = Some c.in-Some.batch in
    let next : next_kind g.D.PartialEq.eq s h ≡ Some kind = now.1 ∙ turn-here (λ kind. is_due g.D.PartialEq.eq s kind h) c.in_turn-kind-items.result c.loop-kind.kind-index Notarization c.in_turn-kind-items.ensures c.loop-kind-test.true due in
    match-at _ (λ kind. RoundKeeps g.D.PartialEq.eq g.S.Scheme g.S.Scheme.batchable s _ (after kind made h)) (next_kind g.D.PartialEq.eq s h) kind next (record {
      verifier = (rw c.in-Some.is at c.in_ok-batch.ensures.keeps) s h now.0.verifier;
      of_members = rw (← after-accepted kind made h) now.0.of_members;
      are_new = after-new kind made h now.0.are_new;
      tracks_is = now.0.tracks_is;
      forwarded_is = rw (← after-forwarded kind made h) now.0.forwarded_is;
    })

pub loop-kind-preserved : goal.loop-kind-preserved
unfolding RoundKeeps
loop-kind-preserved g c = λ s h k.
    let now = c.loop-kind.invariant s h k in
    let over = sym (c.in_ok-batch.ensures.due s h now.0.verifier) ∙ rw c.in_default.is refl in (
      record {
        verifier = (rw c.in_default.is at c.in_ok-batch.ensures.keeps) s h now.0.verifier;
        of_members = now.0.of_members;
        are_new = now.0.are_new;
        tracks_is = now.0.tracks_is;
        forwarded_is = now.0.forwarded_is;
      },
      now.1 ∙ turn-past (λ kind. is_due g.D.PartialEq.eq s kind h) c.in_turn-kind-items.result c.loop-kind.kind-index Notarization c.in_turn-kind-items.ensures c.loop-kind-test.true over,
    )
