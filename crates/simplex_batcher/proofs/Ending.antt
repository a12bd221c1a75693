-- Three constructions in a row are enough.
use Rattle.std.proofs.Common.{◌≡◌, ◌≤◌, ◌<◌, ℕ, suc, Bool, false, List, [], ◌∷◌, ◌++◌, refl, ap, arith, length, length-append}
use Rattle.std.specs.Prelude.{Option, None, Some, MatchOption, is_none, is_some, true}
use Rattle.types_core.specs.declared.scheme.Scheme.{Ghosts}
use Rattle.messages_certificates.specs.declared.certificate.Certificate.{Certificate}
use Rattle.types_terms.specs.declared.kind.Kind.{Kind}
use Rattle.types_terms.specs.declared.kind.Kind.TheVariants.{Notarization, Nullification, Finalization}
use Rattle.batcher_verifier.specs.declared.batch.Batch.{Batch}
use Rattle.simplex_batcher.specs.declared.call.Call.{Call}
use Rattle.simplex_batcher.specs.declared.call.Call.TheVariants.{TryConstruct}
use Rattle.simplex_batcher.specs.declared.call.Answer.{Answer}
use Rattle.simplex_batcher.specs.declared.call.Answer.TheVariants as answer
use Rattle.batcher_verifier.specs.History.{History, Setup, next_kind}
use Rattle.batcher_verifier.specs.Lawful.{IsConsistent}
use Rattle.batcher_verifier.specs.Quorums.{AllCertified}
use Rattle.batcher_verifier.specs.ConstructionResult.{after, after_construction, kinds_left, IsBatch, IsConstruction}
use Rattle.simplex_batcher.specs.Run.{AnswersAre, after_call, after_all, EndsInConstructions}

-- none is left
none-left : (next : Option Kind) → kinds_left next ≤ 0 → next ≡ None
none-left None few = refl
none-left (Some Notarization) few = absurd (omega (arith, few))
none-left (Some Nullification) few = absurd (omega (arith, few))
none-left (Some Finalization) few = absurd (omega (arith, few))

three-at-most : (next : Option Kind) → kinds_left next ≤ 3
three-at-most None = omega arith
three-at-most (Some Notarization) = omega arith
three-at-most (Some Nullification) = omega arith
three-at-most (Some Finalization) = omega arith

module _ {S D P G C : Type 0} (g : Ghosts S D P G C) (same : D → D → Bool) (s : Setup S) where
  -- a history is lawful where it is so after a construction
  lawful-before : (h : History S D P G C) (next : Option Kind) (made : Option (Batch (Certificate S D P G C))) → IsConsistent same g.attests s (after_construction next made h) → IsConsistent same g.attests s h
  lawful-before h None made lawful = lawful
  lawful-before h (Some kind) None lawful = lawful
  lawful-before h (Some kind) (Some batch) lawful = go batch.certificate refl
    where
      go : (o : Option (Certificate S D P G C)) → batch.certificate ≡ o → IsConsistent same g.attests s h
      go (Some c) e = (rw e at lawful).1
      go None e = (rw e at lawful).1

  -- there is an answer to each call
  answered-each : (h : History S D P G C) (calls : List (Call S D P G C)) (answers : List (Answer S D P G C)) → AnswersAre g same s h calls answers → length calls ≡ length answers
  answered-each h [] [] are = refl
  answered-each h (call ∷ calls) (a ∷ answers) are = ap suc (answered-each (after_call same s h call a) calls answers are.1)
  answered-each h [] (a ∷ answers) are = absurd are
  answered-each h (call ∷ calls) [] are = absurd are

  -- the answers to the last calls
  answers-last : (h : History S D P G C) (before last : List (Call S D P G C)) (answered more : List (Answer S D P G C)) → length last ≡ length more → AnswersAre g same s h (before ++ last) (answered ++ more)
      → AnswersAre g same s (after_all same s h before answered) last more × (after_all same s h (before ++ last) (answered ++ more) ≡ after_all same s (after_all same s h before answered) last more)
  answers-last h [] last [] more e are = (are, refl)
  answers-last h (call ∷ before) last (a ∷ answered) more e are = answers-last (after_call same s h call a) before last answered more e are.1
  answers-last h [] last (a ∷ answered) more e are = absurd (omega (arith, e, answered-each h last (a ∷ answered ++ more) are, length-append answered more))
  answers-last h (call ∷ before) last [] more e are = absurd (omega (arith, e, answered-each h (call ∷ before ++ last) more are, length-append before last))

  -- after a construction that was due a later one is due, or none
  abbrev pub IsEnding : Type 0
  IsEnding = (h : History S D P G C) (kind : Kind) (batch : Batch (Certificate S D P G C)) → 0 < s.needed → IsConsistent same g.attests s h → next_kind same s h ≡ Some kind → IsBatch g same s kind h batch
      → kinds_left (next_kind same s (after kind (Some batch) h)) < kinds_left (Some kind)

  module _ (ends : IsEnding) (some : 0 < s.needed) where
    -- the same, of what a call answered
    pub made-fewer : (h : History S D P G C) → IsConsistent same g.attests s h → (made : Option (Batch (Certificate S D P G C))) (next : Option Kind) → next_kind same s h ≡ next → is_some made ≡ true → is_none made ≡ is_none next
        → ((batch : Batch (Certificate S D P G C)) → made ≡ Some batch → MatchOption next ⊥ (λ kind. IsBatch g same s kind h batch))
        → kinds_left (next_kind same s (after_construction next made h)) < kinds_left next
    made-fewer h lawful None next e some_made none batch = absurd (cc some_made)
    made-fewer h lawful (Some b) None e some_made none batch = absurd (cc none)
    made-fewer h lawful (Some b) (Some kind) e some_made none batch = ends h kind b some lawful e (batch b refl)

    -- each construction leaves one kind less
    one-less : (h : History S D P G C) (made : Option (Batch (Certificate S D P G C))) (m : ℕ) → IsConsistent same g.attests s h → IsConstruction g same s h made → kinds_left (next_kind same s h) ≤ suc m → kinds_left (next_kind same s (after_construction (next_kind same s h) made h)) ≤ m
    one-less h made m lawful is few = go (next_kind same s h) refl made is few
      where
        go : (next : Option Kind) → next_kind same s h ≡ next → (made : Option (Batch (Certificate S D P G C))) → MatchOption next (made ≡ None) (λ kind. MatchOption made ⊥ (λ batch. IsBatch g same s kind h batch)) → kinds_left next ≤ suc m
            → kinds_left (next_kind same s (after_construction next made h)) ≤ m
        go None e made is few = rw e (omega arith)
        go (Some kind) e None is few = absurd is
        go (Some kind) e (Some batch) is few = omega (arith, few, ends h kind batch some lawful e is)

    -- after three none is left
    pub three-enough : ((h : History S D P G C) → s.is_skipped ≡ false → IsConsistent same g.attests s h → next_kind same s h ≡ None → AllCertified g.attests s h) → (h : History S D P G C) (calls : List (Call S D P G C)) (answers : List (Answer S D P G C)) → s.is_skipped ≡ false → AnswersAre g same s h calls answers → EndsInConstructions calls answers → IsConsistent same g.attests s (after_all same s h calls answers)
        → AllCertified g.attests s (after_all same s h calls answers)
    three-enough lost h calls answers live are last_calls lawful =
        let three = TryConstruct ∷ TryConstruct ∷ TryConstruct ∷ [] in
        let given = answer.Constructed last_calls.first ∷ answer.Constructed last_calls.second ∷ answer.Constructed last_calls.third ∷ [] in
        let last = answers-last h last_calls.before three last_calls.answered given refl (rw (last_calls.calls_are, last_calls.answers_are) at are) in
        let start = after_all same s h last_calls.before last_calls.answered in
        let one = after_construction (next_kind same s start) last_calls.first start in
        let two = after_construction (next_kind same s one) last_calls.second one in
        let three_ = after_construction (next_kind same s two) last_calls.third two in
        let here : after_all same s h calls answers ≡ three_ = rw (last_calls.calls_are, last_calls.answers_are) last.1 in
        let end_ = rw here at lawful in
        let second = lawful-before two (next_kind same s two) last_calls.third end_ in
        let first = lawful-before one (next_kind same s one) last_calls.second second in
        let zero_ = lawful-before start (next_kind same s start) last_calls.first first in
        let a = one-less start last_calls.first 2 zero_ last.0.0 (three-at-most (next_kind same s start)) in
        let b = one-less one last_calls.second 1 first last.0.1.0 a in
        let c = one-less two last_calls.third 0 second last.0.1.1.0 b in
        rw here (lost three_ live end_ (none-left (next_kind same s three_) c))
