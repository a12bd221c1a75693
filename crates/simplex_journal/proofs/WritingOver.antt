-- While a generation is written, its disk is passed, or the whole is there.
use Rattle.std.proofs.Common.{inl, inr, ⊎_elim, ℕ, Bool, List, [], ◌∷◌, sym, ap, subst, arith}
use Rattle.std.proofs.lemmas.Bool.{cases_eq}
use Rattle.simplex_journal.specs.Generation.{IsPassed, IsPassedOrWritten}
use Rattle.simplex_journal.specs.Steps.{IsBeingCleared, IsBeingMarked}
use Rattle.simplex_journal.specs.GenerationLaws.{none_short, none_first, passed_front, passed_none}

module _ (is_first : Bool) (g : ℕ) (seen0 bytes : List ℕ) (passed : IsPassed is_first seen0 g) where
  pub cleared_passes : (image : List ℕ) → IsBeingCleared seen0 image → IsPassedOrWritten is_first g bytes image
  cleared_passes image clearing = ⊎_elim
      (λ front. inl (subst (λ (l : List ℕ). IsPassed is_first l g) (sym front.1) (passed_front is_first front.0 seen0 g passed)))
      (λ short. inl (passed_none is_first seen0 image g passed (none_short image (omega (arith, short))))) clearing

  either_first : (first : ℕ) → IsPassedOrWritten is_first g bytes (first ∷ bytes)
  either_first first = ⊎_elim
      (λ is. inr (ap (λ (n : ℕ). n ∷ bytes) is))
      (λ ne. inl (passed_none is_first seen0 (first ∷ bytes) g passed (none_first (first ∷ bytes) ne))) (cases_eq first 2)

  pub marked_passes : (image : List ℕ) → IsBeingMarked [] bytes image → IsPassedOrWritten is_first g bytes image
  marked_passes image marking = ⊎_elim
      (λ shut. inl (subst (λ (l : List ℕ). IsPassed is_first l g) (sym shut.1) (passed_none is_first seen0 (0 ∷ shut.0) g passed (none_first (0 ∷ shut.0) (λ e. absurd (omega (arith, e)))))))
      (λ whole. subst (IsPassedOrWritten is_first g bytes) (sym whole.1) (either_first whole.0)) marking
