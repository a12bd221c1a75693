-- What is left of a list by a filter, one more at a time.
use Rattle.std.proofs.Common.{◌≡◌, ◌↔◌, ◌<◌, inl, inr, ℕ, Bool, true, false, List, [], ◌∷◌, ◌++◌, refl, sym, ◌∙◌, ap, subst, append_assoc, arith, if◌then◌else◌}
use Rattle.std.specs.Prelude.{nat_lt}
use Rattle.std.specs.List.{filter}
use Rattle.std.proofs.lemmas.Bool.{cases_lt, lt-ltb}
use Rattle.std.proofs.lemmas.Bool.Decides.{nat_tests}
use Rattle.messages_certificates.specs.declared.artifact.Artifact.{Artifact}
use Rattle.messages_certificates.specs.ProposalCertificate.{Finalization}
use Rattle.simplex_record.specs.Record.{entry}
use Rattle.simplex_record.specs.Rules.{reach}
use Rattle.simplex_record.proofs.Ruling.{true-false}

module _ {X : Type 0} (test : X → Bool) where
  -- where an element goes behind what is left just if it passes, what is left and what is to come is the same
  pub leaves-next : (left rest : List X) (x : X) (passes : Bool) → passes ≡ test x → (if passes then left ++ x ∷ [] else left) ++ filter test rest ≡ left ++ filter test (x ∷ rest)
  leaves-next left rest x true is = append_assoc left (x ∷ []) (filter test rest) ∙ ap (λ (b : Bool). left ++ (if b then x ∷ filter test rest else filter test rest)) is
  leaves-next left rest x false is = ap (λ (b : Bool). left ++ (if b then x ∷ filter test rest else filter test rest)) is

-- a truth that says that one number is below another is the test
pub told-below : (b : Bool) (m n : ℕ) → (b ≡ true) ↔ (m < n) → b ≡ nat_lt m n
told-below true m n says = sym (lt-ltb m n (says.0 refl))
told-below false m n says = elim (cases_lt m n) [
  | inl below ↦ absurd (true-false (sym (says.1 below)))
  | inr above ↦ let none : nat_lt m n ≡ false = grind (arith, nat_tests, above) in sym none
]

module _ {S D P G C : Type 0} (views : ℕ) (floor : Finalization S D P G C) where
  -- an artifact reaches above the finalization's view
  abbrev pub reaches : Artifact S D P G C → Bool
  reaches x = nat_lt floor.proposal.round.view (reach views (entry x))

  -- what is left so far and what is to come stays the same, where the first of what is to come goes behind what is left if it reaches
  pub left-next : (left next rest behind all : List (Artifact S D P G C)) (x : Artifact S D P G C) (passes : Bool) (view : ℕ) → rest ≡ x ∷ behind → left ++ filter reaches rest ≡ all → view ≡ floor.proposal.round.view
      → (passes ≡ true) ↔ (view < reach views (entry x)) → next ≡ (if passes then left ++ x ∷ [] else left) → next ++ filter reaches behind ≡ all
  left-next left next rest behind all x passes view is left_is at says next_is =
      let told : (passes ≡ true) ↔ (floor.proposal.round.view < reach views (entry x)) = subst (λ (v : ℕ). (passes ≡ true) ↔ (v < reach views (entry x))) at says in
      ap (λ (l : List (Artifact S D P G C)). l ++ filter reaches behind) next_is
      ∙ leaves-next reaches left behind x passes (told-below passes floor.proposal.round.view (reach views (entry x)) told)
      ∙ subst (λ (l : List (Artifact S D P G C)). left ++ filter reaches l ≡ all) is left_is
