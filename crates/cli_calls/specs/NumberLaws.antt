-- What is told by a number.
use Rattle.std.proofs.Common.{◌≡◌, ◌∙◌, ℕ, Option, Some, ap, sym}
use Rattle.std.specs.Prelude.{unwrap_or}

-- where each number leads back to what has it, no two have the same
pub by_number : {S : Type 0} (number : S → ℕ) (back : ℕ → Option S) → ((s : S) → back (number s) ≡ Some s) → (a b : S) → number a ≡ number b → a ≡ b
by_number number back leads a b same = ap (λ o. unwrap_or o a) (sym (leads a) ∙ (ap back same ∙ leads b))
