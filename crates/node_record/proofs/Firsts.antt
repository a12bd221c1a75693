-- The first entry of a map from a number on.
use Rattle.std.proofs.Common.{◌≡◌, ◌≤◌, ◌<◌, ℕ, List, ◌∷◌, Option, Some, None, refl, arith}
use Rattle.std.specs.Prelude.{IsSome}
use Rattle.std.specs.Ordering.{nat_cmp}
use Rattle.std.specs.declared.ops.Bound.TheVariants.{Included, Unbounded}
use Rattle.std.specs.BTreeMap.{BTreeMap, get}
use Rattle.std.specs.BTreeMap.Range.{IsRangeOf}
use Rattle.std.proofs.lemmas.Bool.Decides.{nat_tests}

none_there : {X : Type 0} (o : Option X) → (IsSome o → ⊥) → o ≡ None
none_there None never = refl
none_there (Some x) never = absurd (never refl)

module _ {V : Type 0} (map : BTreeMap ℕ V) (from : ℕ) (range : List (ℕ × V)) (is_range : IsRangeOf nat_cmp (Included from) Unbounded map range) (number : ℕ) (v : V) (rest : List (ℕ × V)) (is : range ≡ (number, v) ∷ rest) where
  pub first_there : get nat_cmp map number ≡ Some v
  first_there = (rw is at is_range.1).1

  pub first_behind : from ≤ number
  first_behind = let inside = (rw is at is_range.1).0 in grind (arith, nat_tests, inside)

  pub none_before : (n : ℕ) → from ≤ n → n < number → get nat_cmp map n ≡ None
  none_before n at below = none_there (get nat_cmp map n) (λ some. let le = rw is at (is_range.2 n (grind (arith, nat_tests, at), tt) some) in absurd (grind (arith, nat_tests, le, below)))
