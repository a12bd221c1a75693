-- Lemmas: points are some, where others stand before or behind.
use Rattle.std.proofs.Common.{List, [], ◌∷◌, ◌++◌, refl}
use Rattle.std.specs.Prelude.{◌≢◌}

module _ {X : Type 0} where
  pub is_some_list : (x : X) (xs : List X) → x ∷ xs ≢ []
  is_some_list x xs never = absurd (cc never)

  pub on_before : (xs ys : List X) → xs ≢ [] → xs ++ ys ≢ []
  on_before [] ys some = absurd (some refl)
  on_before (x ∷ xs) ys some = is_some_list x (xs ++ ys)

  pub on_behind : (xs ys : List X) → ys ≢ [] → xs ++ ys ≢ []
  on_behind [] ys some = some
  on_behind (x ∷ xs) ys some = is_some_list x (xs ++ ys)
