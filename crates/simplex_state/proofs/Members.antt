-- What is in a set of views behind an insertion, and behind none.
use Rattle.std.proofs.Common.{◌≡◌, ◌⊎◌, inl, inr, true, false, ℕ, zero, suc, List, [], ◌∷◌, ◌++◌, refl, sym, ◌∙◌, ap, subst, get_or, take, ◌+◌, ◌<◌, arith}
use mathlib.Core.Bool.{true≢false}
use Rattle.std.specs.Prelude.{Bool, Contains, IsTrue, length, cond}
use Rattle.std.proofs.lemmas.List.Elements.{Contains-append_cases}
use Rattle.std.proofs.Math.Seq.{take-suc}
use Rattle.std.specs.Ordering.{nat_cmp}
use Rattle.std.specs.BTreeMap.{is_at}
use Rattle.std.specs.BTreeSet.{BTreeSet, contains, Updates}

-- the one element of a list of one
pub only_element : {X : Type 0} (x y : X) → Contains (x ∷ []) y → x ≡ y
only_element x y (zero, small, is) = is
only_element x y (suc k, small, is) = absurd (omega arith)

either : (b c : Bool) → c ≡ true → cond b true c ≡ true
either true c is = refl
either false c is = is

-- what was there stays
pub stays_in : (set now : BTreeSet ℕ) (view : ℕ) → Updates nat_cmp set now view true → (u : ℕ) → IsTrue (contains nat_cmp set u) → IsTrue (contains nat_cmp now u)
stays_in set now view updates u there = updates.0 u ∙ either (is_at (nat_cmp view) u) (contains nat_cmp set u) there

-- an empty set has nothing
none_left : (keys : List ℕ) → (0 < length keys → ⊥) → keys ≡ []
none_left [] none = refl
none_left (x ∷ xs) none = absurd (none (omega arith))

pub nothing_in : (set : BTreeSet ℕ) → (0 < length set.keys → ⊥) → (u : ℕ) → IsTrue (contains nat_cmp set u) → ⊥
nothing_in set none u there = true≢false (sym (rw (none_left set.keys none) at there))

-- one fewer is left
pub fewer : (m n : ℕ) → m + 1 ≡ n → m < n
fewer m n is = omega (arith, is)

module _ {X : Type 0} where
  -- one more element is taken
  pub take_next : (xs : List X) (i : ℕ) (x : X) → i < length xs → x ≡ get_or xs i x → take (i + 1) xs ≡ take i xs ++ x ∷ []
  take_next xs i x small is =
      let next : suc i ≡ i + 1 = omega arith in
      subst (λ (n : ℕ). take n xs ≡ take i xs ++ x ∷ []) next (take-suc xs i x small ∙ ap (λ (y : X). take i xs ++ y ∷ []) (sym is))

  pub in_next : (xs : List X) (i : ℕ) (x : X) → i < length xs → x ≡ get_or xs i x → (y : X) → Contains (take (i + 1) xs) y → Contains (take i xs) y ⊎ (x ≡ y)
  in_next xs i x small is y there = elim (Contains-append_cases (take i xs) (x ∷ []) y (subst (λ (ys : List X). Contains ys y) (take_next xs i x small is) there)) [
    | inl before ↦ inl before
    | inr last ↦ inr (only_element x y last)
  ]
