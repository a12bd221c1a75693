-- Lists that are one in another order.
use Rattle.std.proofs.Common.{◌≡◌, ℕ, zero, suc, ◌<◌, Bool, true, false, cond, List, [], ◌∷◌, length, get_or, set, swap, refl, subst, arith}
use Rattle.std.specs.Prelude.{filter, find, None, Some}
use Rattle.std.specs.List.Sorted.{IsPermutation}
use Rattle.std.proofs.lemmas.List.Sorted.{IsPermutation-refl, IsPermutation-trans, IsPermutation-cons, IsPermutation-keeps, IsPermutation-middle, length_permutation}

-- A relation holds along each permutation if it is reflexive and transitive, and goes under a head and over an exchange of
-- two heads.
module _ {X : Type 0} (R : List X → List X → Type 0) (same : (xs : List X) → R xs xs)
    (skip : (x : X) (xs ys : List X) → R xs ys → R (x ∷ xs) (x ∷ ys))
    (turn : (x y : X) (xs : List X) → R (x ∷ y ∷ xs) (y ∷ x ∷ xs))
    (chain : (xs ys zs : List X) → R xs ys → R ys zs → R xs zs) where
  to_head : (l : List X) (j : ℕ) (x d : X) → j < length l → R (x ∷ l) (get_or l j d ∷ set l j x)
  to_head [] j x d h = absurd (omega arith)
  to_head (y ∷ l) zero x d h = turn x y l
  to_head (y ∷ l) (suc j) x d h =
      chain _ _ _ (turn x y l) (chain _ _ _ (skip y _ _ (to_head l j x d (omega arith))) (turn y (get_or l j d) (set l j x)))

  exchanged : (l : List X) (i j : ℕ) (d : X) → i < length l → j < length l → R l (set (set l i (get_or l j d)) j (get_or l i d))
  exchanged [] i j d p q = absurd (omega arith)
  exchanged (x ∷ l) zero zero d p q = same (x ∷ l)
  exchanged (x ∷ l) zero (suc j) d p q = to_head l j x d (omega arith)
  exchanged (x ∷ l) (suc i) zero d p q = to_head l i x d (omega arith)
  exchanged (x ∷ l) (suc i) (suc j) d p q = skip x _ _ (exchanged l i j d (omega arith) (omega arith))

  swapped : (l : List X) (i j : ℕ) → i < length l → j < length l → R l (swap l i j)
  swapped [] i j p q = same []
  swapped (x ∷ l) i j p q = exchanged (x ∷ l) i j x p q

  along_permutation : (xs ys : List X) → IsPermutation xs ys → R xs ys
  along_permutation xs = IsPermutation-keeps xs (R xs) (same xs) (λ l i j p q h. chain xs l _ h (swapped l i j p q))

module _ {X : Type 0} where
  pub IsPermutation-same : (xs ys : List X) → xs ≡ ys → IsPermutation xs ys
  IsPermutation-same xs ys e = subst (IsPermutation xs) e (IsPermutation-refl xs)

  turned : (x y : X) (xs : List X) → IsPermutation (x ∷ y ∷ xs) (y ∷ x ∷ xs)
  turned x y xs = IsPermutation-middle (x ∷ []) y xs

  -- what passes of a list in another order is what passes, in another order
  pub IsPermutation-filter : (p : X → Bool) (xs ys : List X) → IsPermutation xs ys → IsPermutation (filter p xs) (filter p ys)
  IsPermutation-filter p = along_permutation (λ xs ys. IsPermutation (filter p xs) (filter p ys))
      (λ xs. IsPermutation-refl _) (λ x xs ys h. under (p x) x _ _ h) (λ x y xs. two (p x) (p y) x y (filter p xs)) (λ xs ys zs. IsPermutation-trans _ _ _)
    where
      under : (b : Bool) (x : X) (us vs : List X) → IsPermutation us vs → IsPermutation (cond b (x ∷ us) us) (cond b (x ∷ vs) vs)
      under true x us vs h = IsPermutation-cons x us vs h
      under false x us vs h = h

      two : (a b : Bool) (x y : X) (us : List X) → IsPermutation (cond a (x ∷ cond b (y ∷ us) us) (cond b (y ∷ us) us)) (cond b (y ∷ cond a (x ∷ us) us) (cond a (x ∷ us) us))
      two true true x y us = turned x y us
      two true false x y us = IsPermutation-refl _
      two false true x y us = IsPermutation-refl _
      two false false x y us = IsPermutation-refl _

  -- a list in another order has an element where the other has one
  pub empty-permutation : (ys : List X) → IsPermutation [] ys → ys ≡ []
  empty-permutation [] h = refl
  empty-permutation (y ∷ ys) h = absurd (omega (arith, length_permutation [] (y ∷ ys) h))

module _ {X : Type 0} (p : X → Bool) where
  abbrev FoundInNeither : List X → List X → Type 0
  FoundInNeither xs ys = find p xs ≡ None → find p ys ≡ None

  behind : (x : X) (xs ys : List X) → FoundInNeither xs ys → FoundInNeither (x ∷ xs) (x ∷ ys)
  behind x xs ys rest = go (p x)
    where
      go : (c : Bool) → cond c (Some x) (find p xs) ≡ None → cond c (Some x) (find p ys) ≡ None
      go true e = absurd (cc e)
      go false e = rest e

  exchanged_heads : (x y : X) (xs : List X) → FoundInNeither (x ∷ y ∷ xs) (y ∷ x ∷ xs)
  exchanged_heads x y xs = go (p x) (p y)
    where
      go : (c d : Bool) → cond c (Some x) (cond d (Some y) (find p xs)) ≡ None → cond d (Some y) (cond c (Some x) (find p xs)) ≡ None
      go true d e = absurd (cc e)
      go false true e = absurd (cc e)
      go false false e = e

  -- what isn't found in a list is found in no other order of it
  pub find_none-permuted : (xs ys : List X) → IsPermutation xs ys → find p xs ≡ None → find p ys ≡ None
  find_none-permuted = along_permutation FoundInNeither (λ xs none. none) behind exchanged_heads (λ xs ys zs first second none. second (first none))
