-- An order of members holds each index at one place.
use Rattle.std.proofs.Common.{◌≡◌, ◌≢◌, ℕ, ◌<◌, List, length, get_or, refl, sym, ◌∙◌, arith, inl, inr}
use Rattle.std.specs.List.{swap}
use Rattle.std.proofs.lemmas.Bool.{cases_eq}
use Rattle.std.proofs.lemmas.List.Edits.{swapped_from_swap, length-swap}
use Rattle.std.proofs.lemmas.List.FromFn.{length-range_with_len, get_or-range_with_len}
use Rattle.std.proofs.lemmas.List.Sorted.{IsPermutation-keeps}
use Rattle.types_terms.specs.Rotation.{indices, IsOrder}

-- equal numbers stand at one place
abbrev pub IsOnce : List ℕ → Type 0
IsOnce xs = (i j d : ℕ) → i < length xs → j < length xs → get_or xs i d ≡ get_or xs j d → i ≡ j

-- where the number at place k stood before those at a and b were exchanged
record StoodAt (xs : List ℕ) (a b k : ℕ) : Type 0 where
  at : ℕ
  within : at < length xs
  same : (d : ℕ) → get_or (swap xs a b) k d ≡ get_or xs at d
  from_a : at ≡ a → k ≡ b
  from_b : at ≡ b → k ≡ a
  from_other : at ≢ a → at ≢ b → k ≡ at

stood_at : (xs : List ℕ) (a b k : ℕ) → a < length xs → b < length xs → k < length xs → StoodAt xs a b k
stood_at xs a b k low_a low_b low_k = elim (cases_eq k a) [
  | inl here ↦ record {
    at = b;
    within = low_b;
    same = λ d. rw here (swapped_from_swap xs (swap xs a b) a b d low_a low_b refl).0;
    from_a = λ e. omega (arith, here, e);
    from_b = λ e. here;
    from_other = λ m n. absurd (n refl);
  }
  | inr apart ↦ elim (cases_eq k b) [
    | inl here ↦ record {
      at = a;
      within = low_a;
      same = λ d. rw here (swapped_from_swap xs (swap xs a b) a b d low_a low_b refl).1;
      from_a = λ e. here;
      from_b = λ e. omega (arith, here, e);
      from_other = λ m n. absurd (m refl);
    }
    | inr other ↦ record {
      at = k;
      within = low_k;
      same = λ d. (swapped_from_swap xs (swap xs a b) a b d low_a low_b refl).2 k apart other;
      from_a = λ e. absurd (apart e);
      from_b = λ e. absurd (other e);
      from_other = λ m n. refl;
    }
  ]
]

-- what stood at one place stands at one place
one_place : (xs : List ℕ) (a b i j : ℕ) (p : StoodAt xs a b i) (q : StoodAt xs a b j) → p.at ≡ q.at → i ≡ j
one_place xs a b i j p q same = elim (cases_eq p.at a) [
  | inl at_a ↦ p.from_a at_a ∙ sym (q.from_a (sym same ∙ at_a))
  | inr not_a ↦ elim (cases_eq p.at b) [
    | inl at_b ↦ p.from_b at_b ∙ sym (q.from_b (sym same ∙ at_b))
    | inr not_b ↦ p.from_other not_a not_b ∙ same ∙ sym (q.from_other (λ e. not_a (same ∙ e)) (λ e. not_b (same ∙ e)))
  ]
]

exchanged-IsOnce : (xs : List ℕ) (a b : ℕ) → a < length xs → b < length xs → IsOnce xs → IsOnce (swap xs a b)
exchanged-IsOnce xs a b low_a low_b once = λ i j d low_i low_j same.
    let long = length-swap xs a b in
    let p = stood_at xs a b i low_a low_b (omega (arith, long, low_i)) in
    let q = stood_at xs a b j low_a low_b (omega (arith, long, low_j)) in
    one_place xs a b i j p q (once p.at q.at d p.within q.within (sym (p.same d) ∙ same ∙ q.same d))

-- at place i stands index i
pub get_or-indices : (n i d : ℕ) → i < n → get_or (indices n) i d ≡ i
get_or-indices n i d low = omega (arith, get_or-range_with_len 0 n i d low)

indices-IsOnce : (n : ℕ) → IsOnce (indices n)
indices-IsOnce n = λ i j d low_i low_j same.
    let long = length-range_with_len 0 n in
    omega (arith, same, get_or-indices n i d (omega (arith, long, low_i)), get_or-indices n j d (omega (arith, long, low_j)))

-- each index stands at one place of an order
pub order-IsOnce : (n : ℕ) (order : List ℕ) → IsOrder n order → IsOnce order
order-IsOnce n order o = IsPermutation-keeps (indices n) IsOnce (indices-IsOnce n) (λ l i j low_i low_j once. exchanged-IsOnce l i j low_i low_j once) order o
