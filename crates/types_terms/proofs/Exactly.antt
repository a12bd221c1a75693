-- How many numbers are of a kind.
use Rattle.std.proofs.Common.{ℕ, zero, suc, ◌≡◌, ◌≢◌, ◌≤◌, ◌<◌, ◌+◌, ◌↔◌, ◌⊎◌, inl, inr, [], ◌∷◌, ◌++◌, length, get_or, arith, refl, subst}
use Rattle.std.specs.List.{Contains}
use Rattle.std.proofs.lemmas.Bool.{cases_lt}
use Rattle.std.proofs.lemmas.List.Quantifiers.{all_pairs_push}
use Rattle.std.proofs.lemmas.List.Elements.{Contains-push, Contains-append_left, Contains-push_cases, Contains-get_or}
use Rattle.std.proofs.lemmas.List.{length-append}
use Rattle.std.specs.Cmp.{nat_eq_equiv}
use Rattle.std.proofs.Common.{nat_eq, true}
use Rattle.std.specs.List.{IsDistinct}
use Rattle.std.proofs.lemmas.Bool.Decides.{Decides-eqb}
use Rattle.std.proofs.lemmas.Map.Made.{length-le_from_is_member, IsDistinct-from_AllPairs}
use Rattle.std.proofs.lemmas.Map.Views.{list_any-from_Contains, Contains-from_any}
use Rattle.types_terms.specs.Windows.{HasExactly}

-- no number is of a kind that there is not
none_of : {P : ℕ → Type 0} → ((v : ℕ) → P v → ⊥) → HasExactly P 0
none_of {P} never = record {
  numbers = [];
  distinct = λ i j d below there. absurd (omega arith);
  exact = λ v. (λ there. absurd (omega (arith, there.1)), λ h. absurd (never v h));
  count_is = refl;
}

-- a number that was not of a kind makes one more
one_more : {P Q : ℕ → Type 0} {n : ℕ} (x : ℕ) → HasExactly P n → (P x → ⊥) → ((v : ℕ) → Q v ↔ (P v ⊎ (x ≡ v))) → HasExactly Q (n + 1)
one_more {P} {Q} {n} x given new wider = record {
  numbers = given.numbers ++ x ∷ [];
  distinct = all_pairs_push (λ a b. a ≢ b) given.numbers x given.distinct (λ k d below same.
      new (subst P same ((given.exact (get_or given.numbers k d)).0 (Contains-get_or given.numbers k d below))));
  exact = λ v. (
    λ there. elim (Contains-push_cases given.numbers x v there) [
      | inl old ↦ (wider v).1 (inl ((given.exact v).0 old))
      | inr same ↦ (wider v).1 (inr same)
    ],
    λ h. elim ((wider v).0 h) [
      | inl old ↦ Contains-append_left given.numbers (x ∷ []) v ((given.exact v).1 old)
      | inr same ↦ subst (λ (w : ℕ). Contains (given.numbers ++ x ∷ []) w) same (Contains-push given.numbers x)
    ],
  );
  count_is = let long = length-append given.numbers (x ∷ []) in omega (arith, long, given.count_is);
}

-- the same numbers are as many
same_kind : {P Q : ℕ → Type 0} {n : ℕ} → HasExactly P n → ((v : ℕ) → Q v ↔ P v) → HasExactly Q n
same_kind {P} {Q} given same = record {
  numbers = given.numbers;
  distinct = given.distinct;
  exact = λ v. (λ there. (same v).1 ((given.exact v).0 there), λ h. (given.exact v).1 ((same v).0 h));
  count_is = given.count_is;
}

-- m numbers in a row that were not of a kind make m more
pub row_more : {P Q : ℕ → Type 0} {n : ℕ} (a m : ℕ) → HasExactly P n → ((v : ℕ) → P v → a ≤ v → v < a + m → ⊥)
    → ((v : ℕ) → Q v ↔ (P v ⊎ ((a ≤ v) × (v < a + m)))) → HasExactly Q (n + m)
row_more {P} {Q} {n} a zero given new wider =
    let same : HasExactly Q n = same_kind given (λ v. (
      λ h. elim ((wider v).0 h) [ inl old ↦ old | inr within ↦ absurd (omega (arith, within.0, within.1)) ],
      λ old. (wider v).1 (inl old),
    )) in
    let none : n ≡ n + zero = omega arith in
    subst (HasExactly Q) none same
row_more {P} {Q} {n} a (suc m) given new wider =
    let Before : ℕ → Type 0 = λ v. P v ⊎ ((a ≤ v) × (v < a + m)) in
    let before : HasExactly Before (n + m) = row_more {P = P} {Q = Before} a m given (λ v old low high. new v old low (omega arith)) (λ v. (λ h. h, λ h. h)) in
    let last : HasExactly Q (n + m + 1) = one_more (a + m) before
    (λ h. elim h [ inl old ↦ new (a + m) old (omega arith) (omega arith) | inr within ↦ absurd (omega (arith, within.1)) ])
    (λ v. (
      λ h. elim ((wider v).0 h) [
        | inl old ↦ inl (inl old)
        | inr within ↦ elim (cases_lt v (a + m)) [
          | inl below ↦ inl (inr (within.0, below))
          | inr above ↦ inr (omega (arith, within.1))
        ]
      ],
      λ h. elim h [
        | inl inside ↦ elim inside [
          | inl old ↦ (wider v).1 (inl old)
          | inr within ↦ (wider v).1 (inr (within.0, omega (arith, within.1)))
        ]
        | inr same ↦ (wider v).1 (inr (omega arith, omega arith))
      ],
    )) in
    let one : n + m + 1 ≡ n + suc m = omega arith in
    subst (HasExactly Q) one last

-- a kind that is m numbers in a row is of m numbers
pub row : {Q : ℕ → Type 0} (a m : ℕ) → ((v : ℕ) → Q v ↔ ((a ≤ v) × (v < a + m))) → HasExactly Q m
row {Q} a m is_row =
    let none : HasExactly (λ v. ⊥) 0 = none_of (λ v h. h) in
    let all : HasExactly Q (0 + m) = row_more a m none (λ v h _ _. h) (λ v. (
      λ h. inr ((is_row v).0 h),
      λ h. elim h [ inl never ↦ absurd never | inr within ↦ (is_row v).1 within ],
    )) in
    let count : 0 + m ≡ m = omega arith in
    subst (HasExactly Q) count all

-- a kind within another is of no more numbers
fewer : {P Q : ℕ → Type 0} {m n : ℕ} → HasExactly P m → HasExactly Q n → ((v : ℕ) → P v → Q v) → m ≤ n
fewer {P} {Q} {m} {n} p q within =
    let known : (v w : ℕ) → nat_eq v w ≡ true → v ≡ w = λ v w e. (Decides-eqb v w).0 e in
    let none_twice : IsDistinct nat_eq p.numbers = IsDistinct-from_AllPairs Decides-eqb p.numbers p.distinct in
    let short : length p.numbers ≤ length q.numbers = length-le_from_is_member nat_eq_equiv p.numbers q.numbers none_twice (λ v there.
    list_any-from_Contains nat_eq_equiv v q.numbers ((q.exact v).1 (within v ((p.exact v).0 (Contains-from_any known v p.numbers there))))) in
    omega (arith, short, p.count_is, q.count_is)

-- a kind is of one number of numbers
pub one_count : {P : ℕ → Type 0} {m n : ℕ} → HasExactly P m → HasExactly P n → m ≡ n
one_count {P} {m} {n} p q =
    let low : m ≤ n = fewer p q (λ v h. h) in
    let high : n ≤ m = fewer q p (λ v h. h) in
    omega arith
