-- A search in signers that ascend.
use Rattle.std.proofs.Common.{◌≡◌, ◌≢◌, ◌≤◌, ◌<◌, zero, suc, ℕ, Bool, true, false, List, [], ◌∷◌, length, Result, Ok, Err, get_or, arith, refl, sym, nat_lt}
use Rattle.std.specs.Result.{is_ok, MatchResult}
use Rattle.std.specs.Ordering.{nat_cmp}
use Rattle.std.specs.List.Sorted.{IsStrictlyIncreasing, IsBinarySearchResult}
use Rattle.std.proofs.lemmas.List.Kept.{AllPairs-from_increasing}
use Rattle.std.proofs.lemmas.List.Sorted.{searched}
use Rattle.batcher_assembly.specs.Judging.{is_among}

-- what stands somewhere is one of them
among-there : (signers : List ℕ) (i k : ℕ) → k < length signers → get_or signers k 0 ≡ i → is_among signers i ≡ true
among-there [] i k l e = absurd (omega arith)
among-there (j ∷ others) i zero l e = grind arith
among-there (j ∷ others) i (suc k) l e = let rest : is_among others i ≡ true = among-there others i k (omega arith) e in grind arith

-- what stands nowhere is none of them
among-nowhere : (signers : List ℕ) (i : ℕ) → ((k : ℕ) → k < length signers → get_or signers k 0 ≢ i) → is_among signers i ≡ false
among-nowhere [] i none = refl
among-nowhere (j ∷ others) i none =
    let rest : is_among others i ≡ false = among-nowhere others i (λ k l. none (suc k) (omega arith)) in
    let first : j ≢ i = none zero (omega arith) in
    grind arith

-- signers that ascend do not fall
rises : (signers : List ℕ) → IsStrictlyIncreasing signers → (k l : ℕ) → k ≤ l → l < length signers → get_or signers k 0 ≤ get_or signers l 0
rises signers ascending k l below there = go (nat_lt k l) refl
  where
    go : (b : Bool) → nat_lt k l ≡ b → get_or signers k 0 ≤ get_or signers l 0
    go true less = let more = AllPairs-from_increasing signers ascending k l 0 (grind arith) there in omega arith
    go false even = let same : k ≡ l = grind arith in rw same (omega arith)

-- the search finds just those that are among them
pub among-searched : (signers : List ℕ) (i : ℕ) (found : Result ℕ ℕ) → IsBinarySearchResult (λ j. nat_cmp j i) signers found → IsStrictlyIncreasing signers → is_ok found ≡ is_among signers i
among-searched signers i found result ascending = go found (searched signers i found result (rises signers ascending))
  where
    go : (r : Result ℕ ℕ) → MatchResult r (λ k. (k < length signers) × (get_or signers k 0 ≡ i)) (λ n. (n ≤ length signers) × ((k : ℕ) → k < n → get_or signers k 0 < i) × ((k : ℕ) → n ≤ k → k < length signers → i < get_or signers k 0)) → is_ok r ≡ is_among signers i
    go (Ok k) at = sym (among-there signers i k at.0 at.1)
    go (Err n) apart = sym (among-nowhere signers i (λ k l e. side k l e (nat_lt k n) refl))
      where
        side : (k : ℕ) → k < length signers → get_or signers k 0 ≡ i → (b : Bool) → nat_lt k n ≡ b → ⊥
        side k l e true less = let low = apart.1 k (grind arith) in omega arith
        side k l e false more = let high = apart.2 k (grind arith) l in omega arith
