-- Lists from which those of some signers go.
use Rattle.std.proofs.Common.{◌≡◌, zero, suc, ℕ, Bool, true, false, not, List, [], ◌∷◌, ◌++◌, arith, refl}
use Rattle.std.specs.List.{All, AllPairs, Contains, filter}
use Rattle.std.proofs.lemmas.List.Elements.{All-nil, All-cons, All-head, All-tail, All-filter, Contains-append_right}
use Rattle.std.proofs.lemmas.List.Kept.{AllPairs-cons, AllPairs-filter}
use Rattle.batcher_assembly.specs.Judging.{is_among}

-- what is not among the signers is not in their list
pub among-not : (signers : List ℕ) (i : ℕ) → is_among signers i ≡ false → Contains signers i → ⊥
among-not [] i out (k, l, e) = absurd (omega arith)
among-not (j ∷ others) i out (zero, l, e) = grind arith
among-not (j ∷ others) i out (suc k, l, e) = among-not others i (grind arith) (k, omega arith, e)

-- what is not true is false
pub not-true : (b : Bool) → not b ≡ true → b ≡ false
not-true true e = absurd (cc e)
not-true false e = refl

module _ {X : Type 0} where
  filter-holds-more : (P : X → Type 0) (p : X → Bool) (x : X) (xs : List X) → All P (filter p xs) → (p x ≡ true → P x) → (b : Bool) → p x ≡ b → All P (filter p (x ∷ xs))
  filter-holds-more P p x xs rest here true e = rw e (All-cons P x (filter p xs) (here e) rest)
  filter-holds-more P p x xs rest here false e = rw e rest

  -- each that passes holds, where each of the list that passes does
  pub filter-holds : (P : X → Type 0) (p : X → Bool) (xs : List X) → ((x : X) → Contains xs x → p x ≡ true → P x) → All P (filter p xs)
  filter-holds P p [] each = All-nil P
  filter-holds P p (x ∷ xs) each = filter-holds-more P p x xs (filter-holds P p xs (λ y there. each y (Contains-append_right (x ∷ []) xs y there))) (each x (zero, omega arith, refl)) (p x) refl

  -- what holds of each of two lists holds where some of the second go
  pub All-fewer : (P : X → Type 0) (p : X → Bool) (xs ys : List X) → All P (xs ++ ys) → All P (xs ++ filter p ys)
  All-fewer P p [] ys all = All-filter p P ys all
  All-fewer P p (x ∷ xs) ys all = All-cons P x (xs ++ filter p ys) (All-head P x (xs ++ ys) all) (All-fewer P p xs ys (All-tail P x (xs ++ ys) all))

  -- and the same of pairs
  pub AllPairs-fewer : (R : X → X → Type 0) (p : X → Bool) (xs ys : List X) → AllPairs R (xs ++ ys) → AllPairs R (xs ++ filter p ys)
  AllPairs-fewer R p [] ys all = AllPairs-filter R p ys all
  AllPairs-fewer R p (x ∷ xs) ys all = AllPairs-cons R x (xs ++ filter p ys)
      (All-fewer (R x) p xs ys (λ k d l. all zero (suc k) d (omega arith) (omega arith)))
      (AllPairs-fewer R p xs ys (λ i j d l m. all (suc i) (suc j) d (omega arith) (omega arith)))
