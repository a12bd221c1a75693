-- How many attestations of ascending indices there are, and where all of them stand.
use Rattle.std.proofs.Common.{◌≡◌, ℕ, zero, suc, ◌+◌, ◌≤◌, ◌<◌, List, [], ◌∷◌, length, get_or, arith}
use Rattle.std.specs.List.{All}
use Rattle.std.proofs.lemmas.List.Elements.{All-nil, All-cons, All-tail}
use Rattle.types_core.specs.declared.attestation.Attestation.{Attestation}
use Rattle.types_core.specs.Ascending.{AscendsFrom}

module _ {G : Type 0} where
  -- ascending indices below n are at most n
  few : (low n : ℕ) (x : List (Attestation G)) → low ≤ n → AscendsFrom low x → All (λ a. a.signer < n) x → length x + low ≤ n
  few low n [] room up below = omega arith
  few low n (a ∷ x) room up below =
      let own : a.signer < n = below 0 a (omega arith) in
      let rest = few (a.signer + 1) n x (omega arith) up.1 (All-tail (λ (b : Attestation G). b.signer < n) a x below) in
      omega (arith, rest, up.0)

  pub AscendsFrom-few : (n : ℕ) (x : List (Attestation G)) → AscendsFrom 0 x → All (λ a. a.signer < n) x → length x ≤ n
  AscendsFrom-few n x up below = let all = few 0 n x (omega arith) up below in omega (arith, all)

  -- where the last of ascending indices is below n, all are
  pub AscendsFrom-last : (low n k : ℕ) (x : List (Attestation G)) (d : Attestation G) → AscendsFrom low x → k + 1 ≡ length x → (get_or x k d).signer < n → All (λ a. a.signer < n) x
  AscendsFrom-last low n k [] d up place last = All-nil _
  AscendsFrom-last low n zero (a ∷ []) d up place last = All-cons (λ (b : Attestation G). b.signer < n) a [] last (All-nil _)
  AscendsFrom-last low n (suc k) (a ∷ []) d up place last = absurd (omega (arith, place))
  AscendsFrom-last low n zero (a ∷ b ∷ x) d up place last = absurd (omega (arith, place))
  AscendsFrom-last low n (suc k) (a ∷ b ∷ x) d up place last =
      let rest = AscendsFrom-last (a.signer + 1) n k (b ∷ x) d up.1 (omega (arith, place)) last in
      let next : b.signer < n = rest 0 b (omega arith) in
      All-cons (λ (c : Attestation G). c.signer < n) a (b ∷ x) (omega (arith, up.1.0, next)) rest
