-- Attestations of distinct members, sorted by index, ascend.
use Rattle.std.proofs.Common.{◌≡◌, ◌≢◌, ℕ, suc, ◌+◌, ◌≤◌, ◌==◌, true, List, [], ◌∷◌, get_or, sym, arith}
use Rattle.std.specs.List.{All, sum_by}
use Rattle.std.specs.List.Sorted.{IsNonDecreasingBy, IsPermutation}
use Rattle.std.proofs.lemmas.List.Sorted.{sum_by-IsPermutation}
use Rattle.types_core.specs.declared.attestation.Attestation.{Attestation}
use Rattle.types_core.specs.Ascending.{AscendsFrom}
use Rattle.types_core.specs.Quorum.{AreDistinct}
use Rattle.types_core.specs.QuorumOrder.{is_by, one_more, one_by, some_by}

module _ {G : Type 0} where
  ascends_sorted : (low : ℕ) (x : List (Attestation G)) → All (λ a. low ≤ a.signer) x → IsNonDecreasingBy (λ a. a.signer) x → ((i : ℕ) → sum_by (is_by i) x ≤ 1) → AscendsFrom low x
  ascends_sorted low [] above sorted once = tt
  ascends_sorted low (a ∷ x) above sorted once = (above 0 a (omega arith), ascends_sorted (a.signer + 1) x later (λ i j d l m. sorted (suc i) (suc j) d (omega arith) (omega arith)) (λ i. omega (arith, once i, one_more i a x)))
    where
      later : All (λ b. a.signer + 1 ≤ b.signer) x
      later k d l =
          let up : a.signer ≤ (get_or x k d).signer = sorted 0 (suc k) d (omega arith) (omega arith) in
          let apart : a.signer ≢ (get_or x k d).signer = λ e.
          let again : 1 ≤ sum_by (is_by a.signer) x = some_by a.signer x k d l (sym e) in
          let own : (a.signer == a.signer) ≡ true = search arith in
          let both : sum_by (is_by a.signer) (a ∷ x) ≤ 1 = once a.signer in
          let two : 1 + sum_by (is_by a.signer) x ≤ 1 = rw (one_more a.signer a x, own) at both in
          absurd (omega (arith, again, two)) in
          omega (arith, up, apart)

  -- attestations of distinct members ascend once they are sorted by index
  pub sorted-AscendsFrom : (given x : List (Attestation G)) → AreDistinct given → IsPermutation given x → IsNonDecreasingBy (λ a. a.signer) x → AscendsFrom 0 x
  sorted-AscendsFrom given x apart moved sorted =
      ascends_sorted 0 x (λ k d l. omega arith) sorted (λ i. omega (arith, one_by given apart i, sum_by-IsPermutation (is_by i) given x moved))
