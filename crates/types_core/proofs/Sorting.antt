-- Attestations that ascend in some order are of distinct members.
use Rattle.std.proofs.Common.{◌≡◌, ℕ, zero, suc, ◌≤◌, ◌<◌, ◌==◌, true, List, [], ◌∷◌, length, get_or, refl, sym, arith}
use Rattle.std.specs.List.{sum_by}
use Rattle.std.specs.List.Sorted.{IsPermutation}
use Rattle.std.proofs.lemmas.List.Sorted.{sum_by-IsPermutation}
use Rattle.types_core.specs.declared.attestation.Attestation.{Attestation}
use Rattle.types_core.specs.Ascending.{AscendsFrom}
use Rattle.types_core.specs.Quorum.{AreDistinct, AscendsFrom-distinct}
use Rattle.types_core.specs.QuorumOrder.{is_by, one_more, one_by, some_by}

module _ {G : Type 0} where
  two_by : (i : ℕ) (x : List (Attestation G)) (k l : ℕ) (d : Attestation G) → k < l → l < length x → (get_or x k d).signer ≡ i → (get_or x l d).signer ≡ i → 2 ≤ sum_by (is_by i) x
  two_by i [] k l d before below e f = absurd (omega arith)
  two_by i (a ∷ x) k zero d before below e f = absurd (omega arith)
  two_by i (a ∷ x) zero (suc l) d before below e f =
      let own : (a.signer == i) ≡ true = search (arith, e) in
      let later = some_by i x l d (omega arith) f in
      rw (one_more i a x, own) (omega (arith, later))
  two_by i (a ∷ x) (suc k) (suc l) d before below e f =
      let later = two_by i x k l d (omega arith) (omega arith) e f in
      rw (one_more i a x) (omega (arith, later))

  -- attestations that ascend in some order are of distinct members
  pub AscendsFrom-distinct_before : (given x : List (Attestation G)) → IsPermutation given x → AscendsFrom 0 x → AreDistinct given
  AscendsFrom-distinct_before given x moved up = λ i j d l m e.
      let signer = (get_or given i d).signer in
      let two : 2 ≤ sum_by (is_by signer) given = two_by signer given i j d l m refl (sym e) in
      let one : sum_by (is_by signer) x ≤ 1 = one_by x (AscendsFrom-distinct 0 x up) signer in
      absurd (omega (arith, two, one, sum_by-IsPermutation (is_by signer) given x moved))
