-- A quorum's attestations are one in each order.
use Rattle.std.proofs.Common.{◌≡◌, ◌≢◌, ℕ, zero, suc, ◌+◌, ◌≤◌, ◌<◌, ◌==◌, true, false, cond, List, [], ◌∷◌, length, get_or, refl, sym, arith, inl, inr}
use Rattle.std.specs.List.{All, sum_by}
use Rattle.std.specs.List.Sorted.{IsPermutation}
use Rattle.std.proofs.lemmas.Bool.{cases_Bool, eqb-true, ne_eqb}
use Rattle.std.proofs.lemmas.List.Elements.{All-tail}
use Rattle.std.proofs.lemmas.List.Sums.{sum_by-cons}
use Rattle.std.proofs.lemmas.List.Kept.{AllPairs-cons}
use Rattle.std.proofs.lemmas.List.Sorted.{All-permutation, length_permutation, sum_by-IsPermutation}
use Rattle.types_core.specs.declared.attestation.Attestation.{Attestation}
use Rattle.types_core.specs.Quorum.{AreDistinct, IsQuorum}

module _ {G : Type 0} where
  -- 1 for an attestation of this member, and 0 for others
  abbrev pub is_by : ℕ → Attestation G → ℕ
  is_by i a = cond (a.signer == i) 1 0

  pub one_more : (i : ℕ) (a : Attestation G) (x : List (Attestation G)) → sum_by (is_by i) (a ∷ x) ≡ is_by i a + sum_by (is_by i) x
  one_more i a x = sum_by-cons (is_by i) a x

  none_by : (i : ℕ) (x : List (Attestation G)) → All (λ b. i ≢ b.signer) x → sum_by (is_by i) x ≡ 0
  none_by i [] apart = refl
  none_by i (a ∷ x) apart =
      let other : (a.signer == i) ≡ false = ne_eqb a.signer i (λ e. apart 0 a (omega arith) (sym e)) in
      let none = none_by i x (All-tail (λ (b : Attestation G). i ≢ b.signer) a x apart) in
      rw (one_more i a x, other, none) refl

  pub tail_distinct : (a : Attestation G) (x : List (Attestation G)) → AreDistinct (a ∷ x) → AreDistinct x
  tail_distinct a x apart = λ i j d l m. apart (suc i) (suc j) d (omega arith) (omega arith)

  -- of distinct members' attestations at most one is this member's
  pub one_by : (x : List (Attestation G)) → AreDistinct x → (i : ℕ) → sum_by (is_by i) x ≤ 1
  one_by [] apart i = omega arith
  one_by (a ∷ x) apart i = elim (cases_Bool (a.signer == i)) [
    | inl own ↦
        let same : a.signer ≡ i = eqb-true a.signer i own in
        let none : sum_by (is_by i) x ≡ 0 = none_by i x (λ k d l e. apart 0 (suc k) d (omega arith) (omega arith) (rw same e)) in
        rw (one_more i a x, own) (omega (arith, none))
    | inr other ↦ rw (one_more i a x, other) (omega (arith, one_by x (tail_distinct a x apart) i))
  ]

  -- and each is its signer's
  pub some_by : (i : ℕ) (x : List (Attestation G)) (k : ℕ) (d : Attestation G) → k < length x → (get_or x k d).signer ≡ i → 1 ≤ sum_by (is_by i) x
  some_by i [] k d l e = absurd (omega arith)
  some_by i (a ∷ x) zero d l e = let own : (a.signer == i) ≡ true = search (arith, e) in rw (one_more i a x, own) (omega arith)
  some_by i (a ∷ x) (suc k) d l e = let later = some_by i x k d (omega arith) e in rw (one_more i a x) (omega (arith, later))

  once-more : (i : ℕ) (a : Attestation G) (x : List (Attestation G)) → sum_by (is_by i) (a ∷ x) ≤ 1 → sum_by (is_by i) x ≤ 1
  once-more i a x once = omega (arith, once, one_more i a x)

  -- where at most one is each member's, they are of distinct members
  pub distinct-once : (x : List (Attestation G)) → ((i : ℕ) → sum_by (is_by i) x ≤ 1) → AreDistinct x
  distinct-once [] once = λ i j d l m. absurd (omega arith)
  distinct-once (a ∷ x) once = AllPairs-cons (λ (b c : Attestation G). b.signer ≢ c.signer) a x apart (distinct-once x (λ i. once-more i a x (once i)))
    where
      apart : All (λ b. a.signer ≢ b.signer) x
      apart k d l e =
          let again : 1 ≤ sum_by (is_by a.signer) x = some_by a.signer x k d l (sym e) in
          let own : (a.signer == a.signer) ≡ true = search arith in
          let both : sum_by (is_by a.signer) (a ∷ x) ≤ 1 = once a.signer in
          let two : 1 + sum_by (is_by a.signer) x ≤ 1 = rw (one_more a.signer a x, own) at both in
          absurd (omega (arith, again, two))

  -- distinct members' attestations are so in each order
  pub AreDistinct-permutation : (given others : List (Attestation G)) → IsPermutation given others → AreDistinct given → AreDistinct others
  AreDistinct-permutation given others moved apart = distinct-once others (λ i.
      let same : sum_by (is_by i) others ≡ sum_by (is_by i) given = sum_by-IsPermutation (is_by i) given others moved in
      omega (arith, same, one_by given apart i))

  -- and a quorum's are a quorum's
  pub IsQuorum-permutation : (n : ℕ) (attests : ℕ → G → Type 0) (given others : List (Attestation G)) → IsPermutation given others → IsQuorum n attests given → IsQuorum n attests others
  IsQuorum-permutation n attests given others moved q = record {
    distinct = AreDistinct-permutation given others moved q.distinct;
    members = All-permutation (λ (a : Attestation G). a.signer < n) given others moved q.members;
    enough = (let same : length others ≡ length given = length_permutation given others moved in omega (arith, same, q.enough));
    attesting = All-permutation (λ (a : Attestation G). attests a.signer a.signature) given others moved q.attesting;
  }
