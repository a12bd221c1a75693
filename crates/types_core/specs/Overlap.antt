-- What attestations of two quorums of one committee have in common.
use Rattle.std.specs.Prelude.{◌≡◌, ◌≢◌, ℕ, ◌+◌, ◌≤◌, ◌<◌, List, [], ◌∷◌, length, map, All, AllPairs, refl}
use Rattle.std.specs.List.{Contains}
use Rattle.std.proofs.Common.{get_or, arith}
use Rattle.std.proofs.lemmas.List.{length-map, get_or-map}
use Rattle.std.proofs.lemmas.List.Elements.{All-contains, All-map, Contains-get_or}
use Rattle.types_core.specs.declared.attestation.Attestation.{Attestation}
use Rattle.types_quorum.specs.Counting.{NoneTwice, AllBelow, common, common-members, common-NoneTwice, common-AllBelow}
use Rattle.types_core.specs.Quorum.{IsQuorum}
use Rattle.types_quorum.specs.Committee.{faults, AreQuorum, two_quorums_share}

-- what holds of what f gives of each two elements holds of each two of the list that it gives
AllPairs-map : {X Y : Type 0} (R : Y → Y → Type 0) (f : X → Y) (xs : List X) → AllPairs (λ a b. R (f a) (f b)) xs → AllPairs R (map f xs)
AllPairs-map R f [] each = λ i j d before below. absurd (omega arith)
AllPairs-map R f (x ∷ xs) each = λ i j d before below.
    let low : j < length (x ∷ xs) = omega (arith, below, length-map (x ∷ xs) f) in
    let low' : i < length (x ∷ xs) = omega (arith, before, low) in
    rw (get_or-map f (x ∷ xs) i x d low', get_or-map f (x ∷ xs) j x d low) (each i j x before low)

module _ {G : Type 0} where
  -- the members that signed the attestations
  abbrev pub signers : List (Attestation G) → List ℕ
  signers listed = map (λ a. a.signer) listed

  -- some attestation of the list is member i's, and attests
  abbrev pub AttestsIn : (ℕ → G → Type 0) → List (Attestation G) → ℕ → Type 0
  AttestsIn attests listed i = (a : Attestation G) × Contains listed a × (a.signer ≡ i) × attests i a.signature

  -- the signers of a quorum's attestations are a quorum
  pub signers-AreQuorum : (n : ℕ) (attests : ℕ → G → Type 0) (listed : List (Attestation G)) → IsQuorum n attests listed → AreQuorum n (signers listed)
  signers-AreQuorum n attests listed p = record {
    once = AllPairs-map (λ (i j : ℕ). i ≢ j) (λ (a : Attestation G). a.signer) listed p.distinct;
    below = All-map (λ (i : ℕ). i < n) (λ (a : Attestation G). a.signer) listed p.members;
    enough = omega (arith, p.enough, length-map listed (λ (a : Attestation G). a.signer));
  }

  -- and each of them attests
  pub signers-attest : (n : ℕ) (attests : ℕ → G → Type 0) (listed : List (Attestation G)) → IsQuorum n attests listed → (i : ℕ) → Contains (signers listed) i → AttestsIn attests listed i
  signers-attest n attests listed p i here =
      All-contains (AttestsIn attests listed) (signers listed) i (All-map (AttestsIn attests listed) (λ (a : Attestation G). a.signer) listed (λ k d l. (get_or listed k d, Contains-get_or listed k d l, refl, p.attesting k d l))) here

  -- two quorums of attestations, of two things: at least one member more than may be faulty attests both
  pub two_quorums_attest : (n : ℕ) (this that : ℕ → G → Type 0) (xs ys : List (Attestation G)) → 1 ≤ n → IsQuorum n this xs → IsQuorum n that ys
      → (shared : List ℕ) × NoneTwice shared × AllBelow n shared × (faults n + 1 ≤ length shared) × All (λ i. AttestsIn this xs i × AttestsIn that ys i) shared
  two_quorums_attest n this that xs ys some p q =
      let first = signers-AreQuorum n this xs p in
      let second = signers-AreQuorum n that ys q in
      let shared = common (signers xs) (signers ys) in (
        shared,
        common-NoneTwice (signers xs) (signers ys) first.once,
        common-AllBelow n (signers xs) (signers ys) first.below,
        two_quorums_share n (signers xs) (signers ys) some first second,
        λ k d l.
            let both = (common-members (signers xs) (signers ys) (get_or shared k d)).0 (Contains-get_or shared k d l) in
            (signers-attest n this xs p (get_or shared k d) both.0, signers-attest n that ys q (get_or shared k d) both.1),
      )
