-- Attestations of a quorum of a committee.
use Rattle.std.specs.Prelude.{ℕ, ◌≢◌, ◌+◌, ◌≤◌, ◌<◌, List, [], ◌∷◌, length, All, AllPairs}
use Rattle.std.proofs.Common.{arith}
use Rattle.std.proofs.lemmas.List.Elements.{All-nil, All-cons}
use Rattle.std.specs.List.Sorted.{IsPermutation}
use Rattle.std.proofs.lemmas.List.Kept.{AllPairs-cons}
use Rattle.std.proofs.lemmas.List.Sorted.{All-permutation}
use Rattle.types_core.specs.declared.attestation.Attestation.{Attestation}
use Rattle.types_core.specs.Ascending.{AscendsFrom}
use Rattle.types_quorum.specs.Committee.{quorum}

-- no two of the attestations are in one member's name
abbrev pub AreDistinct : {G : Type 0} → List (Attestation G) → Type 0
AreDistinct listed = AllPairs (λ a b. a.signer ≢ b.signer) listed

-- attestations of a quorum of a committee of n: of distinct members, enough of them, and each attests
pub record IsQuorum {G : Type 0} (n : ℕ) (attests : ℕ → G → Type 0) (listed : List (Attestation G)) : Type 0 where
  pub distinct : AreDistinct listed
  pub members : All (λ a. a.signer < n) listed
  pub enough : quorum n ≤ length listed
  pub attesting : All (λ a. attests a.signer a.signature) listed

-- ---- what is listed by ascending index

module _ {G : Type 0} where
  -- ascending indices are from the first on
  pub AscendsFrom-low : (low : ℕ) (x : List (Attestation G)) → AscendsFrom low x → All (λ a. low ≤ a.signer) x
  AscendsFrom-low low [] up = All-nil _
  AscendsFrom-low low (a ∷ x) up = All-cons (λ (b : Attestation G). low ≤ b.signer) a x up.0 (λ k d l. let later = AscendsFrom-low (a.signer + 1) x up.1 k d l in omega (arith, later, up.0))

  -- ascending indices are distinct
  pub AscendsFrom-distinct : (low : ℕ) (x : List (Attestation G)) → AscendsFrom low x → AreDistinct x
  AscendsFrom-distinct low [] up = λ i j d l m. absurd (omega arith)
  AscendsFrom-distinct low (a ∷ x) up = AllPairs-cons (λ (b c : Attestation G). b.signer ≢ c.signer) a x
      (λ k d l same. let later = AscendsFrom-low (a.signer + 1) x up.1 k d l in omega (arith, later, same)) (AscendsFrom-distinct (a.signer + 1) x up.1)

  -- ascending attestations are a quorum's where they are enough, each attests, and only members attest
  pub IsQuorum-from_ascending : (n : ℕ) (attests : ℕ → G → Type 0) (x : List (Attestation G)) → ((i : ℕ) (a : G) → attests i a → i < n)
      → AscendsFrom 0 x → quorum n ≤ length x → All (λ a. attests a.signer a.signature) x → IsQuorum n attests x
  IsQuorum-from_ascending n attests x member up enough all = record {
    distinct = AscendsFrom-distinct 0 x up;
    members = λ k d l. member _ _ (all k d l);
    enough = enough;
    attesting = all;
  }

  -- and so they are in whatever order they were given
  pub IsQuorum-from_given : (n : ℕ) (attests : ℕ → G → Type 0) (given x : List (Attestation G)) → ((i : ℕ) (a : G) → attests i a → i < n)
      → IsPermutation given x → AscendsFrom 0 x → quorum n ≤ length x → All (λ a. attests a.signer a.signature) given → IsQuorum n attests x
  IsQuorum-from_given n attests given x member moved up enough all =
      IsQuorum-from_ascending n attests x member up enough (All-permutation (λ (a : Attestation G). attests a.signer a.signature) given x moved all)
