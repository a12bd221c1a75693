-- Which of many attestations fail.
use Rattle.std.specs.Prelude.{◌≡◌, ◌⊎◌, ℕ, List, All, Contains}
use Rattle.std.specs.List.Sorted.{IsStrictlyIncreasing}
use Rattle.types_core.specs.declared.attestation.Attestation.{Attestation}

module _ {G : Type 0} (attests : ℕ → G → Type 0) where
  -- an attestation in the name of this member does not attest
  pub record FailsIn (attestations : List (Attestation G)) (signer : ℕ) : Type 0 where
    pub failing : Attestation G
    pub is_there : Contains attestations failing
    pub signer_is : failing.signer ≡ signer
    pub fails : attests failing.signer failing.signature → ⊥

  -- in the name of each of these signers an attestation fails, and each attestation of others attests
  pub record AreFailing (attestations : List (Attestation G)) (signers : List ℕ) : Type 0 where
    pub each_fails : All (FailsIn attestations) signers
    pub others_attest : (a : Attestation G) → Contains attestations a → attests a.signer a.signature ⊎ Contains signers a.signer
    pub ascending : IsStrictlyIncreasing signers
