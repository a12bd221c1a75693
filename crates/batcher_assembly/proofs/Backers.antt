-- The attestations that are left where those that fail go.
use Rattle.std.proofs.Common.{◌≢◌, inl, inr, ℕ, not, List, ◌++◌}
use Rattle.std.specs.List.{All}
use Rattle.std.proofs.lemmas.List.Elements.{All-append}
use Rattle.types_core.specs.declared.attestation.Attestation.{Attestation}
use Rattle.types_core.specs.Quorum.{AreDistinct}
use Rattle.types_core.specs.Batching.{AreFailing}
use Rattle.batcher_assembly.specs.Judging.{is_among, without}
use Rattle.batcher_assembly.specs.Fewer.{among-not, not-true, filter-holds, AllPairs-fewer}

module _ {G : Type 0} (attests : ℕ → G → Type 0) (verified waiting : List (Attestation G)) (failing : List ℕ) where
  -- each that is left attests
  pub left-attest : All (λ a. attests a.signer a.signature) verified → AreFailing attests waiting failing → All (λ a. attests a.signer a.signature) (verified ++ without failing waiting)
  left-attest good are = All-append (λ (a : Attestation G). attests a.signer a.signature) verified (without failing waiting) good
      (filter-holds (λ (a : Attestation G). attests a.signer a.signature) (λ (a : Attestation G). not (is_among failing a.signer)) waiting
      (λ a there passes. elim (are.others_attest a there) [
        | inl h ↦ h
        | inr listed ↦ absurd (among-not failing a.signer (not-true (is_among failing a.signer) passes) listed)
      ]))

  -- those left are of distinct members
  pub left-distinct : AreDistinct (verified ++ waiting) → AreDistinct (verified ++ without failing waiting)
  left-distinct = AllPairs-fewer (λ (a b : Attestation G). a.signer ≢ b.signer) (λ (a : Attestation G). not (is_among failing a.signer)) verified waiting
