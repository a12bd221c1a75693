-- What certificates are made of: votes of one kind, each a content and its signer's attestation.
use Rattle.std.specs.Prelude.{◌≡◌, ◌≢◌, ◌<◌, ℕ, List, length, map, All, AllPairs, Contains}
use Rattle.types_core.specs.declared.attestation.Attestation.{Attestation}
use Rattle.types_core.specs.Subject.{Statement}

module _ {V X G : Type 0} (content : V → X) (attestation : V → Attestation G) where
  -- votes that a certificate can be made of: one or more, on one content, by distinct members of a committee of n
  pub record CanAssemble (n : ℕ) (votes : List V) : Type 0 where
    pub some : 0 < length votes
    pub one_content : AllPairs (λ u v. content u ≡ content v) votes
    pub distinct : AllPairs (λ u v. (attestation u).signer ≢ (attestation v).signer) votes
    pub members : All (λ v. (attestation v).signer < n) votes

  -- what was made of the votes is on their content, certifies where each attests, and lists only their attestations, and all of them where certificates enumerate what they are made of
  pub record IsMadeOf {D C : Type 0} (states : X → Statement D) (attests : ℕ → Statement D → G → Type 0) (certifies : Statement D → C → Type 0) (lists : C → List (Attestation G)) (Enumerates : Type 0) (votes : List V) (x : X) (made : C) : Type 0 where
    pub content_is : All (λ v. content v ≡ x) votes
    pub does_certify : All (λ v. attests (attestation v).signer (states (content v)) (attestation v).signature) votes → certifies (states x) made
    pub only_given : (a : Attestation G) → Contains (lists made) a → Contains (map attestation votes) a
    pub all_given : Enumerates → (a : Attestation G) → Contains (map attestation votes) a → Contains (lists made) a
