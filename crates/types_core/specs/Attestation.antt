-- Attestations as bytes.
use Rattle.std.specs.Prelude.{ℕ, ◌≤◌, List, ◌++◌, Result, refl}
use Rattle.types_codec.specs.declared.codec.CodecError.{CodecError}
use Rattle.types_core.specs.declared.attestation.Attestation.{Attestation}
use Rattle.types_codec.specs.Codec.{IsCodec, both_at, as_at, both-IsCodec, as-IsCodec}
use Rattle.types_codec.specs.Varint.{varint, varint_at, varint-IsCodec, max_u32}

module _ {G : Type 0} where
  -- the attestation of a signer and a signature
  abbrev pub attestation_of : ℕ × G → Attestation G
  attestation_of p = record { signer = p.0; signature = p.1 }

  -- an attestation's signer and signature
  abbrev pub attestation_parts : Attestation G → ℕ × G
  attestation_parts a = (a.signer, a.signature)

  -- an attestation as bytes: signer, signature
  abbrev pub attestation_spelling : (G → List ℕ) → Attestation G → List ℕ
  attestation_spelling signature a = varint a.signer ++ signature a.signature

  -- the signer's index has 32 bits, and the signature is one that can be spelled
  abbrev pub attestation_fits : (G → Type 0) → Attestation G → Type 0
  attestation_fits F a = (a.signer ≤ max_u32) × F a.signature

  -- reading an attestation: the signer, then the signature
  abbrev pub attestation_at : (List ℕ → Result (G × List ℕ) CodecError) → List ℕ → Result (Attestation G × List ℕ) CodecError
  attestation_at signature = as_at attestation_of (both_at (varint_at max_u32) signature)

  -- each attestation has one spelling
  pub attestation-IsCodec : {F : G → Type 0} {f : G → List ℕ} {r : List ℕ → Result (G × List ℕ) CodecError} → IsCodec F f r → IsCodec (attestation_fits F) (attestation_spelling f) (attestation_at r)
  attestation-IsCodec p = as-IsCodec attestation_of attestation_parts (λ x. refl) (λ y. refl) (both-IsCodec (varint-IsCodec max_u32) p)
