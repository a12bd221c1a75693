-- Votes to give a round up: their bytes.
use Rattle.std.specs.Prelude.{ℕ, List, ◌++◌, Result, refl}
use Rattle.types_codec.specs.declared.codec.CodecError.{CodecError}
use Rattle.types_core.specs.declared.position.Round.{Round}
use Rattle.types_core.specs.declared.attestation.Attestation.{Attestation}
use Rattle.types_codec.specs.Codec.{IsCodec, both_at, as_at, both-IsCodec, as-IsCodec}
use Rattle.types_core.specs.Attestation.{attestation_spelling, attestation_fits, attestation_at, attestation-IsCodec}
use Rattle.types_core.specs.Round.{round_spelling, round_fits, round_at, round-IsCodec}
use Rattle.types_core.specs.Subject.{Statement, nullify}
use Rattle.messages_certificates.specs.declared.nullify.Nullify.{Nullify}

-- a nullify of the scheme S on payloads D, with keys P, signatures G and certificates C
module _ {S D P G C : Type 0} where
  -- a nullify from what is given up and who attests it
  abbrev pub nullify_of_parts : Round × Attestation G → Nullify S D P G C
  nullify_of_parts p = record { round = p.0; attestation = p.1 }

  -- what is given up, and who attests it
  abbrev pub nullify_parts : Nullify S D P G C → Round × Attestation G
  nullify_parts v = (v.round, v.attestation)

  -- a nullify's bytes: the round, then the attestation
  abbrev pub nullify_spelling : (G → List ℕ) → Nullify S D P G C → List ℕ
  nullify_spelling signature v = round_spelling v.round ++ attestation_spelling signature v.attestation

  -- a nullify whose numbers fit their types
  abbrev pub nullify_fits : (G → Type 0) → Nullify S D P G C → Type 0
  nullify_fits F v = round_fits v.round × attestation_fits F v.attestation

  -- the nullify at the front: a round, then an attestation
  abbrev pub nullify_at : (List ℕ → Result (G × List ℕ) CodecError) → List ℕ → Result (Nullify S D P G C × List ℕ) CodecError
  nullify_at signature = as_at nullify_of_parts (both_at round_at (attestation_at signature))

  -- a nullify is read exactly where its bytes stand
  pub nullify-IsCodec : {F : G → Type 0} {f : G → List ℕ} {r : List ℕ → Result (G × List ℕ) CodecError} → IsCodec F f r → IsCodec (nullify_fits F) (nullify_spelling f) (nullify_at r)
  nullify-IsCodec r = as-IsCodec nullify_of_parts nullify_parts (λ x. refl) (λ y. refl) (both-IsCodec round-IsCodec (attestation-IsCodec r))

  -- the nullify's attestation attests that its round is given up
  abbrev pub NullifyIsAttested : (ℕ → Statement D → G → Type 0) → Nullify S D P G C → Type 0
  NullifyIsAttested attests v = attests v.attestation.signer (nullify v.round) v.attestation.signature
