-- Certificates that a round is given up: their bytes, and what they are made of.
use Rattle.std.specs.Prelude.{ℕ, List, ◌++◌, Result, refl}
use Rattle.types_codec.specs.declared.codec.CodecError.{CodecError}
use Rattle.types_core.specs.declared.position.Round.{Round}
use Rattle.types_core.specs.declared.attestation.Attestation.{Attestation}
use Rattle.types_codec.specs.Codec.{IsCodec, Readable, both_at, as_at, both-IsCodec, as-IsCodec, said-IsCodec}
use Rattle.types_core.specs.Round.{round_spelling, round_fits, round_at, round-IsCodec}
use Rattle.types_core.specs.Subject.{Statement, nullify}
use Rattle.messages_certificates.specs.declared.nullify.Nullify.{Nullify}
use Rattle.messages_certificates.specs.declared.nullification.Nullification.{Nullification}
use Rattle.messages_certificates.specs.Assembly.{CanAssemble, IsMadeOf}

-- a nullification of the scheme S on payloads D, with keys P, signatures G and certificates C
module _ {S D P G C : Type 0} where
  -- a nullification from what is given up and what certifies it
  abbrev pub nullification_of_parts : Round × C → Nullification S D P G C
  nullification_of_parts p = record { round = p.0; certificate = p.1 }

  -- what is given up, and what certifies it
  abbrev pub nullification_parts : Nullification S D P G C → Round × C
  nullification_parts c = (c.round, c.certificate)

  -- a nullification's bytes: the round, then what certifies it
  unfoldable pub nullification_spelling : (C → List ℕ) → Nullification S D P G C → List ℕ
  nullification_spelling spelling c = round_spelling c.round ++ spelling c.certificate

  -- a nullification whose numbers fit their types
  unfoldable pub nullification_fits : (C → Type 0) → Nullification S D P G C → Type 0
  nullification_fits F c = round_fits c.round × F c.certificate

  -- the nullification at the front: a round, then what certifies it
  unfoldable pub nullification_at : (List ℕ → Result (C × List ℕ) CodecError) → List ℕ
      → Result (Nullification S D P G C × List ℕ) CodecError
  nullification_at reading = as_at nullification_of_parts (both_at round_at reading)

  -- a nullification is read exactly where its bytes stand
  pub nullification-IsCodec : {F W : C → Type 0} {f : C → List ℕ} {r : List ℕ → Result (C × List ℕ) CodecError}
      → IsCodec (Readable F W) f r → IsCodec (Readable (nullification_fits F) (λ c. W c.certificate)) (nullification_spelling f) (nullification_at r)
  unfolding nullification_fits nullification_spelling nullification_at
  nullification-IsCodec r = said-IsCodec (as-IsCodec nullification_of_parts nullification_parts (λ x. refl) (λ y. refl) (both-IsCodec round-IsCodec r))
      (λ x h. ((h.0, h.1.0), h.1.1))
      (λ x h. (h.0.0, (h.0.1, h.1)))

  -- votes on one round by distinct members of a committee of n, one or more
  abbrev pub CanNullify : ℕ → List (Nullify S D P G C) → Type 0
  CanNullify n votes = CanAssemble (λ v. v.round) (λ v. v.attestation) n votes

  -- the nullification was made of these votes
  abbrev pub IsNullificationOf : (ℕ → Statement D → G → Type 0) → (Statement D → C → Type 0) → (C → List (Attestation G)) → Type 0 → List (Nullify S D P G C) → Nullification S D P G C → Type 0
  IsNullificationOf attests certifies lists Enumerates votes c = IsMadeOf (λ v. v.round) (λ v. v.attestation) nullify attests certifies lists Enumerates votes c.round c.certificate
