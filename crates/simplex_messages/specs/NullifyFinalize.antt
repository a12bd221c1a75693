-- A nullify and a finalize of one signer and one round.
use Rattle.std.specs.Prelude.{◌≡◌, ℕ, true, List, ◌++◌, Result}
use Rattle.types_codec.specs.declared.codec.CodecError.{CodecError}
use Rattle.types_codec.specs.Codec.{IsCodec, both_at, checked_at, both-IsCodec, checked-IsCodec}
use Rattle.messages_certificates.specs.declared.nullify.Nullify.{Nullify}
use Rattle.messages_certificates.specs.StandsBeside.{stands_beside}
use Rattle.messages_certificates.specs.ProposalVote.{Finalize, vote_spelling, vote_fits, vote_at, vote-IsCodec}
use Rattle.messages_certificates.specs.Nullify.{nullify_spelling, nullify_fits, nullify_at, nullify-IsCodec}

-- votes of the scheme S on payloads D, with keys P, signatures G and certificates C
module _ {S D P G C : Type 0} where
  -- the bytes of evidence: the nullify, then the finalize
  unfoldable pub beside_spelling : (D → List ℕ) → (G → List ℕ) → Nullify S D P G C × Finalize S D P G C → List ℕ
  beside_spelling payload signature c = nullify_spelling signature c.0 ++ vote_spelling payload signature c.1

  -- two votes whose numbers fit their types, and which stand beside each other
  unfoldable pub beside_fits : (D → Type 0) → (G → Type 0) → Nullify S D P G C × Finalize S D P G C → Type 0
  beside_fits Q F c = (nullify_fits F c.0 × vote_fits Q F c.1) × (stands_beside c.0 c.1 ≡ true)

  -- the evidence at the front: two votes, refused once both are read unless they are of one signer and one round
  unfoldable pub beside_at : (List ℕ → Result (D × List ℕ) CodecError) → (List ℕ → Result (G × List ℕ) CodecError) → List ℕ
      → Result ((Nullify S D P G C × Finalize S D P G C) × List ℕ) CodecError
  beside_at payload signature = checked_at (λ c. stands_beside c.0 c.1) (both_at (nullify_at signature) (vote_at payload signature))

  -- evidence is read exactly where its bytes stand
  pub beside-IsCodec : {Q : D → Type 0} {p : D → List ℕ} {q : List ℕ → Result (D × List ℕ) CodecError} {F : G → Type 0} {f : G → List ℕ} {r : List ℕ → Result (G × List ℕ) CodecError}
      → IsCodec Q p q → IsCodec F f r → IsCodec (beside_fits Q F) (beside_spelling p f) (beside_at q r)
  unfolding beside_fits beside_spelling beside_at
  beside-IsCodec p r = checked-IsCodec (λ c. stands_beside c.0 c.1) (both-IsCodec (nullify-IsCodec r) (vote-IsCodec p r))
