-- Two votes that contradict each other.
use Rattle.std.specs.Prelude.{◌≡◌, ℕ, Bool, true, List, ◌++◌, Result}
use Rattle.types_codec.specs.declared.codec.CodecError.{CodecError}
use Rattle.types_codec.specs.Codec.{IsCodec, both_at, checked_at, both-IsCodec, checked-IsCodec}
use Rattle.messages_certificates.specs.declared.proposal_vote.ProposalVote.{ProposalVote}
use Rattle.messages_certificates.specs.ProposalVote.{vote_spelling, vote_fits, vote_at, vote-IsCodec, contradict}

-- evidence of the kind K and the scheme S on payloads D, with keys P, signatures G and certificates C
module _ {K S D P G C : Type 0} where
  -- the bytes of evidence: the first vote, then the second
  unfoldable pub conflicting_spelling : (D → List ℕ) → (G → List ℕ) → ProposalVote K S D P G C × ProposalVote K S D P G C → List ℕ
  conflicting_spelling payload signature c = vote_spelling payload signature c.0 ++ vote_spelling payload signature c.1

  -- two votes whose numbers fit their types, and which contradict each other
  unfoldable pub conflicting_fits : (D → D → Bool) → (D → Type 0) → (G → Type 0) → ProposalVote K S D P G C × ProposalVote K S D P G C
      → Type 0
  conflicting_fits same Q F c = (vote_fits Q F c.0 × vote_fits Q F c.1) × (contradict same c.0 c.1 ≡ true)

  -- the evidence at the front: two votes, refused once both are read unless they contradict each other
  unfoldable pub conflicting_at : (D → D → Bool) → (List ℕ → Result (D × List ℕ) CodecError)
      → (List ℕ → Result (G × List ℕ) CodecError) → List ℕ
      → Result ((ProposalVote K S D P G C × ProposalVote K S D P G C) × List ℕ) CodecError
  conflicting_at same payload signature = checked_at (λ c. contradict same c.0 c.1) (both_at (vote_at payload signature) (vote_at payload signature))

  -- evidence is read exactly where its bytes stand
  pub conflicting-IsCodec : {Q : D → Type 0} {p : D → List ℕ} {q : List ℕ → Result (D × List ℕ) CodecError} {F : G → Type 0} {f : G → List ℕ} {r : List ℕ → Result (G × List ℕ) CodecError}
      (same : D → D → Bool) → IsCodec Q p q → IsCodec F f r → IsCodec (conflicting_fits same Q F) (conflicting_spelling p f) (conflicting_at same q r)
  unfolding conflicting_fits conflicting_spelling conflicting_at
  conflicting-IsCodec same p r = checked-IsCodec (λ c. contradict same c.0 c.1) (both-IsCodec (vote-IsCodec p r) (vote-IsCodec p r))
