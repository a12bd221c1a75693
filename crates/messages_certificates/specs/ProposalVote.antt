-- Votes on a proposal: their bytes, and when two of them contradict each other.
use Rattle.std.specs.Prelude.{◌≡◌, ◌≢◌, ℕ, ◌==◌, ◌&&◌, Bool, not, List, ◌++◌, Result, refl}
use Rattle.types_codec.specs.declared.codec.CodecError.{CodecError}
use Rattle.types_core.specs.declared.proposal.Proposal.{Proposal}
use Rattle.types_core.specs.declared.attestation.Attestation.{Attestation}
use Rattle.types_codec.specs.Codec.{IsCodec, both_at, as_at, both-IsCodec, as-IsCodec}
use Rattle.types_core.specs.Attestation.{attestation_spelling, attestation_fits, attestation_at, attestation-IsCodec}
use Rattle.types_core.specs.Proposal.{proposal_spelling, proposal_fits, proposal_at, proposal-IsCodec}
use Rattle.types_core.specs.Subject.{Statement}
use Rattle.messages_certificates.specs.declared.kind.Notarizing.{Notarizing}
use Rattle.messages_certificates.specs.declared.kind.Finalizing.{Finalizing}
use Rattle.messages_certificates.specs.declared.proposal_vote.ProposalVote.{ProposalVote}

-- a vote to certify a proposal for its round
abbrev pub Notarize : (S D P G C : Type 0) → Type 0
Notarize S D P G C = ProposalVote Notarizing S D P G C

-- a vote to finalize a proposal
abbrev pub Finalize : (S D P G C : Type 0) → Type 0
Finalize S D P G C = ProposalVote Finalizing S D P G C

-- a vote of the kind K and the scheme S on payloads D, with keys P, signatures G and certificates C
module _ {K S D P G C : Type 0} where
  -- a vote from what is voted for and who attests it
  abbrev pub vote_of_parts : Proposal D × Attestation G → ProposalVote K S D P G C
  vote_of_parts p = record { proposal = p.0; attestation = p.1; kind = record {} }

  -- what is voted for, and who attests it
  abbrev pub vote_parts : ProposalVote K S D P G C → Proposal D × Attestation G
  vote_parts v = (v.proposal, v.attestation)

  -- a vote's bytes: the proposal, then the attestation
  abbrev pub vote_spelling : (D → List ℕ) → (G → List ℕ) → ProposalVote K S D P G C → List ℕ
  vote_spelling payload signature v = proposal_spelling payload v.proposal ++ attestation_spelling signature v.attestation

  -- a vote whose numbers fit their types
  abbrev pub vote_fits : (D → Type 0) → (G → Type 0) → ProposalVote K S D P G C → Type 0
  vote_fits Q F v = proposal_fits Q v.proposal × attestation_fits F v.attestation

  -- the vote at the front: a proposal, then an attestation
  abbrev pub vote_at : (List ℕ → Result (D × List ℕ) CodecError) → (List ℕ → Result (G × List ℕ) CodecError) → List ℕ
      → Result (ProposalVote K S D P G C × List ℕ) CodecError
  vote_at payload signature = as_at vote_of_parts (both_at (proposal_at payload) (attestation_at signature))

  -- a vote is read exactly where its bytes stand
  pub vote-IsCodec : {Q : D → Type 0} {p : D → List ℕ} {q : List ℕ → Result (D × List ℕ) CodecError} {F : G → Type 0} {f : G → List ℕ} {r : List ℕ → Result (G × List ℕ) CodecError}
      → IsCodec Q p q → IsCodec F f r → IsCodec (vote_fits Q F) (vote_spelling p f) (vote_at q r)
  vote-IsCodec p r = as-IsCodec vote_of_parts vote_parts (λ x. refl) (λ y. refl) (both-IsCodec (proposal-IsCodec p) (attestation-IsCodec r))

  -- the vote's attestation attests what a vote of its kind states
  abbrev pub IsAttested : (Proposal D → Statement D) → (ℕ → Statement D → G → Type 0) → ProposalVote K S D P G C → Type 0
  IsAttested states attests v = attests v.attestation.signer (states v.proposal) v.attestation.signature

  -- two votes of one signer and one round for different proposals
  pub record Contradict (x y : ProposalVote K S D P G C) : Type 0 where
    pub one_round : x.proposal.round ≡ y.proposal.round
    pub one_signer : x.attestation.signer ≡ y.attestation.signer
    pub two_proposals : x.proposal ≢ y.proposal

  -- the same as a test, under an equality of payloads
  abbrev pub contradict : (D → D → Bool) → ProposalVote K S D P G C → ProposalVote K S D P G C → Bool
  contradict same x y =
      ((x.proposal.round.epoch == y.proposal.round.epoch) && (x.proposal.round.view == y.proposal.round.view))
      && (x.attestation.signer == y.attestation.signer)
      && not ((x.proposal.parent == y.proposal.parent) && same x.proposal.payload y.proposal.payload)
