-- What a vote of any kind is for.
use Rattle.std.specs.Prelude.{ℕ, ◌==◌, ◌&&◌, Bool, true, false, Option, None, Some}
use Rattle.types_core.specs.declared.attestation.Attestation.{Attestation}
use Rattle.types_core.specs.declared.proposal.Proposal.{Proposal}
use Rattle.simplex_messages.specs.declared.vote.Vote.{Vote}
use Rattle.simplex_messages.specs.declared.vote.Vote.TheVariants as vote
use Rattle.types_terms.specs.declared.kind.Kind.{Kind}
use Rattle.types_terms.specs.declared.kind.Kind.TheVariants.{Notarization, Nullification, Finalization}

-- the two kinds are one
abbrev pub is_kind : Kind → Kind → Bool
is_kind Notarization Notarization = true
is_kind Nullification Nullification = true
is_kind Finalization Finalization = true
is_kind a b = false

-- the proposals are one, under an equality of payloads
abbrev pub is_proposal : {D : Type 0} → (D → D → Bool) → Proposal D → Proposal D → Bool
is_proposal same p q = ((p.round.epoch == q.round.epoch) && (p.round.view == q.round.view)) && ((p.parent == q.parent) && same p.payload q.payload)

module _ {S D P G C : Type 0} where
  -- the kind of certificate that the vote counts for
  abbrev pub vote_kind : Vote S D P G C → Kind
  vote_kind (vote.Notarize v) = Notarization
  vote_kind (vote.Nullify v) = Nullification
  vote_kind (vote.Finalize v) = Finalization

  -- the proposal that the vote is for
  abbrev pub vote_proposal : Vote S D P G C → Option (Proposal D)
  vote_proposal (vote.Notarize v) = Some v.proposal
  vote_proposal (vote.Nullify v) = None
  vote_proposal (vote.Finalize v) = Some v.proposal

  -- the attestation of the vote
  abbrev pub vote_attestation : Vote S D P G C → Attestation G
  vote_attestation (vote.Notarize v) = v.attestation
  vote_attestation (vote.Nullify v) = v.attestation
  vote_attestation (vote.Finalize v) = v.attestation

  -- the vote is a notarize of this signer
  abbrev pub is_notarize_of : ℕ → Vote S D P G C → Bool
  is_notarize_of signer (vote.Notarize v) = v.attestation.signer == signer
  is_notarize_of signer v = false

  -- the vote is a nullify or a finalize of this signer
  abbrev pub is_other_of : ℕ → Vote S D P G C → Bool
  is_other_of signer (vote.Notarize v) = false
  is_other_of signer (vote.Nullify v) = v.attestation.signer == signer
  is_other_of signer (vote.Finalize v) = v.attestation.signer == signer

  -- the vote is a notarize of this signer, or a nullify or finalize of it
  abbrev pub is_of : Bool → ℕ → Vote S D P G C → Bool
  is_of true signer = is_notarize_of signer
  is_of false signer = is_other_of signer

  -- an accepted vote that stands in the way of this one: of its signer, and of its kind or, of nullify and finalize, of
  -- either
  abbrev pub is_in_way : Vote S D P G C → Vote S D P G C → Bool
  is_in_way (vote.Notarize v) = is_notarize_of v.attestation.signer
  is_in_way (vote.Nullify v) = is_other_of v.attestation.signer
  is_in_way (vote.Finalize v) = is_other_of v.attestation.signer

  -- the vote is a nullify, or for this proposal, where one is selected
  abbrev pub is_candidate : (D → D → Bool) → Option (Proposal D) → Vote S D P G C → Bool
  is_candidate same None v = true
  is_candidate same (Some p) (vote.Notarize v) = is_proposal same v.proposal p
  is_candidate same (Some p) (vote.Nullify v) = true
  is_candidate same (Some p) (vote.Finalize v) = is_proposal same v.proposal p
