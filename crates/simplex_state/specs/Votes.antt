-- Which signed votes are a member's own.
use Rattle.std.specs.Prelude.{◌≡◌, ℕ, Some}
use Rattle.types_core.specs.declared.scheme.Scheme.{Ghosts}
use Rattle.types_core.specs.declared.proposal.Proposal.{Proposal}
use Rattle.types_core.specs.Subject.{Statement}
use Rattle.messages_certificates.specs.declared.nullify.Nullify.{Nullify}
use Rattle.messages_certificates.specs.declared.proposal_vote.ProposalVote.{ProposalVote}
use Rattle.messages_certificates.specs.Nullify.{NullifyIsAttested}
use Rattle.messages_certificates.specs.ProposalVote.{IsAttested}
use Rattle.voter_history.specs.History.{Setup}

module _ {S D P G C : Type 0} where
  -- a vote on a proposal is in this member's name, and attests what a vote of its kind states
  pub record IsOwn {K : Type 0} (g : Ghosts S D P G C) (s : Setup S C) (states : Proposal D → Statement D) (v : ProposalVote K S D P G C) : Type 0 where
    pub signer : s.me ≡ Some v.attestation.signer
    pub attests : IsAttested states (g.attests s.scheme) v

  -- so is a vote to give this view up
  pub record IsOwnNullify (g : Ghosts S D P G C) (s : Setup S C) (view : ℕ) (v : Nullify S D P G C) : Type 0 where
    pub round : v.round ≡ record { epoch = s.epoch; view = view }
    pub signer : s.me ≡ Some v.attestation.signer
    pub attests : NullifyIsAttested (g.attests s.scheme) v
