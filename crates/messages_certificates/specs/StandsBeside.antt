-- When a nullify and a finalize stand beside each other.
use Rattle.std.specs.Prelude.{◌≡◌, ◌==◌, ◌&&◌, Bool}
use Rattle.messages_certificates.specs.declared.nullify.Nullify.{Nullify}
use Rattle.messages_certificates.specs.ProposalVote.{Finalize}

-- votes of the scheme S on payloads D, with keys P, signatures G and certificates C
module _ {S D P G C : Type 0} where
  -- a nullify and a finalize of one signer and one round
  pub record StandsBeside (x : Nullify S D P G C) (y : Finalize S D P G C) : Type 0 where
    pub one_round : x.round ≡ y.proposal.round
    pub one_signer : x.attestation.signer ≡ y.attestation.signer

  -- the same as a test
  abbrev pub stands_beside : Nullify S D P G C → Finalize S D P G C → Bool
  stands_beside x y =
      ((x.round.epoch == y.proposal.round.epoch) && (x.round.view == y.proposal.round.view)) && (x.attestation.signer == y.attestation.signer)
