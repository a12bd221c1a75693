-- The votes that are held, wherever they lie in memory.
use Rattle.std.specs.Prelude.{List, [], ◌∷◌}
use Rattle.types_core.specs.declared.attestation.Attestation.{Attestation}
use Rattle.messages_certificates.specs.declared.nullify.Nullify.{Nullify}
use Rattle.messages_certificates.specs.declared.proposal_vote.ProposalVote.{ProposalVote}
use Rattle.simplex_messages.specs.Guilt.{nullifies_listed, votes_listed}
use Rattle.audit_evidence.specs.declared.held.HeldNullifies.{HeldNullifies}
use Rattle.audit_evidence.specs.declared.held.HeldNullifies.TheVariants as nullifies
use Rattle.audit_evidence.specs.declared.held.HeldVotes.{HeldVotes}
use Rattle.audit_evidence.specs.declared.held.HeldVotes.TheVariants as votes

-- by the attestations that certificates list
module _ {S D P G C : Type 0} (lists : C → List (Attestation G)) where
  -- the votes on proposals that are held, in the order of their bytes
  abbrev pub votes_held : {K : Type 0} → HeldVotes K S D P G C → List (ProposalVote K S D P G C)
  votes_held votes.Nothing = []
  votes_held (votes.One v) = v.now ∷ []
  votes_held (votes.Listed c) = votes_listed lists c.now
  votes_held (votes.Both x) = x.now.0 ∷ x.now.1 ∷ []

  -- the nullifies that are held
  abbrev pub nullifies_held : HeldNullifies S D P G C → List (Nullify S D P G C)
  nullifies_held nullifies.Nothing = []
  nullifies_held (nullifies.One v) = v.now ∷ []
  nullifies_held (nullifies.Listed c) = nullifies_listed lists c.now
