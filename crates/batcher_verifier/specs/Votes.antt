-- What a vote or a certificate of any kind is for.
use Rattle.std.specs.Prelude.{Option, None, Some}
use Rattle.types_core.specs.declared.proposal.Proposal.{Proposal}
use Rattle.types_core.specs.Subject.{Statement, notarize, nullify, finalize}
use Rattle.simplex_messages.specs.declared.vote.Vote.{Vote}
use Rattle.simplex_messages.specs.declared.vote.Vote.TheVariants as vote
use Rattle.messages_certificates.specs.declared.certificate.Certificate.{Certificate}
use Rattle.messages_certificates.specs.declared.certificate.Certificate.TheVariants as certificate
use Rattle.types_terms.specs.declared.kind.Kind.{Kind}
use Rattle.types_terms.specs.declared.kind.Kind.TheVariants.{Notarization, Nullification, Finalization}
pub use Rattle.batcher_rows.specs.Votes.{is_kind, is_proposal, vote_kind, vote_proposal, vote_attestation, is_notarize_of, is_other_of, is_of, is_in_way}

module _ {S D P G C : Type 0} where
  -- what the vote states
  abbrev pub vote_statement : Vote S D P G C → Statement D
  vote_statement (vote.Notarize v) = notarize v.proposal
  vote_statement (vote.Nullify v) = nullify v.round
  vote_statement (vote.Finalize v) = finalize v.proposal

  -- the proposal that a notarize is for
  abbrev pub notarized_proposal : Vote S D P G C → Option (Proposal D)
  notarized_proposal (vote.Notarize v) = Some v.proposal
  notarized_proposal (vote.Nullify v) = None
  notarized_proposal (vote.Finalize v) = None

  -- the proposal that an own vote fixes: that of a finalize
  abbrev pub fixed_proposal : Vote S D P G C → Option (Proposal D)
  fixed_proposal (vote.Notarize v) = None
  fixed_proposal (vote.Nullify v) = None
  fixed_proposal (vote.Finalize v) = Some v.proposal

  -- the kind of a certificate
  abbrev pub certificate_kind : Certificate S D P G C → Kind
  certificate_kind (certificate.Notarization c) = Notarization
  certificate_kind (certificate.Nullification c) = Nullification
  certificate_kind (certificate.Finalization c) = Finalization

  -- the proposal that a certificate is for
  abbrev pub certificate_proposal : Certificate S D P G C → Option (Proposal D)
  certificate_proposal (certificate.Notarization c) = Some c.proposal
  certificate_proposal (certificate.Nullification c) = None
  certificate_proposal (certificate.Finalization c) = Some c.proposal
