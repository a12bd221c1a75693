use Rattle.messages_certificates.proofs.proposal_certificate.ProposalCertificate.from_votes.Goals as goal

pub returns-clause-made : goal.returns-clause-made
returns-clause-made g c = rw (c.new.ensures.proposal, c.new.ensures.certificate) (c.in_ok-proposal.ensures.made g.K.ProposalKind.states)
