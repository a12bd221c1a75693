-- The line of a message: its kind, then what stands in it, from left to right.
use Rattle.std.specs.Prelude.{ℕ, Bool, List, ◌++◌, codes}
use Rattle.std.specs.List.{flat_map}
use Rattle.std.specs.Fmt.{decimal}
use Rattle.hex.specs.Hex.{encode_lower}
use Rattle.types_core.specs.declared.attestation.Attestation.{Attestation}
use Rattle.types_core.specs.declared.position.Round.{Round}
use Rattle.types_core.specs.declared.proposal.Proposal.{Proposal}
use Rattle.messages_certificates.specs.declared.artifact.Artifact.{Artifact}
use Rattle.messages_certificates.specs.declared.artifact.Artifact.TheVariants as artifact
use Rattle.messages_certificates.specs.declared.nullification.Nullification.{Nullification}
use Rattle.messages_certificates.specs.declared.nullify.Nullify.{Nullify}
use Rattle.messages_certificates.specs.declared.proposal_certificate.ProposalCertificate.{ProposalCertificate}
use Rattle.messages_certificates.specs.declared.proposal_vote.ProposalVote.{ProposalVote}
use Rattle.messages_certificates.specs.ProposalVote.{Finalize}
use Rattle.simplex_messages.specs.declared.activity.Activity.{Activity}
use Rattle.simplex_messages.specs.declared.activity.Activity.TheVariants as activity
use Rattle.cli_tool.specs.declared.style.Style.{Style}
use Rattle.cli_tool.specs.Parts.{kind_words, field, line_end, round_fields, signature_field, truth_word}

-- what a proposal says beside its round, under these names
unfoldable pub named_choice : Style → List ℕ → List ℕ → Proposal (List ℕ) → List ℕ
named_choice style parent payload p = field style parent (decimal p.parent) ++ field style payload (encode_lower p.payload)

-- a proposal
unfoldable pub proposal_fields : Style → Proposal (List ℕ) → List ℕ
proposal_fields style p = round_fields style p.round ++ named_choice style (codes "parent") (codes "payload") p

-- who signed, and the signature
unfoldable pub signed_fields : Style → Attestation (List ℕ) → List ℕ
signed_fields style a = field style (codes "signer") (decimal a.signer) ++ field style (codes "signature") (encode_lower a.signature)

-- what the second of two votes says beside the round and the signer
unfoldable pub other_fields : Style → Proposal (List ℕ) → List ℕ → List ℕ
other_fields style p signature = named_choice style (codes "other-parent") (codes "other-payload") p ++ field style (codes "other-signature") (encode_lower signature)

-- the line of a verdict
unfoldable pub verdict_line : Style → Round → Bool → List ℕ
verdict_line style round verdict = kind_words style (codes "certification") ++ (round_fields style round ++ (field style (codes "verdict") (truth_word verdict) ++ line_end style))

-- messages of a scheme whose certificates are lists of attestations
module _ {S P : Type 0} where
  -- the line of a vote on a proposal
  unfoldable pub vote_line : {K : Type 0} → Style → List ℕ → ProposalVote K S (List ℕ) P (List ℕ) (List (Attestation (List ℕ))) → List ℕ
  vote_line style kind v = kind_words style kind ++ (proposal_fields style v.proposal ++ (signed_fields style v.attestation ++ line_end style))

  -- the line of a vote to give a round up
  unfoldable pub nullify_line : Style → Nullify S (List ℕ) P (List ℕ) (List (Attestation (List ℕ))) → List ℕ
  nullify_line style v = kind_words style (codes "nullify") ++ (round_fields style v.round ++ (signed_fields style v.attestation ++ line_end style))

  -- the line of a certificate for a proposal: each attestation that it lists has its name
  unfoldable pub certificate_line : {K : Type 0} → Style → List ℕ → ProposalCertificate K S (List ℕ) P (List ℕ) (List (Attestation (List ℕ))) → List ℕ
  certificate_line style kind c = kind_words style kind ++ (proposal_fields style c.proposal ++ (flat_map (signature_field style) c.certificate ++ line_end style))

  -- the line of a certificate that a round is given up
  unfoldable pub nullification_line : Style → Nullification S (List ℕ) P (List ℕ) (List (Attestation (List ℕ))) → List ℕ
  nullification_line style c = kind_words style (codes "nullification") ++ (round_fields style c.round ++ (flat_map (signature_field style) c.certificate ++ line_end style))

  -- the line of two votes of one signer for different proposals of one round
  unfoldable pub conflicting_line : {K : Type 0} → Style → List ℕ → ProposalVote K S (List ℕ) P (List ℕ) (List (Attestation (List ℕ))) × ProposalVote K S (List ℕ) P (List ℕ) (List (Attestation (List ℕ))) → List ℕ
  conflicting_line style kind x = kind_words style kind ++ (proposal_fields style x.0.proposal ++ (signed_fields style x.0.attestation ++ (other_fields style x.1.proposal x.1.attestation.signature ++ line_end style)))

  -- the line of a nullify of one signer and its finalize for a proposal of the round
  unfoldable pub beside_line : Style → Nullify S (List ℕ) P (List ℕ) (List (Attestation (List ℕ))) × Finalize S (List ℕ) P (List ℕ) (List (Attestation (List ℕ))) → List ℕ
  beside_line style x = kind_words style (codes "nullify-finalize") ++ (round_fields style x.0.round ++ (signed_fields style x.0.attestation ++ (other_fields style x.1.proposal x.1.attestation.signature ++ line_end style)))

  -- the line of a report
  abbrev pub report_line : Style → Activity S (List ℕ) P (List ℕ) (List (Attestation (List ℕ))) → List ℕ
  report_line style (activity.Notarize v) = vote_line style (codes "notarize") v
  report_line style (activity.Notarization c) = certificate_line style (codes "notarization") c
  report_line style (activity.Certification c) = certificate_line style (codes "certified") c
  report_line style (activity.Nullify v) = nullify_line style v
  report_line style (activity.Nullification c) = nullification_line style c
  report_line style (activity.Finalize v) = vote_line style (codes "finalize") v
  report_line style (activity.Finalization c) = certificate_line style (codes "finalization") c
  report_line style (activity.ConflictingNotarize x) = conflicting_line style (codes "conflicting-notarize") x
  report_line style (activity.ConflictingFinalize x) = conflicting_line style (codes "conflicting-finalize") x
  report_line style (activity.NullifyFinalize x) = beside_line style x

  -- the line of an artifact
  abbrev pub artifact_line : Style → Artifact S (List ℕ) P (List ℕ) (List (Attestation (List ℕ))) → List ℕ
  artifact_line style (artifact.Notarize v) = vote_line style (codes "notarize") v
  artifact_line style (artifact.Notarization c) = certificate_line style (codes "notarization") c
  artifact_line style (artifact.Certification round verdict) = verdict_line style round verdict
  artifact_line style (artifact.Nullify v) = nullify_line style v
  artifact_line style (artifact.Nullification c) = nullification_line style c
  artifact_line style (artifact.Finalize v) = vote_line style (codes "finalize") v
  artifact_line style (artifact.Finalization c) = certificate_line style (codes "finalization") c
