-- The lines of text that an audit prints.
use Rattle.std.specs.Prelude.{ℕ, List, [], ◌∷◌, ◌++◌, codes, Option}
use Rattle.std.specs.Option.{option_map_or}
use Rattle.std.specs.List.{concat, flat_map}
use Rattle.std.specs.Fmt.{decimal}
use Rattle.hex.specs.Hex.{encode_lower}
use Rattle.types_core.specs.declared.proposal.Proposal.{Proposal}
use Rattle.types_core.specs.declared.position.Round.{Round}
use Rattle.messages_certificates.specs.declared.nullify.Nullify.{Nullify}
use Rattle.messages_certificates.specs.declared.proposal_vote.ProposalVote.{ProposalVote}
use Rattle.messages_certificates.specs.ProposalVote.{Finalize}
use Rattle.simplex_messages.specs.declared.activity.Activity.{Activity}
use Rattle.simplex_messages.specs.declared.activity.Activity.TheVariants as activity
use Rattle.cli_audit.specs.declared.trouble.Trouble.{Trouble}
use Rattle.cli_audit.specs.declared.trouble.Trouble.TheVariants.{Memory, Device, Write}

-- the code of the newline that ends each line
abbrev pub newline : List ℕ
newline = 10 ∷ []

-- a proposal in a line: the view of its parent, and its payload in hex digits
unfoldable pub proposal_words : Proposal (List ℕ) → List ℕ
proposal_words p = codes " parent " ++ (decimal p.parent ++ (codes " payload " ++ encode_lower p.payload))

-- what a line begins with: its word, then the round and the signer that the evidence is against
unfoldable pub accused_words : List ℕ → Round → ℕ → List ℕ
accused_words word round signer = word ++ (codes " epoch " ++ (decimal round.epoch ++ (codes " view " ++ (decimal round.view ++ (codes " signer " ++ decimal signer)))))

module _ {S P G C : Type 0} where
  -- the line for two votes of one signer for different proposals of one round
  unfoldable pub conflicting_line : {K : Type 0} → List ℕ → ProposalVote K S (List ℕ) P G C → ProposalVote K S (List ℕ) P G C → List ℕ
  conflicting_line word first second = accused_words word first.proposal.round first.attestation.signer ++ (proposal_words first.proposal ++ (proposal_words second.proposal ++ newline))

  -- the line for a nullify of one signer and its finalize for a proposal of the round
  unfoldable pub beside_line : Nullify S (List ℕ) P G C → Finalize S (List ℕ) P G C → List ℕ
  beside_line given_up finalized = accused_words (codes "nullify-finalize") given_up.round given_up.attestation.signer ++ (proposal_words finalized.proposal ++ newline)

  -- the line for a piece of evidence; what is none has no line
  abbrev pub evidence_line : Activity S (List ℕ) P G C → List ℕ
  evidence_line (activity.Notarize v) = []
  evidence_line (activity.Notarization c) = []
  evidence_line (activity.Certification c) = []
  evidence_line (activity.Nullify v) = []
  evidence_line (activity.Nullification c) = []
  evidence_line (activity.Finalize v) = []
  evidence_line (activity.Finalization c) = []
  evidence_line (activity.ConflictingNotarize x) = conflicting_line (codes "conflicting-notarize") x.0 x.1
  evidence_line (activity.ConflictingFinalize x) = conflicting_line (codes "conflicting-finalize") x.0 x.1
  evidence_line (activity.NullifyFinalize x) = beside_line x.0 x.1

-- the line for an input that stops being messages at a byte, counted from 0
unfoldable pub fault_line : ℕ → List ℕ
fault_line place = concat (codes "fault at byte " ∷ decimal place ∷ newline ∷ [])

-- the lines of an audit: one for each piece of evidence, and the fault's, if there is one
abbrev pub lines_of : {S P G C : Type 0} → List (Activity S (List ℕ) P G C) → Option ℕ → List ℕ
lines_of evidence fault = flat_map evidence_line evidence ++ option_map_or fault_line fault []

-- the line on standard error for what kept an audit from its answer
abbrev pub trouble_line : Trouble → List ℕ
trouble_line Memory = codes "error: memory" ++ newline
trouble_line Device = codes "error: device" ++ newline
trouble_line Write = codes "error: write" ++ newline

-- the line on standard error for words that are no command
abbrev pub usage_line : List ℕ
usage_line = codes "usage: simplex audit COUNT | simplex node RECORD INDEX COUNT" ++ newline
