-- What is told of certificates.
use Rattle.std.specs.Prelude.{◌≡◌, ℕ, List, replicate, Option, Some, None}
use Rattle.types_core.specs.declared.position.Round.{Round}
use Rattle.types_core.specs.declared.proposal.Proposal.{Proposal}
use Rattle.cli_settings.specs.declared.setting.Committee.{Committee}
use Rattle.cli_light.specs.declared.certifying.Certified.{Certified}
use Rattle.cli_light.specs.declared.certifying.Certified.TheVariants as certified
use Rattle.cli_light.specs.declared.certifying.Uncertified.{Uncertified}
use Rattle.cli_light.specs.declared.certifying.Uncertified.TheVariants as uncertified
use Rattle.cli_light.specs.declared.chain.Broken.{Broken}
use Rattle.cli_light.specs.Certifying.{Answers}
use Rattle.cli_light.specs.Chain.{IsBroken}
use Rattle.simplex_c.specs.Answers.{refusal_number}
use Rattle.simplex_c.specs.declared.light.CertifiedNumbers.{CertifiedNumbers}

-- a proposal that is certified, by the kind of its certificate
abbrev pub proposal_numbers : ℕ → Proposal (List ℕ) → CertifiedNumbers
proposal_numbers kind p = record { kind = kind; epoch = p.round.epoch; view = p.round.view; parent = p.parent; payload = p.payload }

-- a round that is given up
abbrev pub round_numbers : Round → CertifiedNumbers
round_numbers r = record { kind = 1; epoch = r.epoch; view = r.view; parent = 0; payload = replicate 32 0 }

-- what a certificate certifies: 0 and 2 a proposal, 1 a round alone
abbrev pub certified_numbers : Certified → CertifiedNumbers
certified_numbers (certified.Notarization p) = proposal_numbers 0 p
certified_numbers (certified.Nullification r) = round_numbers r
certified_numbers (certified.Finalization p) = proposal_numbers 2 p

-- the answer of why bytes certify nothing
abbrev pub uncertified_number : Uncertified → ℕ
uncertified_number (uncertified.Unread why) = refusal_number why
uncertified_number uncertified.OtherEpoch = 15
uncertified_number uncertified.NotCertifying = 16

-- and of why a chain goes on no more: of another kind, or of no later view
abbrev pub broken_number : Option Uncertified → ℕ
broken_number None = 17
broken_number (Some why) = uncertified_number why

-- bytes certify nothing for these members, and this is the answer
abbrev pub CertifiesNot : Committee → List ℕ → ℕ → Type 0
CertifiesNot c bytes answer = (why : Uncertified) × Answers c bytes why × (answer ≡ uncertified_number why)

-- a chain breaks off at this place, and this is the answer
abbrev pub BreaksOff : Committee → List ℕ → ℕ → ℕ → Type 0
BreaksOff c bytes place answer = (broken : Broken) × IsBroken c bytes broken × (place ≡ broken.place) × (answer ≡ broken_number broken.why)
