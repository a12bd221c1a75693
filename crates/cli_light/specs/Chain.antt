-- Chains of finalizations as bytes.
use Rattle.std.specs.Prelude.{◌≡◌, ◌⊎◌, ◌<◌, ◌+◌, ℕ, List, [], ◌∷◌, length, Ok, Err, Option, None, Some}
use Rattle.types_codec.specs.declared.codec.CodecError.{CodecError}
use Rattle.types_codec.specs.declared.codec.CodecError.TheVariants as trouble
use Rattle.types_core.specs.declared.proposal.Proposal.{Proposal}
use Rattle.types_core.specs.Subject.{finalize}
use Rattle.messages_certificates.specs.Certificate.{certificate_round, certificate_statement}
use Rattle.cli_settings.specs.declared.setting.Committee.{Committee}
use Rattle.cli_light.specs.declared.certifying.Uncertified.{Uncertified}
use Rattle.cli_light.specs.declared.certifying.Uncertified.TheVariants as uncertified
use Rattle.cli_light.specs.declared.chain.Broken.{Broken}
use Rattle.cli_light.specs.Certifying.{Fails, IsSigned, PlainCertificate, plain_certificate_at}

-- the view of the last of these proposals, or this one where there is none
abbrev pub last_view : ℕ → List (Proposal (List ℕ)) → ℕ
last_view above [] = above
last_view above (p ∷ ps) = last_view p.round.view ps

module _ (c : Committee) where
  -- the certificate is a finalization of the proposal by these members in their epoch, in a view above this one
  pub record MakesFinal (above : ℕ) (it : PlainCertificate) (p : Proposal (List ℕ)) : Type 0 where
    pub says : certificate_statement it ≡ finalize p
    pub of_epoch : (certificate_round it).epoch ≡ c.epoch
    pub signed : IsSigned c it
    pub later : above < p.round.view

  -- such a certificate stands at the front of the bytes, and these behind it
  abbrev pub Follows : ℕ → List ℕ → Proposal (List ℕ) → List ℕ → Type 0
  Follows above bytes p rest = (it : PlainCertificate) × (plain_certificate_at c.members bytes ≡ Ok (it, rest)) × MakesFinal above it p

  -- why the certificate makes nothing final in a view above this one: it fails, or it is of another kind or of no later view
  abbrev pub FailsFinal : ℕ → PlainCertificate → Option Uncertified → Type 0
  FailsFinal above it None = (p : Proposal (List ℕ)) → ¬ MakesFinal above it p
  FailsFinal above it (Some why) = Fails c it why

  -- why none follows: memory ran out, the trouble of reading one, or one stands there and fails
  abbrev pub Breaks : ℕ → List ℕ → Option Uncertified → Type 0
  Breaks above bytes why =
      ((first : CodecError) × (why ≡ Some (uncertified.Unread first)) × ((first ≡ trouble.Memory) ⊎ (plain_certificate_at c.members bytes ≡ Err first)))
      ⊎ ((it : PlainCertificate) × (rest : List ℕ) × (plain_certificate_at c.members bytes ≡ Ok (it, rest)) × FailsFinal above it why)

  -- such certificates stand one behind another, each in a view above the one before, and these bytes behind them
  abbrev pub IsChain : ℕ → List ℕ → List (Proposal (List ℕ)) → List ℕ → Type 0
  IsChain above bytes [] rest = bytes ≡ rest
  IsChain above bytes (p ∷ ps) rest = (next : List ℕ) × Follows above bytes p next × IsChain p.round.view next ps rest

  -- a chain goes up to a place, where none follows
  pub record IsBroken (bytes : List ℕ) (broken : Broken) : Type 0 where
    pub proposals : List (Proposal (List ℕ))
    pub rest : List ℕ
    pub chain : IsChain 0 bytes proposals rest
    pub place : broken.place + length rest ≡ length bytes
    pub why : Breaks (last_view 0 proposals) rest broken.why
