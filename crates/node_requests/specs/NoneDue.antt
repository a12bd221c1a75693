-- That nothing of a kind is left to be asked.
use Rattle.std.specs.Prelude.{◌≡◌, ◌<◌, ℕ, Bool, Option, Some, None}
use Rattle.types_core.specs.declared.context.Context.{Context}
use Rattle.types_core.specs.declared.proposal.Proposal.{Proposal}
use Rattle.types_core.specs.declared.scheme.Scheme.{Ghosts}
use Rattle.voter_history.specs.declared.timeout_reason.TimeoutReason.TheVariants as reason
use Rattle.voter_rules.specs.Requests.{NoBuildIsDue, VerifyIsDue, CertifyIsDue, IsPutOff}
use Rattle.voter_laws.specs.Missing.{IsMissing}
use Rattle.simplex_resolver.specs.declared.ask.Ask.{Ask}
use Rattle.simplex_resolver.specs.declared.ask.Kind as repair
use Rattle.simplex_member.specs.Allowed.{AskIsDue, IsGivenBack, LatchIsDue}
use Rattle.simplex_member.specs.Asked.{HasNumber, IsPending, backfill, build_at}
use Rattle.simplex_member.specs.Layers.{current_of, known_of}
use Rattle.simplex_member.specs.Packet.{Formats}
use Rattle.simplex_member.specs.Point.{History}
use Rattle.simplex_member.specs.Setup.{Setup, member_of}

module _ {S D P G C : Type 0} (g : Ghosts S D P G C) (f : Formats S D P G C) (s : Setup S D C) where
  -- no build is to be asked for, while a number is left
  abbrev pub NoBuildToAsk : History S D P G C → Type 0
  NoBuildToAsk h = HasNumber h → NoBuildIsDue (member_of s) (known_of s h)

  -- no build that stands is to be given back, and none is left behind
  pub record NoBuildToGiveBack (h : History S D P G C) : Type 0 where
    pub no_return : (number : ℕ) (handoff : Bool) (context : Context D P) → build_at h number ≡ Some (handoff, context) → ¬ IsGivenBack g f s h handoff context
    pub none_behind : (number : ℕ) (handoff : Bool) (context : Context D P) → build_at h number ≡ Some (handoff, context) → ¬ (context.round.view < current_of s h)

  -- no verdict is to be asked for, and none is to be put off: so no notarization is to be asked for, for which one waits
  pub record NoVerdictToAsk (h : History S D P G C) : Type 0 where
    pub no_certify : (p : Proposal D) → ¬ CertifyIsDue (member_of s) (known_of s h) p.round.view p
    pub none_put_off : (view required : ℕ) → ¬ IsPutOff (member_of s) (known_of s h) view required

  -- no view is to be given up for a proposal that can never stand
  abbrev pub NoInvalidProposal : History S D P G C → Type 0
  NoInvalidProposal h = (view : ℕ) → ¬ LatchIsDue g f s h view reason.InvalidProposal

  -- the same; and while a number is left, no verification is to be asked for, and no proposal lacks a certificate to be asked for
  pub record NoVerificationToAsk (h : History S D P G C) : Type 0 where
    pub none_invalid : NoInvalidProposal h
    pub no_verify : HasNumber h → (view : ℕ) (p : Proposal D) (payload : D) → ¬ VerifyIsDue (member_of s) (known_of s h) view p payload
    pub none_missing : HasNumber h → (view u : ℕ) (kind : repair.Kind) → ¬ IsMissing (member_of s) (known_of s h) view kind u

  -- no view is to be asked for of all, to leave it behind
  abbrev pub NoViewToAsk : History S D P G C → Type 0
  NoViewToAsk h = (view : ℕ) → ¬ AskIsDue g f s h view backfill None

  -- nothing is to be asked again that was asked until a finalization
  abbrev pub NoneToAskAgain : History S D P G C → Type 0
  NoneToAskAgain h = (view : ℕ) (ask : Ask) (to : Option ℕ) → IsPending h view ask to → ¬ AskIsDue g f s h view ask to

  -- that a leader is silent is no reason that is due
  abbrev pub NoSilence : History S D P G C → Type 0
  NoSilence h = (view : ℕ) → ¬ LatchIsDue g f s h view reason.Inactivity
