-- That nothing of a kind is left to be done.
use Rattle.std.specs.Prelude.{◌≡◌, ℕ, None}
use Rattle.types_core.specs.declared.scheme.Scheme.{Ghosts}
use Rattle.voter_history.specs.declared.timeout_reason.TimeoutReason.TheVariants as reason
use Rattle.voter_rules.specs.VotesDue.{NotarizeIsDue, FinalizeIsDue}
use Rattle.voter_rules.specs.GivingUp.{NullifyIsDue}
use Rattle.batcher_verifier.specs.History.{forwardable, next_kind}
use Rattle.simplex_member.specs.Layers.{known_of, latest, stage, voter_of, votes_of, votes_setup, Collected, IsUp}
use Rattle.simplex_member.specs.Allowed.{LatchIsDue, RetryIsKnown}
use Rattle.simplex_member.specs.Packet.{Formats}
use Rattle.simplex_member.specs.Point.{History}
use Rattle.simplex_member.specs.Setup.{Setup, member_of}
use Rattle.node_requests.specs.Leading.{NoLeaderToName}
use Rattle.node_requests.specs.NoneDue.{NoBuildToAsk, NoBuildToGiveBack, NoneToAskAgain, NoVerdictToAsk, NoVerificationToAsk, NoViewToAsk, NoSilence}

module _ {S D P G C : Type 0} (s : Setup S D C) where
  -- no notarize is due
  abbrev pub NoNotarizeToCast : History S D P G C → Type 0
  NoNotarizeToCast h = (view : ℕ) → ¬ NotarizeIsDue (member_of s) (known_of s h) view

  -- no finalize is due
  abbrev pub NoFinalizeToCast : History S D P G C → Type 0
  NoFinalizeToCast h = (view : ℕ) → ¬ FinalizeIsDue (member_of s) (known_of s h) view

module _ {S D P G C : Type 0} (g : Ghosts S D P G C) (f : Formats S D P G C) (s : Setup S D C) where
  -- of the votes of no view a construction is due, nor a proposal to forward
  pub record NoConstructionToMake (h : History S D P G C) : Type 0 where
    pub no_construction : (view : ℕ) → stage s h view ≡ Collected → next_kind f.same (votes_setup s g h view) (votes_of s h view) ≡ None
    pub no_forward : (view : ℕ) → IsUp (stage s h view) → forwardable (votes_of s h view) s.me ≡ None

  -- that its leader gave a view up is no reason that is due
  abbrev pub NoLeaderToFollow : History S D P G C → Type 0
  NoLeaderToFollow h = (view : ℕ) → ¬ LatchIsDue g f s h view reason.LeaderNullify

  -- no nullify of the current view is due, and when it is given up again is known
  pub record NoNullifyToCast (h : History S D P G C) : Type 0 where
    pub no_nullify : ¬ NullifyIsDue s.voter (voter_of s h) (latest h)
    pub retry_known : RetryIsKnown g f s h

  -- no verdict is to be asked for and no verification, nor what proposals lack for either, and no view is to be given up for a proposal
  -- that can never stand
  pub record NothingToAskOnProposals (h : History S D P G C) : Type 0 where
    pub verdicts : NoVerdictToAsk g f s h
    pub verifications : NoVerificationToAsk g f s h

  -- nothing is due of the votes of any view
  pub record NothingByVotes (h : History S D P G C) : Type 0 where
    pub leaders : NoLeaderToName s h
    pub constructions : NoConstructionToMake h
    pub followed : NoLeaderToFollow h

  -- no build is to be given back or asked for, no view to be asked for, and no leader is silent
  pub record NothingMoreToAsk (h : History S D P G C) : Type 0 where
    pub returns : NoBuildToGiveBack g f s h
    pub builds : NoBuildToAsk g f s h
    pub views : NoViewToAsk g f s h
    pub again : NoneToAskAgain g f s h
    pub silence : NoSilence g f s h

  -- no own vote is due
  pub record NoVoteToCast (h : History S D P G C) : Type 0 where
    pub notarizes : NoNotarizeToCast s h
    pub finalizes : NoFinalizeToCast s h
    pub nullifies : NoNullifyToCast h
