-- What is answered to a vote from the network.
use Rattle.std.specs.Prelude.{true, is_some, ⊤, ◌≡◌, ◌≢◌, ℕ, Bool, if◌then◌else◌, Option, None, Some, Contains}
use Rattle.std.specs.Option.{option_and_then}
use Rattle.simplex_messages.specs.declared.vote.Vote.{Vote}
use Rattle.simplex_messages.specs.declared.activity.Activity.{Activity}
use Rattle.batcher_admission.specs.Evidence.{as_report, evidence}
use Rattle.batcher_admission.specs.Blocking.{IsBlockedFor, evidence_against}
use Rattle.simplex_messages.specs.VoteParts.{vote_signer, vote_round}
use Rattle.batcher_verifier.specs.declared.batcher_fault.BatcherFault.{BatcherFault}
use Rattle.batcher_verifier.specs.declared.batcher_fault.BatcherFault.TheVariants.{WrongRound, OtherLeader, Contradicts, Memory}
use Rattle.batcher_verifier.specs.Votes.{vote_kind}
use Rattle.batcher_verifier.specs.History.{History, Setup, accepted, given, recorded, takes, is_kept_in_full}

module _ {S D P G C : Type 0} where
  -- the sender of this vote is blocked: it names another, or the vote offends the recorded one
  abbrev pub IsBlocked : Setup S → History S D P G C → ℕ → Vote S D P G C → Type 0
  IsBlocked s h sender v = IsBlockedFor s.members (recorded h v) (λ u. is_kept_in_full s (vote_kind u) h) sender v

  module _ (same : D → D → Bool) where
    -- what is reported of a vote from the network: the vote where it is accepted, and evidence where it contradicts one
    -- that is kept in full
    abbrev pub report_of : Setup S → History S D P G C → ℕ → Vote S D P G C → Option (Activity S D P G C)
    report_of s h sender v =
        if takes s h sender v then Some (as_report v) else
        evidence_against same s.members (recorded h v) (λ u. is_kept_in_full s (vote_kind u) h) sender v

    -- a vote contradicts the accepted one that stands in its way
    abbrev pub contradicts : History S D P G C → Vote S D P G C → Bool
    contradicts h v = is_some (option_and_then (λ u. evidence same u v) (recorded h v))

    -- Own votes alone were accepted of this vote's member, and it contradicts none of them: so it is with the votes of a
    -- member whose votes from the network are its own, and that never contradicts itself.
    pub record AgreesWithOwn (h : History S D P G C) (v : Vote S D P G C) : Type 0 where
      pub own_alone : (u : Vote S D P G C) → Contains (accepted h) u → vote_signer u ≡ vote_signer v → Contains (given h) u
      pub agrees : (u : Vote S D P G C) → Contains (given h) u → vote_signer u ≡ vote_signer v → evidence same u v ≡ None

    -- an own vote may be refused so: it is of another round, it contradicts a recorded one, or memory ran out
    abbrev pub IsCastFault : Setup S → History S D P G C → Vote S D P G C → BatcherFault → Type 0
    IsCastFault s h v WrongRound = vote_round v ≢ s.round
    IsCastFault s h v Contradicts = contradicts h v ≡ true
    IsCastFault s h v Memory = ⊤
    IsCastFault s h v OtherLeader = ⊥

  -- a vote from the network may be refused so: it is of another round, or memory ran out
  abbrev pub IsAdmissionFault : Setup S → Vote S D P G C → BatcherFault → Type 0
  IsAdmissionFault s v WrongRound = vote_round v ≢ s.round
  IsAdmissionFault s v Memory = ⊤
  IsAdmissionFault s v fault = ⊥
