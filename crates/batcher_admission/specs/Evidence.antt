-- When two votes contradict each other.
use Rattle.std.specs.Prelude.{◌≢◌, Bool, if◌then◌else◌, Option, None, Some}
use Rattle.simplex_messages.specs.declared.vote.Vote.{Vote}
use Rattle.simplex_messages.specs.declared.vote.Vote.TheVariants as vote
use Rattle.simplex_messages.specs.declared.activity.Activity.{Activity}
use Rattle.simplex_messages.specs.declared.activity.Activity.TheVariants as activity
use Rattle.messages_certificates.specs.ProposalVote.{contradict}
use Rattle.messages_certificates.specs.StandsBeside.{stands_beside}

module _ {S D P G C : Type 0} where
  -- the vote as a report
  abbrev pub as_report : Vote S D P G C → Activity S D P G C
  as_report (vote.Notarize v) = activity.Notarize v
  as_report (vote.Nullify v) = activity.Nullify v
  as_report (vote.Finalize v) = activity.Finalize v

  -- two votes of one kind are for different proposals
  abbrev pub AreForTwo : Vote S D P G C → Vote S D P G C → Type 0
  AreForTwo (vote.Notarize u) (vote.Notarize v) = u.proposal ≢ v.proposal
  AreForTwo (vote.Finalize u) (vote.Finalize v) = u.proposal ≢ v.proposal
  AreForTwo u v = ⊥

  module _ (same : D → D → Bool) where
    -- the evidence of two votes of one signer and one round, the recorded first, where they contradict each other
    abbrev pub evidence : Vote S D P G C → Vote S D P G C → Option (Activity S D P G C)
    evidence (vote.Notarize u) (vote.Notarize v) = if contradict same u v then Some (activity.ConflictingNotarize (u, v)) else None
    evidence (vote.Finalize u) (vote.Finalize v) = if contradict same u v then Some (activity.ConflictingFinalize (u, v)) else None
    evidence (vote.Nullify u) (vote.Finalize v) = if stands_beside u v then Some (activity.NullifyFinalize (u, v)) else None
    evidence (vote.Finalize u) (vote.Nullify v) = if stands_beside v u then Some (activity.NullifyFinalize (v, u)) else None
    evidence u v = None
