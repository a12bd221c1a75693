-- What is answered to a vote from the network, by how many members there are, and by the accepted vote that stands in its
-- way, if there is one.
use Rattle.std.specs.Prelude.{◌≡◌, ◌≢◌, ◌<◌, ◌⊎◌, ◌&&◌, ◌==◌, ℕ, Bool, if◌then◌else◌, Option, None, MatchOption, MatchBool, is_none, nat_lt}
use Rattle.std.specs.Option.{option_and_then}
use Rattle.simplex_messages.specs.declared.vote.Vote.{Vote}
use Rattle.simplex_messages.specs.declared.activity.Activity.{Activity}
use Rattle.simplex_messages.specs.VoteParts.{vote_signer}
use Rattle.batcher_admission.specs.Evidence.{AreForTwo, evidence}

module _ {S D P G C : Type 0} where
  -- A vote offends the recorded vote u that stands in its way: where u is kept in full, it is not the same vote; else it
  -- is of its kind and for another proposal.
  abbrev pub Offends : Bool → Vote S D P G C → Vote S D P G C → Type 0
  Offends in_full u v = MatchBool in_full (u ≢ v) (AreForTwo u v)

  -- the vote is accepted: its sender names itself, is a member, and no accepted vote stands in its way
  abbrev pub is_accepted : ℕ → Option (Vote S D P G C) → ℕ → Vote S D P G C → Bool
  is_accepted members recorded sender v = (sender == vote_signer v) && (nat_lt sender members && is_none recorded)

  -- the sender of the vote is blocked: it names another, or the vote offends the recorded one
  abbrev pub IsBlockedFor : ℕ → Option (Vote S D P G C) → (Vote S D P G C → Bool) → ℕ → Vote S D P G C → Type 0
  IsBlockedFor members recorded in_full sender v = (sender ≢ vote_signer v)
      ⊎ ((sender ≡ vote_signer v) × (sender < members) × MatchOption recorded ⊥ (λ u. Offends (in_full u) u v))

  -- the evidence against a member that hands in a vote of its own: where it contradicts one that is kept in full
  abbrev pub evidence_against : (D → D → Bool) → ℕ → Option (Vote S D P G C) → (Vote S D P G C → Bool) → ℕ → Vote S D P G C
      → Option (Activity S D P G C)
  evidence_against same members recorded in_full sender v =
      if (sender == vote_signer v) && nat_lt sender members
      then option_and_then (λ u. if in_full u then evidence same u v else None) recorded
      else None
