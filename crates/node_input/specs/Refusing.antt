-- Why something is refused: the tests, in parts.
use Rattle.std.specs.Prelude.{◌≡◌, ◌≢◌, ◌<◌, ◌++◌, ℕ, false, List, [], ◌∷◌, Option, if◌then◌else◌}
use Rattle.types_core.specs.declared.scheme.Scheme.{Ghosts}
use Rattle.types_core.specs.Positions.{HasRoom}
use Rattle.simplex_messages.specs.declared.vote.Vote.{Vote}
use Rattle.simplex_messages.specs.VoteParts.{vote_round, vote_signer}
use Rattle.simplex_record.specs.Rules.{HasParentBelow}
use Rattle.batcher_verifier.specs.Votes.{vote_statement}
use Rattle.batcher_verifier.specs.History.{takes}
use Rattle.simplex_batcher.specs.Admission.{IsBlocked}
use Rattle.simplex_member.specs.declared.event.Channel.{Channel}
use Rattle.simplex_member.specs.declared.refusal.Refusal.{Refusal}
use Rattle.simplex_member.specs.declared.refusal.Refusal.TheVariants as refusal
use Rattle.simplex_member.specs.Deeds.{Deed, Blocks}
use Rattle.simplex_member.specs.Layers.{votes_of, votes_setup}
use Rattle.simplex_member.specs.Packet.{Formats, Packet}
use Rattle.simplex_member.specs.Point.{History}
use Rattle.simplex_member.specs.Refusals.{AdmitsVote, blocks_sender, evidence_deeds, packet_tests, refusal_report, sender_tests}
use Rattle.simplex_member.specs.Setup.{Setup}

module _ {S D P G C : Type 0} (g : Ghosts S D P G C) (f : Formats S D P G C) (s : Setup S D C) where
  -- the tests of a packet of these bytes
  abbrev pub bytes_tests : History S D P G C → ℕ → Channel → List ℕ → List (Refusal × Type 0)
  bytes_tests h sender by bytes = sender_tests g f s sender ++ packet_tests g f s h sender (f.packet_in by bytes)

  -- the tests of a vote that ask for no other vote
  abbrev pub first_vote_tests : History S D P G C → ℕ → Vote S D P G C → List (Refusal × Type 0)
  first_vote_tests h sender v =
      (refusal.WrongEpoch, (vote_round v).epoch ≢ s.voter.epoch)
      ∷ (refusal.ViewZero, (vote_round v).view ≡ 0)
      ∷ (refusal.OutsideWindow, AdmitsVote g f s h (vote_round v).view → ⊥)
      ∷ (refusal.NoRoom, HasRoom s.voter.length (vote_round v).view → ⊥)
      ∷ (refusal.ParentNotBelow, HasParentBelow (vote_statement v) → ⊥)
      ∷ (refusal.NotItsSigner, vote_signer v ≢ sender)
      ∷ []

  -- those by the votes of its view
  abbrev pub last_vote_tests : History S D P G C → ℕ → Vote S D P G C → List (Refusal × Type 0)
  last_vote_tests h sender v =
      (refusal.Contradiction, IsBlocked (votes_setup s g h (vote_round v).view) (votes_of s h (vote_round v).view) sender v)
      ∷ (refusal.Repeated, takes (votes_setup s g h (vote_round v).view) (votes_of s h (vote_round v).view) sender v ≡ false)
      ∷ []

  -- a sender is another member
  pub record IsAnother (sender : ℕ) : Type 0 where
    pub member : sender < g.size s.voter.scheme
    pub another : sender ≢ s.me

  -- a vote of this sender may be accepted, as far as that asks for no other vote
  pub record MayBeHeard (h : History S D P G C) (sender : ℕ) (v : Vote S D P G C) : Type 0 where
    pub epoch : (vote_round v).epoch ≡ s.voter.epoch
    pub window : AdmitsVote g f s h (vote_round v).view
    pub room : HasRoom s.voter.length (vote_round v).view
    pub parent : HasParentBelow (vote_statement v)
    pub signer : vote_signer v ≡ sender

  -- what is handed out for a refused packet of this sender
  abbrev pub packet_refused_deeds : History S D P G C → ℕ → Option (Packet S D P G C) → Refusal → List (Deed S D P G C)
  packet_refused_deeds h sender x r = (if blocks_sender r then Blocks sender ∷ [] else []) ++ refusal_report g f s r (evidence_deeds g f s h sender x)
