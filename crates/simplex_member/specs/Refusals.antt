-- Why events are refused: the first test that applies.
use Rattle.std.specs.Prelude.{◌≡◌, ◌≢◌, ◌<◌, ◌≤◌, ◌++◌, ℕ, Bool, true, false, map, List, [], ◌∷◌, Option, Some, None, option_to_list, if◌then◌else◌, ⊤}
use Rattle.types_core.specs.declared.scheme.Scheme.{Ghosts}
use Rattle.types_core.specs.Positions.{HasRoom}
use Rattle.types_core.specs.Subject.{Statement}
use Rattle.messages_certificates.specs.declared.certificate.Certificate.{Certificate}
use Rattle.simplex_messages.specs.declared.vote.Vote.{Vote}
use Rattle.messages_certificates.specs.Certificate.{certificate_round, certificate_statement, certified_by}
use Rattle.simplex_messages.specs.VoteParts.{vote_round, vote_signer}
use Rattle.types_terms.specs.Windows.{Admits, Retains}
use Rattle.simplex_record.specs.Record.{entries, HasTaken}
use Rattle.simplex_record.specs.Rules.{AreAlike, HasParentBelow}
use Rattle.batcher_verifier.specs.Votes.{vote_statement}
use Rattle.batcher_verifier.specs.History.{takes}
use Rattle.simplex_batcher.specs.Admission.{IsBlocked, report_of}
use Rattle.simplex_member.specs.declared.event.Event.{Event}
use Rattle.simplex_member.specs.declared.event.Event.TheVariants as event
use Rattle.simplex_member.specs.declared.refusal.Refusal.{Refusal}
use Rattle.simplex_member.specs.declared.refusal.Refusal.TheVariants as refusal
use Rattle.simplex_member.specs.Asked.{IsAwaited, IsJudged, build_at, check_at}
use Rattle.simplex_member.specs.Deeds.{Deed, Blocks, Reports}
use Rattle.simplex_member.specs.Layers.{current_of, finalized_of, latest, votes_of, votes_setup}
use Rattle.simplex_member.specs.Packet.{Formats, Packet, of_vote, of_certificate, of_ask}
use Rattle.simplex_member.specs.Point.{History}
use Rattle.simplex_member.specs.Recorded.{record_of}
use Rattle.simplex_member.specs.Setup.{Setup, IsInTime}

-- the number of a refusal
abbrev pub refusal_number : Refusal → ℕ
refusal_number refusal.UnknownSender = 1
refusal_number refusal.OwnName = 2
refusal_number refusal.NotDecoded = 3
refusal_number refusal.WrongEpoch = 4
refusal_number refusal.ViewZero = 5
refusal_number refusal.OutsideWindow = 6
refusal_number refusal.NoRoom = 7
refusal_number refusal.ParentNotBelow = 8
refusal_number refusal.NotItsSigner = 9
refusal_number refusal.Contradiction = 10
refusal_number refusal.Repeated = 11
refusal_number refusal.NotVerifying = 12
refusal_number refusal.UnknownAnswer = 13
refusal_number refusal.SecondVerdict = 14
refusal_number refusal.MomentFell = 15
refusal_number refusal.MomentTooLate = 16

-- the sender is blocked for it
abbrev pub blocks_sender : Refusal → Bool
blocks_sender refusal.NotDecoded = true
blocks_sender refusal.ParentNotBelow = true
blocks_sender refusal.NotItsSigner = true
blocks_sender refusal.Contradiction = true
blocks_sender refusal.NotVerifying = true
blocks_sender r = false

-- neither memory nor the disk is needed for it
abbrev pub needs_nothing : Refusal → Bool
needs_nothing refusal.UnknownSender = true
needs_nothing refusal.OwnName = true
needs_nothing refusal.UnknownAnswer = true
needs_nothing refusal.SecondVerdict = true
needs_nothing refusal.MomentFell = true
needs_nothing refusal.MomentTooLate = true
needs_nothing r = false

module _ {S D P G C : Type 0} (g : Ghosts S D P G C) (f : Formats S D P G C) (s : Setup S D C) where
  -- a vote of the view is taken: the view is kept, and listened to
  abbrev pub AdmitsVote : History S D P G C → ℕ → Type 0
  AdmitsVote h view = Retains (finalized_of s h) s.voter.retention view × Admits s.voter.length s.voter.optimistic_views (current_of s h) view

  -- no certificate of the statement's kind and view is recorded
  abbrev pub HasNoneLike : History S D P G C → Statement D → Type 0
  HasNoneLike h x = (y : Statement D) → AreAlike x y → HasTaken (entries (record_of h)) y → ⊥

  -- the tests of a vote
  abbrev pub vote_tests : History S D P G C → ℕ → Vote S D P G C → List (Refusal × Type 0)
  vote_tests h sender v =
      (refusal.WrongEpoch, (vote_round v).epoch ≢ s.voter.epoch)
      ∷ (refusal.ViewZero, (vote_round v).view ≡ 0)
      ∷ (refusal.OutsideWindow, AdmitsVote h (vote_round v).view → ⊥)
      ∷ (refusal.NoRoom, HasRoom s.voter.length (vote_round v).view → ⊥)
      ∷ (refusal.ParentNotBelow, HasParentBelow (vote_statement v) → ⊥)
      ∷ (refusal.NotItsSigner, vote_signer v ≢ sender)
      ∷ (refusal.Contradiction, IsBlocked (votes_setup s g h (vote_round v).view) (votes_of s h (vote_round v).view) sender v)
      ∷ (refusal.Repeated, takes (votes_setup s g h (vote_round v).view) (votes_of s h (vote_round v).view) sender v ≡ false)
      ∷ []

  -- the tests of a certificate
  abbrev pub certificate_tests : History S D P G C → Certificate S D P G C → List (Refusal × Type 0)
  certificate_tests h c =
      (refusal.WrongEpoch, (certificate_round c).epoch ≢ s.voter.epoch)
      ∷ (refusal.ViewZero, (certificate_round c).view ≡ 0)
      ∷ (refusal.OutsideWindow, Retains (finalized_of s h) s.voter.retention (certificate_round c).view → ⊥)
      ∷ (refusal.NoRoom, HasRoom s.voter.length (certificate_round c).view → ⊥)
      ∷ (refusal.ParentNotBelow, HasParentBelow (certificate_statement c) → ⊥)
      ∷ (refusal.Repeated, HasNoneLike h (certificate_statement c) → ⊥)
      ∷ (refusal.NotVerifying, g.certifies s.voter.scheme (certificate_statement c) (certified_by c) → ⊥)
      ∷ []

  -- the tests of what a packet holds, if its bytes are exactly one
  abbrev pub packet_tests : History S D P G C → ℕ → Option (Packet S D P G C) → List (Refusal × Type 0)
  packet_tests h sender None = (refusal.NotDecoded, ⊤) ∷ []
  packet_tests h sender (Some (of_vote v)) = vote_tests h sender v
  packet_tests h sender (Some (of_certificate c)) = certificate_tests h c
  packet_tests h sender (Some (of_ask view)) = (refusal.ViewZero, view ≡ 0) ∷ []

  -- the tests of a packet's sender
  abbrev pub sender_tests : ℕ → List (Refusal × Type 0)
  sender_tests sender = (refusal.UnknownSender, g.size s.voter.scheme ≤ sender) ∷ (refusal.OwnName, sender ≡ s.me) ∷ []

  -- the tests of an event, in order
  abbrev pub tests : History S D P G C → Event D → List (Refusal × Type 0)
  tests h (event.Packet sender by bytes) = sender_tests sender ++ packet_tests h sender (f.packet_in by bytes.items)
  tests h (event.Built number payload) = (refusal.UnknownAnswer, build_at h number ≡ None) ∷ []
  tests h (event.Checked number answer) = (refusal.UnknownAnswer, check_at h number ≡ None) ∷ []
  tests h (event.Verdict view ok) =
      (refusal.UnknownAnswer, (IsJudged s h view → ⊥) × (IsAwaited s h view → ⊥)) ∷ (refusal.SecondVerdict, IsJudged s h view) ∷ []
  tests h (event.Moment now) = (refusal.MomentFell, now < latest h) ∷ (refusal.MomentTooLate, IsInTime s now → ⊥) ∷ []

  -- the evidence that a refused vote gives, where it contradicts one that is kept in full
  abbrev pub evidence_deeds : History S D P G C → ℕ → Option (Packet S D P G C) → List (Deed S D P G C)
  evidence_deeds h sender (Some (of_vote v)) =
      map Reports (option_to_list (report_of f.same (votes_setup s g h (vote_round v).view) (votes_of s h (vote_round v).view) sender v))
  evidence_deeds h sender x = []

  -- the report that stands beside a block
  abbrev pub refusal_report : Refusal → List (Deed S D P G C) → List (Deed S D P G C)
  refusal_report refusal.Contradiction deeds = deeds
  refusal_report r deeds = []

  -- what is handed out for a refused event: the block of its sender, and of a contradiction the evidence
  abbrev pub refused_deeds : History S D P G C → Event D → Refusal → List (Deed S D P G C)
  refused_deeds h (event.Packet sender by bytes) r =
      (if blocks_sender r then Blocks sender ∷ [] else []) ++ refusal_report r (evidence_deeds h sender (f.packet_in by bytes.items))
  refused_deeds h e r = []
