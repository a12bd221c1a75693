-- A member's lives: openings one after another, each by a setup of its own and with the events that came, until a crash or a fault. And
-- members that live so, beside others that may do anything.
use Rattle.std.specs.Prelude.{◌≡◌, ◌<◌, ◌≤◌, ◌++◌, ◌⊎◌, ℕ, List, [], ◌∷◌, length, Contains, Option, Some, None, option_map, option_to_list, unwrap_or, ⊤}
use Rattle.types_core.specs.declared.scheme.Scheme.{Ghosts}
use Rattle.types_quorum.specs.Committee.{faults}
use Rattle.messages_certificates.specs.declared.artifact.Artifact.{Artifact}
use Rattle.messages_certificates.specs.declared.certificate.Certificate.{Certificate}
use Rattle.messages_certificates.specs.declared.certificate.Certificate.TheVariants as certificate
use Rattle.messages_certificates.specs.ProposalCertificate.{Finalization}
use Rattle.simplex_messages.specs.declared.vote.Vote.{Vote}
use Rattle.simplex_messages.specs.VoteParts.{vote_signer}
use Rattle.simplex_record.specs.Record.{entries, HasVoted}
use Rattle.simplex_record.specs.World.{World, IsCorrect, IsHonest, IsAlike}
use Rattle.batcher_verifier.specs.Votes.{vote_statement, vote_attestation}
use Rattle.simplex_member.specs.declared.event.Channel.{Channel}
use Rattle.simplex_member.specs.declared.event.Channel.TheVariants as channel
use Rattle.simplex_member.specs.declared.event.Event.{Event}
use Rattle.simplex_member.specs.declared.event.Event.TheVariants as event
use Rattle.simplex_member.specs.declared.refusal.Refusal.{Refusal}
use Rattle.simplex_member.specs.Deeds.{Deed, Sends, Serves, all_deeds}
use Rattle.simplex_member.specs.First.{IsFirst}
use Rattle.simplex_member.specs.Member.{AppendsFloor, AreOpening, AreStep, Goes, IsRewritten, Rests, after}
use Rattle.simplex_member.specs.Packet.{Formats, IsRecordable, Packet, of_vote, of_certificate, of_ask, packet_channel}
use Rattle.simplex_member.specs.Point.{Point, Rewrote, History}
use Rattle.simplex_member.specs.Recorded.{fresh_of, kept_of}
use Rattle.simplex_member.specs.Refusals.{tests, refused_deeds}
use Rattle.simplex_member.specs.Setup.{IsOfOneMember, Setup, owner_of}

-- an event that was refused, or taken, with what it led to; or the record was rewritten. Of a rewrite that was cut off the old record is
-- left or the new one: it wasn't, or it was the last turn
pub data Turn (S D P G C : Type 0) : Type 0 where
  Refuses : Event D → Refusal → Turn S D P G C
  Went : Event D → List (Point S D P G C) → Turn S D P G C
  Rewrites : Finalization S D P G C → Turn S D P G C

-- one opening at a moment and what came of it: how it went through the record, then what it did. It was cut off; or it rested, and turns followed,
-- of which the last may have been cut off behind an event
pub data Course (S D P G C : Type 0) : Type 0 where
  Broken : ℕ → List (Point S D P G C) → Course S D P G C
  Lasting : ℕ → List (Point S D P G C) → List (Turn S D P G C) → Option (Event D × List (Point S D P G C)) → Course S D P G C

-- a life: how its node was set up, the floor that its opening brought, if it did, what was recorded of that, and its course
pub record Life (S D P G C : Type 0) : Type 0 where
  pub setup : Setup S D C
  pub brought : Option (Finalization S D P G C)
  pub founded : List (Artifact S D P G C)
  pub course : Course S D P G C

module _ {S D P G C : Type 0} where
  -- what a turn led to
  abbrev pub turn_points : List (Turn S D P G C) → List (Point S D P G C)
  turn_points [] = []
  turn_points (Refuses e r ∷ turns) = turn_points turns
  turn_points (Went e points ∷ turns) = points ++ turn_points turns
  turn_points (Rewrites c ∷ turns) = Rewrote c ∷ turn_points turns

  -- all points of a life
  abbrev pub points_of : Course S D P G C → List (Point S D P G C)
  points_of (Broken now points) = points
  points_of (Lasting now points turns cut) = points ++ turn_points turns ++ unwrap_or (option_map (λ c. c.1) cut) []

  abbrev pub turn_events : List (Turn S D P G C) → List (Event D)
  turn_events [] = []
  turn_events (Refuses e r ∷ turns) = e ∷ turn_events turns
  turn_events (Went e points ∷ turns) = e ∷ turn_events turns
  turn_events (Rewrites c ∷ turns) = turn_events turns

  -- all events that were handed in
  abbrev pub events_of : Course S D P G C → List (Event D)
  events_of (Broken now points) = []
  events_of (Lasting now points turns cut) = turn_events turns ++ option_to_list (option_map (λ c. c.0) cut)

module _ {S D P G C : Type 0} (g : Ghosts S D P G C) (f : Formats S D P G C) (s : Setup S D C) where
  -- turns, one after the other
  abbrev pub Turns : History S D P G C → List (Turn S D P G C) → History S D P G C → Type 0
  Turns h [] end = end ≡ h
  Turns h (Refuses e r ∷ turns) end = IsFirst (tests g f s h e) (Some r) × Turns h turns end
  Turns h (Went e points ∷ turns) end = (mid : History S D P G C) × AreStep g f s h e points × Rests g f s h points mid × Turns mid turns end
  Turns h (Rewrites c ∷ turns) end = IsRewritten g f s h c × Turns (Rewrote c ∷ h) turns end

  -- the last turn was cut off, if one was
  abbrev pub IsCut : History S D P G C → Option (Event D × List (Point S D P G C)) → History S D P G C → Type 0
  IsCut h None end = end ≡ h
  IsCut h (Some c) end = AreStep g f s h c.0 c.1 × Goes g f s h c.1 end

  -- a life that found these leads here
  abbrev pub Lived : List (Artifact S D P G C) → Course S D P G C → History S D P G C → Type 0
  Lived found (Broken now points) end = AreOpening g f s now found points × Goes g f s [] points end
  Lived found (Lasting now points turns cut) end = (mid : History S D P G C) × (last : History S D P G C)
      × AreOpening g f s now found points × Rests g f s [] points mid × Turns mid turns last × IsCut last cut end

  -- what turns handed out
  abbrev pub turn_deeds : History S D P G C → List (Turn S D P G C) → List (Deed S D P G C)
  turn_deeds h [] = []
  turn_deeds h (Refuses e r ∷ turns) = refused_deeds g f s h e r ++ turn_deeds h turns
  turn_deeds h (Went e points ∷ turns) = all_deeds g f s h points ++ turn_deeds (after h points) turns
  turn_deeds h (Rewrites c ∷ turns) = turn_deeds (Rewrote c ∷ h) turns

  -- what a life handed out: nothing of what was cut off
  abbrev pub handed_out : Course S D P G C → List (Deed S D P G C)
  handed_out (Broken now points) = []
  handed_out (Lasting now points turns cut) = all_deeds g f s [] points ++ turn_deeds (after [] points) turns

module _ {S D P G C : Type 0} (g : Ghosts S D P G C) (f : Formats S D P G C) where
  -- what an opening recorded of the floor that it brought, behind what it found: none of it, where it was cut off before
  abbrev pub Appends : Course S D P G C → Option (Finalization S D P G C) → (found founded : List (Artifact S D P G C)) → Type 0
  Appends (Broken now points) brought found founded = (founded ≡ []) ⊎ AppendsFloor brought found founded
  Appends (Lasting now points turns cut) brought found founded = AppendsFloor brought found founded

  -- so did that of a life, and it can be read again
  pub record Founds (found : List (Artifact S D P G C)) (life : Life S D P G C) : Type 0 where
    pub appends : Appends life.course life.brought found life.founded
    pub readable : (x : Artifact S D P G C) → Contains life.founded x → IsRecordable f x

  -- lives of the member that this is a setup of, one after the other, from where it had ever recorded the first list, of which the second
  -- was kept: each is set up for it, and finds what the one before has left, which is what was kept at its end, also where that was cut off.
  -- At last it has ever recorded the third list, and the fourth is left
  abbrev pub Lives : Setup S D C → (ever found : List (Artifact S D P G C)) → List (Life S D P G C) → (all left : List (Artifact S D P G C)) → Type 0
  Lives s ever found [] all left = (all ≡ ever) × (left ≡ found)
  Lives s ever found (life ∷ lives) all left =
      (end : History S D P G C) × Founds found life
      × Lived g f life.setup (found ++ life.founded) life.course end
      × Lives s (ever ++ (life.founded ++ fresh_of end)) (kept_of life.setup.voter.length end) lives all left × IsOfOneMember s life.setup

-- members: a setup of each, of which what is fixed for good counts alone, and its lives
pub record Members (S D P G C : Type 0) : Type 0 where
  pub setup : ℕ → Setup S D C
  pub lives : ℕ → List (Life S D P G C)

module _ {S D P G C : Type 0} (g : Ghosts S D P G C) (f : Formats S D P G C) (scheme : S) (m : Members S D P G C) (world : World S D P G C) where
  -- an event was handed to a member
  abbrev pub WasHanded : ℕ → Event D → Type 0
  WasHanded i e = (life : Life S D P G C) × Contains (m.lives i) life × Contains (events_of life.course) e

  -- an event is a packet of this sender that holds this
  abbrev pub Holds : Event D → ℕ → Packet S D P G C → Type 0
  Holds (event.Packet from by bytes) sender x = (from ≡ sender) × (f.packet_in by bytes.items ≡ Some x)
  Holds e sender x = ⊥

  -- it is one of these bytes
  abbrev pub Carries : Event D → ℕ → Channel → List ℕ → Type 0
  Carries (event.Packet from by bytes) sender channel carried = (from ≡ sender) × (by ≡ channel) × (bytes.items ≡ carried)
  Carries e sender channel carried = ⊥

  -- a packet that holds this was handed to a member, by a sender
  abbrev pub CameIn : ℕ → ℕ → Packet S D P G C → Type 0
  CameIn i sender x = (e : Event D) × WasHanded i e × Holds e sender x

  -- this certificate is the floor that an opening of a member brought
  abbrev pub WasBrought : ℕ → Certificate S D P G C → Type 0
  WasBrought i c = (life : Life S D P G C) × Contains (m.lives i) life × (option_map certificate.Finalization life.brought ≡ Some c)

  -- a member handed this out
  abbrev pub HandedOut : ℕ → Deed S D P G C → Type 0
  HandedOut i d = (life : Life S D P G C) × Contains (m.lives i) life × Contains (handed_out g f life.setup life.course) d

  -- a vote in a correct member's name that verifies is on a statement for which that member recorded a vote
  abbrev pub IsHonestVote : Vote S D P G C → Type 0
  IsHonestVote v = IsCorrect world (vote_signer v) → g.attests scheme (vote_signer v) (vote_statement v) (vote_attestation v).signature
      → HasVoted (entries (world.recorded (vote_signer v))) (vote_statement v)

  -- what a packet holds is honest: a vote, or each vote that a certificate lists
  abbrev pub IsHonestPacket : Packet S D P G C → Type 0
  IsHonestPacket (of_vote v) = IsHonestVote v
  IsHonestPacket (of_certificate c) = IsHonest (g.attests scheme) g.lists world c
  IsHonestPacket (of_ask view) = ⊤

  -- Members that live by their nodes, each on one disk or two that were empty at first. Of each that isn't excused, the scheme is like the
  -- committee's; its lives recorded what it ever recorded; and all that comes in is honest, also the floors that openings bring
  pub record LiveByNodes : Type 0 where
    pub alike : (i : ℕ) → IsCorrect world i
        → IsAlike world.size (g.attests scheme) (g.size (m.setup i).voter.scheme) (g.attests (m.setup i).voter.scheme)
    pub owner : (i : ℕ) → IsCorrect world i
        → owner_of (m.setup i) ≡ record { epoch = world.epoch; term_length = world.term_length; signer = i }
    pub me : (i : ℕ) → IsCorrect world i → (m.setup i).voter.me ≡ Some i
    pub lived : (i : ℕ) → IsCorrect world i
        → (left : List (Artifact S D P G C)) × Lives g f (m.setup i) [] [] (m.lives i) (world.recorded i) left
    pub honest : (i sender : ℕ) → IsCorrect world i → (x : Packet S D P G C) → CameIn i sender x → IsHonestPacket x
    pub floors : (i : ℕ) → IsCorrect world i → (c : Certificate S D P G C) → WasBrought i c → IsHonest (g.attests scheme) g.lists world c

  -- a deed hands out these bytes by this channel
  abbrev pub HasBytes : Channel → List ℕ → Deed S D P G C → Type 0
  HasBytes by bytes (Sends to x) = (by ≡ packet_channel x) × (bytes ≡ f.packet x)
  HasBytes by bytes (Serves member served) = (by ≡ channel.Certificates) × (bytes ≡ served)
  HasBytes by bytes d = ⊥

  -- a packet in a correct member's name was handed out by one of its nodes
  pub record AreFaithful : Type 0 where
    pub handed : (i j : ℕ) (e : Event D) (by : Channel) (bytes : List ℕ) → IsCorrect world i → IsCorrect world j → WasHanded i e
        → Carries e j by bytes
        → (d : Deed S D P G C) × HandedOut j d × HasBytes by bytes d

-- at most as many are excused as may be faulty
pub record AtMostFLie {S D P G C : Type 0} (world : World S D P G C) : Type 0 where
  pub some : 0 < world.size
  pub few : length world.excused ≤ faults world.size
