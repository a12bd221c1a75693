-- What steps over the events of a stream come to: what was read, what was written, and what is left of what stepped.
use Rattle.std.specs.Prelude.{◌≡◌, ◌++◌, ◌⊎◌, ◌<◌, ◌^◌, ℕ, List, [], ◌∷◌, length, map, Option, None, Some, IfSome, Result, Ok, Err}
use Rattle.std.specs.List.{flat_map}
use Rattle.std.specs.Io.KnownBytes.{Appends, Keeps}
use Rattle.types_codec.specs.declared.codec.CodecError.{CodecError}
use Rattle.simplex_member.specs.declared.action.Reply.{Reply}
use Rattle.simplex_member.specs.declared.event.Event.{Event}
use Rattle.simplex_member.specs.declared.fault.IoFault.{IoFault}
use Rattle.simplex_member.specs.declared.fault.IoFault.TheVariants as fault
use Rattle.simplex_member.specs.declared.fault.NodeFault.{NodeFault}
use Rattle.node_wire.specs.Event.{event_value}
use Rattle.node_wire.specs.Reply.{reply_spelling, reply_value}
use Rattle.node_wire.specs.Stream.{AreEvents, AreTaken}
use Rattle.types_codec.specs.Front.{AppendsFront}

-- a reply as bytes, by the spellings of keys, payloads, signatures and certificates
abbrev pub spelled : {S D P G C : Type 0} → (P → List ℕ) → (D → List ℕ) → (G → List ℕ) → (C → List ℕ) → Reply S D P G C → List ℕ
spelled k p q r reply = reply_spelling k p q r (reply_value reply)

-- these events stand at the front of the bytes, by the spelling of payloads
abbrev pub StandInFront : {D : Type 0} → (D → Type 0) → (D → List ℕ) → List (Event D) → List ℕ → Type 0
StandInFront F p events bytes = (rest : List ℕ) × AreTaken F p bytes (map event_value events) rest

-- by what a step over an event may answer, and leave
module _ {S D P G C N : Type 0} (steps : N → Event D → Result (Reply S D P G C) NodeFault → N → Type 0) where
  -- what came of an event, by how replies are spelled: a step answered, and the reply was written; or a front of it, where a write failed,
  -- or nothing, where memory ran out or the step failed
  abbrev pub AnswersOne : {A : Type 0} → (Reply S D P G C → List ℕ) → N → Event D → Result A IoFault → Option (List ℕ) → Option (List ℕ) → N → Type 0
  AnswersOne w old event (Ok done) text more new = (reply : Reply S D P G C) × steps old event (Ok reply) new × Appends text more (w reply)
  AnswersOne w old event (Err fault.Read) text more new = ⊥
  AnswersOne w old event (Err fault.Write) text more new = (reply : Reply S D P G C) × steps old event (Ok reply) new × AppendsFront text more (w reply)
  AnswersOne w old event (Err (fault.BadEvent place)) text more new = ⊥
  AnswersOne w old event (Err (fault.Node why)) text more new = steps old event (Err why) new × Keeps text more
  AnswersOne w old event (Err fault.Memory) text more new = (reply : Reply S D P G C) × steps old event (Ok reply) new × Keeps text more

-- by which payloads can be read, and how they and replies are spelled
module _ {S D P G C : Type 0} (F : D → Type 0) (p : D → List ℕ) (w : Reply S D P G C → List ℕ) where
  -- by what holds where these events were answered by these replies
  module _ (Answered : List (Event D) → List (Reply S D P G C) → Type 0) where
    -- some events stand at the input's front; they were answered, and the replies were written. Behind them the input was given up
    pub record AnswersFront (given text more : Option (List ℕ)) : Type 0 where
      pub events : List (Event D)
      pub read : IfSome given (StandInFront F p events)
      pub replies : List (Reply S D P G C)
      pub answered : Answered events replies
      pub written : Appends text more (flat_map w replies)

    -- the same, but of the last reply this front alone was written
    pub record BreaksOff (given text more : Option (List ℕ)) : Type 0 where
      pub events : List (Event D)
      pub read : IfSome given (StandInFront F p events)
      pub replies : List (Reply S D P G C)
      pub reply : Reply S D P G C
      pub answered : Answered events (replies ++ reply ∷ [])
      pub front : List ℕ
      pub rest : List ℕ
      pub split : w reply ≡ front ++ rest
      pub written : Appends text more (flat_map w replies ++ front)

    -- behind the answers to some events no more was read: they are 2^32, or a read failed
    pub record GivesUp (ReadFailed : Type 0) (given text more : Option (List ℕ)) : Type 0 where
      pub front : AnswersFront given text more
      pub why : (length front.events ≡ 2 ^ 32) ⊎ ReadFailed

    -- all events of the input, fewer than 2^32, were answered, and the replies were written. Behind them there is nothing, or at this place
    -- no event
    pub record AnswersAll (q : List ℕ → Result (D × List ℕ) CodecError) (given : Option (List ℕ)) (bad : Option ℕ) (text more : Option (List ℕ)) : Type 0 where
      pub events : List (Event D)
      pub few : length events < 2 ^ 32
      pub read : IfSome given (λ bytes. AreEvents F p q bytes (map event_value events) bad)
      pub replies : List (Reply S D P G C)
      pub answered : Answered events replies
      pub written : Appends text more (flat_map w replies)

  -- some events at the input's front were answered and all replies to them written, and at the one behind them the step failed, by what
  -- holds there
  pub record Fails (Failed : List (Event D) → List (Reply S D P G C) → Event D → NodeFault → Type 0) (why : NodeFault) (given text more : Option (List ℕ)) : Type 0 where
    pub events : List (Event D)
    pub event : Event D
    pub read : IfSome given (StandInFront F p (events ++ event ∷ []))
    pub replies : List (Reply S D P G C)
    pub failed : Failed events replies event why
    pub written : Appends text more (flat_map w replies)

  -- what came of an input, by what holds where events were answered, where behind such a step failed, and where a read did
  abbrev pub EndsIn : {A : Type 0} → (List ℕ → Result (D × List ℕ) CodecError) → (List (Event D) → List (Reply S D P G C) → Type 0)
      → (List (Event D) → List (Reply S D P G C) → Event D → NodeFault → Type 0) → Type 0 → Result A IoFault
      → Option (List ℕ) → Option (List ℕ) → Option (List ℕ) → Type 0
  EndsIn q Answered Failed ReadFailed (Ok done) given text more = AnswersAll Answered q given None text more
  EndsIn q Answered Failed ReadFailed (Err fault.Read) given text more = GivesUp Answered ReadFailed given text more
  EndsIn q Answered Failed ReadFailed (Err fault.Write) given text more = BreaksOff Answered given text more
  EndsIn q Answered Failed ReadFailed (Err (fault.BadEvent place)) given text more = AnswersAll Answered q given (Some place) text more
  EndsIn q Answered Failed ReadFailed (Err (fault.Node why)) given text more = Fails Failed why given text more
  EndsIn q Answered Failed ReadFailed (Err fault.Memory) given text more =
      ((ends : AnswersFront Answered given text more) × (length ends.events < 2 ^ 32))
      ⊎ ((broken : BreaksOff Answered given text more) × (broken.front ≡ []))
