-- An input of which a stretch of events is answered, and then, it may be, another.
use Rattle.std.specs.Prelude.{◌≡◌, ◌++◌, ℕ, List, [], ◌∷◌, length, map, All, Option, IfSome, Result, Ok, Err}
use Rattle.std.specs.List.{flat_map}
use Rattle.std.specs.Io.KnownBytes.{Appends, Consumes}
use Rattle.types_codec.specs.declared.codec.CodecError.{CodecError}
use Rattle.simplex_member.specs.declared.action.Reply.{Reply}
use Rattle.simplex_member.specs.declared.event.Event.{Event}
use Rattle.simplex_member.specs.declared.fault.IoFault.{IoFault}
use Rattle.simplex_member.specs.declared.fault.IoFault.TheVariants as fault
use Rattle.simplex_member.specs.declared.fault.NodeFault.{NodeFault}
use Rattle.node_wire.specs.declared.stretch.Stretch.{Stretch}
use Rattle.node_wire.specs.declared.stretch.Stretch.TheVariants.{Paused, Ended}
use Rattle.node_wire.specs.Event.{IsEvent, event_spelling, event_value}
use Rattle.node_wire.specs.Stream.{InputState}
use Rattle.node_wire.specs.Streaming.{EndsIn, StandInFront}

-- the bytes of these events, by the spelling of payloads
abbrev pub bytes_of : {D : Type 0} → (D → List ℕ) → List (Event D) → List ℕ
bytes_of p events = flat_map (event_spelling p) (map event_value events)

-- by which payloads can be read, and how they are spelled
module _ {D : Type 0} (F : D → Type 0) (p : D → List ℕ) where
  -- these events were taken of what was given, and this is left, from this place on
  pub record TakenOff (given left : Option (List ℕ)) (place : ℕ) (events : List (Event D)) : Type 0 where
    pub each : All (IsEvent F) (map event_value events)
    pub bytes : Consumes given left (bytes_of p events)
    pub at : place ≡ length (bytes_of p events)

  module _ {S P G C : Type 0} where
    -- some events stand at the front of what is left, and were answered
    pub record AnswersSome (Answered : List (Event D) → List (Reply S D P G C) → Type 0) (left : Option (List ℕ)) : Type 0 where
      pub events : List (Event D)
      pub read : IfSome left (StandInFront F p events)
      pub replies : List (Reply S D P G C)
      pub answered : Answered events replies

    -- and at the one behind them a step failed
    pub record FailsAt (Failed : List (Event D) → List (Reply S D P G C) → Event D → NodeFault → Type 0) (why : NodeFault) (left : Option (List ℕ)) : Type 0 where
      pub events : List (Event D)
      pub event : Event D
      pub read : IfSome left (StandInFront F p (events ++ event ∷ []))
      pub replies : List (Reply S D P G C)
      pub failed : Failed events replies event why

    -- what was stepped over of what is left, without what was written: a step failed, or none did
    abbrev pub StepsOver : {A : Type 0} → (List (Event D) → List (Reply S D P G C) → Type 0) → (List (Event D) → List (Reply S D P G C) → Event D → NodeFault → Type 0)
        → Result A IoFault → Option (List ℕ) → Type 0
    StepsOver Answered Failed (Ok done) left = AnswersSome Answered left
    StepsOver Answered Failed (Err fault.Read) left = AnswersSome Answered left
    StepsOver Answered Failed (Err fault.Write) left = AnswersSome Answered left
    StepsOver Answered Failed (Err (fault.BadEvent place)) left = AnswersSome Answered left
    StepsOver Answered Failed (Err (fault.Node why)) left = FailsAt Failed why left
    StepsOver Answered Failed (Err fault.Memory) left = AnswersSome Answered left

-- by how replies are spelled, too
module _ {S D P G C : Type 0} (F : D → Type 0) (p : D → List ℕ) (w : Reply S D P G C → List ℕ) where
  -- these events were taken of an input, and these are the replies that were written: it stands so behind them, and this is left
  pub record StandsBehind (events : List (Event D)) (replies : List (Reply S D P G C)) (given left : Option (List ℕ)) (state : InputState) (text more : Option (List ℕ)) : Type 0 where
    pub taken : TakenOff F p given left state.place events
    pub count : length events ≡ state.taken
    pub written : Appends text more (flat_map w replies)

  -- some were answered, and it stands behind them
  pub record StopsAmid (Answered : List (Event D) → List (Reply S D P G C) → Type 0) (given left : Option (List ℕ)) (state : InputState) (text more : Option (List ℕ)) : Type 0 where
    pub events : List (Event D)
    pub replies : List (Reply S D P G C)
    pub answered : Answered events replies
    pub stands : StandsBehind events replies given left state text more

  -- what came of an input where a stretch of it was answered: it stands behind that, or it came to an end
  abbrev pub StopsIn : (List ℕ → Result (D × List ℕ) CodecError) → (List (Event D) → List (Reply S D P G C) → Type 0)
      → (List (Event D) → List (Reply S D P G C) → Event D → NodeFault → Type 0) → Type 0 → Result Stretch IoFault
      → Option (List ℕ) → Option (List ℕ) → InputState → Option (List ℕ) → Option (List ℕ) → Type 0
  StopsIn q Answered Failed ReadFailed (Ok Paused) given left state text more = StopsAmid Answered given left state text more
  StopsIn q Answered Failed ReadFailed (Ok Ended) given left state text more = EndsIn F p w q Answered Failed ReadFailed (Ok Ended) given text more
  StopsIn q Answered Failed ReadFailed (Err why) given left state text more = EndsIn F p w {A = Stretch} q Answered Failed ReadFailed (Err why) given text more
