-- The events of an input.
use Rattle.std.specs.Prelude.{◌≡◌, ◌≢◌, ◌⊎◌, ℕ, ◌+◌, ◌^◌, List, [], ◌++◌, length, All, Option, MatchOption, Result, Ok, Err, ⊤}
use Rattle.std.specs.List.{flat_map}
use Rattle.std.specs.Io.KnownBytes.{Consumes, prepend_known}
use Rattle.types_codec.specs.declared.codec.CodecError.{CodecError}
use Rattle.types_codec.specs.declared.codec.CodecError.TheVariants.{End, Invalid, TooLong, Memory}
use Rattle.simplex_member.specs.declared.fault.IoFault.{IoFault}
use Rattle.simplex_member.specs.declared.fault.IoFault.TheVariants as fault
use Rattle.node_wire.specs.Event.{EventValue, IsEvent, event_at, event_spelling}

-- reading was refused for what the bytes are, and not since they ended
abbrev pub IsBarred : {A : Type 0} → Result A CodecError → Type 0
IsBarred (Ok x) = ⊥
IsBarred (Err End) = ⊥
IsBarred (Err Invalid) = ⊤
IsBarred (Err TooLong) = ⊤
IsBarred (Err Memory) = ⊥

-- what was read of an input and is not yet taken, how many bytes that were taken are kept before it, how many were taken in all, and how
-- many events
pub record InputState : Type 0 where
  pub held : List ℕ
  pub behind : ℕ
  pub place : ℕ
  pub taken : ℕ

-- what is left of an input: what is held, then what the reader has left, if that is known
abbrev pub left_of : InputState → Option (List ℕ) → Option (List ℕ)
left_of state remaining = prepend_known state.held remaining

-- this event was taken from the front of what was left, where the input stood so, and now this is left, and it stands so
pub record IsTaken {D : Type 0} (F : D → Type 0) (p : D → List ℕ) (e : EventValue D) (old : InputState) (left : Option (List ℕ)) (new : InputState) (rest : Option (List ℕ)) : Type 0 where
  pub event : IsEvent F e
  pub bytes : Consumes left rest (event_spelling p e)
  pub place : new.place ≡ old.place + length (event_spelling p e)
  pub taken : new.taken ≡ old.taken + 1

-- no event is at the front of these bytes, as payloads are read: a front of them is refused, or they end inside an event
pub record HasNone {D : Type 0} (q : List ℕ → Result (D × List ℕ) CodecError) (bytes : List ℕ) : Type 0 where
  pub front : List ℕ
  pub more : List ℕ
  pub some : front ≢ []
  pub whole : bytes ≡ front ++ more
  pub refused : IsBarred (event_at q front) ⊎ ((event_at q front ≡ Err End) × (more ≡ []))

-- where an input stands so it is given up: behind 2^32 events, or since a read failed
abbrev pub IsGivenUp : InputState → Type 0 → Type 0
IsGivenUp state ReadFailed = (state.taken ≡ 2 ^ 32) ⊎ ReadFailed

-- why no event was taken at this place: the input was given up; or a bad event, for that reason, is named by the place
abbrev pub IsFault : ℕ → Type 0 → Type 0 → IoFault → Type 0
IsFault place given_up bad fault.Read = given_up
IsFault place given_up bad fault.Write = ⊥
IsFault place given_up bad (fault.BadEvent at) = (at ≡ place) × bad
IsFault place given_up bad (fault.Node x) = ⊥
IsFault place given_up bad fault.Memory = ⊤

-- of the bytes these events were taken, and the rest is left
pub record AreTaken {D : Type 0} (F : D → Type 0) (p : D → List ℕ) (bytes : List ℕ) (events : List (EventValue D)) (rest : List ℕ) : Type 0 where
  pub each : All (IsEvent F) events
  pub whole : bytes ≡ flat_map (event_spelling p) events ++ rest

-- the bytes are these events, and then nothing, or at this place no event
pub record AreEvents {D : Type 0} (F : D → Type 0) (p : D → List ℕ) (q : List ℕ → Result (D × List ℕ) CodecError) (bytes : List ℕ) (events : List (EventValue D)) (bad : Option ℕ) : Type 0 where
  pub rest : List ℕ
  pub taken : AreTaken F p bytes events rest
  pub ends : MatchOption bad (rest ≡ []) (λ place. (place + length rest ≡ length bytes) × HasNone q rest)
