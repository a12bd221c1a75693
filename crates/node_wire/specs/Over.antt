-- What came of an input, in other words.
use Rattle.std.specs.Prelude.{◌≡◌, ◌++◌, ◌^◌, ℕ, List, [], ◌∷◌, length, map, Option, None, Some, IfSome, Result, Ok, Err, refl}
use Rattle.std.proofs.Common.{inl, inr, ◌⊎◌}
use Rattle.types_codec.specs.declared.codec.CodecError.{CodecError}
use Rattle.simplex_member.specs.declared.action.Reply.{Reply}
use Rattle.simplex_member.specs.declared.event.Event.{Event}
use Rattle.simplex_member.specs.declared.fault.IoFault.{IoFault}
use Rattle.simplex_member.specs.declared.fault.IoFault.TheVariants as fault
use Rattle.simplex_member.specs.declared.fault.NodeFault.{NodeFault}
use Rattle.node_wire.specs.Event.{event_value}
use Rattle.node_wire.specs.Stream.{AreEvents}
use Rattle.node_wire.specs.Streaming.{AnswersAll, AnswersFront, BreaksOff, EndsIn, GivesUp, StandInFront}

module _ {S D P G C : Type 0} (F : D → Type 0) (p : D → List ℕ) (w : Reply S D P G C → List ℕ) (q : List ℕ → Result (D × List ℕ) CodecError) where
  -- all events of the bytes stand at their front
  all_in_front : (given : Option (List ℕ)) (events : List (Event D)) (bad : Option ℕ) → IfSome given (λ bytes. AreEvents F p q bytes (map event_value events) bad) → IfSome given (StandInFront F p events)
  all_in_front None events bad read = tt
  all_in_front (Some bytes) events bad read = (read.rest, read.taken)

  module _ (Answered : List (Event D) → List (Reply S D P G C) → Type 0) (Failed : List (Event D) → List (Reply S D P G C) → Event D → NodeFault → Type 0)
      (ReadFailed : Type 0) where
    -- either all was answered that was stepped over, or the last step failed
    pub ends_by : {A X : Type 0} (r : Result A IoFault) (given text more : Option (List ℕ))
        → ((events : List (Event D)) → (replies : List (Reply S D P G C)) → Answered events replies → ((why : NodeFault) → ¬ (r ≡ Err (fault.Node why))) → X)
        → ((events : List (Event D)) → (replies : List (Reply S D P G C)) → (event : Event D) → (why : NodeFault) → r ≡ Err (fault.Node why) → Failed events replies event why → X)
        → EndsIn F p w q Answered Failed ReadFailed r given text more → X
    ends_by (Ok x) given text more all last ends = all ends.events ends.replies ends.answered (λ why is. absurd cc)
    ends_by (Err fault.Read) given text more all last ends = all ends.front.events ends.front.replies ends.front.answered (λ why is. absurd cc)
    ends_by (Err fault.Write) given text more all last ends = all ends.events (ends.replies ++ ends.reply ∷ []) ends.answered (λ why is. absurd cc)
    ends_by (Err (fault.BadEvent place)) given text more all last ends = all ends.events ends.replies ends.answered (λ why is. absurd cc)
    ends_by (Err (fault.Node why)) given text more all last ends = last ends.events ends.replies ends.event why refl ends.failed
    ends_by (Err fault.Memory) given text more all last (inl (ends, few)) = all ends.events ends.replies ends.answered (λ why is. absurd cc)
    ends_by (Err fault.Memory) given text more all last (inr (ends, none)) = all ends.events (ends.replies ++ ends.reply ∷ []) ends.answered (λ why is. absurd cc)

    -- the events that were stepped over stand at the input's front, and have Q where that follows from what holds of them
    pub ends_over : {A : Type 0} (Q : List (Event D) → Type 0) (r : Result A IoFault) (given text more : Option (List ℕ))
        → ((events : List (Event D)) → (replies : List (Reply S D P G C)) → Answered events replies → Q events)
        → ((events : List (Event D)) → (replies : List (Reply S D P G C)) → (event : Event D) → (why : NodeFault) → Failed events replies event why → Q (events ++ event ∷ []))
        → EndsIn F p w q Answered Failed ReadFailed r given text more → (events : List (Event D)) × IfSome given (StandInFront F p events) × Q events
    ends_over Q (Ok x) given text more all last ends = (ends.events, all_in_front given ends.events None ends.read, all ends.events ends.replies ends.answered)
    ends_over Q (Err fault.Read) given text more all last ends = (ends.front.events, ends.front.read, all ends.front.events ends.front.replies ends.front.answered)
    ends_over Q (Err fault.Write) given text more all last ends = (ends.events, ends.read, all ends.events (ends.replies ++ ends.reply ∷ []) ends.answered)
    ends_over Q (Err (fault.BadEvent place)) given text more all last ends = (ends.events, all_in_front given ends.events (Some place) ends.read, all ends.events ends.replies ends.answered)
    ends_over Q (Err (fault.Node why)) given text more all last ends = (ends.events ++ ends.event ∷ [], ends.read, last ends.events ends.replies ends.event why ends.failed)
    ends_over Q (Err fault.Memory) given text more all last (inl (ends, few)) = (ends.events, ends.read, all ends.events ends.replies ends.answered)
    ends_over Q (Err fault.Memory) given text more all last (inr (ends, none)) = (ends.events, ends.read, all ends.events (ends.replies ++ ends.reply ∷ []) ends.answered)

    module _ (Other : List (Event D) → List (Reply S D P G C) → Type 0) (Differs : List (Event D) → List (Reply S D P G C) → Event D → NodeFault → Type 0) (all : (events : List (Event D)) → (replies : List (Reply S D P G C)) → Answered events replies → Other events replies)
        (last : (events : List (Event D)) → (replies : List (Reply S D P G C)) → (event : Event D) → (why : NodeFault) → Failed events replies event why → Differs events replies event why) where
      -- by what follows of all that were answered
      other_front : (given text more : Option (List ℕ)) → AnswersFront F p w Answered given text more → AnswersFront F p w Other given text more
      other_front given text more ends = record { events = ends.events; read = ends.read; replies = ends.replies; answered = all ends.events ends.replies ends.answered; written = ends.written }

      other_given_up : (given text more : Option (List ℕ)) → GivesUp F p w Answered ReadFailed given text more → GivesUp F p w Other ReadFailed given text more
      unfolding other_front
      other_given_up given text more ends = record { front = other_front given text more ends.front; why = ends.why }

      other_broken : (given text more : Option (List ℕ)) → BreaksOff F p w Answered given text more → BreaksOff F p w Other given text more
      other_broken given text more ends = record {
        events = ends.events;
        read = ends.read;
        replies = ends.replies;
        reply = ends.reply;
        answered = all ends.events (ends.replies ++ ends.reply ∷ []) ends.answered;
        front = ends.front;
        rest = ends.rest;
        split = ends.split;
        written = ends.written;
      }

      other_all : (given : Option (List ℕ)) (bad : Option ℕ) (text more : Option (List ℕ)) → AnswersAll F p w Answered q given bad text more → AnswersAll F p w Other q given bad text more
      other_all given bad text more ends = record { events = ends.events; few = ends.few; read = ends.read; replies = ends.replies; answered = all ends.events ends.replies ends.answered; written = ends.written }

      -- and where the last step failed
      pub ends_as : {A : Type 0} (r : Result A IoFault) (given text more : Option (List ℕ)) → EndsIn F p w q Answered Failed ReadFailed r given text more → EndsIn F p w q Other Differs ReadFailed r given text more
      unfolding other_broken other_front other_given_up
      ends_as (Ok x) given text more ends = other_all given None text more ends
      ends_as (Err fault.Read) given text more ends = other_given_up given text more ends
      ends_as (Err fault.Write) given text more ends = other_broken given text more ends
      ends_as (Err (fault.BadEvent place)) given text more ends = other_all given (Some place) text more ends
      ends_as (Err (fault.Node why)) given text more ends = record { events = ends.events; event = ends.event; read = ends.read; replies = ends.replies; failed = last ends.events ends.replies ends.event why ends.failed; written = ends.written }
      ends_as (Err fault.Memory) given text more (inl (ends, few)) = inl (other_front given text more ends, few)
      ends_as (Err fault.Memory) given text more (inr (ends, none)) = inr (other_broken given text more ends, none)

    -- by what follows of a read that failed
    other_why : (Many Other : Type 0) → (ReadFailed → Other) → Many ⊎ ReadFailed → Many ⊎ Other
    other_why Many Other turn (inl many) = inl many
    other_why Many Other turn (inr failed) = inr (turn failed)

    pub ends_where : {A : Type 0} (Other : Type 0) → (ReadFailed → Other) → (r : Result A IoFault) (given text more : Option (List ℕ))
        → EndsIn F p w q Answered Failed ReadFailed r given text more → EndsIn F p w q Answered Failed Other r given text more
    ends_where Other turn (Ok x) given text more ends = ends
    ends_where Other turn (Err fault.Read) given text more ends = record { front = ends.front; why = other_why (length ends.front.events ≡ 2 ^ 32) Other turn ends.why }
    ends_where Other turn (Err fault.Write) given text more ends = ends
    ends_where Other turn (Err (fault.BadEvent place)) given text more ends = ends
    ends_where Other turn (Err (fault.Node why)) given text more ends = ends
    ends_where Other turn (Err fault.Memory) given text more ends = ends
