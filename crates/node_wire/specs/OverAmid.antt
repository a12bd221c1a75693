-- What came of a stretch of an input, in other words.
use Rattle.std.specs.Prelude.{◌≡◌, ◌++◌, ℕ, List, [], ◌∷◌, Option, None, Some, IfSome, Result, Ok, Err, refl}
use Rattle.std.specs.Io.KnownBytes.{Consumes}
use Rattle.std.proofs.Common.{sym, subst}
use Rattle.std.proofs.KnownBytes.{Appends-nil, Consumes-nil}
use Rattle.std.proofs.lemmas.List.Elements.{All-nil}
use Rattle.types_codec.specs.declared.codec.CodecError.{CodecError}
use Rattle.simplex_member.specs.declared.action.Reply.{Reply}
use Rattle.simplex_member.specs.declared.event.Event.{Event}
use Rattle.simplex_member.specs.declared.fault.IoFault.{IoFault}
use Rattle.simplex_member.specs.declared.fault.IoFault.TheVariants as fault
use Rattle.simplex_member.specs.declared.fault.NodeFault.{NodeFault}
use Rattle.node_wire.specs.declared.stretch.Stretch.{Stretch}
use Rattle.node_wire.specs.declared.stretch.Stretch.TheVariants.{Ended, Paused}
use Rattle.node_wire.specs.Event.{IsEvent}
use Rattle.node_wire.specs.Amid.{StandsBehind, StepsOver, StopsIn, TakenOff}
use Rattle.node_wire.specs.Over.{ends_as}
use Rattle.node_wire.specs.Stepper.{Behind, FailsBehind}
use Rattle.node_wire.specs.Stream.{InputState}
use Rattle.node_wire.specs.Streaming.{StandInFront}

module _ {S D P G C : Type 0} (F : D → Type 0) (p : D → List ℕ) (Answered : List (Event D) → List (Reply S D P G C) → Type 0)
    (Failed : List (Event D) → List (Reply S D P G C) → Event D → NodeFault → Type 0) where
  -- either all was answered that was stepped over, or the last step failed
  pub steps_by : {A X : Type 0} (r : Result A IoFault) (left : Option (List ℕ))
      → ((events : List (Event D)) → (replies : List (Reply S D P G C)) → Answered events replies → ((why : NodeFault) → ¬ (r ≡ Err (fault.Node why))) → X)
      → ((events : List (Event D)) → (replies : List (Reply S D P G C)) → (event : Event D) → (why : NodeFault) → r ≡ Err (fault.Node why) → Failed events replies event why → X)
      → StepsOver F p Answered Failed r left → X
  steps_by (Ok x) left all last over = all over.events over.replies over.answered (λ why is. absurd cc)
  steps_by (Err fault.Read) left all last over = all over.events over.replies over.answered (λ why is. absurd cc)
  steps_by (Err fault.Write) left all last over = all over.events over.replies over.answered (λ why is. absurd cc)
  steps_by (Err (fault.BadEvent place)) left all last over = all over.events over.replies over.answered (λ why is. absurd cc)
  steps_by (Err (fault.Node why)) left all last over = last over.events over.replies over.event why refl over.failed
  steps_by (Err fault.Memory) left all last over = all over.events over.replies over.answered (λ why is. absurd cc)

  -- the events that were stepped over stand at the front of what was left, and have Q where that follows from what holds of them
  pub steps_among : {A : Type 0} (Q : List (Event D) → Type 0) (r : Result A IoFault) (left : Option (List ℕ))
      → ((events : List (Event D)) → (replies : List (Reply S D P G C)) → Answered events replies → Q events)
      → ((events : List (Event D)) → (replies : List (Reply S D P G C)) → (event : Event D) → (why : NodeFault) → Failed events replies event why → Q (events ++ event ∷ []))
      → StepsOver F p Answered Failed r left → (events : List (Event D)) × IfSome left (StandInFront F p events) × Q events
  steps_among Q (Ok x) left all last over = (over.events, over.read, all over.events over.replies over.answered)
  steps_among Q (Err fault.Read) left all last over = (over.events, over.read, all over.events over.replies over.answered)
  steps_among Q (Err fault.Write) left all last over = (over.events, over.read, all over.events over.replies over.answered)
  steps_among Q (Err (fault.BadEvent place)) left all last over = (over.events, over.read, all over.events over.replies over.answered)
  steps_among Q (Err (fault.Node why)) left all last over = (over.events ++ over.event ∷ [], over.read, last over.events over.replies over.event why over.failed)
  steps_among Q (Err fault.Memory) left all last over = (over.events, over.read, all over.events over.replies over.answered)

  module _ (Other : List (Event D) → List (Reply S D P G C) → Type 0) (Differs : List (Event D) → List (Reply S D P G C) → Event D → NodeFault → Type 0)
      (all : (events : List (Event D)) → (replies : List (Reply S D P G C)) → Answered events replies → Other events replies)
      (last : (events : List (Event D)) → (replies : List (Reply S D P G C)) → (event : Event D) → (why : NodeFault) → Failed events replies event why → Differs events replies event why) where
    -- by what follows of the events that were answered since
    pub behind_as : (before : List (Event D)) (said : List (Reply S D P G C)) (events : List (Event D)) (replies : List (Reply S D P G C)) → Behind before said Answered events replies → Behind before said Other events replies
    behind_as before said events replies b = record { later = b.later; answers = b.answers; split = b.split; replied = b.replied; answered = all b.later b.answers b.answered }

    pub fails_behind_as : (before : List (Event D)) (said : List (Reply S D P G C)) (events : List (Event D)) (replies : List (Reply S D P G C)) (event : Event D) (why : NodeFault) → FailsBehind before said Failed events replies event why → FailsBehind before said Differs events replies event why
    fails_behind_as before said events replies event why b = record { later = b.later; answers = b.answers; split = b.split; replied = b.replied; failed = last b.later b.answers event why b.failed }

    -- by what follows of all that were answered
    pub stops_as : (w : Reply S D P G C → List ℕ) (q : List ℕ → Result (D × List ℕ) CodecError) (ReadFailed : Type 0) (r : Result Stretch IoFault) (given left : Option (List ℕ)) (state : InputState) (text more : Option (List ℕ))
        → StopsIn F p w q Answered Failed ReadFailed r given left state text more → StopsIn F p w q Other Differs ReadFailed r given left state text more
    stops_as w q ReadFailed (Ok Paused) given left state text more stops = record { events = stops.events; replies = stops.replies; answered = all stops.events stops.replies stops.answered; stands = stops.stands }
    stops_as w q ReadFailed (Ok Ended) given left state text more stops = ends_as F p w q Answered Failed ReadFailed Other Differs all last (Ok Ended) given text more stops
    stops_as w q ReadFailed (Err why) given left state text more stops = ends_as F p w q Answered Failed ReadFailed Other Differs all last {A = Stretch} (Err why) given text more stops

module _ {D : Type 0} (F : D → Type 0) (p : D → List ℕ) where
  -- what was taken of an input stands at its front
  pub amid_front : (given left : Option (List ℕ)) (place : ℕ) (events : List (Event D)) → TakenOff F p given left place events → IfSome given (StandInFront F p events)
  amid_front None left place events t = tt
  amid_front (Some bytes) None place events t = absurd t.bytes
  amid_front (Some bytes) (Some rest) place events t = (rest, record { each = t.each; whole = t.bytes })

  -- nothing was taken of an input at first
  pub stands_first : {S P G C : Type 0} (w : Reply S D P G C → List ℕ) (given left : Option (List ℕ)) (state : InputState) (text : Option (List ℕ)) → left ≡ given → state.place ≡ 0 → state.taken ≡ 0
      → StandsBehind F p w [] [] given left state text text
  stands_first w given left state text same zero none = record {
    taken = record { each = All-nil (IsEvent F); bytes = subst (λ (o : Option (List ℕ)). Consumes given o []) (sym same) (Consumes-nil given); at = zero };
    count = sym none;
    written = Appends-nil text;
  }
