-- The events that were taken of an input so far.
use Rattle.std.proofs.Common.{◌≡◌, ℕ, ◌+◌, List, [], ◌∷◌, ◌++◌, length, map, All, Option, None, Some, IfSome, sym, ap, ◌∙◌, subst, length-append}
use Rattle.std.specs.Prelude.{Result}
use Rattle.std.specs.List.{flat_map}
use Rattle.std.specs.Io.KnownBytes.{Consumes, IsAtEnd}
use Rattle.std.proofs.KnownBytes.{Consumes-trans}
use Rattle.std.proofs.lemmas.Grind.{flat_map-append}
use Rattle.std.proofs.lemmas.List.{map-append}
use Rattle.std.proofs.lemmas.List.Elements.{All-append, All-cons, All-nil}
use Rattle.types_codec.specs.declared.codec.CodecError.{CodecError}
use Rattle.simplex_member.specs.declared.event.Event.{Event}
use Rattle.node_wire.specs.Event.{IsEvent, event_spelling, event_value}
use Rattle.node_wire.specs.Stream.{AreEvents, HasNone, InputState, IsTaken}
use Rattle.node_wire.specs.Amid.{TakenOff, bytes_of}
use Rattle.node_wire.specs.Streaming.{StandInFront}
use Rattle.node_wire.proofs.Texts.{text_more}

module _ {D : Type 0} (F : D → Type 0) (p : D → List ℕ) where
  -- the bytes of some and of more
  pub bytes_append : (events more : List (Event D)) → bytes_of p (events ++ more) ≡ bytes_of p events ++ bytes_of p more
  bytes_append events more = ap (flat_map (event_spelling p)) (map-append event_value events more) ∙ flat_map-append (event_spelling p) (map event_value events) (map event_value more)

  -- each of some and of more
  pub each_append : (events more : List (Event D)) → All (IsEvent F) (map event_value events) → All (IsEvent F) (map event_value more) → All (IsEvent F) (map event_value (events ++ more))
  each_append events more first others = subst (All (IsEvent F)) (sym (map-append event_value events more)) (All-append (IsEvent F) (map event_value events) (map event_value more) first others)

  -- the values of one more, and its bytes
  values_more : (events : List (Event D)) (e : Event D) → map event_value (events ++ e ∷ []) ≡ map event_value events ++ event_value e ∷ []
  values_more events e = map-append event_value events (e ∷ [])

  pub bytes_more : (events : List (Event D)) (e : Event D) → bytes_of p (events ++ e ∷ []) ≡ bytes_of p events ++ event_spelling p (event_value e)
  bytes_more events e = ap (flat_map (event_spelling p)) (values_more events e) ∙ text_more (event_spelling p) (map event_value events) (event_value e)

  -- one more
  pub taken_more : (given left rest : Option (List ℕ)) (events : List (Event D)) (e : Event D) (old new : InputState) → TakenOff F p given left old.place events → IsTaken F p (event_value e) old left new rest
      → TakenOff F p given rest new.place (events ++ e ∷ [])
  taken_more given left rest events e old new before t = record {
    each = subst (All (IsEvent F)) (sym (values_more events e)) (All-append (IsEvent F) (map event_value events) (event_value e ∷ []) before.each (All-cons (IsEvent F) (event_value e) [] t.event (All-nil (IsEvent F))));
    bytes = subst (Consumes given rest) (sym (bytes_more events e)) (Consumes-trans given left rest (bytes_of p events) (event_spelling p (event_value e)) before.bytes t.bytes);
    at = t.place ∙ ap (λ (n : ℕ). n + length (event_spelling p (event_value e))) before.at ∙ sym (length-append (bytes_of p events) (event_spelling p (event_value e))) ∙ ap length (sym (bytes_more events e));
  }

  -- they stand at the front
  pub in_front : (given left : Option (List ℕ)) (place : ℕ) (events : List (Event D)) → TakenOff F p given left place events → IfSome given (StandInFront F p events)
  in_front None left place events t = tt
  in_front (Some bytes) None place events t = absurd t.bytes
  in_front (Some bytes) (Some rest) place events t = (rest, record { each = t.each; whole = t.bytes })

  module _ (q : List ℕ → Result (D × List ℕ) CodecError) where
    -- they are all
    pub all_taken_off : (given left : Option (List ℕ)) (place : ℕ) (events : List (Event D)) → TakenOff F p given left place events → IsAtEnd left → IfSome given (λ bytes. AreEvents F p q bytes (map event_value events) None)
    all_taken_off None left place events t end = tt
    all_taken_off (Some bytes) None place events t end = absurd t.bytes
    all_taken_off (Some bytes) (Some rest) place events t end = record { rest = rest; taken = record { each = t.each; whole = t.bytes }; ends = end }

    -- behind them no event stands
    pub none_behind : (given left : Option (List ℕ)) (place : ℕ) (events : List (Event D)) → TakenOff F p given left place events → IfSome left (HasNone q) → IfSome given (λ bytes. AreEvents F p q bytes (map event_value events) (Some place))
    none_behind None left place events t none = tt
    none_behind (Some bytes) None place events t none = absurd t.bytes
    none_behind (Some bytes) (Some rest) place events t none = record {
      rest = rest;
      taken = record { each = t.each; whole = t.bytes };
      ends = (ap (λ (n : ℕ). n + length rest) t.at ∙ sym (length-append (bytes_of p events) rest) ∙ ap length (sym t.bytes), none);
    }
