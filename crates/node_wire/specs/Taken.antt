-- How the events of an input come together.
use Rattle.std.specs.Prelude.{◌≡◌, ℕ, List, [], ◌∷◌, ◌++◌, length, Some, None, Result, refl}
use Rattle.std.specs.List.{flat_map}
use Rattle.std.proofs.Common.{sym, ap, ◌∙◌, append_assoc, append-nil, length-append}
use Rattle.std.proofs.lemmas.Grind.{flat_map-append}
use Rattle.std.proofs.lemmas.List.Concat.{flat_map-cons}
use Rattle.std.proofs.lemmas.List.Elements.{All-append, All-cons, All-nil}
use Rattle.types_codec.specs.declared.codec.CodecError.{CodecError}
use Rattle.node_wire.specs.Event.{EventValue, IsEvent, event_spelling}
use Rattle.node_wire.specs.Stream.{AreEvents, AreTaken, HasNone}

module _ {D : Type 0} {F : D → Type 0} {p : D → List ℕ} where
  -- nothing is taken at first
  pub none_taken : (bytes : List ℕ) → AreTaken F p bytes [] bytes
  none_taken bytes = record { each = All-nil (IsEvent F); whole = refl }

  -- one more is taken
  pub one_more : (bytes : List ℕ) (events : List (EventValue D)) (left : List ℕ) (e : EventValue D) (rest : List ℕ) → AreTaken F p bytes events left → IsEvent F e → left ≡ event_spelling p e ++ rest → AreTaken F p bytes (events ++ e ∷ []) rest
  one_more bytes events left e rest before is split = record {
    each = All-append (IsEvent F) events (e ∷ []) before.each (All-cons (IsEvent F) e [] is (All-nil (IsEvent F)));
    whole =
        let last : flat_map (event_spelling p) (e ∷ []) ≡ event_spelling p e = flat_map-cons (event_spelling p) e [] ∙ append-nil (event_spelling p e) in
        let all : flat_map (event_spelling p) (events ++ e ∷ []) ≡ flat_map (event_spelling p) events ++ event_spelling p e = flat_map-append (event_spelling p) events (e ∷ []) ∙ ap (λ (t : List ℕ). flat_map (event_spelling p) events ++ t) last in
        before.whole ∙ ap (λ (t : List ℕ). flat_map (event_spelling p) events ++ t) split ∙ sym (append_assoc (flat_map (event_spelling p) events) (event_spelling p e) rest) ∙ ap (λ (t : List ℕ). t ++ rest) (sym all);
  }

  module _ {q : List ℕ → Result (D × List ℕ) CodecError} where
    -- all are taken where nothing is left
    pub all_taken : (bytes : List ℕ) (events : List (EventValue D)) → AreTaken F p bytes events [] → AreEvents F p q bytes events None
    all_taken bytes events taken = record { rest = []; taken = taken; ends = refl }

    -- the rest begins with no event, at the place behind those that were taken
    pub none_follows : (bytes : List ℕ) (events : List (EventValue D)) (rest : List ℕ) → AreTaken F p bytes events rest → HasNone q rest → AreEvents F p q bytes events (Some (length (flat_map (event_spelling p) events)))
    none_follows bytes events rest taken none = record {
      rest = rest;
      taken = taken;
      ends = (sym (length-append (flat_map (event_spelling p) events) rest) ∙ ap length (sym taken.whole), none);
    }
