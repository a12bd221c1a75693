-- How an `AttributableMap` lays out its items. No public clause cites this module.
use Rattle.std.specs.Prelude.{◌≡◌, ℕ, ◌+◌, List, [], ◌∷◌, length, Option, Some, None, filter_map, slice_index_or}
use Rattle.std.specs.FinMap as finite
use Rattle.simplex_messages.specs.AttributableMap.{SignerMap}

module _ {T : Type 0} where
  -- the items in their slots, each with its place, counted from the first slot's
  abbrev pub entries_from : ℕ → List (Option T) → List (ℕ × T)
  entries_from place [] = []
  entries_from place (None ∷ slots) = entries_from (place + 1) slots
  entries_from place (Some item ∷ slots) = (place, item) ∷ entries_from (place + 1) slots

  -- the items in their slots
  abbrev pub items_in : List (Option T) → List T
  items_in slots = filter_map (λ slot. slot) slots

  -- the map that the slots stand for: one for each participant, with its item
  unfoldable pub map_of : List (Option T) → SignerMap T
  map_of slots = record { participants = length slots; items = finite.from_sorted (entries_from 0 slots) }

  -- each item stands in its signer's slot, and `count` counts the items
  pub record IsSound (signer_of : T → ℕ) (slots : List (Option T)) (count : ℕ) : Type 0 where
    pub signed : (place : ℕ) (item : T) → slice_index_or slots place None ≡ Some item → signer_of item ≡ place
    pub counted : count ≡ length (items_in slots)
