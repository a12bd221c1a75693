-- Turns of members, by terms.
use Rattle.std.specs.Prelude.{◌≡◌, ℕ, ◌<◌, ◌+◌, ◌%◌, ◌^◌, List, length, slice_index}
use Rattle.std.specs.List.{range_with_len}
use Rattle.std.specs.List.Sorted.{IsPermutation}
use Rattle.types_core.specs.Positions.{term_index}
use Rattle.types_terms.specs.Terms.{Timing}

-- the order in which members take turns, and how long a turn is
pub record Rotation : Type 0 where
  pub order : List ℕ
  pub terms : Timing

-- the indices of n members, ascending
abbrev pub indices : ℕ → List ℕ
indices n = range_with_len 0 n

-- an order of n members: each index once
abbrev pub IsOrder : ℕ → List ℕ → Type 0
IsOrder n order = IsPermutation (indices n) order

-- the place among n of the turn of a term: the sum of epoch and term, which wraps at 2 ^ 64, modulo n
abbrev pub place : (n epoch term : ℕ) → ℕ
place n epoch term = (epoch + term) % 2 ^ 64 % n

-- the member whose turn a term is
abbrev pub term_leader : (order : List ℕ) (epoch term : ℕ) → ℕ
term_leader order epoch term = slice_index order (place (length order) epoch term)

-- the member whose turn a view is: that of the view's term
abbrev pub view_leader : Rotation → (epoch view : ℕ) → ℕ
view_leader r epoch view = term_leader r.order epoch (term_index r.terms.length view)

-- of the terms from the first on, as many as there are members, the member leads exactly one
pub record LeadsOnce (order : List ℕ) (epoch first member : ℕ) : Type 0 where
  pub later : ℕ
  pub within : later < length order
  pub leads : term_leader order epoch (first + later) ≡ member
  pub only : (other : ℕ) → other < length order → term_leader order epoch (first + other) ≡ member → other ≡ later
