-- Orders of members that a seed makes.
use Rattle.std.specs.Prelude.{◌≡◌, ℕ, List, ◌++◌, AllPairs, Option, Some, None}
use Rattle.std.specs.Int.{w32, to_be_bytes}
use Rattle.std.specs.Cmp.Lexicographic.{slice_cmp}
use Rattle.std.specs.Ordering.{nat_cmp, ordering_then}
use Rattle.std.specs.declared.cmp.Ordering.{Ordering}
use Rattle.std.specs.declared.cmp.Ordering.TheVariants.{Less}
use Rattle.sha2.specs.Sha256.{sha256}
use Rattle.types_terms.specs.Terms.{Timing}
use Rattle.types_terms.specs.Rotation.{indices, IsOrder}

-- what a rotation is made of: the seed of its order, if there is one, and its terms
pub record Setting : Type 0 where
  pub seed : Option (List ℕ)
  pub terms : Timing

-- what an index is ordered by: the hash of the seed followed by the index in four bytes, the most significant first
abbrev pub lot : List ℕ → ℕ → List ℕ
lot seed index = sha256 (seed ++ to_be_bytes w32 index)

-- lots with their indices are ordered by lot, then index
abbrev pub lot_cmp : List ℕ × ℕ → List ℕ × ℕ → Ordering
lot_cmp x y = ordering_then (slice_cmp nat_cmp x.0 y.0) (nat_cmp x.1 y.1)

-- an index comes before another one by the seed
abbrev pub IsBefore : List ℕ → ℕ → ℕ → Type 0
IsBefore seed i j = lot_cmp (lot seed i, i) (lot seed j, j) ≡ Less

-- the order of n members that a seed makes
pub record IsShuffled (seed : List ℕ) (n : ℕ) (order : List ℕ) : Type 0 where
  pub members : IsOrder n order
  pub sorted : AllPairs (IsBefore seed) order

-- the order of n members that a seed makes, and ascending where there is no seed
abbrev pub IsOrderOf : Option (List ℕ) → ℕ → List ℕ → Type 0
IsOrderOf None n order = order ≡ indices n
IsOrderOf (Some seed) n order = IsShuffled seed n order
