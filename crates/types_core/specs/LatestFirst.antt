-- Views as keys of maps and sets in which the latest stands first.
use Rattle.std.specs.Prelude.{ℕ, Bool, true, Option}
use Rattle.std.specs.BTreeMap.{BTreeMap, get}
use Rattle.std.specs.BTreeMap as maps
use Rattle.std.specs.BTreeSet.{BTreeSet, contains}
use Rattle.std.specs.BTreeSet as sets
use Rattle.std.specs.Ordering.{nat_cmp}
use Rattle.std.specs.declared.cmp.Ordering.{Ordering}
use Rattle.std.specs.declared.cmp.Reverse.{Reverse}

-- a view as a key, in the order in which the latest stands first
abbrev pub as_key : ℕ → Reverse ℕ
as_key view = record { 0 = view }

abbrev pub latest_first : Reverse ℕ → Reverse ℕ → Ordering
latest_first x y = nat_cmp y.0 x.0

module _ {X : Type 0} where
  -- what stands at a view
  abbrev pub stored : BTreeMap (Reverse ℕ) X → ℕ → Option X
  stored map view = get latest_first map (as_key view)

  -- a view got this, or lost what it had, and all else stands as it did
  abbrev pub Stores : BTreeMap (Reverse ℕ) X → BTreeMap (Reverse ℕ) X → ℕ → Option X → Type 0
  Stores old new view x = maps.Updates latest_first old new (as_key view) x

-- whether a set has a view
abbrev pub holds : BTreeSet (Reverse ℕ) → ℕ → Bool
holds set view = contains latest_first set (as_key view)

-- a set got a view, and has the others as it did
abbrev pub Adds : BTreeSet (Reverse ℕ) → BTreeSet (Reverse ℕ) → ℕ → Type 0
Adds old new view = sets.Updates latest_first old new (as_key view) true
