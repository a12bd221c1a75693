-- Which views may owe a vote.
use Rattle.std.specs.Prelude.{◌≤◌, ◌<◌, ℕ, IsTrue}
use Rattle.std.specs.Ordering.{nat_cmp}
use Rattle.std.specs.BTreeSet.{contains}
use Rattle.simplex_state.specs.declared.owed.Owed.{Owed}

-- the view is one of them
abbrev pub Has : Owed → ℕ → Type 0
Has owed view = IsTrue (contains nat_cmp owed.views view)

-- it is the first of them from this one on
pub record IsFirstFrom (owed : Owed) (from first : ℕ) : Type 0 where
  pub there : Has owed first
  pub least : (u : ℕ) → from ≤ u → u < first → ¬ Has owed u
