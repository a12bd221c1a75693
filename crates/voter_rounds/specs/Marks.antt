-- Which views carry a mark.
use Rattle.std.specs.Prelude.{◌≡◌, ◌<◌, ◌≤◌, ℕ, Bool, true, false}
use Rattle.std.specs.Ordering.{nat_cmp}
use Rattle.std.specs.BTreeSet.{contains}
use Rattle.voter_rounds.specs.declared.marks.Marks.{Marks}

-- the marked views are those of which this says so
unfoldable pub Shows : Marks → (ℕ → Bool) → Type 0
Shows marks f = (view : ℕ) → contains nat_cmp marks.views view ≡ f view

-- one of the views from the first on and before the end is marked
abbrev pub IsMarkedWithin : (ℕ → Bool) → ℕ → ℕ → Type 0
IsMarkedWithin f first end = (view : ℕ) × (first ≤ view) × (view < end) × (f view ≡ true)

-- the last marked one of the views from the first on and up to the last
pub record IsLastMarked (f : ℕ → Bool) (first last view : ℕ) : Type 0 where
  pub behind : first ≤ view
  pub up_to : view ≤ last
  pub marked : f view ≡ true
  pub none_above : (u : ℕ) → view < u → u ≤ last → f u ≡ false
