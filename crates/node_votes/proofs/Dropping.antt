-- What is left where the votes of views are dropped.
use Rattle.std.proofs.Common.{◌≡◌, ℕ, ◌==◌, ◌≤◌, ◌<◌, Bool, true, false, List, [], ◌∷◌, length, refl, sym, arith}
use Rattle.std.specs.Prelude.{Option, Some, None, IsSome, is_some}
use Rattle.std.specs.BTreeMap.{BTreeMap, IsUpperBound, btree_map_len}
use Rattle.std.specs.Ordering.{is_le, is_lt, nat_cmp}
use Rattle.std.specs.declared.cmp.Reverse.{Reverse}
use Rattle.std.proofs.lemmas.Bool.Decides.{nat_tests}
use Rattle.types_core.specs.LatestFirst.{as_key, latest_first, stored}

not-below : (a b : ℕ) → is_lt (nat_cmp a b) ≡ false → b ≤ a
not-below a b ge = grind (arith, nat_tests)

pub is-above : (a b : ℕ) → false ≡ is_le (nat_cmp b a) → a < b
is-above a b test = grind (arith, nat_tests)

-- a view below the floor is none from it on
pub other-view : (a u floor : ℕ) → a < floor → floor ≤ u → (a == u) ≡ false
other-view a u floor below from = grind (arith, nat_tests)

no-entries : {A : Type 0} (xs : List A) → ¬ (0 < length xs) → xs ≡ []
no-entries [] never = refl
no-entries (x ∷ xs) never = absurd (never (omega arith))

module _ {X : Type 0} (m : BTreeMap (Reverse ℕ) X) where
  -- nothing stands in an empty map
  pub none-in-empty : (¬ (0 < btree_map_len m)) → (u : ℕ) → stored m u ≡ None
  none-in-empty empty u = let gone : m.entries ≡ [] = no-entries m.entries empty in rw gone refl

  -- nor below a floor that isn't above the first view
  pub none-before : (first floor : ℕ) → IsUpperBound latest_first m (as_key first) → floor ≤ first → (u : ℕ) → u < floor → stored m u ≡ None
  none-before first floor least above u below = go (stored m u) refl
    where
      go : (o : Option X) → stored m u ≡ o → o ≡ None
      go None e = refl
      go (Some x) e = let from : first ≤ u = not-below u first (least (as_key u) (rw e refl)) in absurd (omega (arith, from, below, above))
