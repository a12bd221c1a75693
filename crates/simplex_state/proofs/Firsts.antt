-- The first of some views from one on.
use Rattle.std.proofs.Common.{◌≡◌, ◌≤◌, ◌∙◌, sym, ℕ, List, [], ◌∷◌, arith}
use mathlib.Core.Bool.{true≢false}
use Rattle.std.specs.Ordering.{nat_cmp}
use Rattle.std.specs.declared.ops.Bound.TheVariants.{Included, Unbounded}
use Rattle.std.specs.BTreeSet.{IsKeyRangeOf}
use Rattle.std.proofs.lemmas.Bool.Decides.{nat_tests}
use Rattle.simplex_state.specs.declared.owed.Owed.{Owed}
use Rattle.simplex_state.specs.OwedViews.{Has, IsFirstFrom}

module _ (owed : Owed) (from : ℕ) (range : List ℕ) (is_range : IsKeyRangeOf nat_cmp (Included from) Unbounded owed.views range) where
  pub first_there : (view : ℕ) (rest : List ℕ) → range ≡ view ∷ rest → IsFirstFrom owed from view
  first_there view rest is = record {
    there = (rw is at is_range.1).1;
    least = λ u at below there. let le = rw is at (is_range.2 u (grind (arith, nat_tests, at), tt) there) in absurd (grind (arith, nat_tests, le, below));
  }

  pub none_there : range ≡ [] → (u : ℕ) → from ≤ u → ¬ Has owed u
  none_there none u at there = true≢false (sym there ∙ is_range.5 none u (grind (arith, nat_tests, at), tt))
