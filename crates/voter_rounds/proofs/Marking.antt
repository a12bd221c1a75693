-- What a range of a set of views says.
use Rattle.std.specs.BTreeSet.{BTreeSet, IsKeyRangeOf, IsLowerBound, IsUpperBound, contains}
use Rattle.std.specs.Ordering.{nat_cmp}
use Rattle.std.specs.declared.ops.Bound.TheVariants.{Included}
use Rattle.std.proofs.Common.{◌≡◌, ◌≤◌, ◌<◌, ◌+◌, ◌++◌, ◌↔◌, ℕ, true, false, List, [], ◌∷◌, ⊎_elim, sym, ◌∙◌, Bor, arith, if◌then◌else◌}
use Rattle.std.proofs.lemmas.Bool.{cases_lt}
use Rattle.std.proofs.lemmas.Bool.Decides.{nat_tests}
use Rattle.std.specs.Prelude.{Option, Some, None, Bool, IsTrue, is_some, MatchOption, nat_lt}
use Rattle.std.proofs.lemmas.Map.Keys.{ge_from_not_lt}
use Rattle.voter_rounds.specs.Marks.{IsLastMarked, IsMarkedWithin}
use Rattle.std.proofs.lemmas.Bool.{cases_Bool}
use Rattle.voter_rounds.proofs.Choices.{false_is_not}

module _ (set : BTreeSet ℕ) (low high : ℕ) (range : List ℕ) (is_range : IsKeyRangeOf nat_cmp (Included low) (Included high) set range) where
  -- nothing lies in the range
  pub none_within : range ≡ [] → (view : ℕ) → low ≤ view → view ≤ high → contains nat_cmp set view ≡ false
  none_within none view above below = is_range.5 none view (grind (arith, nat_tests, above), grind (arith, nat_tests, below))

  -- the first of the range does
  pub first_within : (view : ℕ) (rest : List ℕ) → range ≡ view ∷ rest → (low ≤ view) × (view ≤ high) × (contains nat_cmp set view ≡ true)
  first_within view rest is =
      let inside = rw is at is_range.1 in
      (grind (arith, nat_tests, inside.0.0), grind (arith, nat_tests, inside.0.1), inside.1)

  -- the last of the range is the last that does
  pub last_marked : (f : ℕ → Bool) → ((u : ℕ) → contains nat_cmp set u ≡ f u) → (view : ℕ) (rest : List ℕ) → range ≡ rest ++ view ∷ [] → IsLastMarked f low high view
  last_marked f shows view rest is =
      let inside = is_range.3 view rest is in
      record {
        behind = grind (arith, nat_tests, inside.0.0);
        up_to = grind (arith, nat_tests, inside.0.1);
        marked = sym (shows view) ∙ inside.1;
        none_above = λ u above below. ⊎_elim
            (λ there.
            let from : low ≤ u = grind (arith, nat_tests, inside.0.0, above) in
            let le : u ≤ view = ge_from_not_lt view u (is_range.4 view rest is u (grind (arith, nat_tests, from), grind (arith, nat_tests, below)) there) in
            absurd (omega (arith, le, above)))
            (λ gone. sym (shows u) ∙ gone)
            (cases_Bool (contains nat_cmp set u));
      }

-- whether a range of the set has a first says whether a key in it is marked
pub range_marks : (set : BTreeSet ℕ) (low high : ℕ) (range rest : List ℕ) → IsKeyRangeOf nat_cmp (Included low) (Included high) set range → (o : Option (Bor ℕ))
    → MatchOption o ((range ≡ []) × (rest ≡ [])) (λ x. range ≡ x.now ∷ rest) → (f : ℕ → Bool) → ((u : ℕ) → contains nat_cmp set u ≡ f u) → (b : Bool) → b ≡ is_some o
    → IsTrue b ↔ ((u : ℕ) × ((low ≤ u) × (u ≤ high)) × (f u ≡ true))
range_marks set low high range rest is_range None none f marks b test = (
  λ yes. absurd (false_is_not test yes),
  λ there. absurd (let gone = none_within set low high range is_range none.0 there.0 there.1.0 there.1.1 in let one : f there.0 ≡ false = sym (marks there.0) ∙ gone in let two = there.2 in cc),
)
range_marks set low high range rest is_range (Some x) first f marks b test =
    let found = first_within set low high range is_range x.now rest first in
    (λ yes. (x.now, (found.0, found.1), sym (marks x.now) ∙ found.2), λ there. test)

-- the same up to a view behind the last of the range
pub marked_within : {f : ℕ → Bool} {first last end : ℕ} {b : Bool} → last + 1 ≡ end → (IsTrue b ↔ ((u : ℕ) × ((first ≤ u) × (u ≤ last)) × (f u ≡ true))) → IsTrue b ↔ IsMarkedWithin f first end
marked_within e both = (
  λ yes. let there = both.0 yes in (there.0, there.1.0, omega (arith, there.1.1, e), there.2),
  λ there. both.1 (there.0, (there.1, omega (arith, there.2, e)), there.3),
)

-- a set whose first lies at or above the floor has nothing below it
pub none_below : (set was : BTreeSet ℕ) (first floor : ℕ) → floor ≤ first → IsLowerBound nat_cmp set first → ((u : ℕ) → floor ≤ u → contains nat_cmp set u ≡ contains nat_cmp was u)
    → (f : ℕ → Bool) → ((u : ℕ) → contains nat_cmp was u ≡ f u) → (u : ℕ) → contains nat_cmp set u ≡ (if nat_lt u floor then false else f u)
none_below set was first floor above least same f shows u = ⊎_elim
    (λ lt.
    let below : nat_lt u floor ≡ true = grind (arith, nat_tests, lt) in
    rw below (⊎_elim (λ there. let le : first ≤ u = grind (arith, nat_tests, least u there) in absurd (omega (arith, le, lt, above))) (λ gone. gone) (cases_Bool (contains nat_cmp set u))))
    (λ ge. let here : nat_lt u floor ≡ false = grind (arith, nat_tests, ge) in rw here (same u ge ∙ shows u))
    (cases_lt u floor)

-- behind the last marked view none is marked
pub none_behind : (set : BTreeSet ℕ) (last view : ℕ) → IsUpperBound nat_cmp set last → last < view → contains nat_cmp set view ≡ false
none_behind set last view greatest before = ⊎_elim
    (λ there. let le : view ≤ last = ge_from_not_lt last view (greatest view there) in absurd (omega (arith, le, before)))
    (λ gone. gone)
    (cases_Bool (contains nat_cmp set view))

-- so none of the views from one behind it on is
pub none_from : (set : BTreeSet ℕ) (last first end : ℕ) → IsUpperBound nat_cmp set last → last < first → (f : ℕ → Bool) → ((u : ℕ) → contains nat_cmp set u ≡ f u) → IsTrue false ↔ IsMarkedWithin f first end
none_from set last first end greatest before f shows = (
  λ never. absurd (cc never),
  λ there. absurd (let gone = none_behind set last there.0 greatest (omega (arith, before, there.1)) in let one : f there.0 ≡ false = sym (shows there.0) ∙ gone in let two = there.3 in cc),
)
