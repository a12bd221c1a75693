-- What a list says when one more element stands behind it.
use Rattle.std.specs.Prelude.{is_some}
use Rattle.std.specs.BTreeMap.{BTreeMap}
use Rattle.std.specs.BTreeSet.{BTreeSet}
use Rattle.std.specs.Option.{option_or}
use Rattle.std.specs.declared.cmp.Reverse.{Reverse}
use Rattle.std.proofs.Common.{◌≡◌, inl, inr, ℕ, ◌≤◌, ◌==◌, max, true, List, [], ◌∷◌, ◌++◌, Option, Some, None, sym, ◌∙◌, ap, subst, arith, if◌then◌else◌}
use Rattle.std.proofs.lemmas.Bool.{cases_eq}
use Rattle.std.proofs.lemmas.Bool.Decides.{nat_tests}
use Rattle.types_core.specs.LatestFirst.{Adds, Stores, as_key, holds, stored}
use Rattle.simplex_record.specs.Record.{Entry, greatest}
use Rattle.simplex_record.specs.CheckerState.{KeepsSet, KeepsMap}
use Rattle.simplex_record.specs.Told.{told}
use Rattle.simplex_record.proofs.Figures.{greatest-least}
use Rattle.simplex_record.proofs.Telling.{cases_option, or-first, told-push, at_same, at_other}

-- the greatest is the greater of what it was and what the new element gives
pub greatest-push : {X : Type 0} (least : ℕ) (f : X → ℕ) (xs : List X) (x : X) → greatest least f (xs ++ x ∷ []) ≡ max (greatest least f xs) (f x)
greatest-push least f [] x = omega arith
greatest-push least f (z ∷ xs) x = omega (arith, greatest-push least f xs x)

-- it stays where the new element gives no more than the least
pub greatest-same : {X : Type 0} (least : ℕ) (f : X → ℕ) (xs : List X) (x : X) → f x ≤ least → greatest least f (xs ++ x ∷ []) ≡ greatest least f xs
greatest-same least f xs x low = omega (arith, greatest-push least f xs x, greatest-least least f xs, low)

module _ {X Y : Type 0} (f : X → Option Y) (xs : List X) (x : X) where
  -- where nothing was told, what is given of the new element is
  pub told-first : told f xs ≡ None → told f (xs ++ x ∷ []) ≡ f x
  told-first nothing = told-push f xs x ∙ ap (λ (o : Option Y). option_or o (f x)) nothing

  -- where something was, that stays
  told-still : (y : Y) → told f xs ≡ Some y → told f (xs ++ x ∷ []) ≡ Some y
  told-still y some = told-push f xs x ∙ or-first (told f xs) (f x) y some

  -- a new element of which nothing is given tells nothing
  pub told-same : f x ≡ None → told f (xs ++ x ∷ []) ≡ told f xs
  told-same none = elim (cases_option (told f xs)) [
    | inl nothing ↦ told-first nothing ∙ none ∙ sym nothing
    | inr some ↦ told-still some.0 some.1 ∙ sym some.1
  ]

  -- something is told where something is given of the new element
  pub told-some_new : (y : Y) → f x ≡ Some y → is_some (told f (xs ++ x ∷ [])) ≡ true
  told-some_new y gives = elim (cases_option (told f xs)) [
    | inl nothing ↦ ap is_some (told-first nothing ∙ gives)
    | inr some ↦ ap is_some (told-still some.0 some.1)
  ]

module _ {D Y : Type 0} (f : ℕ → Entry D → Option Y) (before : List (Entry D)) (x : Entry D) where
  -- a set stays right where nothing is given of the new entry
  pub KeepsSet-same : (set : BTreeSet (Reverse ℕ)) → ((view : ℕ) → f view x ≡ None) → KeepsSet f set before → KeepsSet f set (before ++ x ∷ [])
  KeepsSet-same set none keeps = λ view. keeps view ∙ sym (ap is_some (told-same (f view) before x (none view)))

  -- and so does a map
  pub KeepsMap-same : (map : BTreeMap (Reverse ℕ) Y) → ((view : ℕ) → f view x ≡ None) → KeepsMap f map before → KeepsMap f map (before ++ x ∷ [])
  KeepsMap-same map none keeps = λ view. keeps view ∙ sym (told-same (f view) before x (none view))

  -- where something is given of the new entry at one view
  module _ (at : ℕ) (y : Y) (gives : (view : ℕ) → f view x ≡ (if at == view then Some y else None)) where
    -- a set stays right once it has the view
    pub KeepsSet-push : (set new : BTreeSet (Reverse ℕ)) → Adds set new at → KeepsSet f set before → KeepsSet f new (before ++ x ∷ [])
    KeepsSet-push set new inserts keeps = λ view. elim (cases_eq at view) [
      | inl same ↦
          let has : holds new view ≡ true = grind (arith, nat_tests, inserts.0 (as_key view)) in
          has ∙ sym (told-some_new (f view) before x y (gives view ∙ at_same view at y same))
      | inr other ↦
          let kept : holds new view ≡ holds set view = grind (arith, nat_tests, inserts.0 (as_key view)) in
          kept ∙ keeps view ∙ sym (ap is_some (told-same (f view) before x (gives view ∙ at_other view at y other)))
    ]

    -- and a map once it has the value at the view, of which nothing was told
    pub KeepsMap-push : (map new : BTreeMap (Reverse ℕ) Y) → told (f at) before ≡ None → Stores map new at (Some y) → KeepsMap f map before → KeepsMap f new (before ++ x ∷ [])
    KeepsMap-push map new nothing inserts keeps = λ view. elim (cases_eq at view) [
      | inl same ↦
          let has : stored new view ≡ Some y = grind (arith, nat_tests, inserts.0 (as_key view)) in
          let untold : told (f view) before ≡ None = subst (λ (v : ℕ). told (f v) before ≡ None) same nothing in
          has ∙ sym (told-first (f view) before x untold ∙ gives view ∙ at_same view at y same)
      | inr other ↦
          let kept : stored new view ≡ stored map view = grind (arith, nat_tests, inserts.0 (as_key view)) in
          kept ∙ keeps view ∙ sym (told-same (f view) before x (gives view ∙ at_other view at y other))
    ]
