-- The suspects of a list that are put into a set.
use Rattle.std.proofs.Common.{◌≡◌, ◌<◌, ◌+◌, ℕ, true, List, [], ◌∷◌, ◌++◌, length, take, get_or, refl, sym, ap, subst, ◌∙◌, inl, inr, map}
use Rattle.std.specs.Prelude.{Contains, IsTrue}
use Rattle.std.specs.Ordering.{is_eq}
use Rattle.std.specs.BTreeSet.{BTreeSet, contains, IsSubset, Updates}
use Rattle.std.proofs.lemmas.Bool.{cases_Bool}
use Rattle.std.proofs.lemmas.List.{map-append, take_more}
use Rattle.types_quorum.specs.Counting.{Contains-nil}
use Rattle.simplex_rules.specs.declared.cast.Suspect.{Suspect}
use Rattle.simplex_rules.specs.Kept.{suspect_cmp}
use Rattle.simplex_rules.proofs.Lists.{each_push}

-- what was in the set stays there, and the new suspect is there
pub inserted_stay : (s t : BTreeSet Suspect) (k : Suspect) → Updates suspect_cmp s t k true → IsSubset suspect_cmp s t
inserted_stay s t k updates = λ q there. elim (cases_Bool (is_eq (suspect_cmp k q))) [
  | inl own ↦ updates.0 q ∙ rw own refl
  | inr other ↦ updates.0 q ∙ rw other there
]

pub inserted_there : (s t : BTreeSet Suspect) (k : Suspect) → Updates suspect_cmp s t k true → IsTrue (contains suspect_cmp t k)
inserted_there s t k updates = updates.1

module _ {X : Type 0} (key : X → Suspect) (P : X → Type 0) where
  -- the set has each suspect of these that P holds of
  abbrev pub Gathers : List X → BTreeSet Suspect → Type 0
  Gathers xs s = (x : X) → Contains xs x → P x → IsTrue (contains suspect_cmp s (key x))

  pub Gathers-none : (s : BTreeSet Suspect) → Gathers [] s
  Gathers-none s = λ x there. absurd (Contains-nil x there)

  pub Gathers-push : (xs : List X) (x : X) (s t : BTreeSet Suspect) → Gathers xs s → IsSubset suspect_cmp s t → (P x → IsTrue (contains suspect_cmp t (key x))) → Gathers (xs ++ x ∷ []) t
  Gathers-push xs x s t old stay new = each_push (λ y. P y → IsTrue (contains suspect_cmp t (key y))) xs x (λ y there holds. stay (key y) (old y there holds)) new

-- one more of the items gone over
pub Gathers-turn : {A X : Type 0} (shows : A → X) (key : X → Suspect) (P : X → Type 0) (xs : List A) (x : A) (s t : BTreeSet Suspect)
    → Gathers key P (map shows xs) s → IsSubset suspect_cmp s t → (P (shows x) → IsTrue (contains suspect_cmp t (key (shows x)))) → Gathers key P (map shows (xs ++ x ∷ [])) t
Gathers-turn {A} {X} shows key P xs x s t old stay new = subst (λ (ys : List X). Gathers key P ys t) (sym (map-append shows xs (x ∷ []))) (Gathers-push key P (map shows xs) (shows x) s t old stay new)

-- one more of the first items
pub Gathers-take : {X : Type 0} (key : X → Suspect) (P : X → Type 0) (xs : List X) (i : ℕ) (x : X) (s t : BTreeSet Suspect) → i < length xs → x ≡ get_or xs i x
    → Gathers key P (take i xs) s → IsSubset suspect_cmp s t → (P x → IsTrue (contains suspect_cmp t (key x))) → Gathers key P (take (i + 1) xs) t
Gathers-take {X} key P xs i x s t below is old stay new =
    let more : take (i + 1) xs ≡ take i xs ++ x ∷ [] = take_more xs i x below ∙ ap (λ (y : X). take i xs ++ y ∷ []) (sym is) in
    subst (λ (ys : List X). Gathers key P ys t) (sym more) (Gathers-push key P (take i xs) x s t old stay new)
