-- Counting in lists of numbers, of which none stands in its list twice.
use Rattle.std.specs.Prelude.{◌≡◌, ◌≢◌, ◌↔◌, ℕ, zero, suc, ◌+◌, ◌≤◌, ◌<◌, ◌==◌, ◌&&◌, Bool, not, true, List, [], ◌∷◌, ◌++◌, length, All, AllPairs, refl}
use Rattle.std.specs.Bool.{Decides}
use Rattle.std.specs.Cmp.{nat_eq_equiv, unsigned_Decides}
use Rattle.std.specs.List.{Contains, filter}
use Rattle.std.specs.Set.{is_member}
use Rattle.std.proofs.Common.{inl, inr, ◌⊎◌, sym, ◌∙◌, ap, subst, length-append, arith}
use Rattle.std.proofs.lemmas.Bool.{and_parts, and_from, cases_Bool, eqb-true}
use Rattle.std.proofs.lemmas.Bool.Decides.{Decides-not, not_from_Decides}
use Rattle.std.proofs.lemmas.List.Elements.{All-contains, All-cons, All-append, All-filter, Contains-get_or, Contains-append_cases}
use Rattle.std.proofs.lemmas.List.Filters.{length-filter_both}
use Rattle.std.proofs.lemmas.List.Kept.{AllPairs-cons, AllPairs-filter}
use Rattle.std.proofs.lemmas.Map.Made.{is_member-Decides, is_member-filter, length-le_from_is_member, IsDistinct-from_AllPairs}
use Rattle.std.proofs.lemmas.Map.Steps.{length-le_from_distinct_below}

-- no number stands in the list twice
abbrev pub NoneTwice : List ℕ → Type 0
NoneTwice xs = AllPairs (λ x y. x ≢ y) xs

-- each number of the list is below n
abbrev pub AllBelow : ℕ → List ℕ → Type 0
AllBelow n xs = All (λ x. x < n) xs

-- whether the list has x
abbrev pub has : List ℕ → ℕ → Bool
has xs x = is_member ◌==◌ xs x

-- those of xs that are in ys too
abbrev pub common : List ℕ → List ℕ → List ℕ
common xs ys = filter (has ys) xs

-- those of xs that are not in ys
abbrev pub except : List ℕ → List ℕ → List ℕ
except xs ys = filter (λ x. not (has ys x)) xs

-- ---- members

-- the test is true just of members
pub has-Decides : (xs : List ℕ) (x : ℕ) → Decides (has xs x) (Contains xs x)
has-Decides xs x = is_member-Decides unsigned_Decides xs x

-- a number is in the list or it is not
pub in_or_not : (xs : List ℕ) (x : ℕ) → Contains xs x ⊎ (Contains xs x → ⊥)
in_or_not xs x = elim (cases_Bool (has xs x)) [
  | inl e ↦ inl ((has-Decides xs x).0 e)
  | inr e ↦ inr (not_from_Decides (has xs x) (has-Decides xs x) e)
]

-- nothing is in an empty list
pub Contains-nil : {X : Type 0} (x : X) → Contains [] x → ⊥
Contains-nil x here = absurd (omega (arith, here.1))

-- the first element of a list is in it
pub Contains-head : {X : Type 0} (x : X) (xs : List X) → Contains (x ∷ xs) x
Contains-head x xs = (0, omega arith, refl)

-- and so is what is in the rest
pub Contains-rest : {X : Type 0} (y : X) (xs : List X) (x : X) → Contains xs x → Contains (y ∷ xs) x
Contains-rest y xs x here = (suc here.0, omega (arith, here.1), here.2)

-- what is in a list is its first element, or in the rest
pub Contains-cases : {X : Type 0} (y : X) (xs : List X) (x : X) → Contains (y ∷ xs) x → (y ≡ x) ⊎ Contains xs x
Contains-cases y xs x (zero, below, is) = inl is
Contains-cases y xs x (suc k, below, is) = inr (k, omega (arith, below), is)

-- a list has nothing or something
pub none_or_some : (xs : List ℕ) → ((x : ℕ) → Contains xs x → ⊥) ⊎ ((x : ℕ) × Contains xs x)
none_or_some [] = inl Contains-nil
none_or_some (x ∷ xs) = inr (x, Contains-head x xs)

-- a filter keeps the members that pass its test
kept : (p : ℕ → Bool) (xs : List ℕ) (x : ℕ) → Contains (filter p xs) x ↔ (Contains xs x × (p x ≡ true))
kept p xs x =
    let same : has (filter p xs) x ≡ (has xs x && p x) = is_member-filter nat_eq_equiv p x (λ y e. ap p (eqb-true x y e)) xs in (
      λ here. let both = and_parts (has xs x) (p x) (sym same ∙ (has-Decides (filter p xs) x).1 here) in ((has-Decides xs x).0 both.0, both.1),
      λ both. (has-Decides (filter p xs) x).0 (same ∙ and_from (has xs x) (p x) ((has-Decides xs x).1 both.0) both.1),
    )

-- what two lists have in common is in both
pub common-members : (xs ys : List ℕ) (x : ℕ) → Contains (common xs ys) x ↔ (Contains xs x × Contains ys x)
common-members xs ys x =
    let k = kept (has ys) xs x in
    let t = has-Decides ys x in
    (λ here. ((k.0 here).0, t.0 (k.0 here).1), λ both. k.1 (both.0, t.1 both.1))

-- what a list has except another's is in the one and not in the other
pub except-members : (xs ys : List ℕ) (x : ℕ) → Contains (except xs ys) x ↔ (Contains xs x × (Contains ys x → ⊥))
except-members xs ys x =
    let k = kept (λ y. not (has ys y)) xs x in
    let t = Decides-not (has ys x) (has-Decides ys x) in
    (λ here. ((k.0 here).0, t.0 (k.0 here).1), λ both. k.1 (both.0, t.1 both.1))

-- ---- none twice

-- a new number before such a list
pub NoneTwice-cons : (x : ℕ) (xs : List ℕ) → (Contains xs x → ⊥) → NoneTwice xs → NoneTwice (x ∷ xs)
NoneTwice-cons x xs new once = AllPairs-cons (λ (y z : ℕ). y ≢ z) x xs (λ k d l e. new (subst (Contains xs) (sym e) (Contains-get_or xs k d l))) once

-- the first number of such a list is not in the rest
pub NoneTwice-head : (x : ℕ) (xs : List ℕ) → NoneTwice (x ∷ xs) → Contains xs x → ⊥
NoneTwice-head x xs once again = once 0 (suc again.0) x (omega arith) (omega (arith, again.1)) (sym again.2)

-- and the rest is such a list
pub NoneTwice-rest : (x : ℕ) (xs : List ℕ) → NoneTwice (x ∷ xs) → NoneTwice xs
NoneTwice-rest x xs once = λ i j d before below. once (suc i) (suc j) d (omega arith) (omega arith)

-- one such list behind another, with no number in both
pub NoneTwice-append : (xs ys : List ℕ) → NoneTwice xs → NoneTwice ys → ((x : ℕ) → Contains xs x → Contains ys x → ⊥) → NoneTwice (xs ++ ys)
NoneTwice-append [] ys once_x once_y apart = once_y
NoneTwice-append (x ∷ xs) ys once_x once_y apart =
    NoneTwice-cons x (xs ++ ys)
    (λ again. elim (Contains-append_cases xs ys x again) [ inl here ↦ NoneTwice-head x xs once_x here | inr there ↦ apart x (Contains-head x xs) there ])
    (NoneTwice-append xs ys (NoneTwice-rest x xs once_x) once_y (λ y here there. apart y (Contains-rest x xs y here) there))

-- what such a list has in common with another
pub common-NoneTwice : (xs ys : List ℕ) → NoneTwice xs → NoneTwice (common xs ys)
common-NoneTwice xs ys once = AllPairs-filter (λ (x y : ℕ). x ≢ y) (has ys) xs once

-- and what it has except another's
pub except-NoneTwice : (xs ys : List ℕ) → NoneTwice xs → NoneTwice (except xs ys)
except-NoneTwice xs ys once = AllPairs-filter (λ (x y : ℕ). x ≢ y) (λ x. not (has ys x)) xs once

-- ---- all below

-- what numbers below n have in common with others
pub common-AllBelow : (n : ℕ) (xs ys : List ℕ) → AllBelow n xs → AllBelow n (common xs ys)
common-AllBelow n xs ys below = All-filter (has ys) (λ (x : ℕ). x < n) xs below

-- and those that are not among others
pub except-AllBelow : (n : ℕ) (xs ys : List ℕ) → AllBelow n xs → AllBelow n (except xs ys)
except-AllBelow n xs ys below = All-filter (λ x. not (has ys x)) (λ (x : ℕ). x < n) xs below

-- ---- lengths

-- a list whose numbers are all in another is no longer
pub no_longer : (xs ys : List ℕ) → NoneTwice xs → ((x : ℕ) → Contains xs x → Contains ys x) → length xs ≤ length ys
no_longer xs ys once within =
    length-le_from_is_member nat_eq_equiv xs ys (IsDistinct-from_AllPairs unsigned_Decides xs once) (λ x here. (has-Decides ys x).1 (within x ((has-Decides xs x).0 here)))

-- a list that is longer than another has a number that isn't in it
pub escapes : (xs ys : List ℕ) → NoneTwice xs → length ys < length xs → (x : ℕ) × Contains xs x × (Contains ys x → ⊥)
escapes xs ys once longer = elim (none_or_some (except xs ys)) [
  | inl none ↦
      let within : (x : ℕ) → Contains xs x → Contains ys x = λ x here.
      elim (in_or_not ys x) [ inl there ↦ there | inr missing ↦ absurd (none x ((except-members xs ys x).1 (here, missing))) ] in
      absurd (omega (arith, longer, no_longer xs ys once within))
  | inr some ↦ let both = (except-members xs ys some.0).0 some.1 in (some.0, both.0, both.1)
]

-- numbers below n are at most n
pub room : (n : ℕ) (xs : List ℕ) → NoneTwice xs → AllBelow n xs → length xs ≤ n
room n xs once below =
    length-le_from_distinct_below xs n (IsDistinct-from_AllPairs unsigned_Decides xs once) (λ x here. All-contains (λ (y : ℕ). y < n) xs x below ((has-Decides xs x).0 here))

-- n numbers below n are all of these
pub all_there : (n : ℕ) (xs : List ℕ) → NoneTwice xs → AllBelow n xs → length xs ≡ n → (x : ℕ) → x < n → Contains xs x
all_there n xs once below long x low = elim (in_or_not xs x) [
  | inl here ↦ here
  | inr new ↦ absurd (omega (arith, long, room n (x ∷ xs) (NoneTwice-cons x xs new once) (All-cons (λ (y : ℕ). y < n) x xs low below)))
]

-- two lists of numbers below n, counted together, pass n by no more than they have in common
pub common-length : (n : ℕ) (xs ys : List ℕ) → NoneTwice xs → NoneTwice ys → AllBelow n xs → AllBelow n ys → length xs + length ys ≤ n + length (common xs ys)
common-length n xs ys once_x once_y below_x below_y =
    let others : List ℕ = except xs ys in
    let once : NoneTwice (others ++ ys) = NoneTwice-append others ys (except-NoneTwice xs ys once_x) once_y (λ x here there. ((except-members xs ys x).0 here).1 there) in
    let below : AllBelow n (others ++ ys) = All-append (λ (x : ℕ). x < n) others ys (except-AllBelow n xs ys below_x) below_y in
    omega (arith, room n (others ++ ys) once below, length-append others ys, length-filter_both (has ys) (λ x. not (has ys x)) (λ x. refl) xs)
