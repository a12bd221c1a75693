-- What lists made of others hold.
use Rattle.std.proofs.Common.{◌≡◌, zero, suc, List, [], ◌∷◌, ◌++◌, get_or, sym, ap, ◌∙◌, subst, inl, inr, map, append_assoc, arith}
use Rattle.std.specs.Prelude.{Contains, AllPairs, OnOk, Result, Ok, Err}
use Rattle.std.specs.List.{flat_map}
use Rattle.std.proofs.lemmas.List.Elements.{Contains-append_left, Contains-append_right, Contains-append_cases, Contains-get_or}
use Rattle.std.proofs.lemmas.List.Kept.{AllPairs-cons}
use Rattle.types_quorum.specs.Counting.{Contains-nil, Contains-head, Contains-rest, Contains-cases}

-- the one element of a list of one
pub only_element : {X : Type 0} (x y : X) → Contains (x ∷ []) y → x ≡ y
only_element x y (zero, small, is) = is
only_element x y (suc k, small, is) = absurd (omega arith)

-- what holds of each element, and of one more
pub each_push : {X : Type 0} (P : X → Type 0) (xs : List X) (x : X) → ((y : X) → Contains xs y → P y) → P x → (y : X) → Contains (xs ++ x ∷ []) y → P y
each_push P xs x all here y there = elim (Contains-append_cases xs (x ∷ []) y there) [
  | inl among ↦ all y among
  | inr last ↦ subst P (only_element x y last) here
]

pub Contains-map : {X Y : Type 0} (f : X → Y) (xs : List X) (y : Y) → Contains (map f xs) y → (x : X) × Contains xs x × (f x ≡ y)
Contains-map f [] y there = absurd (Contains-nil y there)
Contains-map f (x ∷ xs) y there = elim (Contains-cases (f x) (map f xs) y there) [
  | inl first ↦ (x, Contains-head x xs, first)
  | inr later ↦ let found = Contains-map f xs y later in (found.0, Contains-rest x xs found.0 found.1, found.2)
]

pub in-map : {X Y : Type 0} (f : X → Y) (xs : List X) (x : X) → Contains xs x → Contains (map f xs) (f x)
in-map f [] x there = absurd (Contains-nil x there)
in-map f (y ∷ xs) x there = elim (Contains-cases y xs x there) [
  | inl first ↦ subst (λ z. Contains (map f (y ∷ xs)) (f z)) first (Contains-head (f y) (map f xs))
  | inr later ↦ Contains-rest (f y) (map f xs) (f x) (in-map f xs x later)
]

pub Contains-flat_map : {X Y : Type 0} (f : X → List Y) (xs : List X) (y : Y) → Contains (flat_map f xs) y → (x : X) × Contains xs x × Contains (f x) y
Contains-flat_map f [] y there = absurd (Contains-nil y there)
Contains-flat_map f (x ∷ xs) y there = elim (Contains-append_cases (f x) (flat_map f xs) y there) [
  | inl own ↦ (x, Contains-head x xs, own)
  | inr later ↦ let found = Contains-flat_map f xs y later in (found.0, Contains-rest x xs found.0 found.1, found.2)
]

pub in-flat_map : {X Y : Type 0} (f : X → List Y) (xs : List X) (x : X) (y : Y) → Contains xs x → Contains (f x) y → Contains (flat_map f xs) y
in-flat_map f [] x y there own = absurd (Contains-nil x there)
in-flat_map f (z ∷ xs) x y there own = elim (Contains-cases z xs x there) [
  | inl first ↦ Contains-append_left (f z) (flat_map f xs) y (subst (λ w. Contains (f w) y) (sym first) own)
  | inr later ↦ Contains-append_right (f z) (flat_map f xs) y (in-flat_map f xs x y later own)
]

module _ {Y : Type 0} (R : Y → Y → Type 0) where
  pub AllPairs-nil : AllPairs R []
  AllPairs-nil i j d lt small = absurd (omega arith)

  AllPairs-tail : (x : Y) (xs : List Y) → AllPairs R (x ∷ xs) → AllPairs R xs
  AllPairs-tail x xs h = λ i j d lt small. h (suc i) (suc j) d (omega arith) (omega arith)

  AllPairs-head : (x y : Y) (xs : List Y) → AllPairs R (x ∷ xs) → Contains xs y → R x y
  AllPairs-head x y xs h (k, small, is) = subst (λ (z : Y). R x z) is (h 0 (suc k) y (omega arith) (omega arith))

  -- a list in order, and then another
  pub AllPairs-append : (xs ys : List Y) → AllPairs R xs → AllPairs R ys → ((x y : Y) → Contains xs x → Contains ys y → R x y) → AllPairs R (xs ++ ys)
  AllPairs-append [] ys own others across = others
  AllPairs-append (x ∷ xs) ys own others across =
      AllPairs-cons R x (xs ++ ys)
      (λ k d small. before (get_or (xs ++ ys) k d) (Contains-get_or (xs ++ ys) k d small))
      (AllPairs-append xs ys (AllPairs-tail x xs own) others (λ y z there behind. across y z (Contains-rest x xs y there) behind))
    where
      before : (y : Y) → Contains (xs ++ ys) y → R x y
      before y there = elim (Contains-append_cases xs ys y there) [
        | inl left ↦ AllPairs-head x y xs own left
        | inr right ↦ across x y (Contains-head x xs) right
      ]

-- what holds where there is a result follows from what else does
pub OnOk-then : {T E A B : Type 0} (r : Result T E) → (A → B) → OnOk r A → OnOk r B
OnOk-then (Ok x) so a = so a
OnOk-then (Err e) so a = tt

-- a list after three were appended
pub appended_three : {X : Type 0} (xs ys zs us one two three : List X) → ys ≡ xs ++ one → zs ≡ ys ++ two → us ≡ zs ++ three → us ≡ xs ++ (one ++ (two ++ three))
appended_three {X} xs ys zs us one two three first second third =
    third ∙ ap (λ (l : List X). l ++ three) (second ∙ ap (λ (l : List X). l ++ two) first) ∙ append_assoc (xs ++ one) two three ∙ append_assoc xs one (two ++ three)
