-- Lists: what of their elements a function gives nothing of, what stands in them, one more element or none behind them.
use Rattle.std.proofs.Common.{◌≡◌, ◌⊎◌, inl, inr, ⊎_elim, ℕ, ◌≤◌, ◌==◌, Bool, true, false, List, [], ◌∷◌, ◌++◌, length, map, Option, Some, None, refl, sym, ◌∙◌, ap, subst, arith}
use Rattle.std.specs.Prelude.{All, Contains, IfSome, if◌then◌else◌, option_map, option_to_list, unwrap_or}
use Rattle.std.proofs.lemmas.List.{append-nil, map-append}
use Rattle.std.proofs.lemmas.List.Elements.{All-append, All-cons, All-contains, All-nil, Contains-append_left, Contains-push, Contains-push_cases}
use Rattle.std.proofs.lemmas.Option.{none-some}
use Rattle.types_quorum.specs.Counting.{Contains-cases, Contains-head, Contains-rest}
use Rattle.simplex_member.specs.Recorded.{put_behind}

pub some-is : {X : Type 0} (x y : X) → Some x ≡ Some y → x ≡ y
some-is {X} x y e = ap (λ (o : Option X). unwrap_or o x) e

pub same-number : (a b : ℕ) → a ≡ b → (a == b) ≡ true
same-number a b e = grind (arith, e)

-- lists that are one begin alike, and go on alike
pub same-first : {X : Type 0} (x y : X) (xs ys : List X) → x ∷ xs ≡ y ∷ ys → x ≡ y
same-first {X} x y xs ys is = ap first is
  where
    first : List X → X
    first [] = x
    first (z ∷ zs) = z

pub same-rest : {X : Type 0} (x y : X) (xs ys : List X) → x ∷ xs ≡ y ∷ ys → xs ≡ ys
same-rest {X} x y xs ys is = ap rest is
  where
    rest : List X → List X
    rest [] = []
    rest (z ∷ zs) = zs

-- a list that isn't empty has an element
pub some-of : {X : Type 0} (xs : List X) → 1 ≤ length xs → (x : X) × Contains xs x
some-of [] some = absurd (omega (arith, some))
some-of (x ∷ xs) some = (x, Contains-head x xs)

module _ {X Y : Type 0} (f : X → Option Y) where
  -- a function gives nothing of each of the elements
  pub record Lacks (xs : List X) : Type 0 where
    pub each : All (λ x. f x ≡ None) xs

  pub lacks-nil : Lacks []
  lacks-nil = record { each = All-nil (λ x. f x ≡ None) }

  pub lacks-cons : (x : X) (xs : List X) → f x ≡ None → Lacks xs → Lacks (x ∷ xs)
  lacks-cons x xs none rest = record { each = All-cons (λ y. f y ≡ None) x xs none rest.each }

  pub lacks-one : (x : X) → f x ≡ None → Lacks (x ∷ [])
  lacks-one x none = lacks-cons x [] none lacks-nil

  pub lacks-append : (xs ys : List X) → Lacks xs → Lacks ys → Lacks (xs ++ ys)
  lacks-append xs ys none more = record { each = All-append (λ x. f x ≡ None) xs ys none.each more.each }

  pub lacks-if : (b : Bool) (xs : List X) → Lacks xs → Lacks (if b then xs else [])
  lacks-if true xs none = none
  lacks-if false xs none = lacks-nil

  pub lacks-map : {Z : Type 0} (k : Z → X) (zs : List Z) → ((z : Z) → f (k z) ≡ None) → Lacks (map k zs)
  lacks-map k [] none = lacks-nil
  lacks-map k (z ∷ zs) none = lacks-cons (k z) (map k zs) (none z) (lacks-map k zs none)

  pub lacks-each : {Z : Type 0} (k : Z → List X) (o : Option Z) → ((z : Z) → Lacks (k z)) → Lacks (unwrap_or (option_map k o) [])
  lacks-each k None none = lacks-nil
  lacks-each k (Some z) none = none z

  -- what it gives something of isn't there
  pub lacks-absurd : (xs : List X) (x : X) (y : Y) → Lacks xs → f x ≡ Some y → Contains xs x → ⊥
  lacks-absurd xs x y none is here = none-some y (sym (All-contains (λ z. f z ≡ None) xs x none.each here) ∙ is)

module _ {X : Type 0} where
  -- what stands in a mapped list is of something that stands in the list, and the other way round
  pub Contains-mapped : {Y : Type 0} (f : Y → X) (ys : List Y) (x : X) → Contains (map f ys) x → (y : Y) × Contains ys y × (f y ≡ x)
  Contains-mapped f [] x here = absurd (omega (arith, here.1))
  Contains-mapped f (y ∷ ys) x here = ⊎_elim
      (λ is. (y, Contains-head y ys, is))
      (λ later. let rest = Contains-mapped f ys x later in (rest.0, Contains-rest y ys rest.0 rest.1, rest.2))
      (Contains-cases (f y) (map f ys) x here)

  pub Contains-map : {Y : Type 0} (f : X → Y) (xs : List X) (x : X) → Contains xs x → Contains (map f xs) (f x)
  Contains-map f [] x here = absurd (omega (arith, here.1))
  Contains-map {Y} f (y ∷ xs) x here = ⊎_elim
      (λ is. subst (λ (z : Y). Contains (map f (y ∷ xs)) z) (ap f is) (Contains-head (f y) (map f xs)))
      (λ later. Contains-rest (f y) (map f xs) (f x) (Contains-map f xs x later))
      (Contains-cases y xs x here)

  -- a list and what is put behind it: one behind the other
  pub put-list : (xs : List X) (o : Option X) → put_behind xs o ≡ xs ++ option_to_list o
  put-list xs None = sym (append-nil xs)
  put-list xs (Some x) = refl

  -- what stood there stands there, and so does what is put
  pub put-before : (xs : List X) (o : Option X) (x : X) → Contains xs x → Contains (put_behind xs o) x
  put-before xs None x here = here
  put-before xs (Some y) x here = Contains-append_left xs (y ∷ []) x here

  pub put-here : (xs : List X) (o : Option X) (x : X) → o ≡ Some x → Contains (put_behind xs o) x
  put-here xs o x is = subst (λ (p : Option X). Contains (put_behind xs p) x) (sym is) (Contains-push xs x)

  -- and nothing else does
  pub put-cases : (xs : List X) (o : Option X) (x : X) → Contains (put_behind xs o) x → Contains xs x ⊎ (o ≡ Some x)
  put-cases xs None x here = inl here
  put-cases xs (Some y) x here = ⊎_elim (λ before. inl before) (λ is. inr (ap (λ (z : X). Some z) is)) (Contains-push_cases xs y x here)

  -- what holds of what is put, if anything is, holds of that
  pub if-some : (P : X → Type 0) (o : Option X) (x : X) → IfSome o P → o ≡ Some x → P x
  if-some P o x all is = subst (λ (p : Option X). IfSome p P) is all

  -- under another form of the elements
  pub map-put : {Y : Type 0} (f : X → Y) (xs : List X) (o : Option X) → map f (put_behind xs o) ≡ map f xs ++ map f (option_to_list o)
  map-put f xs o = ap (map f) (put-list xs o) ∙ map-append f xs (option_to_list o)

  pub put-mapped : {Y : Type 0} (f : X → Y) (xs : List X) (o : Option X) (y : Y) → Contains (map f (put_behind xs o)) y → Contains (map f xs) y ⊎ ((x : X) × (o ≡ Some x) × (f x ≡ y))
  put-mapped f xs None y here = inl here
  put-mapped {Y} f xs (Some x) y here = ⊎_elim
      (λ before. inl before)
      (λ is. inr (x, refl, is))
      (Contains-push_cases (map f xs) (f x) y (subst (λ (l : List Y). Contains l y) (map-append f xs (x ∷ [])) here))

  pub mapped-before : {Y : Type 0} (f : X → Y) (xs : List X) (o : Option X) (y : Y) → Contains (map f xs) y → Contains (map f (put_behind xs o)) y
  mapped-before {Y} f xs o y here = subst (λ (l : List Y). Contains l y) (sym (map-put f xs o)) (Contains-append_left (map f xs) (map f (option_to_list o)) y here)
