-- Elements of which none comes twice are no more than there are in a list that has them all.
use Rattle.std.proofs.Common.{◌≡◌, ◌⊎◌, inl, inr, ⊎_elim, ℕ, zero, suc, ◌+◌, ◌*◌, ◌≤◌, ◌<◌, List, [], ◌∷◌, ◌++◌, length, map, refl, sym, ◌∙◌, ap, subst, length-append, arith}
use Rattle.std.specs.Prelude.{◌≢◌, All, AllPairs, ⊤}
use Rattle.std.proofs.lemmas.Bool.{cases_lt}
use Rattle.std.proofs.lemmas.List.{length-map}
use Rattle.std.proofs.Math.Nat.{suc-mul}
use Rattle.std.proofs.lemmas.List.Kept.{AllPairs-cons}
use Rattle.std.proofs.lemmas.List.Elements.{All-cons, All-nil}

module _ {X : Type 0} where
  -- an element stands in a list
  abbrev pub In : List X → X → Type 0
  In [] x = ⊥
  In (y ∷ ys) x = (y ≡ x) ⊎ In ys x

  -- none stands in it twice
  abbrev pub Apart : List X → Type 0
  Apart [] = ⊤
  Apart (x ∷ xs) = (In xs x → ⊥) × Apart xs

  -- all but one: a list that is shorter by one
  record Others (ys : List X) (x : X) : Type 0 where
    others : List X
    shorter : length ys ≡ suc (length others)
    rest : (z : X) → In ys z → (x ≡ z) ⊎ In others z

  leave-out : (ys : List X) (x : X) → In ys x → Others ys x
  leave-out [] x here = absurd here
  leave-out (y ∷ ys) x here = ⊎_elim
      (λ is. record { others = ys; shorter = omega arith; rest = λ z there. ⊎_elim (λ same. inl (sym is ∙ same)) (λ later. inr later) there })
      (λ later.
      let r = leave-out ys x later in
      record {
        others = y ∷ r.others;
        shorter = omega (arith, r.shorter);
        rest = λ z there. ⊎_elim (λ same. inr (inl same)) (λ more. ⊎_elim (λ same. inl same) (λ still. inr (inr still)) (r.rest z more)) there;
      })
      here

  pub no-more : (xs ys : List X) → Apart xs → ((x : X) → In xs x → In ys x) → length xs ≤ length ys
  no-more [] ys once within = omega arith
  no-more (x ∷ xs) ys once within =
      let r = leave-out ys x (within x (inl refl)) in
      let few = no-more xs r.others once.1
      (λ z later. ⊎_elim (λ same. absurd (once.0 (subst (λ (w : X). In xs w) (sym same) later))) (λ still. still) (r.rest z (within z (inr later)))) in
      omega (arith, few, r.shorter)

  pub in-left : (xs ys : List X) (x : X) → In xs x → In (xs ++ ys) x
  in-left [] ys x here = absurd here
  in-left (y ∷ xs) ys x here = ⊎_elim (λ is. inl is) (λ later. inr (in-left xs ys x later)) here

  pub in-right : (xs ys : List X) (x : X) → In ys x → In (xs ++ ys) x
  in-right [] ys x here = here
  in-right (y ∷ xs) ys x here = inr (in-right xs ys x here)

  -- none twice, by positions
  all-other : (x : X) (xs : List X) → (In xs x → ⊥) → All (λ y. x ≢ y) xs
  all-other x [] none = All-nil (λ y. x ≢ y)
  all-other x (y ∷ xs) none = All-cons (λ z. x ≢ z) y xs (λ is. none (inl (sym is))) (all-other x xs (λ later. none (inr later)))

  pub apart-pairs : (xs : List X) → Apart xs → AllPairs (λ a b. a ≢ b) xs
  apart-pairs [] once = λ i j d before below. absurd (omega (arith, below))
  apart-pairs (x ∷ xs) once = AllPairs-cons (λ a b. a ≢ b) x xs (all-other x xs once.0) (apart-pairs xs once.1)

pub in-map : {X Y : Type 0} (k : X → Y) (xs : List X) (x : X) → In xs x → In (map k xs) (k x)
in-map k [] x here = absurd here
in-map k (y ∷ xs) x here = ⊎_elim (λ is. inl (ap k is)) (λ later. inr (in-map k xs x later)) here

-- each of one list with each of another
abbrev pub each : {X Y Z : Type 0} → (X → Y → Z) → List X → List Y → List Z
each k [] ys = []
each k (x ∷ xs) ys = map (k x) ys ++ each k xs ys

more-times : (a b c : ℕ) → c ≡ a * b → b + c ≡ suc a * b
more-times a b c e = omega (arith, e, suc-mul a b)

pub each-length : {X Y Z : Type 0} (k : X → Y → Z) (xs : List X) (ys : List Y) → length (each k xs ys) ≡ length xs * length ys
each-length k [] ys = omega arith
each-length k (x ∷ xs) ys =
    length-append (map (k x) ys) (each k xs ys) ∙ (ap (λ (n : ℕ). n + length (each k xs ys)) (length-map ys (k x)) ∙ more-times (length xs) (length ys) (length (each k xs ys)) (each-length k xs ys))

pub in-each : {X Y Z : Type 0} (k : X → Y → Z) (xs : List X) (ys : List Y) (x : X) (y : Y) → In xs x → In ys y → In (each k xs ys) (k x y)
in-each k [] ys x y here there = absurd here
in-each {Z = Z} k (w ∷ xs) ys x y here there = ⊎_elim
    (λ is. in-left (map (k w) ys) (each k xs ys) (k x y) (subst (λ (z : Z). In (map (k w) ys) z) (ap (λ v. k v y) is) (in-map (k w) ys y there)))
    (λ later. in-right (map (k w) ys) (each k xs ys) (k x y) (in-each k xs ys x y later there))
    here

-- the numbers below one
pub numbers-below : ℕ → List ℕ
numbers-below zero = []
numbers-below (suc n) = n ∷ numbers-below n

pub numbers-below-length : (n : ℕ) → length (numbers-below n) ≡ n
unfolding numbers-below
numbers-below-length zero = refl
numbers-below-length (suc n) = let rest = numbers-below-length n in omega (arith, rest)

pub in-numbers-below : (n x : ℕ) → x < n → In (numbers-below n) x
unfolding numbers-below
in-numbers-below zero x low = absurd (omega (arith, low))
in-numbers-below (suc n) x low = ⊎_elim (λ less. inr (in-numbers-below n x less)) (λ more. inl (omega (arith, low, more))) (cases_lt x n)
