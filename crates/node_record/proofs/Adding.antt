-- What a set has behind one element more, or without its first ones, beside what a list has.
use Rattle.std.proofs.Common.{◌≡◌, ◌≢◌, ◌==◌, ◌↔◌, ◌⊎◌, ◌≤◌, ◌<◌, ◌+◌, ◌-◌, ◌^◌, ◌∙◌, inl, inr, ⊎_elim, ℕ, min, Bool, true, false, cond, List, ◌∷◌, Option, Some, sym, ap, subst, arith}
use Rattle.std.specs.Prelude.{Contains, IsTrue, OnErr, OnOk, Result, Ok, Err, if◌then◌else◌}
use Rattle.std.specs.BTreeSet.{BTreeSet, contains}
use Rattle.std.specs.Ordering.{is_eq, nat_cmp}
use Rattle.std.specs.declared.cmp.Ordering.{Ordering}
use Rattle.std.proofs.lemmas.Bool.{cases_lt}
use Rattle.std.proofs.lemmas.Bool.Decides.{nat_tests}
use Rattle.types_quorum.specs.Counting.{Contains-cases, Contains-head, Contains-rest}

-- one more is in the set and in the list, where the set has those alone of which something holds
pub one_more : {X : Type 0} (P : X → Type 0) (k j a : X) (xs : List X) (Old New : Type 0) → j ≡ k → P k → New ↔ (Old ⊎ (k ≡ a)) → Old ↔ (P a × Contains xs a) → New ↔ (P a × Contains (j ∷ xs) a)
one_more {X} P k j a xs Old New same holds more told = subst (λ (x : X). New ↔ (P a × Contains (x ∷ xs) a)) (sym same) (
  λ there. ⊎_elim
      (λ old. let o = told.0 old in (o.0, Contains-rest k xs a o.1))
      (λ is. (subst P is holds, subst (λ (x : X). Contains (k ∷ xs) x) is (Contains-head k xs)))
      (more.0 there),
  λ there. more.1 (⊎_elim (λ is. inr is) (λ later. inl (told.1 (there.0, later))) (Contains-cases k xs a there.1)),
)

-- the same where the set has all
pub one_more_of_all : {X : Type 0} (k a : X) (xs : List X) (Old New : Type 0) → New ↔ (Old ⊎ (k ≡ a)) → Old ↔ Contains xs a → New ↔ Contains (k ∷ xs) a
one_more_of_all {X} k a xs Old New more told = (
  λ there. ⊎_elim
      (λ old. Contains-rest k xs a (told.0 old))
      (λ is. subst (λ (x : X). Contains (k ∷ xs) x) is (Contains-head k xs))
      (more.0 there),
  λ there. more.1 (⊎_elim (λ is. inr is) (λ later. inl (told.1 later)) (Contains-cases k xs a there)),
)

-- the same set has what the list has
pub same_of_all : (old new : Bool) (C : Type 0) → new ≡ old → IsTrue old ↔ C → IsTrue new ↔ C
same_of_all old new C same told = (λ there. told.0 (sym same ∙ there), λ c. same ∙ told.1 c)

-- one that was new, put in and taken back
pub taken_back : {X : Type 0} (cmp : X → X → Ordering) (k a : X) (old mid new : BTreeSet X) (C : Type 0) → ¬ IsTrue (contains cmp old k) → IsTrue (contains cmp mid a) ↔ (IsTrue (contains cmp old a) ⊎ (k ≡ a)) → IsTrue (contains cmp new a) ↔ (IsTrue (contains cmp mid a) × (a ≢ k)) → IsTrue (contains cmp old a) ↔ C → IsTrue (contains cmp new a) ↔ C
taken_back {X} cmp k a old mid new C is_new more fewer told = (
  λ there. let m = fewer.0 there in ⊎_elim (λ was. told.0 was) (λ is. absurd (m.1 (sym is))) (more.0 m.0),
  λ c. let was = told.1 c in fewer.1 (more.1 (inl was), λ is. is_new (subst (λ (x : X). IsTrue (contains cmp old x)) is was)),
)

-- what follows where a call succeeded
pub on_ok-map : {T E P Q : Type 0} (r : Result T E) → (P → Q) → OnOk r P → OnOk r Q
on_ok-map (Ok x) f p = f p
on_ok-map (Err e) f p = p

-- what holds where it failed
pub on_err : {T E : Type 0} (r : Result T E) (P : Type 0) → P → OnErr r P
on_err (Ok x) P p = tt
on_err (Err e) P p = p

-- without those up to a number
pub left_above : (low last u : ℕ) (old new : Bool) (C : Type 0) → low ≤ last → (u ≤ last → ¬ IsTrue new) → (last < u → new ≡ old) → IsTrue old ↔ ((low < u) × C) → IsTrue new ↔ ((last < u) × C)
left_above low last u old new C le gone kept told = elim (cases_lt last u) [
  | inl above ↦ (λ there. (above, (told.0 (sym (kept above) ∙ there)).1), λ c. kept above ∙ told.1 (omega (arith, le, above), c.1))
  | inr below ↦ (λ there. absurd (gone below there), λ c. absurd (omega (arith, below, c.0)))
]

-- other numbers are other keys
pub apart : (a b : ℕ) → (a ≡ b → ⊥) → is_eq (nat_cmp a b) ≡ false
apart a b ne = grind (arith, nat_tests, ne)

-- and the same number is the same key
same_key : (n q : ℕ) → is_eq (nat_cmp n q) ≡ (n == q)
same_key n q = grind (arith, nat_tests)

-- what stands under numbers, behind one more
pub under_number : {X Y : Type 0} (F : Option X → Option Y) (n q : ℕ) (x : X) (y : Y) (old new : Option X) (o : Option Y) → F (Some x) ≡ Some y → new ≡ cond (is_eq (nat_cmp n q)) (Some x) old → F old ≡ o
    → F new ≡ (if n == q then Some y else o)
under_number {X} {Y} F n q x y old new o first is told = ap F is ∙ (ap (λ (b : Bool). F (cond b (Some x) old)) (same_key n q) ∙ go (n == q))
  where
    go : (b : Bool) → F (cond b (Some x) old) ≡ (if b then Some y else o)
    go true = first
    go false = told

-- the number behind one that isn't the last
pub one_further : (number next stored : ℕ) → stored ≡ min (number + 1) (2 ^ 64 - 1) → number ≡ next → next < 2 ^ 64 - 1 → stored ≡ next + 1
one_further number next stored is same left = omega arith
