-- Of two things one: truth values and options.
use Rattle.std.specs.Prelude.{is_some, max, ◌||◌, nat_lt, nat_le, IfSome, IfNone, OnOk, IfOk, Result, Ok, Err}
use Rattle.std.specs.Ordering.{nat_cmp, is_gt, is_eq, ord_max}
use Rattle.std.specs.declared.cmp.Ordering.TheVariants.{Less}
use Rattle.std.specs.Cmp.{nat_cmp_is}
use Rattle.std.specs.Option.{option_map, option_or}
use Rattle.std.specs.List.{Contains, list_any}
use Rattle.std.proofs.Common.{◌≡◌, ◌⊎◌, inl, inr, ◌≤◌, ◌<◌, ◌==◌, ℕ, Bool, true, false, List, Option, Some, None, refl, sym, ◌∙◌, ap, arith, if◌then◌else◌}
use Rattle.std.proofs.lemmas.Bool.{cases_eq}
use Rattle.std.proofs.lemmas.Bool.Decides.{nat_tests}
use Rattle.std.proofs.lemmas.List.Folds.{list_any_at}
use Rattle.std.proofs.lemmas.Map.Views.{Contains-from_any}

pub bool_cases : (b : Bool) → (b ≡ true) ⊎ (b ≡ false)
bool_cases true = inl refl
bool_cases false = inr refl

pub or_cases : (a b : Bool) → (a || b) ≡ true → (a ≡ true) ⊎ (b ≡ true)
or_cases true b e = inl refl
or_cases false b e = inr e

pub or_right : (a b : Bool) → b ≡ true → (a || b) ≡ true
or_right true b e = refl
or_right false b e = e

pub option_cases : {Y : Type 0} (o : Option Y) → (o ≡ None) ⊎ ((y : Y) × (o ≡ Some y))
option_cases None = inl refl
option_cases (Some y) = inr (y, refl)

-- what follows from what is there
pub if_some-map : {A : Type 0} {P Q : A → Type 0} (o : Option A) → ((x : A) → P x → Q x) → IfSome o P → IfSome o Q
if_some-map None f p = p
if_some-map (Some x) f p = f x p

pub if_none-map : {A P Q : Type 0} (o : Option A) → (P → Q) → IfNone o P → IfNone o Q
if_none-map None f p = f p
if_none-map (Some x) f p = p

pub is_some-map : {A B : Type 0} (f : A → B) (o : Option A) → is_some (option_map f o) ≡ is_some o
is_some-map f None = refl
is_some-map f (Some x) = refl

pub is_some-there : {A : Type 0} (o : Option A) → is_some o ≡ true → (x : A) × (o ≡ Some x)
is_some-there None e = absurd (grind (arith, e))
is_some-there (Some x) e = (x, refl)

pub is_some-none : {A : Type 0} (o : Option A) → is_some o ≡ false → o ≡ None
is_some-none None e = refl
is_some-none (Some x) e = absurd (grind (arith, e))

pub option_or-some : {T : Type 0} (a b : Option T) → is_some a ≡ true → is_some (option_or a b) ≡ true
option_or-some None b some = absurd (grind (arith, some))
option_or-some (Some x) b some = refl

pub option_or-later : {T : Type 0} (a : Option T) (y : T) → is_some (option_or a (Some y)) ≡ true
option_or-later None y = refl
option_or-later (Some x) y = refl

pub option_or-none : {T : Type 0} (a : Option T) → option_or a None ≡ a
option_or-none None = refl
option_or-none (Some x) = refl

-- the first of two that is there is one of them
pub option_or-cases : {T : Type 0} (a b : Option T) → is_some (option_or a b) ≡ true → (is_some a ≡ true) ⊎ (is_some b ≡ true)
option_or-cases None b e = inr e
option_or-cases (Some x) b e = inl refl

pub if_same : {T : Type 0} (u : ℕ) (x y : T) → (if u == u then x else y) ≡ x
if_same u x y = grind (arith, nat_tests)

pub if_other : {T : Type 0} (u v : ℕ) (x y : T) → (u ≡ v → ⊥) → (if u == v then x else y) ≡ y
if_other u v x y ne = grind (arith, nat_tests, ne)

pub if_either : {T : Type 0} (b : Bool) (x : T) → (if b then x else x) ≡ x
if_either true x = refl
if_either false x = refl

pub nat_lt-yes : (a b : ℕ) → a < b → nat_lt a b ≡ true
nat_lt-yes a b lt = grind (arith, nat_tests, lt)

pub nat_lt-no : (a b : ℕ) → b ≤ a → nat_lt a b ≡ false
nat_lt-no a b le = grind (arith, nat_tests, le)

pub nat_le-yes : (a b : ℕ) → a ≤ b → nat_le a b ≡ true
nat_le-yes a b le = grind (arith, nat_tests, le)

pub nat_le-no : (a b : ℕ) → b < a → nat_le a b ≡ false
nat_le-no a b lt = grind (arith, nat_tests, lt)

-- the order of keys, from that of numbers
pub not_gt_from_le : (a b : ℕ) → a ≤ b → is_gt (nat_cmp a b) ≡ false
not_gt_from_le a b le = grind (arith, nat_tests)

pub less_from_lt : (a b : ℕ) → a < b → nat_cmp a b ≡ Less
less_from_lt a b lt = sym (nat_cmp_is a b Less lt)

pub apart_from_lt : (a b : ℕ) → a < b → is_eq (nat_cmp a b) ≡ false
apart_from_lt a b lt = grind (arith, nat_tests)

pub apart : (a b : ℕ) → (a ≡ b → ⊥) → is_eq (nat_cmp a b) ≡ false
apart a b ne = grind (arith, nat_tests, ne)

pub max_zero : (n : ℕ) → max 0 n ≡ n
max_zero n = grind (arith, nat_tests)

pub max_flip : (a b : ℕ) → max a b ≡ max b a
max_flip a b = grind (arith, nat_tests)

-- what nothing raises is not raised
pub same_level : (n : ℕ) → false ≡ nat_lt n (max 0 n)
same_level n = grind (arith, nat_tests)

pub raised_level : (n v : ℕ) → nat_lt n v ≡ nat_lt n (max v n)
raised_level n v = grind (arith, nat_tests)

pub ord_max_is : (a b : ℕ) → ord_max nat_cmp a b ≡ max a b
ord_max_is a b = grind (arith, nat_tests)

-- what follows where a call succeeded
pub on_ok-map : {T E P Q : Type 0} (r : Result T E) → (P → Q) → OnOk r P → OnOk r Q
on_ok-map (Ok x) f p = f p
on_ok-map (Err e) f p = p

pub if_ok-map : {T E : Type 0} {P Q : T → Type 0} (r : Result T E) → ((x : T) → P x → Q x) → IfOk r P → IfOk r Q
if_ok-map (Ok x) f p = f x p
if_ok-map (Err e) f p = p

-- a set of numbers has a number where its list does
same_key : (v : ℕ) → is_eq (nat_cmp v v) ≡ true
same_key v = grind (arith, nat_tests)

equal_keys : (a b : ℕ) → is_eq (nat_cmp a b) ≡ true → a ≡ b
equal_keys a b is = elim (cases_eq a b) [
  | inl same ↦ same
  | inr ne ↦ absurd (let never = apart a b ne in grind (arith, is, never))
]

pub found_key : (keys : List ℕ) (v : ℕ) → Contains keys v → list_any (λ k. is_eq (nat_cmp v k)) keys ≡ true
found_key keys v is = list_any_at (λ k. is_eq (nat_cmp v k)) keys is.0 v is.1 (ap (λ (k : ℕ). is_eq (nat_cmp v k)) is.2 ∙ same_key v)

pub key_found : (keys : List ℕ) (v : ℕ) → list_any (λ k. is_eq (nat_cmp v k)) keys ≡ true → Contains keys v
key_found keys v is = Contains-from_any equal_keys v keys is
