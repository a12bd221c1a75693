-- What tests and options say.
use Rattle.std.proofs.Common.{◌≡◌, ℕ, true, false, ◌==◌, subst, refl}
use Rattle.std.specs.Prelude.{Option, Some, None, Bool, IsTrue, IsSome, is_some, is_none}
use Rattle.std.proofs.lemmas.Bool.{eq-eqb}

-- a number is itself
pub is_itself : (n : ℕ) → (n == n) ≡ true
is_itself n = eq-eqb n n refl

-- a test has one answer
pub false_is_not : {b : Bool} → b ≡ false → IsTrue b → ⊥
false_is_not isnt is = absurd (cc (isnt, is))

-- what isn't there is not there
pub none_from_test : {A : Type 0} {o : Option A} → false ≡ is_some o → o ≡ None
none_from_test {o = None} test = refl
none_from_test {o = Some x} test = absurd (cc test)

pub none_is : {A : Type 0} {o : Option A} {b : Bool} → b ≡ is_none o → o ≡ None → b ≡ true
none_is is none = rw none at is

-- what was found is there
pub some-is : {A : Type 0} {o : Option A} {x : A} → Some x ≡ o → IsSome o
some-is e = subst (λ found. is_some found ≡ true) e refl
