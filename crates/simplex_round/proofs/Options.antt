-- What is there and what isn't.
use Rattle.std.proofs.Common.{◌≡◌, refl, sym, ◌∙◌, arith}
use Rattle.std.proofs.lemmas.Grind.{common_steps}
use Rattle.std.specs.Prelude.{Option, Some, None, is_some, IsSome, option_map, Bool, true, false, IsTrue}

module _ {A : Type 0} where
  -- what isn't there is not there
  pub none-IsSome : {o r : Option A} → r ≡ o → r ≡ None → IsSome o → ⊥
  none-IsSome {o} {r} e n some = let none : o ≡ None = sym e ∙ n in absurd (grind (arith, common_steps))

  -- what a thing that is there is mapped to is there
  pub IsSome-map : {B : Type 0} (f : A → B) (o : Option A) → is_some o ≡ true → IsSome (option_map f o)
  IsSome-map f None none = absurd (grind (arith, common_steps))
  IsSome-map f (Some x) some = refl

-- a test has one answer
pub false-IsTrue : {b : Bool} → b ≡ false → IsTrue b → ⊥
false-IsTrue {b} isnt is = absurd (grind (arith, common_steps))
