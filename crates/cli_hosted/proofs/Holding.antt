-- What a call tells of what a handle holds.
use Rattle.std.proofs.Common.{◌≡◌, Option, Some, subst, sym}
use Rattle.std.specs.Prelude.{Result, Ok, Err, IfErr, IfOk, IfSome}

-- what was opened is held
pub held_of : {A E S Done : Type 0} (opening : Result A E) (value : A → S) (held : Option S) (P : S → Type 0)
    → IfOk opening (λ a. held ≡ Some (value a)) → IfErr opening (λ why. Done → ⊥) → Done → IfOk opening (λ a. P (value a)) → (state : S) × (held ≡ Some state) × P state
held_of (Ok a) value held P is none done has = (value a, is, has)
held_of (Err why) value held P is none done has = absurd (none done)

-- what is said of what was held
pub of_held : {S : Type 0} (held : Option S) (state : S) (P : S → Type 0) → held ≡ Some state → P state → IfSome held P
of_held {S} held state P is has = subst (λ (o : Option S). IfSome o P) (sym is) has
