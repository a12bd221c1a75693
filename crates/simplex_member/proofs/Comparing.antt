-- Two comparisons that hold of equals alone are one.
use Rattle.std.proofs.Common.{◌≡◌, Bool, true, false, refl, subst}
use Rattle.std.specs.Prelude.{◌↔◌, IsTrue}
use Rattle.types_core.specs.declared.scheme.Scheme.{Ghosts}
use Rattle.simplex_member.specs.Laws.{RoundLaws}
use Rattle.simplex_member.proofs.Telling.{apart}

same-truth : (a b : Bool) → IsTrue a ↔ IsTrue b → a ≡ b
same-truth true true both = refl
same-truth false false both = refl
same-truth true false both = absurd (apart (both.0 refl))
same-truth false true both = absurd (apart (both.1 refl))

one-comparison : {D : Type 0} (same other : D → D → Bool) → ((x y : D) → IsTrue (same x y) ↔ (x ≡ y)) → ((x y : D) → IsTrue (other x y) ↔ (x ≡ y)) → same ≡ other
one-comparison same other exact too = λ i x y. same-truth (same x y) (other x y) (λ is. (too x y).1 ((exact x y).0 is), λ is. (exact x y).1 ((too x y).0 is)) i

-- so what holds by one of them does by the other
pub laws-by : {S D P G C : Type 0} (g : Ghosts S D P G C) (same other : D → D → Bool) → ((x y : D) → IsTrue (same x y) ↔ (x ≡ y)) → ((x y : D) → IsTrue (other x y) ↔ (x ≡ y)) → RoundLaws g same → RoundLaws g other
laws-by {S} {D} g same other exact too laws = subst (λ (k : D → D → Bool). RoundLaws g k) (one-comparison same other exact too) laws
