-- Where the last own nullify stands, when one more entry stands behind the others.
use Rattle.std.proofs.Common.{◌≡◌, ◌==◌, ⊎_elim, ℕ, ◌+◌, Bool, true, false, List, [], ◌∷◌, ◌++◌, length, Option, None, Some, if◌then◌else◌, refl, sym, ◌∙◌, ap, subst, append_assoc, length-append, arith}
use Rattle.std.proofs.lemmas.Bool.Decides.{nat_tests}
use Rattle.std.proofs.lemmas.List.Elements.{Contains-push_cases}
use Rattle.types_core.specs.Subject.{notarize, nullify, finalize}
use Rattle.simplex_record.specs.declared.numbering.Numbering.{Numbering}
use Rattle.simplex_record.specs.Record.{Entry, voted, taken, judged, finalizes, floor, IsNullify, IsLastNullify}
use Rattle.simplex_record.specs.CheckerState.{TellsLastNullify, KeepsNumbering}

-- in an empty record none stands
pub tells_none : (D : Type 0) (o : Option ℕ) → o ≡ None → TellsLastNullify {D = D} [] o
tells_none D o is = subst (TellsLastNullify {D = D} []) (sym is) (λ r here. absurd (omega (arith, here.1)))

module _ {D : Type 0} where
  -- one more entry that is none changes nothing
  tells_same : (before : List (Entry D)) (e : Entry D) → (IsNullify e → ⊥) → (o : Option ℕ) → TellsLastNullify before o → TellsLastNullify (before ++ e ∷ []) o
  tells_same before e never None none = λ r here. ⊎_elim (λ earlier. none r earlier) (λ new. never (subst IsNullify (sym new) tt)) (Contains-push_cases before e (voted (nullify r)) here)
  tells_same before e never (Some place) last = record {
    before = last.before;
    round = last.round;
    after = last.after ++ e ∷ [];
    is = ap (λ (l : List (Entry D)). l ++ e ∷ []) last.is ∙ append_assoc last.before (voted (nullify last.round) ∷ last.after) (e ∷ []);
    place_is = last.place_is;
    last = λ r here. ⊎_elim (λ earlier. last.last r earlier) (λ new. never (subst IsNullify (sym new) tt)) (Contains-push_cases last.after e (voted (nullify r)) here);
  }

  -- one that is stands behind all others
  stands_last : (before : List (Entry D)) (e : Entry D) → IsNullify e → (place : ℕ) → place ≡ length before → IsLastNullify (before ++ e ∷ []) place
  stands_last before (voted (notarize p)) is place here = absurd is
  stands_last before (voted (nullify r)) is place here = record { before = before; round = r; after = []; is = refl; place_is = here; last = λ t there. absurd (omega (arith, there.1)) }
  stands_last before (voted (finalize p)) is place here = absurd is
  stands_last before (taken s) is place here = absurd is
  stands_last before (judged r verdict) is place here = absurd is

  -- the numbering is kept when one more entry stands behind the others
  pub KeepsNumbering-push : (old new : Numbering) (before : List (Entry D)) (e : Entry D) (is_nullify : Bool) → KeepsNumbering old before → new.count ≡ old.count + 1
      → new.last_nullify ≡ (if is_nullify then Some old.count else old.last_nullify) → (is_nullify ≡ true → IsNullify e) → (is_nullify ≡ false → IsNullify e → ⊥)
      → new.floor ≡ (if old.count == 0 then finalizes e else old.floor) → KeepsNumbering new (before ++ e ∷ [])
  KeepsNumbering-push old new before e is_nullify keeps count last is_so is_not begins = record {
    count = omega (arith, count, keeps.count, length-append before (e ∷ []));
    last_nullify = by_kind is_nullify last is_so is_not;
    floor_is = begins ∙ by_first before keeps.count keeps.floor_is;
  }
    where
      by_first : (es : List (Entry D)) → old.count ≡ length es → old.floor ≡ floor es → (if old.count == 0 then finalizes e else old.floor) ≡ floor (es ++ e ∷ [])
      by_first [] is floor_is = rw is refl
      by_first (x ∷ es) is floor_is = let some : (old.count == 0) ≡ false = grind (arith, nat_tests, is) in rw some floor_is

      by_kind : (b : Bool) → new.last_nullify ≡ (if b then Some old.count else old.last_nullify) → (b ≡ true → IsNullify e) → (b ≡ false → IsNullify e → ⊥) → TellsLastNullify (before ++ e ∷ []) new.last_nullify
      by_kind true is is_so is_not = subst (TellsLastNullify (before ++ e ∷ [])) (sym is) (stands_last before e (is_so refl) old.count keeps.count)
      by_kind false is is_so is_not = subst (TellsLastNullify (before ++ e ∷ [])) (sym is) (tells_same before e (is_not refl) old.last_nullify keeps.last_nullify)
