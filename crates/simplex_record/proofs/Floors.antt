-- The floor of a record, and what reaches above it.
use Rattle.std.proofs.Common.{◌≡◌, inl, inr, ℕ, zero, suc, ◌+◌, ◌<◌, ◌≤◌, Bool, true, false, max, List, [], ◌∷◌, ◌++◌, map, refl, sym, ◌∙◌, ap, subst, arith}
use Rattle.std.specs.List.{Contains, filter}
use Rattle.std.proofs.lemmas.Bool.{cases_Bool}
use Rattle.types_quorum.specs.Counting.{Contains-cases, Contains-head, Contains-rest}
use Rattle.types_core.specs.Positions.{term_end, InCoveringRange}
use Rattle.types_core.specs.Subject.{notarize, nullify, finalize}
use Rattle.types_terms.specs.Spans.{term_end-le, term_start-le}
use Rattle.simplex_record.specs.Record.{Entry, voted, taken, judged, greatest, finalizes, last_finalized, enters, current_view, floor}
use Rattle.simplex_record.specs.Rules.{reach}
use Rattle.simplex_record.proofs.Figures.{term_start-some}

-- a view that a nullification covers lies in its term
pub covered-ends : (views view u : ℕ) → 0 < views → InCoveringRange views view u → view ≤ term_end views u
covered-ends views zero u some range = omega arith
covered-ends views (suc v) zero some range = absurd (omega (arith, range.0, term_start-some views (suc v) (omega arith)))
covered-ends views (suc v) (suc u) some range = (term_end-le views u v some).1 ((term_start-le views u v some).0 range.0)

module _ {X : Type 0} where
  -- what passes a filter, and only that, is left
  pub passes : (test : X → Bool) (xs : List X) (x : X) → Contains xs x → test x ≡ true → Contains (filter test xs) x
  passes test [] x here is = absurd (omega (arith, here.1))
  passes test (z ∷ xs) x here is = elim (Contains-cases z xs x here) [
    | inl first ↦ rw (ap test first ∙ is) (subst (λ (y : X). Contains (z ∷ filter test xs) y) first (Contains-head z (filter test xs)))
    | inr later ↦ elim (cases_Bool (test z)) [
      | inl told ↦ rw told (Contains-rest z (filter test xs) x (passes test xs x later is))
      | inr untold ↦ rw untold (passes test xs x later is)
    ]
  ]

  pub passed : (test : X → Bool) (xs : List X) (x : X) → Contains (filter test xs) x → Contains xs x × (test x ≡ true)
  passed test [] x here = absurd (omega (arith, here.1))
  passed test (z ∷ xs) x here = elim (cases_Bool (test z)) [
    | inl told ↦ elim (Contains-cases z (filter test xs) x (rw told at here)) [
      | inl first ↦ (subst (λ (y : X). Contains (z ∷ xs) y) first (Contains-head z xs), ap test (sym first) ∙ told)
      | inr later ↦ let more = passed test xs x later in (Contains-rest z xs x more.0, more.1)
    ]
    | inr untold ↦ let more = passed test xs x (rw untold at here) in (Contains-rest z xs x more.0, more.1)
  ]

  pub filter-map : {Y : Type 0} (f : X → Y) (test : Y → Bool) (xs : List X) → map f (filter (λ x. test (f x)) xs) ≡ filter test (map f xs)
  filter-map f test [] = refl
  filter-map f test (x ∷ xs) = elim (cases_Bool (test (f x))) [
    | inl told ↦ rw told (ap (λ (l : List _). f x ∷ l) (filter-map f test xs))
    | inr untold ↦ rw untold (filter-map f test xs)
  ]

module _ {D : Type 0} where
  -- the floor is a final view
  pub floor-final : (es : List (Entry D)) → floor es ≤ last_finalized es
  floor-final [] = omega arith
  floor-final (e ∷ es) = omega arith

  -- what comes behind some entries changes no floor
  pub floor-front : (es fs : List (Entry D)) → floor es ≤ floor (es ++ fs)
  floor-front [] fs = omega arith
  floor-front (e ∷ es) fs = omega arith

  pub floor-same : (es fs : List (Entry D)) (e : Entry D) → Contains es e → floor (es ++ fs) ≡ floor es
  floor-same [] fs e here = absurd (omega (arith, here.1))
  floor-same (x ∷ es) fs e here = refl

  -- an entry enters no view beyond the one behind its reach, and finalizes none beyond its reach
  pub enters-reach : (views : ℕ) (e : Entry D) → enters views e ≤ reach views e + 1
  enters-reach views (voted s) = omega arith
  enters-reach views (taken (notarize p)) = omega arith
  enters-reach views (taken (nullify r)) = omega arith
  enters-reach views (taken (finalize p)) = omega arith
  enters-reach views (judged r true) = omega arith
  enters-reach views (judged r false) = omega arith

  pub finalizes-reach : (views : ℕ) (e : Entry D) → finalizes e ≤ reach views e
  finalizes-reach views (voted s) = omega arith
  finalizes-reach views (taken (notarize p)) = omega arith
  finalizes-reach views (taken (nullify r)) = omega arith
  finalizes-reach views (taken (finalize p)) = omega arith
  finalizes-reach views (judged r verdict) = omega arith

  -- the current view lies above the last finalized one
  pub current-above : (views : ℕ) (es : List (Entry D)) → last_finalized es < current_view views es
  current-above views [] = omega arith
  current-above views (e ∷ es) = omega (arith, current-above views es, of_one e)
    where
      of_one : (e : Entry D) → finalizes e < max (enters views e) 1
      of_one (voted s) = omega arith
      of_one (taken (notarize p)) = omega arith
      of_one (taken (nullify r)) = omega arith
      of_one (taken (finalize p)) = omega arith
      of_one (judged r verdict) = omega arith

  -- a list with one more entry
  pub greatest-push : (least : ℕ) (f : Entry D → ℕ) (es : List (Entry D)) (e : Entry D) → greatest least f (es ++ e ∷ []) ≡ max (f e) (greatest least f es)
  greatest-push least f [] e = refl
  greatest-push least f (x ∷ es) e = omega (arith, greatest-push least f es e)

  -- a list whose greatest is bounded by another's
  pub greatest-below : (least bound : ℕ) (f : Entry D → ℕ) (es : List (Entry D)) → least ≤ bound → ((e : Entry D) → Contains es e → f e ≤ bound) → greatest least f es ≤ bound
  greatest-below least bound f [] low all = low
  greatest-below least bound f (e ∷ es) low all = omega (arith, all e (Contains-head e es), greatest-below least bound f es low (λ x here. all x (Contains-rest e es x here)))
