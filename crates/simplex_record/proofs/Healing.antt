-- Which recorded nullifies lie between two views.
use Rattle.std.specs.BTreeSet.{BTreeSet, IsKeyRangeOf}
use Rattle.std.specs.declared.cmp.Reverse.{Reverse}
use Rattle.std.specs.declared.ops.Bound.TheVariants.{Included, Excluded}
use Rattle.std.proofs.Common.{◌≡◌, inl, inr, ◌≤◌, ◌<◌, ℕ, true, false, List, [], ◌∷◌, Some, refl, sym, ◌∙◌, arith}
use Rattle.std.proofs.lemmas.Bool.{cases_lt}
use Rattle.std.proofs.lemmas.Bool.Decides.{nat_tests}
use Rattle.std.proofs.lemmas.Option.{none-some}
use Rattle.types_core.specs.declared.position.Round.{Round}
use Rattle.types_core.specs.LatestFirst.{as_key, holds, latest_first}
use Rattle.types_core.specs.Positions.{term_start}
use Rattle.types_core.specs.Subject.{Statement, notarize, nullify, finalize}
use Rattle.simplex_record.specs.declared.votes.Votes.{Votes}
use Rattle.simplex_record.specs.Record.{Entry, HasVoted, last_finalized}
use Rattle.simplex_record.specs.Rules.{HasNoOpenNullify}
use Rattle.simplex_record.specs.CheckerState.{KeepsVotes}
use Rattle.simplex_record.specs.Told.{told, nullified_at, vote_in}
use Rattle.simplex_record.proofs.Ruling.{absent}
use Rattle.simplex_record.proofs.Telling.{is_some-true, votes-none, votes-some, at_same, of_view}

module _ (set : BTreeSet (Reverse ℕ)) (low high : ℕ) (range : List (Reverse ℕ)) (is_range : IsKeyRangeOf latest_first (Excluded (as_key high)) (Included (as_key low)) set range) where
  -- nothing lies between the two
  pub none_between : range ≡ [] → (view : ℕ) → low ≤ view → view < high → holds set view ≡ false
  none_between none view above below = is_range.5 none (as_key view) (grind (arith, nat_tests, below), grind (arith, nat_tests, above))

  -- the first of the range does
  pub first_between : (view : ℕ) (rest : List (Reverse ℕ)) → range ≡ as_key view ∷ rest → (low ≤ view) × (view < high) × (holds set view ≡ true)
  first_between view rest is =
      let inside = rw is at is_range.1 in
      (grind (arith, nat_tests, inside.0.1), grind (arith, nat_tests, inside.0.0), inside.1)

module _ {D : Type 0} (votes : Votes) (before : List (Entry D)) (keeps : KeepsVotes votes before) where
  -- a nullify of a view that is kept was recorded
  nullify_of : (view : ℕ) → holds votes.nullifies view ≡ true → (r : Round) × (r.view ≡ view) × HasVoted before (nullify r)
  nullify_of view kept =
      let some = is_some-true (told (vote_in (nullified_at view)) before) (sym (keeps.nullifies view) ∙ kept) in
      let found = votes-some (nullified_at view) before some.0 some.1 in
      of_statement view some.0 found.0 found.1 found.2
    where
      of_statement : (view : ℕ) (r : Round) (s : Statement D) → HasVoted before s → nullified_at view s ≡ Some r → (t : Round) × (t.view ≡ view) × HasVoted before (nullify t)
      of_statement view r (notarize p) here gives = absurd (none-some r gives)
      of_statement view r (nullify t) here gives = (t, (of_view view t.view t r gives).0, here)
      of_statement view r (finalize p) here gives = absurd (none-some r gives)

  -- where none lies between the last finalized view and a view in its term, all are healed, and the other way round
  pub healed-none : (views view : ℕ) → ((u : ℕ) → term_start views view ≤ u → last_finalized before < u → u < view → holds votes.nullifies u ≡ false) → HasNoOpenNullify views before view
  healed-none views view none r above below here = elim (cases_lt (last_finalized before) r.view) [
    | inl past ↦
        let gone = votes-none (nullified_at r.view) before (absent _ _ (keeps.nullifies r.view) (none r.view above past below)) (nullify r) here in
        absurd (none-some r (sym gone ∙ at_same r.view r.view r refl))
    | inr not_past ↦ omega (arith, not_past)
  ]

  pub none-healed : (views view u : ℕ) → HasNoOpenNullify views before view → term_start views view ≤ u → last_finalized before < u → u < view → holds votes.nullifies u ≡ true → ⊥
  none-healed views view u healed above past below kept =
      let r = nullify_of u kept in
      absurd (omega (arith, healed r.0 (omega (arith, above, r.1)) (omega (arith, below, r.1)) r.2, past, r.1))
