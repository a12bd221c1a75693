-- What is covered, as spans, and by a history.
use Rattle.std.proofs.Common.{ℕ, ◌≡◌, ◌<◌, ◌↔◌, ◌⊎◌, ◌==◌, ⊎_elim, inl, inr, refl, sym, subst}
use Rattle.std.specs.Prelude.{List, ◌∷◌, Option, Some, None, IfSome, IfNone, MatchOption}
use Rattle.std.proofs.lemmas.Bool.{or_cases, or_left, or_right, eqb-true, eq-eqb}
use Rattle.types_core.specs.Positions.{term_end, InCoveringRange}
use Rattle.messages_certificates.specs.declared.nullification.Nullification.{Nullification}
use Rattle.simplex_record.specs.Coverage as spans
use Rattle.simplex_record.specs.Coverage.{LiesIn}
use Rattle.simplex_record.specs.Spans.{covers-span}
use Rattle.voter_history.specs.History.{Setup, Point, nullified, was_nullified}
use Rattle.voter_views.specs.Views.{IsCovered, AreCoveredBetween, IsFirstUncovered}

module _ {S D P G C : Type 0} where
  -- one more nullification covers what lies in its span
  pub covered-next : (s : Setup S C) (h : List (Point S D P G C)) (now : ℕ) (c : Nullification S D P G C) (covered covers : Type 0) (view : ℕ) → 0 < s.length
      → covers ↔ (covered ⊎ LiesIn (c.round.view, term_end s.length c.round.view) view) → covered ↔ IsCovered s h view → covers ↔ IsCovered s (nullified now c ∷ h) view
  covered-next s h now c covered covers view some step before =
      let span = covers-span s.length view c.round.view some in (
        λ now_covered. ⊎_elim
            (λ was. let there = before.0 was in (there.0, there.1, or_right (c.round.view == there.0) (was_nullified h there.0) there.2))
            (λ lies. (c.round.view, span.0 lies, or_left (c.round.view == c.round.view) (was_nullified h c.round.view) (eq-eqb c.round.view c.round.view refl)))
            (step.0 now_covered),
        λ there. ⊎_elim
            (λ e. let at : c.round.view ≡ there.0 = eqb-true c.round.view there.0 e in step.1 (inr (span.1 (subst (λ u. InCoveringRange s.length view u) (sym at) there.1))))
            (λ was. step.1 (inl (before.1 (there.0, there.1, was))))
            (or_cases (c.round.view == there.0) (was_nullified h there.0) there.2),
      )

  -- the first view that the spans leave bare is the first that isn't covered
  pub first-uncovered : (s : Setup S C) (h : List (Point S D P G C)) (all : List (ℕ × ℕ)) (parent view : ℕ) (o : Option ℕ) → ((u : ℕ) → spans.IsCovered all u ↔ IsCovered s h u)
      → IfSome o (λ first. spans.IsFirstUncovered all parent view first) → IfNone o (spans.AreCoveredBetween all parent view)
      → MatchOption o (AreCoveredBetween s h parent view) (λ first. IsFirstUncovered s h parent view first)
  first-uncovered s h all parent view None same some none = λ u after before. (same u).0 (none u after before)
  first-uncovered s h all parent view (Some first) same some none = record {
    after = some.after;
    before = some.before;
    bare = λ is. some.bare ((same first).1 is);
    least = λ u after before. (same u).0 (some.least u after before);
  }
