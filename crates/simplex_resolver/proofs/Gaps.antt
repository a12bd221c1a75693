-- The views that are to be repaired, as a list, and by what came.
use Rattle.std.specs.Prelude.{not, nat_lt, nat_le, max, ◌||◌, ◌&&◌, Contains, IsTrue, ⊤}
use Rattle.std.proofs.Common.{◌≡◌, ◌⊎◌, inl, inr, ⊎_elim, ◌↔◌, ◌≤◌, ◌<◌, ◌==◌, ◌+◌, ◌-◌, ◌^◌, ℕ, zero, suc, Bool, true, false, List, [], ◌∷◌, Option, None, Some, refl, sym, subst, ◌∙◌, ap, arith, if◌then◌else◌}
use Rattle.std.specs.List.{AllByRecursion}
use Rattle.std.specs.List.Sorted.{IsStrictlySortedBy}
use Rattle.std.specs.Ordering.{nat_cmp}
use Rattle.std.specs.declared.cmp.Ordering.TheVariants.{Less}
use Rattle.std.specs.BTreeSet.{contains}
use Rattle.std.proofs.lemmas.Bool.{cases_lt}
use Rattle.std.proofs.lemmas.Bool.Decides.{nat_tests}
use Rattle.types_core.specs.Positions.{term_start, term_end, next_term_start, IsTermStart}
use Rattle.simplex_record.specs.Coverage.{AreCoveredBetween, IsCovered, IsFirstUncovered, LiesIn}
use Rattle.simplex_resolver.specs.declared.scanner.Scanner.{Scanner}
use Rattle.simplex_resolver.specs.RepairHistory.{Item, Judged, covered, current, finalized, floor, has_failed, live}
use Rattle.simplex_resolver.specs.Outstanding.{IsOutstanding}
use Rattle.simplex_resolver.specs.Keeps.{Stands}
use Rattle.simplex_resolver.specs.Earlier.{earlier}
use Rattle.simplex_resolver.specs.Gaps.{IsAnchorGap, IsFailedGap, IsFirstAbove, IsGap, gaps_behind, greatest, is_anchor, is_failed, is_gap, is_in, last_gap, those_behind}
use Rattle.simplex_resolver.proofs.Choices.{bool_cases, or_cases, or_right, key_found, less_from_lt, nat_lt-yes, nat_lt-no, nat_le-yes}
use Rattle.simplex_resolver.proofs.Covers.{finalized-floor}
use Rattle.simplex_resolver.proofs.TermStarts.{next_term_start-gt, start_behind-ge, term_end-ge}

-- ---- lists

none_in : {X : Type 0} (x : X) → Contains [] x → ⊥
none_in x there = absurd (omega (arith, there.1))

first_in : {X : Type 0} (x : X) (xs : List X) → Contains (x ∷ xs) x
first_in x xs = (0, omega arith, refl)

later_in : {X : Type 0} (y : X) (xs : List X) (x : X) → Contains xs x → Contains (y ∷ xs) x
later_in y xs x there = (suc there.0, omega (arith, there.1), there.2)

in_cases : {X : Type 0} (y : X) (xs : List X) (x : X) → Contains (y ∷ xs) x → (y ≡ x) ⊎ Contains xs x
in_cases y xs x (zero, below, is) = inl is
in_cases y xs x (suc k, below, is) = inr (k, omega (arith, below), is)

module _ (test : ℕ → Bool) where
  step_yes : (more last : ℕ) → test (last + 1) ≡ true → those_behind test (suc more) last ≡ (last + 1) ∷ those_behind test more (last + 1)
  step_yes more last passed = ap (λ (b : Bool). if b then (last + 1) ∷ those_behind test more (last + 1) else those_behind test more (last + 1)) passed

  step_no : (more last : ℕ) → test (last + 1) ≡ false → those_behind test (suc more) last ≡ those_behind test more (last + 1)
  step_no more last failing = ap (λ (b : Bool). if b then (last + 1) ∷ those_behind test more (last + 1) else those_behind test more (last + 1)) failing

  -- the first of them, and those behind it
  those_first : (count last v : ℕ) → last < v → v ≤ last + count → test v ≡ true → ((u : ℕ) → last < u → u < v → test u ≡ false) → those_behind test count last ≡ v ∷ those_behind test (last + count - v) v
  those_first zero last v past le is none = absurd (omega (arith, past, le))
  those_first (suc n) last v past le is none = elim (cases_lt (last + 1) v) [
    | inl before ↦
        let rest = those_first n (last + 1) v before (omega (arith, le)) is (λ u from to. none u (omega (arith, from)) to) in
        let same : last + 1 + n - v ≡ last + suc n - v = omega arith in
        step_no n last (none (last + 1) (omega arith) before) ∙ (rest ∙ ap (λ (m : ℕ). v ∷ those_behind test m v) same)
    | inr here ↦
        let e : last + 1 ≡ v = omega (arith, past, here) in
        let same : n ≡ last + suc n - v = omega (arith, e) in
        step_yes n last (subst (λ (u : ℕ). test u ≡ true) (sym e) is)
        ∙ (ap (λ (u : ℕ). u ∷ those_behind test n u) e ∙ ap (λ (m : ℕ). v ∷ those_behind test m v) same)
  ]

  those_none : (count last : ℕ) → ((u : ℕ) → last < u → test u ≡ false) → those_behind test count last ≡ []
  those_none zero last none = refl
  those_none (suc n) last none = step_no n last (none (last + 1) (omega arith)) ∙ those_none n (last + 1) (λ u from. none u (omega (arith, from)))

  -- each lies behind the view, and the test is true of it
  those_to : (count last v : ℕ) → Contains (those_behind test count last) v → (last < v) × (test v ≡ true)
  those_to zero last v there = absurd (none_in v there)
  those_to (suc n) last v there = elim (bool_cases (test (last + 1))) [
    | inl passed ↦ ⊎_elim
        (λ e. (omega (arith, e), subst (λ (u : ℕ). test u ≡ true) e passed))
        (λ later. let r = those_to n (last + 1) v later in ((let past = r.0 in omega (arith, past)), r.1))
        (in_cases (last + 1) (those_behind test n (last + 1)) v (subst (λ (xs : List ℕ). Contains xs v) (step_yes n last passed) there))
    | inr failing ↦
        let r = those_to n (last + 1) v (subst (λ (xs : List ℕ). Contains xs v) (step_no n last failing) there) in
        ((let past = r.0 in omega (arith, past)), r.1)
  ]

  those_from : (count last v : ℕ) → last < v → v ≤ last + count → test v ≡ true → Contains (those_behind test count last) v
  those_from zero last v past le is = absurd (omega (arith, past, le))
  those_from (suc n) last v past le is = elim (cases_lt (last + 1) v) [
    | inl before ↦
        let rest = those_from n (last + 1) v before (omega (arith, le)) is in
        elim (bool_cases (test (last + 1))) [
          | inl passed ↦ subst (λ (xs : List ℕ). Contains xs v) (sym (step_yes n last passed)) (later_in (last + 1) (those_behind test n (last + 1)) v rest)
          | inr failing ↦ subst (λ (xs : List ℕ). Contains xs v) (sym (step_no n last failing)) rest
        ]
    | inr here ↦
        let e : last + 1 ≡ v = omega (arith, past, here) in
        let passed : test (last + 1) ≡ true = subst (λ (u : ℕ). test u ≡ true) (sym e) is in
        subst (λ (xs : List ℕ). Contains xs v) (sym (step_yes n last passed))
        (subst (λ (u : ℕ). Contains ((last + 1) ∷ those_behind test n (last + 1)) u) e (first_in (last + 1) (those_behind test n (last + 1))))
  ]

  -- all lie above what isn't above the view, and they ascend
  those_above : (count last low : ℕ) → low ≤ last → AllByRecursion (λ v. nat_cmp low v ≡ Less) (those_behind test count last)
  those_above zero last low le = tt
  those_above (suc n) last low le = elim (bool_cases (test (last + 1))) [
    | inl passed ↦ subst (λ (xs : List ℕ). AllByRecursion (λ v. nat_cmp low v ≡ Less) xs) (sym (step_yes n last passed))
        (less_from_lt low (last + 1) (omega (arith, le)), those_above n (last + 1) low (omega (arith, le)))
    | inr failing ↦ subst (λ (xs : List ℕ). AllByRecursion (λ v. nat_cmp low v ≡ Less) xs) (sym (step_no n last failing)) (those_above n (last + 1) low (omega (arith, le)))
  ]

  pub those_ascend : (count last : ℕ) → IsStrictlySortedBy nat_cmp (those_behind test count last)
  unfolding IsStrictlySortedBy
  those_ascend zero last = tt
  those_ascend (suc n) last = elim (bool_cases (test (last + 1))) [
    | inl passed ↦ subst (λ (xs : List ℕ). IsStrictlySortedBy nat_cmp xs) (sym (step_yes n last passed)) (those_above n (last + 1) (last + 1) (omega arith), those_ascend n (last + 1))
    | inr failing ↦ subst (λ (xs : List ℕ). IsStrictlySortedBy nat_cmp xs) (sym (step_no n last failing)) (those_ascend n (last + 1))
  ]

-- a number of some is at most the greatest
le_greatest : (ns : List ℕ) (v : ℕ) → Contains ns v → v ≤ greatest ns
le_greatest [] v there = absurd (none_in v there)
le_greatest (n ∷ ns) v there = elim (in_cases n ns v there) [
  | inl e ↦ grind (arith, nat_tests, e)
  | inr later ↦ let le = le_greatest ns v later in grind (arith, nat_tests, le)
]

-- ---- truth values

and_cases : (a b : Bool) → (a && b) ≡ true → (a ≡ true) × (b ≡ true)
and_cases true b e = (refl, e)
and_cases false b e = absurd (grind (arith, e))

and_both : (a b : Bool) → a ≡ true → b ≡ true → (a && b) ≡ true
and_both a b first second = rw (first, second) refl

or_first : (a b : Bool) → a ≡ true → (a || b) ≡ true
or_first a b is = rw is refl

not_true : (b : Bool) → not b ≡ true → b ≡ false
not_true true e = absurd (grind (arith, e))
not_true false e = refl

not_false : (b : Bool) → b ≡ false → not b ≡ true
not_false b is = rw is refl

lt_of : (a b : ℕ) → nat_lt a b ≡ true → a < b
lt_of a b e = grind (arith, nat_tests, e)

eq_of : (a b : ℕ) → (a == b) ≡ true → a ≡ b
eq_of a b e = grind (arith, nat_tests, e)

same_of : (a b : ℕ) → a ≡ b → (a == b) ≡ true
same_of a b e = grind (arith, nat_tests, e)

le_of : (a b : ℕ) → nat_le a b ≡ true → a ≤ b
le_of a b e = grind (arith, nat_tests, e)

-- a span holds a view where the test says so
in_later : (span : ℕ × ℕ) (spans : List (ℕ × ℕ)) (v : ℕ) → IsCovered spans v → IsCovered (span ∷ spans) v
in_later span spans v (s, there, lies) = (s, later_in span spans s there, lies)

covered_from : (spans : List (ℕ × ℕ)) (v : ℕ) → is_in spans v ≡ true → IsCovered spans v
covered_from [] v e = absurd (grind (arith, e))
covered_from (span ∷ spans) v e = elim (or_cases (nat_le span.0 v && nat_le v span.1) (is_in spans v) e) [
  | inl here ↦
      let both = and_cases (nat_le span.0 v) (nat_le v span.1) here in
      (span, first_in span spans, (le_of span.0 v both.0, le_of v span.1 both.1))
  | inr later ↦ in_later span spans v (covered_from spans v later)
]

covered_to : (spans : List (ℕ × ℕ)) (v : ℕ) → IsCovered spans v → is_in spans v ≡ true
covered_to [] v (s, there, lies) = absurd (none_in s there)
covered_to (span ∷ spans) v (s, there, lies) = elim (in_cases span spans s there) [
  | inl e ↦
      let held : LiesIn span v = subst (λ (t : ℕ × ℕ). LiesIn t v) (sym e) lies in
      or_first (nat_le span.0 v && nat_le v span.1) (is_in spans v) (and_both (nat_le span.0 v) (nat_le v span.1) (nat_le-yes span.0 v held.0) (nat_le-yes v span.1 held.1))
  | inr later ↦ or_right (nat_le span.0 v && nat_le v span.1) (is_in spans v) (covered_to spans v (s, later, lies))
]

module _ (s : Scanner) where
  abbrev due_test : ℕ → Bool
  due_test v = (v == s.floor + 1) || (v == term_start s.held.length v)

  abbrev bare_test : ℕ → Bool
  bare_test v = not (is_in s.held.covered v) && (is_anchor s v || is_failed s v)

  gap_to : (v : ℕ) → is_gap s v ≡ true → IsGap s v
  gap_to v e =
      let a = and_cases s.live (nat_lt s.floor v && bare_test v) e in
      let b = and_cases (nat_lt s.floor v) (bare_test v) a.1 in
      let c = and_cases (not (is_in s.held.covered v)) (is_anchor s v || is_failed s v) b.1 in
      let above = lt_of s.floor v b.0 in
      let bare : ¬ IsCovered s.held.covered v = λ is. let there = covered_to s.held.covered v is in let gone = not_true (is_in s.held.covered v) c.0 in grind (arith, there, gone) in (
        a.0,
        ⊎_elim
            (λ anchor.
            let d = and_cases (nat_lt v s.current) (due_test v) anchor in
            inl (record {
              above = above;
              below = lt_of v s.current d.0;
              bare = bare;
              anchor = ⊎_elim (λ is. inl (eq_of v (s.floor + 1) is)) (λ is. inr (eq_of v (term_start s.held.length v) is)) (or_cases (v == s.floor + 1) (v == term_start s.held.length v) d.1);
            }))
            (λ failed.
            let d = and_cases (nat_lt (v + 1) (2 ^ 64)) (contains nat_cmp s.held.failed v) failed in
            inr (record { above = above; fits = lt_of (v + 1) (2 ^ 64) d.0; bare = bare; failed = d.1 }))
            (or_cases (is_anchor s v) (is_failed s v) c.1),
      )

  gap_by : (v : ℕ) → s.live ≡ true → s.floor < v → ¬ IsCovered s.held.covered v → (is_anchor s v || is_failed s v) ≡ true → is_gap s v ≡ true
  gap_by v on above bare due =
      let gone : is_in s.held.covered v ≡ false = elim (bool_cases (is_in s.held.covered v)) [ inl is ↦ absurd (bare (covered_from s.held.covered v is)) | inr failing ↦ failing ] in
      and_both s.live (nat_lt s.floor v && bare_test v) on
      (and_both (nat_lt s.floor v) (bare_test v) (nat_lt-yes s.floor v above)
      (and_both (not (is_in s.held.covered v)) (is_anchor s v || is_failed s v) (not_false (is_in s.held.covered v) gone) due))

  gap_from : (v : ℕ) → IsGap s v → is_gap s v ≡ true
  gap_from v (on, inl a) = gap_by v on a.above a.bare (or_first (is_anchor s v) (is_failed s v) (and_both (nat_lt v s.current) (due_test v) (nat_lt-yes v s.current a.below) (⊎_elim
      (λ e. or_first (v == s.floor + 1) (v == term_start s.held.length v) (same_of v (s.floor + 1) e))
      (λ e. or_right (v == s.floor + 1) (v == term_start s.held.length v) (same_of v (term_start s.held.length v) e)) a.anchor)))
  gap_from v (on, inr f) = gap_by v on f.above f.bare (or_right (is_anchor s v) (is_failed s v) (and_both (nat_lt (v + 1) (2 ^ 64)) (contains nat_cmp s.held.failed v) (nat_lt-yes (v + 1) (2 ^ 64) f.fits) f.failed))

  no_gap : (v : ℕ) → ¬ IsGap s v → is_gap s v ≡ false
  no_gap v none = elim (bool_cases (is_gap s v)) [ inl is ↦ absurd (none (gap_to v is)) | inr failing ↦ failing ]

  gap_within : (v : ℕ) → IsGap s v → v ≤ last_gap s
  gap_within v (on, inl a) = let below = a.below in grind (arith, nat_tests, below)
  gap_within v (on, inr f) = let le = le_greatest s.held.failed.keys v (key_found s.held.failed.keys v f.failed) in grind (arith, nat_tests, le)

  -- a step over the list of those behind a view
  pub gaps_step : (last v : ℕ) → IsFirstAbove (IsGap s) last (Some v) → gaps_behind s last ≡ v ∷ gaps_behind s v
  gaps_step last v first =
      let past = first.0 in
      let within = gap_within v first.1 in
      let same : last + (last_gap s - last) - v ≡ last_gap s - v = omega (arith, past, within) in
      those_first (is_gap s) (last_gap s - last) last v past (omega (arith, past, within)) (gap_from v first.1) (λ u from to. no_gap u (first.2 u from to))
      ∙ ap (λ (m : ℕ). v ∷ those_behind (is_gap s) m v) same

  pub gaps_end : (last : ℕ) → IsFirstAbove (IsGap s) last None → gaps_behind s last ≡ []
  gaps_end last none = those_none (is_gap s) (last_gap s - last) last (λ u past. no_gap u (none u past))

  -- ---- and by what came
  module _ (views : ℕ) (h : List Item) (k : Stands views s h) (fits : (v : ℕ) → has_failed h v ≡ true → v + 1 < 2 ^ 64) (v : ℕ) where
    late : s.floor < v → finalized h < v
    late above = let low = finalized-floor h in let is = k.floor_is in omega (arith, above, low, is)

    gap_outstanding : IsGap s v → IsOutstanding views h v
    gap_outstanding (on, inl a) =
        let above = a.above in
        let below = a.below in
        let floor_is = k.floor_is in
        let current_is = k.current_is in
        record {
          live_is = sym k.live_is ∙ on;
          above = omega (arith, above, floor_is);
          bare = elim (bool_cases (covered views h v)) [ inl is ↦ absurd (a.bare ((k.holds.covered_is v (late above)).1 is)) | inr failing ↦ failing ];
          due = inl (omega (arith, below, current_is), ⊎_elim (λ e. inl (omega (arith, e, floor_is))) (λ term. inr (rw k.holds.length_is at term)) a.anchor);
        }
    gap_outstanding (on, inr f) =
        let above = f.above in
        let floor_is = k.floor_is in
        record {
          live_is = sym k.live_is ∙ on;
          above = omega (arith, above, floor_is);
          bare = elim (bool_cases (covered views h v)) [ inl is ↦ absurd (f.bare ((k.holds.covered_is v (late above)).1 is)) | inr failing ↦ failing ];
          due = inr (and_cases (nat_lt (finalized h) v) (has_failed h v) (sym (k.holds.failed v) ∙ f.failed)).1;
        }

    outstanding_gap : IsOutstanding views h v → IsGap s v
    outstanding_gap o =
        let over = o.above in
        let floor_is = k.floor_is in
        let current_is = k.current_is in
        let above : s.floor < v = omega (arith, over, floor_is) in
        let bare : ¬ IsCovered s.held.covered v = λ is. let there = (k.holds.covered_is v (late above)).0 is in let gone = o.bare in grind (arith, there, gone) in (
          k.live_is ∙ o.live_is,
          ⊎_elim
              (λ anchor. inl (record {
                above = above;
                below = (let below = anchor.0 in omega (arith, below, current_is));
                bare = bare;
                anchor = ⊎_elim (λ e. inl (omega (arith, e, floor_is))) (λ term. inr (rw k.holds.length_is term)) anchor.1;
              }))
              (λ failed. inr (record {
                above = above;
                fits = fits v failed;
                bare = bare;
                failed = k.holds.failed v ∙ and_both (nat_lt (finalized h) v) (has_failed h v) (nat_lt-yes (finalized h) v (late above)) failed;
              })) o.due,
        )

    pub gaps_exact : Contains (gaps_behind s s.floor) v ↔ IsOutstanding views h v
    gaps_exact = (
      λ there. gap_outstanding (gap_to v (those_to (is_gap s) (last_gap s - s.floor) s.floor v there).1),
      λ o.
          let gap = outstanding_gap o in
          let within = gap_within v gap in
          let over = o.above in
          let floor_is = k.floor_is in
          let past : s.floor < v = omega (arith, over, floor_is) in
          those_from (is_gap s) (last_gap s - s.floor) s.floor v past (omega (arith, past, within)) (gap_from v gap),
    )

-- ---- the first behind a view

module _ (s : Scanner) (last : ℕ) where
  -- no anchor lies up to where the search begins
  pub none_to_floor : last ≤ s.floor → (v : ℕ) → last < v → v ≤ s.floor → ¬ IsAnchorGap s v
  none_to_floor low v past le a = let above = a.above in absurd (omega (arith, above, le))

  pub none_in_term : 0 < s.held.length → s.floor < last → (end : ℕ) → end ≡ term_end s.held.length last → (v : ℕ) → last < v → v ≤ end → ¬ IsAnchorGap s v
  none_in_term some high end is v past le a = ⊎_elim
      (λ e. absurd (omega (arith, e, past, high)))
      (λ term. let next = start_behind-ge s.held.length some last v past term in absurd (omega (arith, next, le, is))) a.anchor

  -- where the first that isn't covered is no anchor, none lies up to its term's end
  pub none_further : 0 < s.held.length → (before first end : ℕ) → s.floor ≤ before → ((v : ℕ) → last < v → v ≤ before → ¬ IsAnchorGap s v) → IsFirstUncovered s.held.covered before s.current first
      → ¬ (first ≡ s.floor + 1) → ¬ IsTermStart s.held.length first → end ≡ term_end s.held.length first → (v : ℕ) → last < v → v ≤ end → ¬ IsAnchorGap s v
  none_further some before first end high none is other inside end_is v past le a = elim (cases_lt before v) [
    | inr low ↦ none v past low a
    | inl from ↦ elim (cases_lt v first) [
      | inl short ↦ a.bare (is.least v from short)
      | inr on ↦ elim (cases_lt first v) [
        | inr to ↦
            let e : v ≡ first = omega (arith, on, to) in
            ⊎_elim (λ first_is. other (omega (arith, first_is, e))) (λ term. inside (subst (λ (u : ℕ). IsTermStart s.held.length u) e term)) a.anchor
        | inl behind ↦
            let after = is.after in
            ⊎_elim
            (λ e. absurd (omega (arith, e, behind, after, high)))
            (λ term. let next = start_behind-ge s.held.length some first v behind term in absurd (omega (arith, next, le, end_is))) a.anchor
      ]
    ]
  ]

  -- the first that isn't covered is the first of the anchors, where it is one
  pub first_is_anchor : (before first : ℕ) → s.floor ≤ before → last ≤ before → ((v : ℕ) → last < v → v ≤ before → ¬ IsAnchorGap s v) → IsFirstUncovered s.held.covered before s.current first
      → (first ≡ s.floor + 1) ⊎ IsTermStart s.held.length first → IsFirstAbove (IsAnchorGap s) last (Some first)
  first_is_anchor before first high low none is anchor =
      let after = is.after in (
        omega (arith, after, low),
        record { above = omega (arith, after, high); below = is.before; bare = is.bare; anchor = anchor },
        λ v past short a. elim (cases_lt before v) [
          | inl from ↦ a.bare (is.least v from short)
          | inr to ↦ none v past to a
        ],
      )

  -- and there is none where all are covered
  pub no_anchor : (before : ℕ) → ((v : ℕ) → last < v → v ≤ before → ¬ IsAnchorGap s v) → AreCoveredBetween s.held.covered before s.current → IsFirstAbove (IsAnchorGap s) last None
  no_anchor before none all v past a = elim (cases_lt before v) [
    | inl from ↦ a.bare (all v from a.below)
    | inr to ↦ none v past to a
  ]

  -- no view with a false verdict that is left lies up to one that is covered
  pub no_failed_further : (above view : ℕ) → ((v : ℕ) → last < v → v ≤ above → ¬ IsFailedGap s v) → ((v : ℕ) → above < v → v < view → contains nat_cmp s.held.failed v ≡ false) → ¬ (¬ IsCovered s.held.covered view)
      → (v : ℕ) → last < v → v ≤ view → ¬ IsFailedGap s v
  no_failed_further above view none least not_bare v past le f = elim (cases_lt above v) [
    | inr to ↦ none v past to f
    | inl from ↦ elim (cases_lt v view) [
      | inl short ↦ absurd (let is = f.failed in let never = least v from short in grind (arith, is, never))
      | inr on ↦ let e : v ≡ view = omega (arith, le, on) in not_bare (subst (λ (u : ℕ). ¬ IsCovered s.held.covered u) e f.bare)
    ]
  ]

  pub first_is_failed : (above view : ℕ) → s.floor ≤ above → last ≤ above → above < view → view + 1 < 2 ^ 64 → ((v : ℕ) → last < v → v ≤ above → ¬ IsFailedGap s v)
      → ((v : ℕ) → above < v → v < view → contains nat_cmp s.held.failed v ≡ false) → contains nat_cmp s.held.failed view ≡ true → ¬ IsCovered s.held.covered view → IsFirstAbove (IsFailedGap s) last (Some view)
  first_is_failed above view high low past fits none least failed bare = (
    omega (arith, low, past),
    record { above = omega (arith, high, past); fits = fits; bare = bare; failed = failed },
    λ v behind short f. elim (cases_lt above v) [
      | inl from ↦ absurd (let is = f.failed in let never = least v from short in grind (arith, is, never))
      | inr to ↦ none v behind to f
    ],
  )

  pub no_failed : (above : ℕ) → ((v : ℕ) → last < v → v ≤ above → ¬ IsFailedGap s v) → ((v : ℕ) → above < v → contains nat_cmp s.held.failed v ≡ false) → IsFirstAbove (IsFailedGap s) last None
  no_failed above none least v past f = elim (cases_lt above v) [
    | inl from ↦ absurd (let is = f.failed in let never = least v from in grind (arith, is, never))
    | inr to ↦ none v past to f
  ]

  -- a view behind which no number comes is none that is left
  pub no_failed_at_the_end : (above view : ℕ) → view + 1 ≡ 2 ^ 64 → ((v : ℕ) → last < v → v ≤ above → ¬ IsFailedGap s v) → ((v : ℕ) → above < v → v < view → contains nat_cmp s.held.failed v ≡ false)
      → IsFirstAbove (IsFailedGap s) last None
  no_failed_at_the_end above view end none least v past f = elim (cases_lt above v) [
    | inr to ↦ none v past to f
    | inl from ↦
        let fits = f.fits in
        absurd (let is = f.failed in let never = least v from (omega (arith, fits, end)) in grind (arith, is, never))
  ]

  pub no_failed_to_floor : (v : ℕ) → last < v → v ≤ s.floor → ¬ IsFailedGap s v
  no_failed_to_floor v past le f = let above = f.above in absurd (omega (arith, above, le))

  pub no_failed_to_itself : (v : ℕ) → last < v → v ≤ last → ¬ IsFailedGap s v
  no_failed_to_itself v past le f = absurd (omega (arith, past, le))

  -- of both kinds the first
  none_of_both : IsFirstAbove (IsAnchorGap s) last None → (found : Option ℕ) → IsFirstAbove (IsFailedGap s) last found → s.live ≡ true → IsFirstAbove (IsGap s) last found
  none_of_both none_due None none_bad on = λ v past gap. ⊎_elim (λ a. none_due v past a) (λ f. none_bad v past f) gap.1
  none_of_both none_due (Some first) is on = (is.0, (on, inr is.1), λ v past short gap. ⊎_elim (λ a. none_due v past a) (λ f. is.2 v past short f) gap.1)

  failed_before : (anchor failed : ℕ) → failed < anchor → IsFirstAbove (IsAnchorGap s) last (Some anchor) → IsFirstAbove (IsFailedGap s) last (Some failed) → s.live ≡ true → IsFirstAbove (IsGap s) last (Some failed)
  failed_before anchor failed before a f on = (f.0, (on, inr f.1), λ v past short gap. ⊎_elim (λ x. a.2 v past (omega (arith, short, before)) x) (λ x. f.2 v past short x) gap.1)

  anchor_before : (anchor failed : ℕ) → anchor ≤ failed → IsFirstAbove (IsAnchorGap s) last (Some anchor) → IsFirstAbove (IsFailedGap s) last (Some failed) → s.live ≡ true → IsFirstAbove (IsGap s) last (Some anchor)
  anchor_before anchor failed before a f on = (a.0, (on, inl a.1), λ v past short gap. ⊎_elim (λ x. a.2 v past short x) (λ x. f.2 v past (omega (arith, short, before)) x) gap.1)

  anchor_alone : (anchor : ℕ) → IsFirstAbove (IsAnchorGap s) last (Some anchor) → IsFirstAbove (IsFailedGap s) last None → s.live ≡ true → IsFirstAbove (IsGap s) last (Some anchor)
  anchor_alone anchor a none on = (a.0, (on, inl a.1), λ v past short gap. ⊎_elim (λ x. a.2 v past short x) (λ x. none v past x) gap.1)

  pub both_first : (one other : Option ℕ) → IsFirstAbove (IsAnchorGap s) last one → IsFirstAbove (IsFailedGap s) last other → s.live ≡ true → IsFirstAbove (IsGap s) last (earlier one other)
  both_first None other a f on = none_of_both a other f on
  both_first (Some x) None a f on = anchor_alone x a f on
  both_first (Some x) (Some y) a f on = elim (cases_lt y x) [
    | inl before ↦ subst (λ (o : Option ℕ). IsFirstAbove (IsGap s) last o) (sym (ap (λ (b : Bool). if b then Some y else Some x) (nat_lt-yes y x before))) (failed_before x y before a f on)
    | inr le ↦ subst (λ (o : Option ℕ). IsFirstAbove (IsGap s) last o) (sym (ap (λ (b : Bool). if b then Some y else Some x) (nat_lt-no y x le))) (anchor_before x y le a f on)
  ]

-- a view is in no span where none between its neighbours is
pub bare_by : (spans : List (ℕ × ℕ)) (v before behind : ℕ) (b : Bool) → before + 1 ≡ v → behind ≡ v + 1 → (IsTrue b ↔ AreCoveredBetween spans before behind) → IsTrue (not b) ↔ (IsCovered spans v → ⊥)
bare_by spans v before behind true first last is = (λ never. absurd (grind (arith, never)), λ bare. absurd (bare (is.0 refl v (omega (arith, first)) (omega (arith, last)))))
bare_by spans v before behind false first last is = (
  λ _ there. let all : AreCoveredBetween spans before behind = λ u from to. subst (λ (w : ℕ). IsCovered spans w) (omega (arith, from, to, first, last)) there in
      let never = is.1 all in grind (arith, never),
  λ bare. refl,
)

-- a verdict leaves what has room with room
pub fits_behind : (h : List Item) (w : ℕ) (bytes : List ℕ) (verdict : Bool) → w + 1 < 2 ^ 64 → ((v : ℕ) → has_failed h v ≡ true → v + 1 < 2 ^ 64) → (v : ℕ) → has_failed (Judged w bytes verdict ∷ h) v ≡ true → v + 1 < 2 ^ 64
fits_behind h w bytes true room fits v failed = fits v failed
fits_behind h w bytes false room fits v failed = elim (or_cases (w == v) (has_failed h v) failed) [
  | inl here ↦ let e = eq_of w v here in rw e at room
  | inr before ↦ fits v before
]
