-- What effects leave of the outstanding views.
use Rattle.std.specs.Prelude.{map, max, nat_lt, nat_le, not, ◌||◌, ◌&&◌}
use Rattle.std.proofs.Common.{◌≡◌, ◌⊎◌, inl, inr, ⊎_elim, ◌↔◌, ◌≤◌, ◌<◌, ◌==◌, ◌+◌, ◌-◌, ℕ, Bool, true, false, List, [], ◌∷◌, ◌++◌, refl, sym, subst, ◌∙◌, ap, arith, if◌then◌else◌}
use Rattle.std.proofs.lemmas.Bool.{cases_eq, cases_lt}
use Rattle.std.proofs.lemmas.Bool.Decides.{nat_tests}
use Rattle.types_core.specs.Positions.{term_start, term_end, IsTermStart}
use Rattle.simplex_resolver.specs.declared.effect.Effect.{Effect}
use Rattle.simplex_resolver.specs.declared.effect.Effect.TheVariants as effect
use Rattle.simplex_resolver.specs.RepairHistory.{Item, Nullified, Notarized, Finalized, Judged, Replayed, finalized, floor, current, live, covered, covers, has_failed}
use Rattle.simplex_resolver.specs.Outstanding.{IsOutstanding, AreBare, AreMissing, IsFetched, Scans, ScansBehind, Gives, Apply, ApplyAll, EffectsLeaveTheOutstanding, fetch, fetch_failed, is_missing, scanned, scan_start, settled_notarization, settled_nullifications, start_behind, term_start_from, when}
use Rattle.simplex_resolver.proofs.Choices.{bool_cases, or_cases, or_right, max_zero, nat_lt-yes, nat_lt-no, nat_le-yes, nat_le-no}
use Rattle.simplex_resolver.proofs.Covers.{covered-on, finalized-floor}
use Rattle.simplex_resolver.proofs.TermStarts.{start-end, term_start-ge, scan_start-gt, term_start_from-IsTermStart, term_start_from-least}

-- the view is one of the list
abbrev Among : List ℕ → ℕ → Type 0
Among [] v = ⊥
Among (x ∷ xs) v = (v ≡ x) ⊎ Among xs v

-- the view is one of the anchors from a view on
abbrev IsAnchor : ℕ → ℕ → ℕ → ℕ → Type 0
IsAnchor views now a v = (v < now) × ((v ≡ a) ⊎ ((a < v) × IsTermStart views v))

at_or_behind : (a v : ℕ) → a ≤ v → (v ≡ a) ⊎ (a < v)
at_or_behind a v le = elim (cases_lt a v) [
  | inl lt ↦ inr lt
  | inr ge ↦ inl (omega (arith, le, ge))
]

-- the view is one of those that are fetched of some spans
abbrev InSpans : ℕ → List (ℕ × ℕ) → ℕ → Type 0
InSpans views [] v = ⊥
InSpans views (span ∷ spans) v = IsFetched views span.0 span.1 v ⊎ InSpans views spans v

module _ (views : ℕ) (some : 0 < views) (h : List Item) (now : ℕ) where
  -- a view that isn't covered, behind one that is, starts a term
  starts : (u v : ℕ) → u + 1 ≡ v → covered views h u ≡ true → covered views h v ≡ false → IsTermStart views v
  starts u v next is bare = elim (cases_lt (term_start views v) v) [
    | inl lt ↦ absurd (
        let within = (start-end views some v u).0 (omega (arith, lt, next)) in
        let never = covered-on views some h u v (omega (arith, next)) within is in
        grind (arith, never, bare))
    | inr ge ↦ let le = term_start-ge views some v in omega (arith, ge, le)
  ]

  -- what is fetched of spans are the anchors that are not covered
  spans-to-anchors : (a : ℕ) (spans : List (ℕ × ℕ)) → AreBare views h a now spans → (v : ℕ) → InSpans views spans v → IsAnchor views now a v × (covered views h v ≡ false)
  spans-to-anchors a [] all v is = absurd is
  spans-to-anchors a (span ∷ spans) are v (inl f) =
      let bare = are.0 in
      let start = bare.start in
      let low = bare.below in
      let from = f.0 in
      let up = f.1 in
      let none = bare.within v from up in
      let first : v ≡ span.0 → (v ≡ a) ⊎ ((a < v) × IsTermStart views v) = λ e. elim (cases_lt a v) [
        | inl gt ↦ inr (gt, starts (v - 1) v (omega (arith, gt)) (bare.before (v - 1) (omega (arith, gt)) (omega (arith, e, gt))) none)
        | inr le ↦ inl (omega (arith, e, le, start))
      ] in
      let later : IsTermStart views v → (v ≡ a) ⊎ ((a < v) × IsTermStart views v) = λ term.
      ⊎_elim (λ e. inl e) (λ gt. inr (gt, term)) (at_or_behind a v (omega (arith, start, from))) in
      ((omega (arith, up, low), ⊎_elim first later f.2), none)
  spans-to-anchors a (span ∷ spans) are v (inr rest) =
      let bare = are.0 in
      let start = bare.start in
      let filled = bare.some in
      let r = spans-to-anchors (span.1 + 1) spans are.1 v rest in
      let below = r.0.0 in
      let none = r.1 in (
        (
          below,
          ⊎_elim
              (λ e. absurd (
              let is = bare.behind (omega (arith, e, below)) in
              let never = rw e at none in
              grind (arith, is, never)))
              (λ behind. inr ((let gt = behind.0 in omega (arith, gt, filled, start)), behind.1)) r.0.1,
        ),
        none,
      )

  anchors-to-spans : (a : ℕ) (spans : List (ℕ × ℕ)) → AreBare views h a now spans → (v : ℕ) → IsAnchor views now a v → covered views h v ≡ false → InSpans views spans v
  anchors-to-spans a [] all v is bare = absurd (
      let from : a ≤ v = ⊎_elim (λ e. omega (arith, e)) (λ behind. let gt = behind.0 in omega (arith, gt)) is.1 in
      let never = all v from is.0 in
      grind (arith, never, bare))
  anchors-to-spans a (span ∷ spans) are v is none =
      let bare = are.0 in
      let start = bare.start in
      let filled = bare.some in
      let from : a ≤ v = ⊎_elim (λ e. omega (arith, e)) (λ behind. let gt = behind.0 in omega (arith, gt)) is.1 in
      elim (cases_lt v span.0) [
        | inl before ↦ absurd (let never = bare.before v from before in grind (arith, never, none))
        | inr on ↦ elim (cases_lt span.1 v) [
          | inl past ↦
              let term : IsTermStart views v = ⊎_elim (λ e. absurd (omega (arith, e, past, filled, start))) (λ behind. behind.1) is.1 in
              inr (anchors-to-spans (span.1 + 1) spans are.1 v (is.0, ⊎_elim (λ e. inl e) (λ gt. inr (gt, term)) (at_or_behind (span.1 + 1) v (omega (arith, past)))) none)
          | inr to ↦ inl (on, to, ⊎_elim (λ e. inl (omega (arith, e, start, on))) (λ behind. inr behind.1) is.1)
        ]
      ]

-- effects in two parts
module _ (views : ℕ) where
  append-to : (xs ys : List Effect) (P : ℕ → Type 0) (v : ℕ) → ApplyAll views (xs ++ ys) P v → ApplyAll views ys (λ w. ApplyAll views xs P w) v
  append-to [] ys P v a = a
  append-to (x ∷ xs) ys P v a = append-to xs ys (Apply views x P) v a

  append-from : (xs ys : List Effect) (P : ℕ → Type 0) (v : ℕ) → ApplyAll views ys (λ w. ApplyAll views xs P w) v → ApplyAll views (xs ++ ys) P v
  append-from [] ys P v a = a
  append-from (x ∷ xs) ys P v a = append-from xs ys (Apply views x P) v a

  -- fetches of spans add what is fetched of them
  spans-to : (cause : ℕ) (spans : List (ℕ × ℕ)) (P : ℕ → Type 0) (v : ℕ) → ApplyAll views (map (fetch cause) spans) P v → P v ⊎ InSpans views spans v
  spans-to cause [] P v a = inl a
  spans-to cause (x ∷ xs) P v a = ⊎_elim (λ q. ⊎_elim (λ p. inl p) (λ f. inr (inl f)) q) (λ later. inr (inr later)) (spans-to cause xs (Apply views (fetch cause x) P) v a)

  spans-from : (cause : ℕ) (spans : List (ℕ × ℕ)) (P : ℕ → Type 0) (v : ℕ) → P v ⊎ InSpans views spans v → ApplyAll views (map (fetch cause) spans) P v
  spans-from cause [] P v a = ⊎_elim (λ p. p) (λ never. absurd never) a
  spans-from cause (x ∷ xs) P v a = spans-from cause xs (Apply views (fetch cause x) P) v (⊎_elim (λ p. inl (inl p)) (λ r. ⊎_elim (λ f. inl (inr f)) (λ later. inr later) r) a)

  -- of a single view that is fetched
  one-to : (x v : ℕ) → IsFetched views x x v → v ≡ x
  one-to x v f = let from = f.0 in let up = f.1 in omega (arith, from, up)

  one-from : (x v : ℕ) → v ≡ x → IsFetched views x x v
  one-from x v e = (omega (arith, e), omega (arith, e), inl e)

  -- fetches of views with a false verdict add these
  failed-to : (xs : List ℕ) (P : ℕ → Type 0) (v : ℕ) → ApplyAll views (map fetch_failed xs) P v → P v ⊎ Among xs v
  failed-to [] P v a = inl a
  failed-to (x ∷ xs) P v a = ⊎_elim (λ q. ⊎_elim (λ p. inl p) (λ f. inr (inl (one-to x v f))) q) (λ later. inr (inr later)) (failed-to xs (Apply views (fetch_failed x) P) v a)

  failed-from : (xs : List ℕ) (P : ℕ → Type 0) (v : ℕ) → P v ⊎ Among xs v → ApplyAll views (map fetch_failed xs) P v
  failed-from [] P v a = ⊎_elim (λ p. p) (λ never. absurd never) a
  failed-from (x ∷ xs) P v a = failed-from xs (Apply views (fetch_failed x) P) v (⊎_elim (λ p. inl (inl p)) (λ r. ⊎_elim (λ e. inl (inr (one-from x v e))) (λ later. inr later) r) a)

module _ (views : ℕ) (h : List Item) where
  missing-to : (a : ℕ) (xs : List ℕ) → AreMissing views h a xs → (v : ℕ) → Among xs v → (a < v) × (is_missing views h v ≡ true)
  missing-to a [] m v among = absurd among
  missing-to a (x ∷ xs) m v among = ⊎_elim (λ e. (let lt = m.0 in omega (arith, e, lt), rw e m.1)) (λ later. let r = missing-to x xs m.3 v later in (let lt = m.0 in let far = r.0 in omega (arith, lt, far), r.1)) among

  missing-from : (a : ℕ) (xs : List ℕ) → AreMissing views h a xs → (v : ℕ) → a < v → is_missing views h v ≡ true → Among xs v
  missing-from a [] m v above is = absurd (let never = m v above in grind (arith, is, never))
  missing-from a (x ∷ xs) m v above is = elim (cases_lt v x) [
    | inl before ↦ absurd (let never = m.2 v above before in grind (arith, is, never))
    | inr from ↦ ⊎_elim inl (λ behind. inr (missing-from x xs m.3 v behind is)) (at_or_behind x v from)
  ]

  missing-is : (v : ℕ) → has_failed h v ≡ true → covered views h v ≡ false → is_missing views h v ≡ true
  missing-is v failed bare = rw (failed, bare) refl

  is_missing-failed : (v : ℕ) → is_missing views h v ≡ true → (has_failed h v ≡ true) × (covered views h v ≡ false)
  is_missing-failed v is = by (has_failed h v) (covered views h v) is
    where
      by : (a b : Bool) → (a && not b) ≡ true → (a ≡ true) × (b ≡ false)
      by true true e = absurd (grind (arith, e))
      by true false e = (refl, refl)
      by false b e = absurd (grind (arith, e))

-- where a scan begins
module _ (views went level : ℕ) where
  start_term : (raised : Bool) → (raised && not (level + 1 == term_start views (level + 1))) ≡ false → raised ≡ true → IsTermStart views (level + 1)
  start_term true e is = elim (cases_eq (level + 1) (term_start views (level + 1))) [
    | inl same ↦ same
    | inr ne ↦ absurd (grind (arith, nat_tests, e, ne))
  ]
  start_term false e is = absurd (grind (arith, is))

  or_left : (a b : Bool) → (a || b) ≡ false → (a ≡ false) × (b ≡ false)
  or_left true b e = absurd (grind (arith, e))
  or_left false b e = (refl, e)

  scan_start-cases : (raised : Bool) → (scan_start views went level raised ≡ level + 1) ⊎ ((level + 1 < went) × (raised ≡ true → IsTermStart views (level + 1)) × (scan_start views went level raised ≡ term_start_from views went))
  scan_start-cases raised = by (nat_le went (level + 1) || (raised && not (level + 1 == term_start views (level + 1)))) refl
    where
      by : (b : Bool) → (nat_le went (level + 1) || (raised && not (level + 1 == term_start views (level + 1)))) ≡ b → (scan_start views went level raised ≡ level + 1) ⊎ ((level + 1 < went) × (raised ≡ true → IsTermStart views (level + 1)) × (scan_start views went level raised ≡ term_start_from views went))
      by true e = inl (rw e refl)
      by false e =
          let tests = or_left (nat_le went (level + 1)) (raised && not (level + 1 == term_start views (level + 1))) e in
          inr (elim (cases_lt (level + 1) went) [
            | inl past ↦ (past, start_term raised tests.1, rw e refl)
            | inr low ↦ absurd (let yes = nat_le-yes went (level + 1) low in let no_more = tests.0 in grind (arith, yes, no_more))
          ])

floor-rises : (h : List Item) (x : Item) → floor h ≤ floor (x ∷ h)
floor-rises h x = grind (arith, nat_tests)

current-rises : (h : List Item) (x : Item) → current h ≤ current (x ∷ h)
current-rises h x = grind (arith, nat_tests)

was_bare : (views : ℕ) (h : List Item) (x : Item) (v : ℕ) → covered views (x ∷ h) v ≡ false → covered views h v ≡ false
was_bare views h x v bare = elim (bool_cases (covered views h v)) [
  | inl is ↦ absurd (let never = or_right (covers views v x) (covered views h v) is in grind (arith, never, bare))
  | inr is ↦ is
]

scanned-live : (h : List Item) → 0 < scanned h → (live h ≡ true) × (scanned h ≡ current h)
scanned-live h past = elim (bool_cases (live h)) [
  | inl is ↦ (is, rw is refl)
  | inr is ↦ absurd (let none : scanned h ≡ 0 = rw is refl in omega (arith, none, past))
]

module _ (views : ℕ) (some : 0 < views) (h : List Item) (x : Item) where
  abbrev level : ℕ
  level = floor (x ∷ h)

  abbrev start : ℕ
  start = start_behind views h x

  -- each anchor is due
  anchor-due : (v : ℕ) → IsAnchor views (current (x ∷ h)) start v → (level < v) × ((v ≡ level + 1) ⊎ IsTermStart views v)
  anchor-due v is = ⊎_elim
      (λ e. (rw e gt, ⊎_elim (λ here. inl (e ∙ here)) (λ (there : (level + 1 < scanned h) × (nat_lt (floor h) level ≡ true → IsTermStart views (level + 1)) × (start ≡ term_start_from views (scanned h))). inr (subst (λ (t : ℕ). IsTermStart views t) (sym (e ∙ there.2)) (term_start_from-IsTermStart views some (scanned h)))) (scan_start-cases views (scanned h) level (nat_lt (floor h) level))))
      (λ behind. (let far = behind.0 in omega (arith, far, gt), inr behind.1)) is.1
    where
      gt : level < start
      gt = scan_start-gt views some (scanned h) level (nat_lt (floor h) level)

  -- and what is due is an anchor, or was outstanding before
  due-anchor : (v : ℕ) → v < current (x ∷ h) → level < v → covered views h v ≡ false → (v ≡ level + 1) ⊎ IsTermStart views v → IsAnchor views (current (x ∷ h)) start v ⊎ IsOutstanding views h v
  due-anchor v below above bare due = ⊎_elim here there (scan_start-cases views (scanned h) level (nat_lt (floor h) level))
    where
      rises : floor h ≤ level
      rises = floor-rises h x

      here : start ≡ level + 1 → IsAnchor views (current (x ∷ h)) start v ⊎ IsOutstanding views h v
      here is = inl (below, ⊎_elim (λ e. inl (e ∙ sym is)) (λ term. ⊎_elim inl (λ behind. inr (behind, term)) (at_or_behind start v (omega (arith, is, above)))) due)

      old : live h ≡ true → (v < current h) × ((v ≡ floor h + 1) ⊎ IsTermStart views v) → IsOutstanding views h v
      old is was = record { live_is = is; above = omega (arith, rises, above); bare = bare; due = inl was }

      there : (level + 1 < scanned h) × (nat_lt (floor h) level ≡ true → IsTermStart views (level + 1)) × (start ≡ term_start_from views (scanned h)) → IsAnchor views (current (x ∷ h)) start v ⊎ IsOutstanding views h v
      there where_is =
          let past = where_is.0 in
          let went = scanned-live h (omega (arith, past)) in
          let to = went.1 in
          ⊎_elim (λ e. inr (old went.0 (
            omega (arith, e, past, to),
            elim (cases_lt (floor h) level) [
              | inl up ↦ inr (rw e (where_is.1 (nat_lt-yes (floor h) level up)))
              | inr same ↦ inl (omega (arith, e, same, rises))
            ],
          ))) (λ term. elim (cases_lt v (current h)) [
            | inl low ↦ inr (old went.0 (low, inr term))
            | inr high ↦
                let least : term_start_from views (scanned h) ≤ v = term_start_from-least views some (scanned h) v (omega (arith, high, to)) term in
                let is = where_is.2 in
                inl (below, ⊎_elim inl (λ behind. inr (behind, term)) (at_or_behind start v (omega (arith, is, least))))
          ]) due

  -- what a scan adds, behind effects that took out what is not outstanding any more
  module _ (live_same : live (x ∷ h) ≡ live h) (failed_same : (v : ℕ) → has_failed (x ∷ h) v ≡ has_failed h v) (cause : ℕ) (asked : List Effect) (scans : ScansBehind views h x cause asked) (Q : ℕ → Type 0)
      (left : (v : ℕ) → Q v ↔ (IsOutstanding views h v × (level < v) × (covered views (x ∷ h) v ≡ false))) where
    left-outstanding : (v : ℕ) → Q v → IsOutstanding views (x ∷ h) v
    left-outstanding v q =
        let l = (left v).0 q in
        let o = l.0 in
        let above = l.1 in
        let rises = current-rises h x in
        let floors = floor-rises h x in
        record {
          live_is = live_same ∙ o.live_is;
          above = above;
          bare = l.2;
          due = ⊎_elim (λ anchor. let low = anchor.0 in inl (omega (arith, low, rises), ⊎_elim (λ e. inl (omega (arith, e, above, floors))) inr anchor.1)) (λ failed. inr (failed_same v ∙ failed)) o.due;
        }

    outstanding-left : (v : ℕ) → IsOutstanding views h v → level < v → covered views (x ∷ h) v ≡ false → Q v
    outstanding-left v o above bare = (left v).1 (o, above, bare)

    scan-leaves : (v : ℕ) → ApplyAll views asked Q v ↔ IsOutstanding views (x ∷ h) v
    scan-leaves v = elim (bool_cases (live (x ∷ h))) [
      | inl is ↦
          let sc : Scans views (x ∷ h) cause start asked = rw is at scans in
          let now = current (x ∷ h) in (
            λ a. ⊎_elim (left-outstanding v) (λ r.
                let anchor = spans-to-anchors views some (x ∷ h) now start sc.spans sc.are v r in
                let due = anchor-due v anchor.0 in
                record { live_is = is; above = due.0; bare = anchor.1; due = inl (anchor.0.0, due.1) }) (spans-to views cause sc.spans Q v (subst (λ (es : List Effect). ApplyAll views es Q v) sc.asked_is a)),
            λ o. subst (λ (es : List Effect). ApplyAll views es Q v) (sym sc.asked_is) (spans-from views cause sc.spans Q v (⊎_elim
                (λ anchor. ⊎_elim (λ here. inr (anchors-to-spans views some (x ∷ h) now start sc.spans sc.are v here o.bare)) (λ was. inl (outstanding-left v was o.above o.bare)) (due-anchor v anchor.0 o.above (was_bare views h x v o.bare) anchor.1))
                (λ failed. inl (outstanding-left v (record { live_is = sym live_same ∙ is; above = (let floors = floor-rises h x in let above = o.above in omega (arith, floors, above)); bare = was_bare views h x v o.bare; due = inr (sym (failed_same v) ∙ failed) }) o.above o.bare)) o.due)),
          )
      | inr dead ↦
          let none : asked ≡ [] = rw dead at scans in (
            λ a. left-outstanding v (subst (λ (es : List Effect). ApplyAll views es Q v) none a),
            λ o. absurd (let on = o.live_is in grind (arith, on, dead)),
          )
    ]

when-yes : (b : Bool) (e : Effect) → b ≡ true → when b e ≡ e ∷ []
when-yes true e is = refl
when-yes false e is = absurd (grind (arith, is))

when-no : (b : Bool) (e : Effect) → b ≡ false → when b e ≡ []
when-no true e is = absurd (grind (arith, is))
when-no false e is = refl

-- the parts of what an item gives
parts : (views : ℕ) (P : ℕ → Type 0) (Goal : ℕ → Type 0) (first asked given : List Effect) → given ≡ first ++ asked → ((v : ℕ) → ApplyAll views asked (λ w. ApplyAll views first P w) v ↔ Goal v) → (v : ℕ) → ApplyAll views given P v ↔ Goal v
parts views P Goal first asked given e law v = (
  λ a. (law v).0 (append-to views first asked P v (subst (λ (es : List Effect). ApplyAll views es P v) e a)),
  λ o. subst (λ (es : List Effect). ApplyAll views es P v) (sym e) (append-from views first asked P v ((law v).1 o)),
)

module _ (views : ℕ) (some : 0 < views) (h : List Item) where
  abbrev P : ℕ → Type 0
  P = IsOutstanding views h

  same_floor : max 0 (floor h) ≡ floor h
  same_floor = max_zero (floor h)

  -- a nullification settles what it covers
  nullified-left : (u : ℕ) (bytes : List ℕ) (v : ℕ) → ApplyAll views (when (nat_lt (finalized h) (term_end views u)) (settled_nullifications u (term_end views u))) P v ↔ (P v × (floor (Nullified u bytes ∷ h) < v) × (covered views (Nullified u bytes ∷ h) v ≡ false))
  nullified-left u bytes v = elim (cases_lt (finalized h) (term_end views u)) [
    | inl late ↦
        let yes = when-yes (nat_lt (finalized h) (term_end views u)) (settled_nullifications u (term_end views u)) (nat_lt-yes _ _ late) in (
          λ a. let b : P v × ((v < u) ⊎ (term_end views u < v)) = subst (λ (es : List Effect). ApplyAll views es P v) yes a in (b.0, above b.0, apart b.0 b.1),
          λ l. subst (λ (es : List Effect). ApplyAll views es P v) (sym yes) (l.0, outside l.2),
        )
    | inr early ↦
        let no_more = when-no (nat_lt (finalized h) (term_end views u)) (settled_nullifications u (term_end views u)) (nat_lt-no _ _ early) in (
          λ a. let p : P v = subst (λ (es : List Effect). ApplyAll views es P v) no_more a in (p, above p, apart p (inr (let low = finalized-floor h in let over = p.above in omega (arith, early, low, over)))),
          λ l. subst (λ (es : List Effect). ApplyAll views es P v) (sym no_more) l.0,
        )
  ]
    where
      above : P v → floor (Nullified u bytes ∷ h) < v
      above p = let over = p.above in omega (arith, over, same_floor)

      not_covers : (v < u) ⊎ (term_end views u < v) → covers views v (Nullified u bytes) ≡ false
      not_covers (inl before) = elim (bool_cases (nat_le (term_start views v) u)) [
        | inl is ↦ rw (is, nat_le-no u v before) refl
        | inr is ↦ rw is refl
      ]
      not_covers (inr past) = elim (cases_lt u (term_start views v)) [
        | inl lt ↦ rw (nat_le-no (term_start views v) u lt) refl
        | inr le ↦ absurd (let to = (start-end views some v u).0 le in omega (arith, to, past))
      ]

      apart : P v → (v < u) ⊎ (term_end views u < v) → covered views (Nullified u bytes ∷ h) v ≡ false
      apart p o = rw (not_covers o) p.bare

      outside : covered views (Nullified u bytes ∷ h) v ≡ false → (v < u) ⊎ (term_end views u < v)
      outside bare = elim (cases_lt v u) [
        | inl before ↦ inl before
        | inr from ↦ elim (cases_lt (term_end views u) v) [
          | inl past ↦ inr past
          | inr to ↦ absurd (let never = rw (nat_le-yes (term_start views v) u ((start-end views some v u).1 to), nat_le-yes u v from) at bare in grind (arith, never))
        ]
      ]

  -- a notarization changes nothing
  notarized-left : (test : Bool) (w v : ℕ) → ApplyAll views (when test (settled_notarization w)) P v ↔ (P v × (floor (Notarized w ∷ h) < v) × (covered views (Notarized w ∷ h) v ≡ false))
  notarized-left true w v = (λ p. (p, let over = p.above in omega (arith, over, same_floor), p.bare), λ l. l.0)
  notarized-left false w v = (λ p. (p, let over = p.above in omega (arith, over, same_floor), p.bare), λ l. l.0)

  -- what is raised takes out all up to the new floor
  raised-left : (w v : ℕ) (Q : ℕ → Type 0) → (Q v → P v) → (P v → max w (floor h) < v → Q v) → ApplyAll views (when (nat_lt (floor h) w) (effect.Raised w)) Q v ↔ (P v × (max w (floor h) < v) × (covered views h v ≡ false))
  raised-left w v Q to from = elim (cases_lt (floor h) w) [
    | inl up ↦
        let yes = when-yes (nat_lt (floor h) w) (effect.Raised w) (nat_lt-yes _ _ up) in (
          λ a. let b : Q v × (w < v) = subst (λ (es : List Effect). ApplyAll views es Q v) yes a in let p = to b.0 in (p, let over = p.above in let far = b.1 in grind (arith, nat_tests, over, far), p.bare),
          λ l. subst (λ (es : List Effect). ApplyAll views es Q v) (sym yes) (from l.0 l.1, let over = l.1 in grind (arith, nat_tests, over)),
        )
    | inr low ↦
        let no_more = when-no (nat_lt (floor h) w) (effect.Raised w) (nat_lt-no _ _ low) in (
          λ a. let q : Q v = subst (λ (es : List Effect). ApplyAll views es Q v) no_more a in let p = to q in (p, let over = p.above in grind (arith, nat_tests, over, low), p.bare),
          λ l. subst (λ (es : List Effect). ApplyAll views es Q v) (sym no_more) (from l.0 l.1),
        )
  ]

  -- a finalization, too
  finalized-left : (w : ℕ) (bytes : List ℕ) (v : ℕ) → ApplyAll views (effect.Finalized (finalized (Finalized w bytes ∷ h)) ∷ when (nat_lt (floor h) w) (effect.Raised w)) P v ↔ (P v × (floor (Finalized w bytes ∷ h) < v) × (covered views (Finalized w bytes ∷ h) v ≡ false))
  finalized-left w bytes v = raised-left w v (Apply views (effect.Finalized (finalized (Finalized w bytes ∷ h))) P) (λ q. q.0) (λ p over. (p, let low = finalized-floor h in grind (arith, nat_tests, over, low)))

  -- a false verdict adds its view, where it is missing
  failed-leaves : (w : ℕ) (bytes : List ℕ) (given : List Effect) → Gives views h (Judged w bytes false) given → (v : ℕ) → ApplyAll views given P v ↔ IsOutstanding views (Judged w bytes false ∷ h) v
  failed-leaves w bytes given e v = elim (bool_cases test) [
    | inl is ↦
        let yes : given ≡ settled_notarization w ∷ (fetch_failed w ∷ []) = e ∙ ap (λ (es : List Effect). settled_notarization w ∷ es) (when-yes test (fetch_failed w) is) in (
          λ a. ⊎_elim keeps (λ f. adds is (one-to views w v f)) (subst (λ (es : List Effect). ApplyAll views es P v) yes a),
          λ o. subst (λ (es : List Effect). ApplyAll views es P v) (sym yes) (⊎_elim (λ p. inl p) (λ new. inr (one-from views w v new.0)) (was o)),
        )
    | inr isnt ↦
        let no_more : given ≡ settled_notarization w ∷ [] = e ∙ ap (λ (es : List Effect). settled_notarization w ∷ es) (when-no test (fetch_failed w) isnt) in (
          λ a. keeps (subst (λ (es : List Effect). ApplyAll views es P v) no_more a),
          λ o. subst (λ (es : List Effect). ApplyAll views es P v) (sym no_more) (⊎_elim (λ p. p) (λ new. absurd (let never = new.1 in grind (arith, never, isnt))) (was o)),
        )
  ]
    where
      test : Bool
      test = live h && (nat_lt (floor h) w && not (covered views h w))

      keeps : P v → IsOutstanding views (Judged w bytes false ∷ h) v
      keeps p = record {
        live_is = p.live_is;
        above = (let over = p.above in omega (arith, over, same_floor));
        bare = p.bare;
        due = ⊎_elim (λ anchor. inl ((let low = anchor.0 in let same = max_zero (current h) in omega (arith, low, same)), ⊎_elim (λ e. inl (omega (arith, e, same_floor))) inr anchor.1)) (λ failed. inr (or_right (w == v) (has_failed h v) failed)) p.due;
      }

      adds : test ≡ true → v ≡ w → IsOutstanding views (Judged w bytes false ∷ h) v
      adds is e = rw e (record {
        live_is = (and_cases (live h) _ is).0;
        above = (let lt = (and_cases (nat_lt (floor h) w) _ (and_cases (live h) _ is).1).0 in grind (arith, nat_tests, lt));
        bare = not_true _ ((and_cases (nat_lt (floor h) w) _ (and_cases (live h) _ is).1).1);
        due = inr (same_view w (has_failed h w));
      })
        where
          and_cases : (a b : Bool) → (a && b) ≡ true → (a ≡ true) × (b ≡ true)
          and_cases true b e = (refl, e)
          and_cases false b e = absurd (grind (arith, e))

          not_true : (b : Bool) → not b ≡ true → b ≡ false
          not_true true e = absurd (grind (arith, e))
          not_true false e = refl

          same_view : (w : ℕ) (b : Bool) → ((w == w) || b) ≡ true
          same_view w b = grind (arith, nat_tests)

      was : IsOutstanding views (Judged w bytes false ∷ h) v → P v ⊎ ((v ≡ w) × (test ≡ true))
      was o =
          let over = o.above in
          let above : floor h < v = omega (arith, over, same_floor) in
          ⊎_elim (λ anchor. inl (record { live_is = o.live_is; above = above; bare = o.bare; due = inl ((let low = anchor.0 in let same = max_zero (current h) in omega (arith, low, same)), ⊎_elim (λ e. inl (omega (arith, e, same_floor))) inr anchor.1) }))
          (λ failed. ⊎_elim (λ here. let e : v ≡ w = grind (arith, nat_tests, here) in inr (e, tested e o.live_is above o.bare)) (λ old. inl (record { live_is = o.live_is; above = above; bare = o.bare; due = inr old })) (or_cases (w == v) (has_failed h v) failed)) o.due
        where
          tested : v ≡ w → live h ≡ true → floor h < v → covered views h v ≡ false → test ≡ true
          tested e on above bare =
              let low : floor h < w = rw e at above in
              let none : covered views h w ≡ false = rw e at bare in
              rw (on, nat_lt-yes (floor h) w low, none) refl

  -- the end of the replay adds what is due
  replayed-leaves : (given : List Effect) → Gives views h Replayed given → (v : ℕ) → ApplyAll views given P v ↔ IsOutstanding views (Replayed ∷ h) v
  replayed-leaves given g v =
      let asked = g.0 in
      let missing = g.1 in
      let sc : Scans views (Replayed ∷ h) (current h) (start_behind views h Replayed) asked = g.2 in
      let m = g.3 in
      let e = g.4 in
      let now = current (Replayed ∷ h) in
      let start = start_behind views h Replayed in (
        λ a. ⊎_elim
            (λ scan. ⊎_elim keeps (λ r. let anchor = spans-to-anchors views some (Replayed ∷ h) now start sc.spans sc.are v r in let due = anchor-due views some h Replayed v anchor.0 in record { live_is = refl; above = due.0; bare = anchor.1; due = inl (anchor.0.0, due.1) })
            (spans-to views (current h) sc.spans P v (subst (λ (es : List Effect). ApplyAll views es P v) sc.asked_is scan)))
            (λ among. let is = missing-to views (Replayed ∷ h) (floor (Replayed ∷ h)) missing m v among in let failed = is_missing-failed views (Replayed ∷ h) v is.1 in record { live_is = refl; above = is.0; bare = failed.1; due = inr failed.0 })
            (failed-to views missing (λ w. ApplyAll views asked P w) v (append-to views asked (map fetch_failed missing) P v (subst (λ (es : List Effect). ApplyAll views es P v) e a))),
        λ o. subst (λ (es : List Effect). ApplyAll views es P v) (sym e) (append-from views asked (map fetch_failed missing) P v (failed-from views missing (λ w. ApplyAll views asked P w) v (⊎_elim
            (λ anchor. inl (subst (λ (es : List Effect). ApplyAll views es P v) (sym sc.asked_is) (spans-from views (current h) sc.spans P v (⊎_elim (λ here. inr (anchors-to-spans views some (Replayed ∷ h) now start sc.spans sc.are v here o.bare)) (λ p. inl p) (due-anchor views some h Replayed v anchor.0 o.above o.bare anchor.1)))))
            (λ failed. inr (missing-from views (Replayed ∷ h) (floor (Replayed ∷ h)) missing m v o.above (missing-is views (Replayed ∷ h) v failed o.bare))) o.due))),
      )
    where
      keeps : P v → IsOutstanding views (Replayed ∷ h) v
      keeps p = record {
        live_is = refl;
        above = (let over = p.above in omega (arith, over, same_floor));
        bare = p.bare;
        due = ⊎_elim (λ anchor. inl ((let low = anchor.0 in let same = max_zero (current h) in omega (arith, low, same)), ⊎_elim (λ e. inl (omega (arith, e, same_floor))) inr anchor.1)) inr p.due;
      }

  leaves : (x : Item) (given : List Effect) → Gives views h x given → (v : ℕ) → ApplyAll views given P v ↔ IsOutstanding views (x ∷ h) v
  leaves (Nullified u bytes) given g = parts views P (IsOutstanding views (Nullified u bytes ∷ h)) _ g.0 given g.2 (scan-leaves views some h (Nullified u bytes) refl (λ v. refl) u g.0 g.1 _ (nullified-left u bytes))
  leaves (Notarized w) given g = parts views P (IsOutstanding views (Notarized w ∷ h)) _ g.0 given g.2 (scan-leaves views some h (Notarized w) refl (λ v. refl) w g.0 g.1 _ (notarized-left (nat_lt (finalized h) w && not (has_failed h w)) w))
  leaves (Finalized w bytes) given g = parts views P (IsOutstanding views (Finalized w bytes ∷ h)) (effect.Finalized (finalized (Finalized w bytes ∷ h)) ∷ when (nat_lt (floor h) w) (effect.Raised w)) g.0 given g.2 (scan-leaves views some h (Finalized w bytes) refl (λ v. refl) w g.0 g.1 _ (finalized-left w bytes))
  leaves (Judged w bytes true) given g = parts views P (IsOutstanding views (Judged w bytes true ∷ h)) (settled_notarization w ∷ when (nat_lt (floor h) w) (effect.Raised w)) g.0 given g.2 (scan-leaves views some h (Judged w bytes true) refl (λ v. refl) w g.0 g.1 _ (λ v. raised-left w v P (λ p. p) (λ p over. p)))
  leaves (Judged w bytes false) given g = failed-leaves w bytes given g
  leaves Replayed given g = replayed-leaves given g

pub effects-leave : EffectsLeaveTheOutstanding
effects-leave views h x given some gives = leaves views some h x given gives
