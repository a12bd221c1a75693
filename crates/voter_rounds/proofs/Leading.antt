-- Who leads, view by view.
use Rattle.std.proofs.Common.{◌≡◌, ◌⊎◌, ◌≤◌, ◌<◌, ◌+◌, ◌-◌, ◌==◌, ℕ, zero, suc, Bool, true, false, ⊎_elim, refl, sym, ap, ◌∙◌, arith, if◌then◌else◌}
use Rattle.std.specs.Prelude.{Option, Some, None, is_none, nat_lt}
use Rattle.std.specs.Option.{option_or}
use Rattle.std.proofs.lemmas.Grind.{common_steps}
use Rattle.std.proofs.lemmas.Bool.Decides.{nat_tests}
use Rattle.std.proofs.lemmas.Bool.{cases_lt, cases_eq, ne_eqb}
use Rattle.types_core.specs.declared.scheme.Scheme.{Ghosts}
use Rattle.voter_rounds.specs.declared.rounds.Rounds.{Rounds}
use Rattle.voter_rounds.specs.declared.tracked.Tracked.{Tracked}
use Rattle.voter_rounds.specs.Laws.{IsKept-led, extend-above, one_more}
use Rattle.voter_history.specs.Leaders.{extend}
use Rattle.voter_history.specs.Leading.{or_none}
use Rattle.voter_rounds.specs.Rounds.{Keep, learn}
use Rattle.voter_rounds.specs.Tracked.{Frame, IsClosedAt, IsKept, Tables, handed_on, inherits_by}
use Rattle.voter_rounds.proofs.Choices.{is_itself}
use Rattle.voter_rounds.proofs.Tables.{learn-members}

-- a view that learns nothing leaves all as they were
still_led : (view : ℕ) (l : Option ℕ) (led : ℕ → Option ℕ) → option_or (led view) l ≡ led view → (u : ℕ) → (if view == u then option_or (led view) l else led u) ≡ led u
still_led view l led same u = ⊎_elim
    (λ e. let here : (view == u) ≡ true = grind (arith, common_steps) in rw here (same ∙ ap led e))
    (λ ne. let apart : (view == u) ≡ false = grind (arith, common_steps) in rw apart refl)
    (cases_eq view u)

-- what is known stays, whether it comes once more or not
itself_or : {A : Type 0} (o : Option A) (b : Bool) → option_or o (if b then o else None) ≡ o
itself_or None true = refl
itself_or None false = refl
itself_or (Some x) b = refl

-- a view learns nothing from one that has no leader or the same
pub nothing_new : (o l : Option ℕ) (b : Bool) → (l ≡ None) ⊎ (l ≡ o) → option_or o (if b then l else None) ≡ o
nothing_new o l false why = or_none o
nothing_new o l true why = ⊎_elim (λ none. rw none (or_none o)) (λ same. rw same (itself_or o true)) why

-- nor where its leader is known
pub known_stays : (o l : Option ℕ) {b : Bool} → b ≡ is_none o → b ≡ false → option_or o l ≡ o
known_stays None l none known = absurd (cc (none, known))
known_stays (Some x) l none known = refl

-- of two of which the first comes first, the first isn't there where none is
no_first : {A : Type 0} (o l : Option A) → option_or o l ≡ None → o ≡ None
no_first None l is = refl
no_first (Some x) l is = is

-- the leader that a view has from the view before
abbrev pub of_before : {S D P G C : Type 0} → Frame S → Tables S D P G C → ℕ → Option ℕ
of_before f t view = if inherits_by f t view then t.led (view - 1) else None

module _ {S D P G C : Type 0} {g : Ghosts S D P G C} {f : Frame S} {x : Tracked S D P G C} {t : Tables S D P G C} where
  -- all is kept where a view learns nothing
  pub kept-still : (view : ℕ) (l : Option ℕ) → IsKept g f x t → option_or (t.led view) l ≡ t.led view → IsKept g f x (record t { led = λ u. if view == u then option_or (t.led view) l else t.led u })
  kept-still view l k same = IsKept-led (λ u. if view == u then option_or (t.led view) l else t.led u) k (λ u fits. sym (still_led view l t.led same u))

  -- all is kept where a leader became known, who is a member
  pub learnt-kept : {r : Rounds S D P G C} (view leader : ℕ) → IsKept g f x t → leader < g.size f.common.scheme → Keep g.key_of f.common r (learn view leader t.led) t.past
      → IsKept g f (record x { rounds = r }) (record t { led = learn view leader t.led })
  learnt-kept view leader k member kept = record {
    length = k.length;
    optimistic_views = k.optimistic_views;
    rounds = kept;
    signs = k.signs;
    noted = k.noted;
    members = learn-members (g.size f.common.scheme) t.led view leader k.members member;
  }

module _ (here : ℕ → Option ℕ) (from_before : ℕ → Bool) (known : ℕ → Option ℕ) where
  -- below the first that is named no view learns anything, if nothing is left to be handed on there
  pub extend-below : (first : ℕ) → ((u : ℕ) → u < first → here u ≡ None) → ((u : ℕ) → u + 1 < first → IsClosedAt from_before known u)
      → (w : ℕ) → w < first → extend here from_before known w ≡ known w
  extend-below first none closed zero lt = refl
  extend-below first none closed (suc w) lt = one_more (known (suc w)) (here (suc w)) (from_before (suc w)) (extend here from_before known w) (known w) (none (suc w) lt)
      (extend-below first none closed w (omega (arith, lt))) (closed w (omega (arith, lt)))

  -- where only behind one view something may be left to be handed on, no view up to it learns anything
  pub extend-upto : (view w : ℕ) → w ≤ view → ((u : ℕ) → here u ≡ None) → ((u : ℕ) → (view == u) ≡ false → IsClosedAt from_before known u) → extend here from_before known w ≡ known w
  extend-upto view w le none closed = extend-above here from_before known 0 w refl (λ u _. none u) (λ u _ below. closed u (ne_eqb view u (λ e. omega (arith, e, below, le)))) (omega arith)

  pub handed-on-upto : (view u : ℕ) → ((v : ℕ) → here v ≡ None) → ((v : ℕ) → (view == v) ≡ false → IsClosedAt from_before known v) → known u ≡ handed_on here from_before known (view + 1) u
  handed-on-upto view u none closed = ⊎_elim
      (λ lt. let within : nat_lt u (view + 1) ≡ true = grind (arith, nat_tests, lt) in rw within (sym (extend-upto view u (omega (arith, lt)) none closed)))
      (λ ge. let beyond : nat_lt u (view + 1) ≡ false = grind (arith, nat_tests, ge) in rw beyond refl)
      (cases_lt u (view + 1))

  -- one view further
  abbrev one_further : ℕ → ℕ → Option ℕ
  one_further view w = if view == w then option_or (handed_on here from_before known view view) (if from_before view then handed_on here from_before known view (view - 1) else None) else handed_on here from_before known view w

  pub handed-on-next : (view : ℕ) → here view ≡ None → (w : ℕ) → one_further view w ≡ handed_on here from_before known (view + 1) w
  handed-on-next zero none w = ⊎_elim
      (λ e. rw (← e) (let first : nat_lt 0 0 ≡ false = refl in let next : nat_lt 0 (0 + 1) ≡ true = refl in itself_or (known 0) (from_before 0)))
      (λ ne.
      let apart : (0 == w) ≡ false = grind (arith, common_steps) in
      let behind : nat_lt w 0 ≡ false = grind (arith, nat_tests) in
      let still : nat_lt w (0 + 1) ≡ false = grind (arith, nat_tests, ne) in
      rw (apart, behind, still) refl)
      (cases_eq 0 w)
  handed-on-next (suc v) none w = ⊎_elim
      (λ e.
      let at : (suc v == suc v) ≡ true = is_itself (suc v) in
      let not_yet : nat_lt (suc v) (suc v) ≡ false = grind (arith, nat_tests) in
      let before : nat_lt v (suc v) ≡ true = grind (arith, nat_tests) in
      let now : nat_lt (suc v) (suc v + 1) ≡ true = grind (arith, nat_tests) in
      let back : suc v - 1 ≡ v = omega arith in
      rw (← e) (rw (at, not_yet, back, before, now, none) refl))
      (λ ne.
      let apart : (suc v == w) ≡ false = grind (arith, common_steps) in
      ⊎_elim
      (λ lt. let here_1 : nat_lt w (suc v) ≡ true = grind (arith, nat_tests, lt) in let here_2 : nat_lt w (suc v + 1) ≡ true = grind (arith, nat_tests, lt) in rw (apart, here_1, here_2) refl)
      (λ ge. let here_1 : nat_lt w (suc v) ≡ false = grind (arith, nat_tests, ge) in let here_2 : nat_lt w (suc v + 1) ≡ false = grind (arith, nat_tests, ge, ne) in rw (apart, here_1, here_2) refl)
      (cases_lt w (suc v)))
      (cases_eq (suc v) w)

  -- what the view at hand has then
  handed-on-here : (view : ℕ) → handed_on here from_before known (view + 1) view ≡ extend here from_before known view
  handed-on-here view = let within : nat_lt view (view + 1) ≡ true = grind (arith, nat_tests) in rw within refl

  handed-on-before : (view : ℕ) → handed_on here from_before known view view ≡ known view
  handed-on-before view = let beyond : nat_lt view view ≡ false = grind (arith, nat_tests) in rw beyond refl

  -- it has what it had where it learns nothing
  handed-on-still : (view : ℕ) → here view ≡ None
      → option_or (handed_on here from_before known view view) (if from_before view then handed_on here from_before known view (view - 1) else None) ≡ handed_on here from_before known view view
      → extend here from_before known view ≡ known view
  handed-on-still view none still =
      let at : (view == view) ≡ true = is_itself view in
      sym (handed-on-here view) ∙ sym (handed-on-next view none view) ∙ rw at still ∙ handed-on-before view

  -- a view before the next has what is handed on
  pub handed-on-within : (view w : ℕ) → here view ≡ None → w < view + 1 → one_further view w ≡ extend here from_before known w
  handed-on-within view w none lt = let within : nat_lt w (view + 1) ≡ true = grind (arith, nat_tests, lt) in handed-on-next view none w ∙ rw within refl

  -- so has any, where the last view that was looked at learnt nothing
  pub handed-on-all : (first last view w : ℕ) → first ≤ view → last ≤ view → ((u : ℕ) → first ≤ u → here u ≡ None) → ((u : ℕ) → last ≤ u → u < w → IsClosedAt from_before known u)
      → option_or (handed_on here from_before known view view) (if from_before view then handed_on here from_before known view (view - 1) else None) ≡ handed_on here from_before known view view
      → one_further view w ≡ extend here from_before known w
  handed-on-all first last view w after behind none closed still = ⊎_elim
      (λ lt. handed-on-within view w (none view after) lt)
      (λ ge.
      let beyond : nat_lt w (view + 1) ≡ false = grind (arith, nat_tests, ge) in
      let same = extend-above here from_before known view w (handed-on-still view (none view after) still) (λ u lt. none u (omega (arith, lt, after))) (λ u le below. closed u (omega (arith, le, behind)) below) (omega (arith, ge)) in
      handed-on-next view (none view after) w ∙ rw beyond (sym same))
      (cases_lt w (view + 1))

  -- views without a leader have nothing to hand on: behind them leaders are handed on as far
  pub handed-on-over : (view next : ℕ) → here view ≡ None → ((u : ℕ) → view < u → here u ≡ None) → view < next → ((u : ℕ) → view ≤ u → u + 1 < next → one_further view u ≡ None)
      → (w : ℕ) → one_further view w ≡ handed_on here from_before known next w
  handed-on-over view next none unnamed ahead bare w = handed-on-next view none w ∙ ⊎_elim {A = w < view + 1} {B = view + 1 ≤ w}
      (λ lt.
      let within : nat_lt w (view + 1) ≡ true = grind (arith, nat_tests, lt) in
      let below : nat_lt w next ≡ true = grind (arith, nat_tests, lt, ahead) in
      rw (within, below) refl)
      (λ ge.
      let beyond : nat_lt w (view + 1) ≡ false = grind (arith, nat_tests, ge) in
      ⊎_elim {A = w < next} {B = next ≤ w}
      (λ lt.
      let below : nat_lt w next ≡ true = grind (arith, nat_tests, lt) in
      let top : extend here from_before known view ≡ None = sym (handed-on-here view) ∙ sym (handed-on-next view none view) ∙ bare view (omega arith) (omega (arith, ge, lt)) in
      let base : known view ≡ None = unled-before view top in
      rw (beyond, below) (sym (extend-above here from_before known view w (top ∙ sym base) unnamed
      (λ u from under so. rw (nothing view next none base bare u from (omega (arith, under, lt))) (or_none (known (suc u)))) (omega (arith, ge)))))
      (λ le. let far : nat_lt w next ≡ false = grind (arith, nat_tests, le) in rw (beyond, far) refl)
      (cases_lt w next))
      (cases_lt w (view + 1))
    where
      -- a view that has no leader now had none before
      unled-before : (u : ℕ) → extend here from_before known u ≡ None → known u ≡ None
      unled-before zero is = is
      unled-before (suc u) is = no_first (known (suc u)) _ is

      nothing : (view next : ℕ) → here view ≡ None → known view ≡ None → ((u : ℕ) → view ≤ u → u + 1 < next → one_further view u ≡ None) → (u : ℕ) → view ≤ u → u + 1 < next → known u ≡ None
      nothing view next none base bare u from below = ⊎_elim {A = view < u} {B = u ≤ view}
          (λ lt.
          let beyond : nat_lt u (view + 1) ≡ false = grind (arith, nat_tests, lt) in
          let same : known u ≡ one_further view u = rw beyond at (sym (handed-on-next view none u)) in
          same ∙ bare u from below)
          (λ ge. let e : u ≡ view = omega (arith, ge, from) in rw e base)
          (cases_lt view u)

-- what is known of each view where leaders are handed on one view further
abbrev pub further : {S D P G C : Type 0} → Frame S → Tables S D P G C → (ℕ → Option ℕ) → (ℕ → Option ℕ) → ℕ → Tables S D P G C
further f t here known view = record t { led = one_further here (inherits_by f t) known view }

-- a view before or behind another is another
not_later : (v w : ℕ) → w < suc v → (w == suc v) ≡ false
not_later v w below = let apart : w ≡ suc v → ⊥ = λ e. omega (arith, e, below) in ne_eqb w (suc v) apart

pub behind_first : (first next u : ℕ) → next ≡ first + 1 → next ≤ u → (u == first) ≡ false
behind_first first next u is le = let apart : u ≡ first → ⊥ = λ e. omega (arith, e, is, le) in ne_eqb u first apart

-- a view before an end has what is handed on up to there
pub handed-on-below : (here : ℕ → Option ℕ) (from_before : ℕ → Bool) (known : ℕ → Option ℕ) (end u : ℕ) → u < end → handed_on here from_before known end u ≡ extend here from_before known u
handed-on-below here from_before known end u lt = let within : nat_lt u end ≡ true = grind (arith, nat_tests, lt) in rw within refl

-- where nobody is given to be named for the next view, nobody is
pub nobody-next : (view : ℕ) (leader : Option ℕ) → leader ≡ None → (u : ℕ) → None ≡ (if u == view + 1 then leader else None)
nobody-next view leader none u = by (u == view + 1) where
  by : (b : Bool) → None ≡ (if b then leader else None)
  by true = sym none
  by false = refl

-- nor for a view up to the one before it
pub not-yet-next : (view : ℕ) (leader : Option ℕ) (u : ℕ) → u < view + 1 → (if u == view + 1 then leader else None) ≡ None
not-yet-next view leader u below = let apart : (u == view + 1) ≡ false = ne_eqb u (view + 1) (λ e. omega (arith, e, below)) in rw apart refl

-- the first that is named has its leader, and no view before it learnt anything
pub named-first : (first leader : ℕ) (from_before : ℕ → Bool) (known : ℕ → Option ℕ) → 0 < first → ((u : ℕ) → u + 1 < first → IsClosedAt from_before known u)
    → (u : ℕ) → learn first leader known u ≡ handed_on (λ w. if w == first then Some leader else None) from_before known (first + 1) u
named-first zero leader from_before known some closed u = absurd (omega (arith, some))
named-first (suc v) leader from_before known some closed u = ⊎_elim
    (λ e.
    let at : (suc v == suc v) ≡ true = is_itself (suc v) in
    let within : nat_lt (suc v) (suc v + 1) ≡ true = grind (arith, nat_tests) in
    rw (← e) (rw (at, within) refl))
    (λ ne.
    let apart : (suc v == u) ≡ false = grind (arith, common_steps) in
    ⊎_elim
    (λ lt.
    let within : nat_lt u (suc v + 1) ≡ true = grind (arith, nat_tests, lt) in
    rw (apart, within) (sym (extend-below (λ w. if w == suc v then Some leader else None) from_before known (suc v)
    (λ w below. rw (not_later v w below) refl) closed u lt)))
    (λ ge. let beyond : nat_lt u (suc v + 1) ≡ false = grind (arith, nat_tests, ge, ne) in rw (apart, beyond) refl)
    (cases_lt u (suc v)))
    (cases_eq (suc v) u)
