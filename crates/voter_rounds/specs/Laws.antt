-- What those who stand above take from these words.
use Rattle.std.proofs.Common.{◌≡◌, ◌≢◌, ◌≤◌, ◌<◌, ◌+◌, ◌-◌, ◌==◌, ◌^◌, ℕ, zero, suc, Bool, List, ◌∷◌, true, false, ⊎_elim, inl, inr, refl, sym, ◌∙◌, subst, arith, if◌then◌else◌}
use Rattle.std.specs.Prelude.{Option, None, ◌&&◌, ◌||◌, not, nat_le}
use Rattle.std.specs.Option.{option_or}
use Rattle.std.specs.BTreeSet.{contains}
use Rattle.std.specs.Ordering.{nat_cmp}
use Rattle.std.proofs.lemmas.Grind.{common_steps}
use Rattle.std.proofs.lemmas.Bool.{cases_lt, cases_eq, or_cases, or_left, or_right, and_parts, and_from, leb-true, le-leb, eqb-true, eq-eqb}
use Rattle.types_core.specs.Positions.{term_start}
use Rattle.types_core.specs.declared.scheme.Scheme.{Ghosts}
use Rattle.types_terms.specs.Windows.{issuance_floor}
use Rattle.voter_history.specs.Leading.{or_none}
use Rattle.voter_history.specs.Past.{Item}
use Rattle.voter_rounds.specs.declared.marks.Marks.{Marks}
use Rattle.voter_rounds.specs.declared.rounds.Rounds.{Rounds}
use Rattle.voter_rounds.specs.declared.tracked.Tracked.{Tracked}
use Rattle.voter_history.specs.Pasts.{put}
use Rattle.voter_history.specs.Leaders.{any_from, extend}
use Rattle.voter_rounds.specs.Marks.{Shows}
use Rattle.voter_rounds.specs.Rounds.{Keep}
use Rattle.voter_rounds.specs.Rounds as rounds
use Rattle.voter_rounds.specs.Tracked.{Frame, Tables, Inherits, IsClosedAt, Holds, inherits_by, inherits_of, is_spoken, direct, IsKept}

-- marks show whatever says the same
pub Shows-same : (m : Marks) (f f' : ℕ → Bool) → Shows m f → ((u : ℕ) → f' u ≡ f u) → Shows m f'
unfolding Shows
Shows-same m f f' shows same = λ u. shows u ∙ sym (same u)

-- there is something that they show
pub Shows-some : (m : Marks) → (f : ℕ → Bool) × Shows m f
unfolding Shows
Shows-some m = (λ u. contains nat_cmp m.views u, λ u. refl)

module _ {S D P G C : Type 0} where
  -- a fact that an item doesn't change is as it was of each view
  pub put-fact : {X : Type 0} (f : List (Item S D P G C) → X) (x : Item S D P G C) → ((l : List (Item S D P G C)) → f (x ∷ l) ≡ f l)
      → (view : ℕ) (t : ℕ → List (Item S D P G C)) (u : ℕ) → f (put view x t u) ≡ f (t u)
  put-fact f x same view t u = ⊎_elim
      (λ e. let here : (view == u) ≡ true = grind (arith, common_steps) in rw here (same (t u)))
      (λ ne. let apart : (view == u) ≡ false = grind (arith, common_steps) in rw apart refl)
      (cases_eq view u)

-- some of so many numbers passes exactly where there is one
pub any_from-there : (test : ℕ → Bool) (low n : ℕ) → any_from test low n ≡ true → (u : ℕ) × (low ≤ u) × (u < low + n) × (test u ≡ true)
any_from-there test low zero never = absurd (cc never)
any_from-there test low (suc n) some = ⊎_elim
    (λ here. (low + n, omega arith, omega arith, here))
    (λ before. let there = any_from-there test low n before in (there.0, there.1, omega (arith, there.2), there.3))
    (or_cases (test (low + n)) (any_from test low n) some)

pub any_from-some : (test : ℕ → Bool) (low n u : ℕ) → low ≤ u → u < low + n → test u ≡ true → any_from test low n ≡ true
any_from-some test low zero u above below passes = absurd (omega (arith, above, below))
any_from-some test low (suc n) u above below passes = ⊎_elim
    (λ lt. or_right (test (low + n)) (any_from test low n) (any_from-some test low n u above lt passes))
    (λ ge. let last : u ≡ low + n = omega (arith, ge, below) in or_left (test (low + n)) (any_from test low n) (subst (λ m. test m ≡ true) last passes))
    (cases_lt u (low + n))

-- a number isn't another
not_equal : (a b : ℕ) → not (a == b) ≡ true → a ≢ b
not_equal a b apart same = let e : (a == b) ≡ true = eq-eqb a b same in grind (arith, common_steps)

equal_not : (a b : ℕ) → a ≢ b → not (a == b) ≡ true
equal_not a b apart = grind (arith, common_steps)

module _ {S D P G C : Type 0} (f : Frame S) (t : Tables S D P G C) (view : ℕ) where
  -- the two reasons for which a view has the leader of the view before
  abbrev low : ℕ
  low = issuance_floor f.optimistic_views view

  abbrev start : ℕ
  start = term_start f.length view

  abbrev in_term : ℕ → Bool
  in_term u = nat_le start u && direct t u

  abbrev reaches : Bool
  reaches = (low == 0) || any_from (direct t) low (view - low)

  abbrev anchored : Bool
  anchored = not (f.optimistic_views == 0) && any_from in_term low (view - low)

  abbrev opened : Bool
  opened = (not (f.optimistic_views == 0) && not (view == start) && reaches) && is_spoken t (view - 1)

  -- what is said in words decides the test
  pub inherits_from : Inherits f t view → inherits_by f t view ≡ true
  inherits_from i =
      let some : not (f.optimistic_views == 0) ≡ true = equal_not f.optimistic_views 0 i.optimism in
      let inside : not (view == start) ≡ true = equal_not view start i.inside in
      ⊎_elim
      (λ there.
      let passes : in_term there.0 ≡ true = and_from (nat_le start there.0) (direct t there.0) (le-leb start there.0 there.1) there.4 in
      or_left anchored opened (and_from (not (f.optimistic_views == 0)) (any_from in_term low (view - low)) some (any_from-some in_term low (view - low) there.0 there.2 (omega (arith, there.2, there.3)) passes)))
      (λ spoken.
      let window : reaches ≡ true = ⊎_elim
      (λ first. or_left (low == 0) (any_from (direct t) low (view - low)) (eq-eqb low 0 first))
      (λ there. or_right (low == 0) (any_from (direct t) low (view - low)) (any_from-some (direct t) low (view - low) there.0 there.1 (omega (arith, there.1, there.2)) there.3))
      spoken.1 in
      or_right anchored opened (and_from ((not (f.optimistic_views == 0) && not (view == start)) && reaches) (is_spoken t (view - 1))
      (and_from (not (f.optimistic_views == 0) && not (view == start)) reaches (and_from (not (f.optimistic_views == 0)) (not (view == start)) some inside) window) spoken.0))
      i.why

  pub inherits_says : inherits_by f t view ≡ true → Inherits f t view
  inherits_says so =
      ⊎_elim
      (λ first.
      let parts = and_parts (not (f.optimistic_views == 0)) (any_from in_term low (view - low)) first in
      let there = any_from-there in_term low (view - low) parts.1 in
      let passes = and_parts (nat_le start there.0) (direct t there.0) there.3 in
      let from : start ≤ there.0 = leb-true start there.0 passes.0 in
      let before : there.0 < view = omega (arith, there.1, there.2) in
      record {
        optimism = not_equal f.optimistic_views 0 parts.0;
        inside = λ same. absurd (omega (arith, same, from, before));
        why = inl (there.0, from, there.1, before, passes.1);
      })
      (λ window.
      let parts = and_parts ((not (f.optimistic_views == 0) && not (view == start)) && reaches) (is_spoken t (view - 1)) window in
      let inner = and_parts (not (f.optimistic_views == 0) && not (view == start)) reaches parts.0 in
      let rest = and_parts (not (f.optimistic_views == 0)) (not (view == start)) inner.0 in
      record {
        optimism = not_equal f.optimistic_views 0 rest.0;
        inside = not_equal view start rest.1;
        why = inr (
          parts.1,
          ⊎_elim
              (λ first. inl (eqb-true low 0 first))
              (λ some. let there = any_from-there (direct t) low (view - low) some in inr (there.0, there.1, omega (arith, there.1, there.2), there.3))
              (or_cases (low == 0) (any_from (direct t) low (view - low)) inner.1),
        );
      })
      (or_cases anchored opened so)

-- one view more: nothing is named there, and what it would inherit it has already
pub one_more : (known : Option ℕ) (named : Option ℕ) (inherits : Bool) (before old : Option ℕ) → named ≡ None → before ≡ old → (inherits ≡ true → option_or known old ≡ known)
    → option_or known (option_or named (if inherits then before else None)) ≡ known
one_more known named true before old none same closed = rw (none, same) (closed refl)
one_more known named false before old none same closed = rw none (or_none known)

module _ (here : ℕ → Option ℕ) (from_before : ℕ → Bool) (known : ℕ → Option ℕ) where
  -- where a view learns nothing, no view above it does, if nothing is named above it and nothing is left to be handed on
  pub extend-above : (v w : ℕ) → extend here from_before known v ≡ known v → ((u : ℕ) → v < u → here u ≡ None) → ((u : ℕ) → v ≤ u → u < w → IsClosedAt from_before known u)
      → v ≤ w → extend here from_before known w ≡ known w
  extend-above v zero at none closed le = refl
  extend-above v (suc w) at none closed le = ⊎_elim
      (λ lt. one_more (known (suc w)) (here (suc w)) (from_before (suc w)) (extend here from_before known w) (known w) (none (suc w) (omega (arith, lt)))
      (extend-above v w at none (λ u from below. closed u from (omega (arith, below))) (omega (arith, lt))) (closed w (omega (arith, lt)) (omega arith)))
      (λ ge. let e : v ≡ suc w = omega (arith, le, ge) in subst (λ n. extend here from_before known n ≡ known n) e at)
      (cases_lt v (suc w))

module _ {S D P G C : Type 0} (f : Frame S) where
  -- whether a view has the leader of the view before is a matter of certificates and of what is spoken of
  pub inherits-same : (t t' : Tables S D P G C) → ((u : ℕ) → direct t u ≡ direct t' u) → ((u : ℕ) → is_spoken t u ≡ is_spoken t' u) → (view : ℕ) → inherits_by f t view ≡ inherits_by f t' view
  inherits-same t t' d s view = λ i. inherits_of f (λ u. d u i) (λ u. s u i) view

module _ {S D P G C : Type 0} where
  -- tables that agree on each view with a number of 64 bits are kept alike
  Kept-led : {key_of : S → ℕ → P} {s : rounds.Common S} {r : Rounds S D P G C} {led : ℕ → Option ℕ} {past : ℕ → List (Item S D P G C)} (led' : ℕ → Option ℕ)
      → rounds.IsKept key_of s r led past → ((u : ℕ) → u < 2 ^ 64 → led u ≡ led' u) → rounds.IsKept key_of s r led' past
  Kept-led led' k same = record { scheme = k.scheme; epoch = k.epoch; rounds = record { at = λ u fits. rw (sym (same u fits)) (k.rounds.at u fits) } }

  -- so are all views
  pub IsKept-led : {g : Ghosts S D P G C} {f : Frame S} {x : Tracked S D P G C} {t : Tables S D P G C} (led' : ℕ → Option ℕ)
      → IsKept g f x t → ((u : ℕ) → u < 2 ^ 64 → t.led u ≡ led' u) → IsKept g f x (record t { led = led' })
  unfolding Keep
  IsKept-led {t = t} led' k same = record {
    length = k.length;
    optimistic_views = k.optimistic_views;
    rounds = Kept-led led' k.rounds same;
    signs = k.signs;
    noted = k.noted;
    members = λ view i fits is. k.members view i fits (same view fits ∙ is);
  }

  -- a view that has the leader of the view before, where no more is known than before of certificates in its window, and of the
  -- proposal of the view before, had it before
  pub inherits-less : (f : Frame S) (t t' : Tables S D P G C) (view : ℕ)
      → ((u : ℕ) → issuance_floor f.optimistic_views view ≤ u → u < view → direct t' u ≡ true → direct t u ≡ true)
      → (is_spoken t' (view - 1) ≡ true → is_spoken t (view - 1) ≡ true) → inherits_by f t' view ≡ true → inherits_by f t view ≡ true
  inherits-less f t t' view certified spoken so =
      let i = inherits_says f t' view so in
      inherits_from f t view (record {
        optimism = i.optimism;
        inside = i.inside;
        why = ⊎_elim
            (λ there. inl (there.0, there.1, there.2, there.3, certified there.0 there.2 there.3 there.4))
            (λ window. inr (spoken window.0, ⊎_elim (λ first. inl first) (λ there. inr (there.0, there.1, there.2, certified there.0 there.1 there.2 there.3)) window.1))
            i.why;
      })

  pub Holds-led : (g : Ghosts S D P G C) (f : Frame S) (x : Tracked S D P G C) (t : Tables S D P G C) (led' : ℕ → Option ℕ)
      → Holds g f x t → ((u : ℕ) → u < 2 ^ 64 → t.led u ≡ led' u) → Holds g f x (record t { led = led' })
  unfolding Holds
  Holds-led g f x t led' k same = IsKept-led led' k same

  -- so are all views where the notes say the same
  pub Holds-noted : (g : Ghosts S D P G C) (f : Frame S) (x : Tracked S D P G C) (t : Tables S D P G C) (noted : ℕ → Bool) → Holds g f x t → ((u : ℕ) → noted u ≡ t.noted u) → Holds g f x (record t { noted = noted })
  unfolding Holds
  Holds-noted g f x t noted k same = record {
    length = k.length;
    optimistic_views = k.optimistic_views;
    rounds = k.rounds;
    signs = k.signs;
    noted = Shows-same x.noted t.noted noted k.noted same;
    members = k.members;
  }
