-- Nothing more is to be learnt of who leads.
use Rattle.std.proofs.Common.{◌≡◌, true, false, ℕ, zero, suc, Bool, List, [], ◌∷◌, sym, refl, ◌+◌, ◌-◌, arith, if◌then◌else◌}
use mathlib.Core.Bool.{true≢false}
use Rattle.std.proofs.lemmas.Bool.Decides.{nat_tests}
use Rattle.std.proofs.lemmas.Option.{none-some}
use Rattle.std.specs.Prelude.{◌||◌, ◌&&◌, ◌==◌, nat_lt, nat_le, not, Option, Some, None, IsSome}
use Rattle.std.specs.Option.{option_or}
use Rattle.types_core.specs.Positions.{term_start}
use Rattle.types_terms.specs.Windows.{issuance_floor}
use Rattle.voter_history.specs.Past as past
use Rattle.voter_history.specs.Past.{Item}
use Rattle.voter_history.specs.Pasts.{is_direct}
use Rattle.voter_history.specs.History.{Setup, Point, pruned, min_active, seen}
use Rattle.voter_history.specs.Leaders.{any_from, extend}
use Rattle.voter_history.specs.Leaders.{was_forwarded, named, named_early, has_anchor, has_anchor_in_term, is_in_window, inherits, leader}

-- one test is passed wherever another is
either_still : (a b c d : Bool) → (a ≡ true → c ≡ true) → (b ≡ true → d ≡ true) → (a || b) ≡ true → (c || d) ≡ true
either_still true b c d f g passes = rw (f refl) refl
either_still false true true d f g passes = refl
either_still false true false d f g passes = g refl
either_still false false c d f g passes = absurd (true≢false (sym passes))

both_still : (a b c d : Bool) → (a ≡ true → c ≡ true) → (b ≡ true → d ≡ true) → (a && b) ≡ true → (c && d) ≡ true
both_still true b c d f g passes = rw (f refl, g passes) refl
both_still false b c d f g passes = absurd (true≢false (sym passes))

some_still : (f g : ℕ → Bool) → ((u : ℕ) → f u ≡ true → g u ≡ true) → (low n : ℕ) → any_from f low n ≡ true → any_from g low n ≡ true
some_still f g still low zero passes = passes
some_still f g still low (suc n) passes =
    either_still (f (low + n)) (any_from f low n) (g (low + n)) (any_from g low n) (still (low + n)) (some_still f g still low n) passes

extended : (known named : Option ℕ) (from_before : Bool) (before : Option ℕ) (i : ℕ) → from_before ≡ true → before ≡ Some i
    → IsSome (option_or known (option_or named (if from_before then before else None)))
extended (Some a) named from_before before i passes led = refl
extended None (Some b) from_before before i passes led = refl
extended None None from_before before i passes led = rw (passes, led) refl

forgotten_mark : (b m : Bool) → (if b then false else m) ≡ true → m ≡ true
forgotten_mark true m passes = absurd (true≢false (sym passes))
forgotten_mark false m passes = passes

module _ {S D P G C : Type 0} (s : Setup S C) where
  -- a view inherits by less, where by less no view has a certificate, was forwarded to or voted for that hasn't by more
  pub inherits_still : (less more : List (Point S D P G C)) → ((u : ℕ) → is_direct (seen s less u) ≡ true → is_direct (seen s more u) ≡ true)
      → ((u : ℕ) → was_forwarded s less u ≡ true → was_forwarded s more u ≡ true)
      → ((u : ℕ) → past.has_notarized (seen s less u) ≡ true → past.has_notarized (seen s more u) ≡ true)
      → (view : ℕ) → inherits s less view ≡ true → inherits s more view ≡ true
  inherits_still less more direct forwarded voted view passes =
      either_still (has_anchor_in_term s less view) (is_in_window s less view && (was_forwarded s less (view - 1) || past.has_notarized (seen s less (view - 1))))
      (has_anchor_in_term s more view) (is_in_window s more view && (was_forwarded s more (view - 1) || past.has_notarized (seen s more (view - 1)))) in_term in_window passes
    where
      in_term : has_anchor_in_term s less view ≡ true → has_anchor_in_term s more view ≡ true
      in_term =
          let low : ℕ = issuance_floor s.optimistic_views view in
          let start : ℕ = term_start s.length view in
          let few : ℕ → Bool = λ u. nat_le start u && is_direct (seen s less u) in
          let many : ℕ → Bool = λ u. nat_le start u && is_direct (seen s more u) in
          both_still (not (s.optimistic_views == 0)) (any_from few low (view - low)) (not (s.optimistic_views == 0)) (any_from many low (view - low)) (λ e. e)
          (some_still few many (λ u. both_still (nat_le start u) (is_direct (seen s less u)) (nat_le start u) (is_direct (seen s more u)) (λ e. e) (direct u)) low (view - low))

      anchored : has_anchor s less view ≡ true → has_anchor s more view ≡ true
      anchored =
          let low : ℕ = issuance_floor s.optimistic_views view in
          some_still (λ u. is_direct (seen s less u)) (λ u. is_direct (seen s more u)) direct low (view - low)

      window : is_in_window s less view ≡ true → is_in_window s more view ≡ true
      window =
          let bottom : Bool = issuance_floor s.optimistic_views view == 0 in
          both_still (not (s.optimistic_views == 0) && not (view == term_start s.length view)) (bottom || has_anchor s less view)
          (not (s.optimistic_views == 0) && not (view == term_start s.length view)) (bottom || has_anchor s more view) (λ e. e)
          (either_still bottom (has_anchor s less view) bottom (has_anchor s more view) (λ e. e) anchored)

      in_window : (is_in_window s less view && (was_forwarded s less (view - 1) || past.has_notarized (seen s less (view - 1)))) ≡ true
          → (is_in_window s more view && (was_forwarded s more (view - 1) || past.has_notarized (seen s more (view - 1)))) ≡ true
      in_window = both_still (is_in_window s less view) (was_forwarded s less (view - 1) || past.has_notarized (seen s less (view - 1)))
          (is_in_window s more view) (was_forwarded s more (view - 1) || past.has_notarized (seen s more (view - 1))) window
          (either_still (was_forwarded s less (view - 1)) (past.has_notarized (seen s less (view - 1))) (was_forwarded s more (view - 1)) (past.has_notarized (seen s more (view - 1)))
          (forwarded (view - 1)) (voted (view - 1)))

  forgotten_direct : (b : Bool) (l : List (Item S D P G C)) → is_direct (if b then [] else l) ≡ true → is_direct l ≡ true
  forgotten_direct true l passes = absurd (true≢false (sym passes))
  forgotten_direct false l passes = passes

  forgotten_vote : (b : Bool) (l : List (Item S D P G C)) → past.has_notarized (if b then [] else l) ≡ true → past.has_notarized l ≡ true
  forgotten_vote true l passes = absurd (true≢false (sym passes))
  forgotten_vote false l passes = passes

  -- what inherits behind a prune did before it
  unpruned : (h : List (Point S D P G C)) (view : ℕ) → inherits s (pruned ∷ h) view ≡ true → inherits s h view ≡ true
  unpruned h = inherits_still (pruned ∷ h) h (λ u. forgotten_direct (nat_lt u (min_active s h)) (seen s h u)) (λ u. forgotten_mark (nat_lt u (min_active s h)) (was_forwarded s h u))
      (λ u. forgotten_vote (nat_lt u (min_active s h)) (seen s h u))

  -- a view behind one that isn't dropped isn't either
  kept : (h : List (Point S D P G C)) (view i : ℕ) (b : Bool) → nat_lt view (min_active s h) ≡ b → (if b then None else leader s h view) ≡ Some i
      → (leader s h view ≡ Some i → IsSome (leader s h (suc view))) → IsSome (if nat_lt (suc view) (min_active s h) then None else leader s h (suc view))
  kept h view i true below led before = absurd (none-some i led)
  kept h view i false above led before =
      let next : nat_lt (suc view) (min_active s h) ≡ false = grind (arith, nat_tests, above) in
      rw next (before led)

  -- whoever leads a view leads the next one too, where that inherits
  pub closed : (h : List (Point S D P G C)) (view i : ℕ) → inherits s h (suc view) ≡ true → leader s h view ≡ Some i → IsSome (leader s h (suc view))
  closed [] view i passes led = absurd (none-some i led)
  closed (pruned ∷ h) view i passes led = kept h view i (nat_lt view (min_active s h)) refl led (λ old. closed h view i (unpruned h (suc view) passes) old)
  closed (x ∷ h) view i passes led =
      extended (leader s h (suc view)) (option_or (named s x (suc view)) (named_early s (x ∷ h) (suc view))) (inherits s (x ∷ h) (suc view)) (leader s (x ∷ h) view) i passes led

-- where nobody is named, and what could be inherited was, who leads stays
pub still_led : (here : ℕ → Option ℕ) (from_before : ℕ → Bool) (known : ℕ → Option ℕ) → ((w : ℕ) → here w ≡ None) → ((w i : ℕ) → from_before (suc w) ≡ true → known w ≡ Some i → IsSome (known (suc w)))
    → (w : ℕ) → extend here from_before known w ≡ known w
still_led here from_before known nobody shut zero = refl
still_led here from_before known nobody shut (suc w) =
    one (known (suc w)) (here (suc w)) (from_before (suc w)) (extend here from_before known w) (known w) (nobody (suc w)) (still_led here from_before known nobody shut w) (shut w)
  where
    one : (led named : Option ℕ) (b : Bool) (inherited before : Option ℕ) → named ≡ None → inherited ≡ before → ((i : ℕ) → b ≡ true → before ≡ Some i → IsSome led)
        → option_or led (option_or named (if b then inherited else None)) ≡ led
    one (Some a) named b inherited before none same shut = refl
    one None named false inherited before none same shut = rw none refl
    one None named true inherited None none same shut = rw none same
    one None named true inherited (Some i) none same shut = absurd (true≢false (sym (shut i refl refl)))
