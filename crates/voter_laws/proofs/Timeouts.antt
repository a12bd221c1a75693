-- When the current view is given up, as it goes on.
use Rattle.std.proofs.Common.{◌≡◌, ◌⊎◌, inl, inr, ⊎_elim, true, false, ℕ, zero, suc, List, [], ◌∷◌, refl, sym, ◌∙◌, ap, subst, ◌+◌, ◌<◌, ◌≤◌, max, arith, if◌then◌else◌}
use mathlib.Core.Bool.{true≢false}
use Rattle.std.proofs.lemmas.Bool.{cases_lt}
use Rattle.std.proofs.lemmas.Bool.Decides.{nat_tests}
use Rattle.std.proofs.lemmas.Grind.{common_steps}
use Rattle.std.specs.Prelude.{◌==◌, ◌↔◌, ◌&&◌, ◌||◌, not, nat_lt, nat_le, Bool, Option, Some, None, is_some, is_none, IsSome, option_map, option_and_then}
use Rattle.std.specs.Option.{option_or}
use Rattle.types_core.specs.Positions.{next_term_start}
use Rattle.voter_history.specs.declared.timeout_reason.TimeoutReason.{TimeoutReason}
use Rattle.voter_history.specs.declared.timeout_reason.TimeoutReason.TheVariants as reason
use Rattle.voter_history.specs.Held.{held}
use Rattle.voter_history.specs.Past as past
use Rattle.voter_history.specs.Past.{Item}
use Rattle.voter_history.specs.Pasts.{put}
use Rattle.voter_history.specs.History.{Setup, Point, started, nullified, finalized, judged, polled, pruned, enter, current, seen}
use Rattle.voter_rules.specs.GivingUp.{earlier, has_budget, oldest_entered, term_deadline, timeout_of}
use Rattle.voter_laws.specs.Steps.{put_holds}
use Rattle.voter_laws.specs.Timeouts.{CurrentHasTimeout, CurrentIsSeen, PollKeepsTimeout, TimeoutIsEarliest, PolledOnceIsPolled}
use Rattle.voter_laws.proofs.Growing.{grows, grown}
use Rattle.voter_laws.proofs.Pruning.{first_same, then_same, behind}

-- what is there is, behind a choice
some_or : {A : Type 0} (o other : Option A) → IsSome other → IsSome (option_or o other)
some_or None other some = some
some_or (Some x) other some = refl

some_mapped : {A B : Type 0} (f : A → B) (o : Option A) → IsSome o → IsSome (option_map f o)
some_mapped f None some = some
some_mapped f (Some x) some = refl

some_earlier : (now : ℕ) (own : Option (ℕ × TimeoutReason)) (stall : Option ℕ) → IsSome own → IsSome (earlier now own stall)
some_earlier now own None some = some
some_earlier now None (Some st) some = refl
some_earlier now (Some o) (Some st) some = by (nat_le st o.0 && nat_lt now o.0)
  where
    by : (b : Bool) → IsSome (if b then Some (st, reason.StallTimeout) else Some o)
    by true = refl
    by false = refl

not_true : (o : Option Bool) → ¬ (o ≡ Some true) → past.verdict_is_true o ≡ false
not_true None untrue = refl
not_true (Some true) untrue = absurd (untrue refl)
not_true (Some false) untrue = refl

module _ {S D P G C : Type 0} where
  -- unless a nullify or finalize was voted, the view has a deadline for its verdict
  abbrev IsArmed : List (Item S D P G C) → Type 0
  IsArmed l = past.is_undecided l ≡ true → IsSome (past.certification_deadline l)

  armed_more : (x : Item S D P G C) (l : List (Item S D P G C)) → IsArmed l → IsArmed (x ∷ l)
  armed_more (past.armed leader certification stall) l is = λ open_. rw open_ refl
  armed_more past.voted_nullify l is = λ never. absurd (true≢false (sym never))
  armed_more past.voted_finalize l is = λ never. absurd (decided (past.has_nullified l) never)
    where
      decided : (b : Bool) → (not b && false) ≡ true → ⊥
      decided true never = true≢false (sym never)
      decided false never = true≢false (sym never)
  armed_more x l is = is

  module _ (s : Setup S C) where
    enter_armed : (cur now at : ℕ) (t : ℕ → List (Item S D P G C)) → cur < at → IsArmed (enter s cur now at t at)
    enter_armed cur now at t below =
        let there : nat_lt cur at ≡ true = grind (arith, nat_tests, below) in
        let here : (at == at) ≡ true = grind (arith, common_steps) in
        rw (there, here) (λ open_. rw open_ refl)

    put_armed : (at : ℕ) (x : Item S D P G C) (t : ℕ → List (Item S D P G C)) (view : ℕ) → IsArmed (t view) → IsArmed (put at x t view)
    put_armed at x t view is = put_holds IsArmed view at x t (λ here. armed_more x (t view)) is

    -- the current view is armed since it was entered
    armed : (h : List (Point S D P G C)) → 0 < current s h → IsArmed (seen s h (current s h))
    armed (started now payload ∷ h) some = ⊎_elim
        (λ low. let e : 1 ≡ max 1 (current s h) = omega (arith, low) in subst (λ (v : ℕ). IsArmed (seen s (started now payload ∷ h) v)) e (enter_armed (current s h) now 1 (seen s h) low))
        (λ high. let e : current s h ≡ max 1 (current s h) = omega (arith, high) in
        subst (λ (v : ℕ). IsArmed (seen s (started now payload ∷ h) v)) e (grown {Q = IsArmed} armed_more (grows s h (current s h) (started now payload) tt) (armed h (omega (arith, high)))))
        (cases_lt (current s h) 1)
    armed (nullified now c ∷ h) some = ⊎_elim
        (λ low. let e : next_term_start s.length c.round.view ≡ max (next_term_start s.length c.round.view) (current s h) = omega (arith, low) in
        subst (λ (v : ℕ). IsArmed (seen s (nullified now c ∷ h) v)) e
        (put_armed c.round.view (past.nullified c) (enter s (current s h) now (next_term_start s.length c.round.view) (seen s h)) (next_term_start s.length c.round.view)
        (enter_armed (current s h) now (next_term_start s.length c.round.view) (seen s h) low)))
        (λ high. let e : current s h ≡ max (next_term_start s.length c.round.view) (current s h) = omega (arith, high) in
        subst (λ (v : ℕ). IsArmed (seen s (nullified now c ∷ h) v)) e (grown {Q = IsArmed} armed_more (grows s h (current s h) (nullified now c) tt) (armed h (omega (arith, some, e)))))
        (cases_lt (current s h) (next_term_start s.length c.round.view))
    armed (finalized now c ∷ h) some = ⊎_elim
        (λ low. let e : c.proposal.round.view + 1 ≡ max (c.proposal.round.view + 1) (current s h) = omega (arith, low) in
        subst (λ (v : ℕ). IsArmed (seen s (finalized now c ∷ h) v)) e
        (put_armed c.proposal.round.view (past.finalized c) (enter s (current s h) now (c.proposal.round.view + 1) (seen s h)) (c.proposal.round.view + 1)
        (enter_armed (current s h) now (c.proposal.round.view + 1) (seen s h) low)))
        (λ high. let e : current s h ≡ max (c.proposal.round.view + 1) (current s h) = omega (arith, high) in
        subst (λ (v : ℕ). IsArmed (seen s (finalized now c ∷ h) v)) e (grown {Q = IsArmed} armed_more (grows s h (current s h) (finalized now c) tt) (armed h (omega (arith, some, e)))))
        (cases_lt (current s h) (c.proposal.round.view + 1))
    armed (judged now view true ∷ h) some = ⊎_elim
        (λ low. let e : view + 1 ≡ max (view + 1) (current s h) = omega (arith, low) in
        subst (λ (v : ℕ). IsArmed (seen s (judged now view true ∷ h) v)) e (enter_armed (current s h) now (view + 1) (put view (past.judged true) (seen s h)) low))
        (λ high. let e : current s h ≡ max (view + 1) (current s h) = omega (arith, high) in
        subst (λ (v : ℕ). IsArmed (seen s (judged now view true ∷ h) v)) e (grown {Q = IsArmed} armed_more (grows s h (current s h) (judged now view true) tt) (armed h (omega (arith, some, e)))))
        (cases_lt (current s h) (view + 1))
    armed (judged now view false ∷ h) some = grown {Q = IsArmed} armed_more (grows s h (current s h) (judged now view false) tt) (armed h some)
    armed (pruned ∷ h) some = grown {Q = IsArmed} armed_more (grows s h (current s h) pruned (omega (arith, behind s h h))) (armed h some)
    armed (x ∷ h) some = grown {Q = IsArmed} armed_more (grows s h (current s h) x tt) (armed h some)
    armed [] some = absurd (omega (arith, some))

  first_is_some : (counts : Bool) (x : List (Item S D P G C)) → ¬ (past.verdict x ≡ Some true) → IsSome (past.certification_deadline x) → IsSome (past.first_timeout x counts)
  first_is_some counts x untrue some = some_or (if counts then past.latch x else None) _ (some_or (if is_none (held (past.offers x)) then option_map (λ moment. (moment, reason.LeaderTimeout)) (past.leader_deadline x) else None) _ (rw (not_true (past.verdict x) untrue) (some_mapped (λ (moment : ℕ). (moment, reason.CertificationTimeout)) (past.certification_deadline x) some)))

  -- so it has a timeout behind a look
  has_timeout : (now moment : ℕ) (counts : Bool) (stall : Option ℕ) (x : List (Item S D P G C)) → past.finalization x ≡ None → past.has_finalized x ≡ false → IsArmed x → ¬ (past.verdict x ≡ Some true)
      → IsSome (timeout_of now counts stall (past.polled moment ∷ x))
  has_timeout now moment counts stall x final open_ is untrue = by (past.has_nullified x) refl
    where
      by : (b : Bool) → past.has_nullified x ≡ b → IsSome (timeout_of now counts stall (past.polled moment ∷ x))
      by true given = rw (final, open_, given) (some_mapped (λ (t : ℕ). (t, reason.Retry)) (option_or (past.retry x) (Some moment)) (some_or (past.retry x) (Some moment) refl))
      by false kept =
          let undecided : past.is_undecided x ≡ true = rw (kept, open_) refl in
          let first : IsSome (past.first_timeout (past.polled moment ∷ x) counts) = first_is_some counts (past.polled moment ∷ x) untrue (is undecided) in
          rw (final, open_, kept) (some_earlier now (past.first_timeout (past.polled moment ∷ x) counts) stall first)

-- what happened to the current view behind a look
polled_here : {S D P G C : Type 0} (s : Setup S C) (h : List (Point S D P G C)) (now : ℕ) → 0 < current s h → seen s (polled now ∷ h) (current s h) ≡ past.polled (past.deadline now s.timeout_retry) ∷ seen s h (current s h)
polled_here s h now some =
    let there : nat_lt 0 (current s h) ≡ true = grind (arith, nat_tests, some) in
    let here : (current s h == current s h) ≡ true = grind (arith, common_steps) in
    rw (there, here) refl

pub current_is_seen : {S D P G C : Type 0} → CurrentIsSeen S D P G C
current_is_seen s h some none = absurd (cc (subst IsArmed none (armed s h some) refl))

pub current_has_timeout : {S D P G C : Type 0} → CurrentHasTimeout S D P G C
current_has_timeout s h now some final open_ untrue =
    subst (λ x. IsSome (timeout_of now (has_budget s (polled now ∷ h)) (term_deadline s (polled now ∷ h)) x)) (sym (polled_here s h now some))
    (has_timeout now (past.deadline now s.timeout_retry) (has_budget s (polled now ∷ h)) (term_deadline s (polled now ∷ h)) (seen s h (current s h)) final open_ (armed s h some) untrue)

-- there is one, and it is reached
abbrev IsReached : Option (ℕ × TimeoutReason) → ℕ → Type 0
IsReached o after = (x : ℕ × TimeoutReason) × (o ≡ Some x) × (x.0 ≤ after)

module _ (now after : ℕ) (ahead : now ≤ after) where
  -- the earlier of two timeouts is reached, whether it is asked for now or after
  earlier_then : (own : Option (ℕ × TimeoutReason)) (stall : Option ℕ) → IsReached (earlier after own stall) after ↔ IsReached (earlier now own stall) after
  earlier_then own None = (λ r. r, λ r. r)
  earlier_then None (Some st) = (λ r. r, λ r. r)
  earlier_then (Some o) (Some st) = by (nat_le st o.0) refl (nat_lt now o.0) refl (nat_lt after o.0) refl
    where
      chosen : Bool → Option (ℕ × TimeoutReason)
      chosen b = if b then Some (st, reason.StallTimeout) else Some o

      by : (a : Bool) → nat_le st o.0 ≡ a → (b : Bool) → nat_lt now o.0 ≡ b → (c : Bool) → nat_lt after o.0 ≡ c → IsReached (chosen (a && c)) after ↔ IsReached (chosen (a && b)) after
      by false low b early c late = (λ r. r, λ r. r)
      by true low true early true late = (λ r. r, λ r. r)
      by true low false early false late = (λ r. r, λ r. r)
      by true low true early false late = (
        λ r. ((st, reason.StallTimeout), refl, grind (arith, nat_tests, low, late)),
        λ r. (o, refl, grind (arith, nat_tests, late)),
      )
      by true low false early true late = absurd (let untrue : after < o.0 = grind (arith, nat_tests, late) in let yes : o.0 ≤ now = grind (arith, nat_tests, early) in omega (arith, untrue, yes, ahead))

  timeout_then : {S D P G C : Type 0} (counts : Bool) (stall : Option ℕ) (x : List (Item S D P G C)) → IsReached (timeout_of after counts stall x) after ↔ IsReached (timeout_of now counts stall x) after
  timeout_then counts stall x = by (is_some (past.finalization x) || past.has_finalized x || past.has_nullified x)
    where
      by : (b : Bool) → IsReached (if b then past.next_timeout x counts else earlier after (past.next_timeout x counts) stall) after
          ↔ IsReached (if b then past.next_timeout x counts else earlier now (past.next_timeout x counts) stall) after
      by true = (λ r. r, λ r. r)
      by false = earlier_then (past.next_timeout x counts) stall

pub timeout_is_earliest : {S D P G C : Type 0} → TimeoutIsEarliest S D P G C
timeout_is_earliest s h now after ahead may =
    let same = timeout_then now after ahead (has_budget s h) (term_deadline s h) (seen s h (current s h)) in (
      λ due. same.0 ((due.moment, due.why), due.next, due.reached),
      λ r. let x = same.1 r in record { gives_up = may; moment = x.0.0; why = x.0.1; next = x.1; reached = x.2 },
    )

module _ {S D P G C : Type 0} (s : Setup S C) (h : List (Point S D P G C)) where
  -- a look leaves all but the retry
  polled_fact : {X : Type 0} (f : List (Item S D P G C) → X) → ((moment : ℕ) (l : List (Item S D P G C)) → f (past.polled moment ∷ l) ≡ f l) → (now u : ℕ) → f (seen s (polled now ∷ h) u) ≡ f (seen s h u)
  polled_fact f same now u = by (nat_lt 0 (current s h))
    where
      by : (b : Bool) → f ((if b then put (current s h) (past.polled (past.deadline now s.timeout_retry)) (seen s h) else seen s h) u) ≡ f (seen s h u)
      by true = put_holds (λ l. f l ≡ f (seen s h u)) u (current s h) (past.polled (past.deadline now s.timeout_retry)) (seen s h) (λ here before. same (past.deadline now s.timeout_retry) (seen s h u) ∙ before) refl
      by false = refl

  polled_deadline : (now : ℕ) → term_deadline s (polled now ∷ h) ≡ term_deadline s h
  polled_deadline now =
      ap (λ (o : Option ℕ). option_and_then (λ u. past.stall_deadline (seen s (polled now ∷ h) u)) o)
      (first_same (λ u. is_some (past.entered_at (seen s (polled now ∷ h) u))) (λ u. is_some (past.entered_at (seen s h u))) _ _ (λ u above. polled_fact (λ l. is_some (past.entered_at l)) (λ moment l. refl) now u))
      ∙ then_same (λ u. past.stall_deadline (seen s (polled now ∷ h) u)) (λ u. past.stall_deadline (seen s h u)) (oldest_entered s h) (λ u is. polled_fact (λ l. past.stall_deadline l) (λ moment l. refl) now u)

nothing_or_more : (n : ℕ) → (n ≡ 0) ⊎ (0 < n)
nothing_or_more zero = inl refl
nothing_or_more (suc n) = inr (omega arith)

retry_once : (o : Option ℕ) (m n : ℕ) → option_or (option_or o (Some m)) (Some n) ≡ option_or o (Some m)
retry_once None m n = refl
retry_once (Some x) m n = refl

-- two looks give the timeout that one does
timeout_twice : {S D P G C : Type 0} (moment : ℕ) (counts : Bool) (stall : Option ℕ) (m n : ℕ) (x : List (Item S D P G C)) → timeout_of moment counts stall (past.polled n ∷ past.polled m ∷ x) ≡ timeout_of moment counts stall (past.polled m ∷ x)
timeout_twice moment counts stall m n x = by (past.has_nullified x) refl
  where
    by : (b : Bool) → past.has_nullified x ≡ b → timeout_of moment counts stall (past.polled n ∷ past.polled m ∷ x) ≡ timeout_of moment counts stall (past.polled m ∷ x)
    by true given = rw (given, retry_once (past.retry x) m n) refl
    by false kept = rw kept refl

retry_kept : (o : Option ℕ) (n : ℕ) → IsSome o → option_or o (Some n) ≡ o
retry_kept None n some = absurd (cc some)
retry_kept (Some x) n some = refl

-- a look changes nothing where the retry is known
timeout_kept : {S D P G C : Type 0} (moment : ℕ) (counts : Bool) (stall : Option ℕ) (n : ℕ) (x : List (Item S D P G C)) → past.RetryIsKnown x → timeout_of moment counts stall (past.polled n ∷ x) ≡ timeout_of moment counts stall x
timeout_kept moment counts stall n x known = by (past.has_nullified x) refl
  where
    by : (b : Bool) → past.has_nullified x ≡ b → timeout_of moment counts stall (past.polled n ∷ x) ≡ timeout_of moment counts stall x
    by true given = rw (given, retry_kept (past.retry x) n (known given)) refl
    by false kept = rw kept refl

pub poll_keeps_timeout : {S D P G C : Type 0} → PollKeepsTimeout S D P G C
poll_keeps_timeout s h now moment known = ⊎_elim
    (λ none.
    let start : nat_lt 0 (current s h) ≡ false = grind (arith, nat_tests, none) in
    rw start refl)
    (λ some.
    subst (λ x. timeout_of moment (has_budget s h) (term_deadline s (polled now ∷ h)) x ≡ timeout_of moment (has_budget s h) (term_deadline s h) (seen s h (current s h))) (sym (polled_here s h now some))
    (subst (λ (d : Option ℕ). timeout_of moment (has_budget s h) d (past.polled (past.deadline now s.timeout_retry) ∷ seen s h (current s h)) ≡ timeout_of moment (has_budget s h) (term_deadline s h) (seen s h (current s h))) (sym (polled_deadline s h now))
    (timeout_kept moment (has_budget s h) (term_deadline s h) (past.deadline now s.timeout_retry) (seen s h (current s h)) known)))
    (nothing_or_more (current s h))

pub polled_once_is_polled : {S D P G C : Type 0} → PolledOnceIsPolled S D P G C
polled_once_is_polled s h now after moment = ⊎_elim
    (λ none.
    let start : nat_lt 0 (current s h) ≡ false = grind (arith, nat_tests, none) in
    rw start refl)
    (λ some.
    let first = polled_here s h now some in
    let second = polled_here s (polled now ∷ h) after some in
    let twice = second ∙ ap (λ l. past.polled (past.deadline after s.timeout_retry) ∷ l) first in
    subst (λ x. timeout_of moment (has_budget s h) (term_deadline s (polled after ∷ polled now ∷ h)) (seen s (polled after ∷ polled now ∷ h) (current s h)) ≡ timeout_of moment (has_budget s h) (term_deadline s (polled now ∷ h)) x) (sym first)
    (subst (λ x. timeout_of moment (has_budget s h) (term_deadline s (polled after ∷ polled now ∷ h)) x ≡ timeout_of moment (has_budget s h) (term_deadline s (polled now ∷ h)) (past.polled (past.deadline now s.timeout_retry) ∷ seen s h (current s h))) (sym twice)
    (subst (λ (d : Option ℕ). timeout_of moment (has_budget s h) d (past.polled (past.deadline after s.timeout_retry) ∷ past.polled (past.deadline now s.timeout_retry) ∷ seen s h (current s h)) ≡ timeout_of moment (has_budget s h) (term_deadline s (polled now ∷ h)) (past.polled (past.deadline now s.timeout_retry) ∷ seen s h (current s h))) (sym (polled_deadline s (polled now ∷ h) after))
    (timeout_twice moment (has_budget s h) (term_deadline s (polled now ∷ h)) (past.deadline now s.timeout_retry) (past.deadline after s.timeout_retry) (seen s h (current s h))))))
    (nothing_or_more (current s h))
