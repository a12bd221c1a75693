-- Where nothing is due the current view is not given up.
use Rattle.std.proofs.Common.{◌≡◌, ◌∷◌, ◌∙◌, ⊎_elim, ℕ, ◌<◌, Bool, true, false, List, Option, Some, None, refl, sym, ap, subst}
use Rattle.std.specs.Prelude.{◌+◌, ◌-◌, ◌||◌, max, is_some, is_none, option_and_then, option_map, if◌then◌else◌}
use Rattle.std.specs.Option.{option_or}
use Rattle.types_core.specs.declared.scheme.Scheme.{Ghosts}
use Rattle.types_core.specs.Positions.{HasRoom, term_start}
use Rattle.voter_history.specs.declared.timeout_reason.TimeoutReason.{TimeoutReason}
use Rattle.voter_history.specs.declared.timeout_reason.TimeoutReason.TheVariants as reason
use Rattle.voter_history.specs.Held.{held}
use Rattle.voter_history.specs.Past as past
use Rattle.voter_history.specs.Past.{Item}
use Rattle.voter_history.specs.History as views
use Rattle.voter_history.specs.History.{current, last_finalized, latched, seen}
use Rattle.voter_rules.specs.GivingUp.{NullifyIsDue, earlier, first_from, has_budget, timeout, timeout_of}
use Rattle.voter_laws.specs.Steps.{put_holds}
use Rattle.simplex_member.specs.Layers.{current_of, latest, voter_of}
use Rattle.simplex_member.specs.Member.{IsGivenUpAt, NoneDue}
use Rattle.simplex_member.specs.Packet.{Formats}
use Rattle.simplex_member.specs.Point.{History}
use Rattle.simplex_member.specs.Setup.{Setup}

-- one more reason is the reason only where there was none, and neither nullify nor finalize was voted
reason_stays : {X : Type 0} (open_ : Bool) (o : Option X) (x : X) → (o ≡ None → open_ ≡ true → ⊥) → (if open_ then option_or o (Some x) else o) ≡ o
reason_stays true None x late = absurd (late refl refl)
reason_stays true (Some first) x late = refl
reason_stays false o x late = refl

-- when a view is given up, by the moment at which a nullify is due again, and by the reason that came
abbrev timeout_with : {S D P G C : Type 0} → ℕ → Bool → Option ℕ → List (Item S D P G C) → Option ℕ → Option (ℕ × TimeoutReason) → Option (ℕ × TimeoutReason)
timeout_with now counts stall x again latch =
    let first : Option (ℕ × TimeoutReason) = option_or (if counts then latch else None)
    (option_or (if is_none (held (past.offers x)) then option_map (λ (moment : ℕ). (moment, reason.LeaderTimeout)) (past.leader_deadline x) else None)
    (if past.verdict_is_true (past.verdict x) then None else option_map (λ (moment : ℕ). (moment, reason.CertificationTimeout)) (past.certification_deadline x))) in
    let next : Option (ℕ × TimeoutReason) =
    if is_some (past.finalization x) || past.has_finalized x then None else (if past.has_nullified x then option_map (λ (moment : ℕ). (moment, reason.Retry)) again else first) in
    if is_some (past.finalization x) || past.has_finalized x || past.has_nullified x then next else earlier now next stall

module _ {S D P G C : Type 0} (s : views.Setup S C) (v : List (views.Point S D P G C)) where
  -- the term's deadline, by what happened to each view
  abbrev deadline_by : (ℕ → List (Item S D P G C)) → Option ℕ
  deadline_by t =
      let low : ℕ = max (last_finalized v + 1) (term_start s.length (current s v)) in
      option_and_then (λ u. past.stall_deadline (t u)) (first_from (λ u. is_some (past.entered_at (t u))) low (current s v + 1 - low))

  deadline_same : (t u : ℕ → List (Item S D P G C)) → ((w : ℕ) → past.entered_at (t w) ≡ past.entered_at (u w)) → ((w : ℕ) → past.stall_deadline (t w) ≡ past.stall_deadline (u w)) → deadline_by t ≡ deadline_by u
  deadline_same t u entered stalls = λ i.
      let low : ℕ = max (last_finalized v + 1) (term_start s.length (current s v)) in
      option_and_then (λ w. stalls w i) (first_from (λ w. is_some (entered w i)) low (current s v + 1 - low))

  timeout_same : (now : ℕ) (t u : ℕ → List (Item S D P G C)) → ((w : ℕ) → past.entered_at (t w) ≡ past.entered_at (u w)) → ((w : ℕ) → past.stall_deadline (t w) ≡ past.stall_deadline (u w))
      → ((stall : Option ℕ) → timeout_of now (has_budget s v) stall (t (current s v)) ≡ timeout_of now (has_budget s v) stall (u (current s v)))
      → timeout_of now (has_budget s v) (deadline_by t) (t (current s v)) ≡ timeout_of now (has_budget s v) (deadline_by u) (u (current s v))
  timeout_same now t u entered stalls here =
      here (deadline_by t) ∙ ap (λ (stall : Option ℕ). timeout_of now (has_budget s v) stall (u (current s v))) (deadline_same t u entered stalls)

  -- a reason that comes too late leaves the timeout
  latched_timeout : (now at : ℕ) (why : TimeoutReason) → (past.latch (seen s v (current s v)) ≡ None → past.is_undecided (seen s v (current s v)) ≡ true → ⊥)
      → timeout s (latched at (current s v) why ∷ v) now ≡ timeout s v now
  latched_timeout now at why late =
      let here : List (Item S D P G C) = seen s v (current s v) in
      timeout_same now (seen s (latched at (current s v) why ∷ v)) (seen s v)
      (λ w. put_holds (λ l. past.entered_at l ≡ past.entered_at (seen s v w)) w (current s v) (past.latched at why) (seen s v) (λ is before. before) refl)
      (λ w. put_holds (λ l. past.stall_deadline l ≡ past.stall_deadline (seen s v w)) w (current s v) (past.latched at why) (seen s v) (λ is before. before) refl)
      (λ stall. put_holds (λ l. timeout_of now (has_budget s v) stall l ≡ timeout_of now (has_budget s v) stall here) (current s v) (current s v) (past.latched at why) (seen s v)
      (λ is before.
      ap (λ (latch : Option (ℕ × TimeoutReason)). timeout_with now (has_budget s v) stall here (past.retry here) latch)
      (reason_stays (past.is_undecided here) (past.latch here) (at, why) late))
      refl)

  -- a nullify is due where it is behind what leaves the timeout
  due_before : (w : List (views.Point S D P G C)) (now : ℕ) → current s w ≡ current s v → past.has_finalized (seen s w (current s v)) ≡ past.has_finalized (seen s v (current s v))
      → timeout s w now ≡ timeout s v now → NullifyIsDue s w now → NullifyIsDue s v now
  due_before w now at closed same due = record {
    gives_up = record {
      current = refl;
      some = subst (λ (c : ℕ). 0 < c) at due.gives_up.some;
      room = subst (λ (c : ℕ). HasRoom s.length c) at due.gives_up.room;
      not_finalized = sym closed ∙ subst (λ (c : ℕ). past.has_finalized (seen s w c) ≡ false) at due.gives_up.not_finalized;
    };
    moment = due.moment;
    why = due.why;
    next = sym same ∙ due.next;
    reached = due.reached;
  }

module _ {S D P G C : Type 0} (g : Ghosts S D P G C) (f : Formats S D P G C) (s : Setup S D C) (h : History S D P G C) (none : NoneDue g f s h) where
  -- neither by a deadline, nor since its leader is silent
  pub not_given_up : ¬ IsGivenUpAt g f s h (latest h)
  not_given_up up =
      let v : List (views.Point S D P G C) = voter_of s h in
      ⊎_elim
      none.votes.no_nullify
      (λ silent.
      none.votes.no_nullify (due_before s.voter v (latched (latest h) (current_of s h) reason.Inactivity ∷ v) (latest h) refl
      (put_holds (λ l. past.has_finalized l ≡ past.has_finalized (seen s.voter v (current_of s h))) (current_of s h) (current_of s h) (past.latched (latest h) reason.Inactivity) (seen s.voter v) (λ is before. before) refl)
      (latched_timeout s.voter v (latest h) (latest h) reason.Inactivity
      (λ first open_. none.no_reason (current_of s h) reason.Inactivity (record { there = (refl, silent.0); counts = silent.1; first = first; undecided = open_ })))
      silent.2))
      up
