-- When a member wants to be told the time, by what its voter says of its next timeout.
use Rattle.std.proofs.Common.{◌≡◌, ◌≢◌, ◌⊎◌, ⊎_elim, inl, inr, ◌∷◌, ◌∙◌, ℕ, ◌<◌, ◌≤◌, ◌^◌, Bool, true, false, List, Option, Some, None, zero, suc, ◌+◌, refl, sym, ap, subst, arith}
use denote.Enum.Bare.{sameb}
use Rattle.std.proofs.lemmas.Bool.{cases_lt}
use Rattle.std.proofs.lemmas.Bool.Decides.{nat_tests}
use Rattle.std.proofs.lemmas.Grind.{common_steps}
use Rattle.std.specs.Prelude.{◌==◌, ◌↔◌, ◌&&◌, ◌||◌, nat_lt, nat_le, IsSome, is_some, is_none, option_map, option_and_then, unwrap_or, if◌then◌else◌}
use Rattle.std.specs.Option.{option_or}
use Rattle.types_core.specs.declared.scheme.Scheme.{Ghosts}
use Rattle.types_core.specs.Positions.{HasRoom}
use Rattle.voter_history.specs.contracts.timeout_reason.TimeoutReason.{the_type}
use Rattle.voter_history.specs.declared.timeout_reason.TimeoutReason.{TimeoutReason}
use Rattle.voter_history.specs.declared.timeout_reason.TimeoutReason.TheVariants as reason
use Rattle.voter_history.specs.Held.{held}
use Rattle.voter_history.specs.Past as past
use Rattle.voter_history.specs.Past.{Item}
use Rattle.voter_history.specs.History as voted
use Rattle.voter_history.specs.History.{latched, polled, current, seen}
use Rattle.voter_rules.specs.GivingUp.{MayGiveUp, NullifyIsDue, earlier, first_from, has_budget, oldest_entered, term_deadline, timeout, timeout_of}
use Rattle.voter_laws.specs.Steps.{put_holds}
use Rattle.voter_laws.specs.Timeouts.{CurrentHasTimeout, PollKeepsTimeout, TimeoutIsEarliest}
use Rattle.simplex_member.specs.Allowed.{AreAllowed}
use Rattle.simplex_member.specs.Layers.{current_of, latest, voter_of}
use Rattle.simplex_member.specs.Member.{IsGivenUpAt, IsWake}
use Rattle.simplex_member.specs.Packet.{Formats}
use Rattle.simplex_member.specs.Point.{History}
use Rattle.simplex_member.specs.Setup.{Setup}
use Rattle.node_requests.specs.Silence.{SilenceCounts}
use Rattle.node_requests.specs.Polling.{after_poll_by}
use Rattle.node_requests.specs.Waking.{after_poll}
use Rattle.node_requests.proofs.Moments.{settled}
use Rattle.node_requests.proofs.Wakes.{IsTold}

-- the next timeout, by whether the view is finalized, finalize was voted, and nullify was; by its retry, and by its first timeout
abbrev Chosen : ℕ → Bool → Bool → Bool → Option (ℕ × TimeoutReason) → Option (ℕ × TimeoutReason) → Option ℕ → Option (ℕ × TimeoutReason)
Chosen now final closed given again first stall =
    if final || closed || given then (if final || closed then None else (if given then again else first))
    else earlier now (if final || closed then None else (if given then again else first)) stall

-- a view has a timeout only while it is not finalized, and no finalize was voted
chosen_open : (now : ℕ) (final closed given : Bool) (again first : Option (ℕ × TimeoutReason)) (stall : Option ℕ) (x : ℕ × TimeoutReason) → Chosen now final closed given again first stall ≡ Some x → (final ≡ false) × (closed ≡ false)
chosen_open now true closed given again first stall x is = absurd (cc is)
chosen_open now false true given again first stall x is = absurd (cc is)
chosen_open now false false given again first stall x is = (refl, refl)

-- the term's deadline, or this reason
abbrev Stalls : Bool → ℕ → ℕ → TimeoutReason → Option (ℕ × TimeoutReason)
Stalls b st t why = if b then Some (st, reason.StallTimeout) else Some (t, why)

-- a reason that came is the timeout
earlier_now : (now t : ℕ) (why : TimeoutReason) (stall : Option ℕ) → t ≤ now → earlier now (Some (t, why)) stall ≡ Some (t, why)
earlier_now now t why None low = refl
earlier_now now t why (Some st) low = by (nat_le st t) (nat_lt now t) (grind (arith, nat_tests, low))
  where
    by : (a b : Bool) → b ≡ false → Stalls (a && b) st t why ≡ Some (t, why)
    by true true untrue = absurd (cc untrue)
    by true false late = refl
    by false b late = refl

-- beside a repetition there is no reason like that
abbrev IsNoRetry : Option (ℕ × TimeoutReason) → Type 0
IsNoRetry o = (x : ℕ × TimeoutReason) → o ≡ Some x → x.1 ≢ reason.Retry

not_again : (m : ℕ) (why : TimeoutReason) → why ≢ reason.Retry → IsNoRetry (Some (m, why))
not_again m why differs x is again = differs (ap (λ (o : Option (ℕ × TimeoutReason)). (unwrap_or o x).1) is ∙ again)

either_no_retry : (o other : Option (ℕ × TimeoutReason)) → IsNoRetry o → IsNoRetry other → IsNoRetry (option_or o other)
either_no_retry None other one two = two
either_no_retry (Some x) other one two = one

chosen_no_retry : (b : Bool) (o other : Option (ℕ × TimeoutReason)) → IsNoRetry o → IsNoRetry other → IsNoRetry (if b then o else other)
chosen_no_retry true o other one two = one
chosen_no_retry false o other one two = two

none_no_retry : IsNoRetry None
none_no_retry x is = absurd (cc is)

mapped_no_retry : (why : TimeoutReason) → why ≢ reason.Retry → (o : Option ℕ) → IsNoRetry (option_map (λ (moment : ℕ). (moment, why)) o)
mapped_no_retry why differs None = none_no_retry
mapped_no_retry why differs (Some m) = not_again m why differs

earlier_no_retry : (now : ℕ) (own : Option (ℕ × TimeoutReason)) (stall : Option ℕ) → IsNoRetry own → IsNoRetry (earlier now own stall)
earlier_no_retry now own None one = one
earlier_no_retry now None (Some st) one = not_again st reason.StallTimeout (λ e. absurd (cc e))
earlier_no_retry now (Some o) (Some st) one = chosen_no_retry (nat_le st o.0 && nat_lt now o.0) (Some (st, reason.StallTimeout)) (Some o) (not_again st reason.StallTimeout (λ e. absurd (cc e))) one

module _ {S D P G C : Type 0} where
  -- when the view is given up first, but for a reason that came
  abbrev Deadlines : List (Item S D P G C) → Option (ℕ × TimeoutReason)
  Deadlines l = option_or (if is_none (held (past.offers l)) then option_map (λ (moment : ℕ). (moment, reason.LeaderTimeout)) (past.leader_deadline l) else None)
      (if past.verdict_is_true (past.verdict l) then None else option_map (λ (moment : ℕ). (moment, reason.CertificationTimeout)) (past.certification_deadline l))

  deadlines_no_retry : (l : List (Item S D P G C)) → IsNoRetry (Deadlines l)
  deadlines_no_retry l = either_no_retry _ _
      (chosen_no_retry (is_none (held (past.offers l))) _ None (mapped_no_retry reason.LeaderTimeout (λ e. absurd (cc e)) (past.leader_deadline l)) none_no_retry)
      (chosen_no_retry (past.verdict_is_true (past.verdict l)) None _ none_no_retry (mapped_no_retry reason.CertificationTimeout (λ e. absurd (cc e)) (past.certification_deadline l)))

  abbrev Own : List (Item S D P G C) → Bool → Option (ℕ × TimeoutReason)
  Own l counts = option_or (if counts then past.latch l else None) (Deadlines l)

  abbrev Again : List (Item S D P G C) → Option (ℕ × TimeoutReason)
  Again l = option_map (λ (moment : ℕ). (moment, reason.Retry)) (past.retry l)

  module _ (now : ℕ) (counts : Bool) (stall : Option ℕ) (l : List (Item S D P G C)) where
    timeout_is_chosen : timeout_of now counts stall l ≡ Chosen now (is_some (past.finalization l)) (past.has_finalized l) (past.has_nullified l) (Again l) (Own l counts) stall
    timeout_is_chosen = refl

    open_view : (x : ℕ × TimeoutReason) → timeout_of now counts stall l ≡ Some x → (is_some (past.finalization l) ≡ false) × (past.has_finalized l ≡ false)
    open_view x is = chosen_open now (is_some (past.finalization l)) (past.has_finalized l) (past.has_nullified l) (Again l) (Own l counts) stall x is

    -- behind an own nullify it is the repetition
    again_is_retry : past.has_nullified l ≡ true → (x : ℕ × TimeoutReason) → timeout_of now counts stall l ≡ Some x → x.1 ≡ reason.Retry
    again_is_retry given x is = by (past.retry l) (open_view x is) is
      where
        by : (o : Option ℕ) → (is_some (past.finalization l) ≡ false) × (past.has_finalized l ≡ false)
            → Chosen now (is_some (past.finalization l)) (past.has_finalized l) (past.has_nullified l) (option_map (λ (moment : ℕ). (moment, reason.Retry)) o) (Own l counts) stall ≡ Some x → x.1 ≡ reason.Retry
        by None opened is = absurd (cc (sym (none given opened) ∙ is))
          where
            none : past.has_nullified l ≡ true → (is_some (past.finalization l) ≡ false) × (past.has_finalized l ≡ false)
                → Chosen now (is_some (past.finalization l)) (past.has_finalized l) (past.has_nullified l) None (Own l counts) stall ≡ None
            none given opened = rw (given, opened.0, opened.1) refl
        by (Some m) opened is = sym (ap (λ (o : Option (ℕ × TimeoutReason)). (unwrap_or o x).1) (sym (some given opened) ∙ is))
          where
            some : past.has_nullified l ≡ true → (is_some (past.finalization l) ≡ false) × (past.has_finalized l ≡ false)
                → Chosen now (is_some (past.finalization l)) (past.has_finalized l) (past.has_nullified l) (Some (m, reason.Retry)) (Own l counts) stall ≡ Some (m, reason.Retry)
            some given opened = rw (given, opened.0, opened.1) refl

    -- in front of one it is the earlier of the own one and the term's
    first_is_own : past.has_nullified l ≡ false → (is_some (past.finalization l) ≡ false) × (past.has_finalized l ≡ false) → timeout_of now counts stall l ≡ earlier now (Own l counts) stall
    first_is_own kept opened = timeout_is_chosen ∙ rw (kept, opened.0, opened.1) refl

    -- a reason that came before now and counts is the timeout
    reason_is_timeout : past.has_nullified l ≡ false → (is_some (past.finalization l) ≡ false) × (past.has_finalized l ≡ false) → counts ≡ true → (z : ℕ × TimeoutReason) → past.latch l ≡ Some z → z.0 ≤ now → timeout_of now counts stall l ≡ Some z
    reason_is_timeout kept opened on z there low = first_is_own kept opened ∙ ap (λ (o : Option (ℕ × TimeoutReason)). earlier now o stall) own ∙ earlier_now now z.0 z.1 stall low
      where
        own : Own l counts ≡ Some z
        own = rw (on, there) refl

    -- where none counts, it is no repetition
    first_no_retry : past.has_nullified l ≡ false → (is_some (past.finalization l) ≡ false) × (past.has_finalized l ≡ false) → (if counts then past.latch l else None) ≡ None → IsNoRetry (timeout_of now counts stall l)
    first_no_retry kept opened none =
        let own : Own l counts ≡ Deadlines l = ap (λ (o : Option (ℕ × TimeoutReason)). option_or o (Deadlines l)) none in
        subst (λ (o : Option (ℕ × TimeoutReason)). IsNoRetry o) (sym (first_is_own kept opened ∙ ap (λ (o : Option (ℕ × TimeoutReason)). earlier now o stall) own)) (earlier_no_retry now (Deadlines l) stall (deadlines_no_retry l))

  -- a further reason changes nothing of the timeout where none counts, or behind an own nullify
  latch_unheard : (now n : ℕ) (why : TimeoutReason) (counts : Bool) (stall : Option ℕ) (l : List (Item S D P G C)) → counts ≡ false → timeout_of now counts stall (past.latched n why ∷ l) ≡ timeout_of now counts stall l
  latch_unheard now n why false stall l is = refl
  latch_unheard now n why true stall l untrue = absurd (cc untrue)

  latch_too_late : (now n : ℕ) (why : TimeoutReason) (counts : Bool) (stall : Option ℕ) (l : List (Item S D P G C)) → past.has_nullified l ≡ true → timeout_of now counts stall (past.latched n why ∷ l) ≡ timeout_of now counts stall l
  latch_too_late now n why counts stall l given = by (is_some (past.finalization l)) (past.has_finalized l) (past.has_nullified l) given
    where
      by : (final closed b : Bool) → b ≡ true → Chosen now final closed b (Again l) (Own (past.latched n why ∷ l) counts) stall ≡ Chosen now final closed b (Again l) (Own l counts) stall
      by true closed true is = refl
      by false true true is = refl
      by false false true is = refl
      by final closed false untrue = absurd (cc untrue)

  -- the first reason of a view that was not given up is its latch
  first_latch : (n : ℕ) (why : TimeoutReason) (l : List (Item S D P G C)) → past.has_nullified l ≡ false → past.has_finalized l ≡ false → past.latch l ≡ None → past.latch (past.latched n why ∷ l) ≡ Some (n, why)
  first_latch n why l kept open_ none = rw (kept, open_, none) refl

first_same : (test other : ℕ → Bool) (low n : ℕ) → ((u : ℕ) → test u ≡ other u) → first_from test low n ≡ first_from other low n
first_same test other low zero same = refl
first_same test other low (suc n) same = rw (same low, first_same test other (low + 1) n same) refl

then_same : {A : Type 0} (f g : ℕ → Option A) (o : Option ℕ) → ((u : ℕ) → f u ≡ g u) → option_and_then f o ≡ option_and_then g o
then_same f g None same = refl
then_same f g (Some u) same = same u

module _ {S D P G C : Type 0} (s : voted.Setup S C) (v : List (voted.Point S D P G C)) (n : ℕ) (why : TimeoutReason) where
  -- a reason to give the current view up leaves the term's deadline
  latched_deadline : term_deadline s (latched n (current s v) why ∷ v) ≡ term_deadline s v
  latched_deadline =
      ap (λ (o : Option ℕ). option_and_then (λ u. past.stall_deadline (seen s (latched n (current s v) why ∷ v) u)) o)
      (first_same (λ u. is_some (past.entered_at (seen s (latched n (current s v) why ∷ v) u))) (λ u. is_some (past.entered_at (seen s v u))) _ _
      (λ u. put_holds (λ l. is_some (past.entered_at l) ≡ is_some (past.entered_at (seen s v u))) u (current s v) (past.latched n why) (seen s v) (λ here before. before) refl))
      ∙ then_same (λ u. past.stall_deadline (seen s (latched n (current s v) why ∷ v) u)) (λ u. past.stall_deadline (seen s v u)) (oldest_entered s v)
      (λ u. put_holds (λ l. past.stall_deadline l ≡ past.stall_deadline (seen s v u)) u (current s v) (past.latched n why) (seen s v) (λ here before. before) refl)

  latched_here : seen s (latched n (current s v) why ∷ v) (current s v) ≡ past.latched n why ∷ seen s v (current s v)
  latched_here = let here : (current s v == current s v) ≡ true = grind (arith, common_steps) in rw here refl

  -- so the timeout behind it rests on what happened to the view alone
  latched_timeout : (now : ℕ) → timeout s (latched n (current s v) why ∷ v) now ≡ timeout_of now (has_budget s v) (term_deadline s v) (past.latched n why ∷ seen s v (current s v))
  latched_timeout now =
      ap (λ (d : Option ℕ). timeout_of now (has_budget s v) d (seen s (latched n (current s v) why ∷ v) (current s v))) latched_deadline
      ∙ ap (λ (l : List (Item S D P G C)). timeout_of now (has_budget s v) (term_deadline s v) l) latched_here

  latched_finalized : past.has_finalized (seen s (latched n (current s v) why ∷ v) (current s v)) ≡ past.has_finalized (seen s v (current s v))
  latched_finalized = ap (λ (l : List (Item S D P G C)). past.has_finalized l) latched_here

-- what happened to the current view behind a look
polled_here : {S D P G C : Type 0} (s : voted.Setup S C) (v : List (voted.Point S D P G C)) (now : ℕ) → 0 < current s v → seen s (polled now ∷ v) (current s v) ≡ past.polled (past.deadline now s.timeout_retry) ∷ seen s v (current s v)
polled_here s v now some =
    let there : nat_lt 0 (current s v) ≡ true = grind (arith, nat_tests, some) in
    let here : (current s v == current s v) ≡ true = grind (arith, common_steps) in
    rw (there, here) refl

-- what the voter says of its next timeout, where it says something
module _ {S D P G C : Type 0} (s : voted.Setup S C) (v : List (voted.Point S D P G C)) (now : ℕ) (next : Option (ℕ × TimeoutReason)) (is : IsTold s v now next) where
  pub told_next : (x : ℕ × TimeoutReason) → next ≡ Some x → (0 < current s v) × (timeout s v now ≡ Some x)
  told_next x there = by (nat_lt 0 (current s v)) refl (sym is ∙ there)
    where
      by : (b : Bool) → nat_lt 0 (current s v) ≡ b → (if b then timeout s v now else None) ≡ Some x → (0 < current s v) × (timeout s v now ≡ Some x)
      by true started e = (grind (arith, nat_tests, started), e)
      by false start e = absurd (cc e)

  pub told_none : next ≡ None → 0 < current s v → timeout s v now ≡ None
  told_none none some = by (nat_lt 0 (current s v)) (grind (arith, nat_tests, some)) (sym is ∙ none)
    where
      by : (b : Bool) → b ≡ true → (if b then timeout s v now else None) ≡ None → timeout s v now ≡ None
      by true started e = e
      by false untrue e = absurd (cc untrue)

-- behind the start the current view has a timeout, while it is open and its verdict isn't true
abbrev pub HasTimeout : {S D P G C : Type 0} → voted.Setup S C → List (voted.Point S D P G C) → ℕ → Type 0
HasTimeout s v now = 0 < current s v → past.finalization (seen s v (current s v)) ≡ None → past.has_finalized (seen s v (current s v)) ≡ false
    → (past.verdict (seen s v (current s v)) ≡ Some true → ⊥) → IsSome (timeout s v now)

-- a test for the repetition tells so
pub is_repetition : (why : TimeoutReason) (b : Bool) → b ≡ sameb the_type why reason.Retry → b ≡ true → why ≡ reason.Retry
is_repetition reason.Retry b is on = refl
is_repetition why b is on = absurd (cc (sym is ∙ on))

pub no_repetition : (why : TimeoutReason) (b : Bool) → b ≡ sameb the_type why reason.Retry → b ≡ false → why ≢ reason.Retry
no_repetition why b is off same = absurd (cc (sym off ∙ is ∙ ap (λ (w : TimeoutReason). sameb the_type w reason.Retry) same))

-- a view has room by the voter's numbers, or by the setup's
pub room_here : (views view length cur : ℕ) → views ≡ length → view ≡ cur → HasRoom views view → HasRoom length cur
room_here views view length cur same at room = subst (λ (n : ℕ). HasRoom n cur) same (subst (λ (m : ℕ). HasRoom views m) at room)

either_way : (b : Bool) → (b ≡ true) ⊎ (b ≡ false)
either_way true = inl refl
either_way false = inr refl

none_where_unheard : {A : Type 0} (b : Bool) (o : Option A) → (b ≡ true → o ≡ None) → (if b then o else None) ≡ None
none_where_unheard true o none = none refl
none_where_unheard false o none = refl

is_not_there : {A : Type 0} (o : Option A) → is_some o ≡ false → o ≡ None
is_not_there None is = refl
is_not_there (Some x) is = absurd (cc is)

module _ {S D P G C : Type 0} (g : Ghosts S D P G C) (f : Formats S D P G C) (s : Setup S D C) (k : History S D P G C) where
  -- the earliest moment ahead from which on the view is given up is the wake
  is_wake : (bound r : ℕ) → latest k < bound → r < bound → ((t : ℕ) → latest k ≤ t → t < bound → IsGivenUpAt g f s k t ↔ (r ≤ t)) → ¬ IsGivenUpAt g f s k (latest k) → IsWake g f s k r
  is_wake bound r fits small is early = record {
    ahead = later;
    due = (is r (omega (arith, later)) small).1 (omega arith);
    earliest = λ t above below up. let low = (is t (omega (arith, above)) (omega (arith, below, small))).0 up in absurd (omega (arith, low, below));
  }
    where
      later : latest k < r
      later = ⊎_elim (λ ahead. ahead) (λ reached. absurd (early ((is (latest k) (omega arith) fits).1 reached))) (cases_lt (latest k) r)

  -- a view without room is never given up
  pub never_without_room : ¬ HasRoom s.voter.length (current_of s k) → (t : ℕ) → ¬ IsGivenUpAt g f s k t
  never_without_room full t up = ⊎_elim (λ due. full due.gives_up.room) (λ silent. full silent.2.gives_up.room) up

module _ {S D P G C : Type 0} (g : Ghosts S D P G C) (f : Formats S D P G C) (s : Setup S D C) (k : History S D P G C) (all : AreAllowed g f s k) (law : TimeoutIsEarliest S D P G C)
    (moment : ℕ) (why : TimeoutReason) (next : timeout s.voter (voter_of s k) (latest k) ≡ Some (moment, why)) (some : 0 < current_of s k) (room : HasRoom s.voter.length (current_of s k))
    (early : ¬ IsGivenUpAt g f s k (latest k)) where
  abbrev here : List (Item S D P G C)
  here = seen s.voter (voter_of s k) (current_of s k)

  opened : (is_some (past.finalization here) ≡ false) × (past.has_finalized here ≡ false)
  opened = open_view (latest k) (has_budget s.voter (voter_of s k)) (term_deadline s.voter (voter_of s k)) here (moment, why) next

  may : MayGiveUp s.voter (voter_of s k) (current_of s k)
  may = record { current = refl; some = some; room = room; not_finalized = opened.1 }

  -- a nullify is due from the moment of the timeout on
  due_from : (t : ℕ) → latest k ≤ t → NullifyIsDue s.voter (voter_of s k) t ↔ (moment ≤ t)
  due_from t ahead = (
    λ due.
        let r = (law s.voter (voter_of s k) (latest k) t ahead may).0 due in
        let same : r.0.0 ≡ moment = ap (λ (o : Option (ℕ × TimeoutReason)). (unwrap_or o r.0).0) (sym r.1 ∙ next) in
        let low = r.2 in
        omega (arith, same, low),
    λ low. (law s.voter (voter_of s k) (latest k) t ahead may).1 ((moment, why), next, low),
  )

  -- no reason counts yet: for one the view would be given up now
  unreasoned : past.has_nullified here ≡ false → has_budget s.voter (voter_of s k) ≡ true → past.latch here ≡ None
  unreasoned kept on = by (past.latch here) refl
    where
      by : (o : Option (ℕ × TimeoutReason)) → past.latch here ≡ o → o ≡ None
      by None is = refl
      by (Some z) is =
          let low : z.0 ≤ latest k = (settled g f s k (current_of s k) all).0 z is in
          absurd (early (inl (record {
            gives_up = may;
            moment = z.0;
            why = z.1;
            next = reason_is_timeout (latest k) (has_budget s.voter (voter_of s k)) (term_deadline s.voter (voter_of s k)) here kept opened on z is low;
            reached = low;
          })))

  -- where a silence would change nothing, a nullify behind it was due without it
  due_without : (t : ℕ) → (has_budget s.voter (voter_of s k) ≡ false) ⊎ (past.has_nullified here ≡ true)
      → NullifyIsDue s.voter (latched t (current_of s k) reason.Inactivity ∷ voter_of s k) t → NullifyIsDue s.voter (voter_of s k) t
  due_without t why_not due =
      let budget = has_budget s.voter (voter_of s k) in
      let stall = term_deadline s.voter (voter_of s k) in
      let unchanged : timeout_of t budget stall (past.latched t reason.Inactivity ∷ here) ≡ timeout_of t budget stall here = ⊎_elim
      (λ off. latch_unheard t t reason.Inactivity budget stall here off) (λ given. latch_too_late t t reason.Inactivity budget stall here given) why_not in
      record {
        gives_up = may;
        moment = due.moment;
        why = due.why;
        next = sym (latched_timeout s.voter (voter_of s k) t reason.Inactivity t ∙ unchanged) ∙ due.next;
        reached = due.reached;
      }

  -- a silence that counts gives the view up
  due_by_silence : (t : ℕ) → past.has_nullified here ≡ false → has_budget s.voter (voter_of s k) ≡ true → NullifyIsDue s.voter (latched t (current_of s k) reason.Inactivity ∷ voter_of s k) t
  due_by_silence t kept on = record {
    gives_up = record { current = refl; some = some; room = room; not_finalized = latched_finalized s.voter (voter_of s k) t reason.Inactivity ∙ opened.1 };
    moment = t;
    why = reason.Inactivity;
    next = latched_timeout s.voter (voter_of s k) t reason.Inactivity t
        ∙ reason_is_timeout t (has_budget s.voter (voter_of s k)) (term_deadline s.voter (voter_of s k)) (past.latched t reason.Inactivity ∷ here) kept opened on (t, reason.Inactivity)
        (first_latch t reason.Inactivity here kept opened.1 (unreasoned kept on)) (omega arith);
    reached = omega arith;
  }

  -- a view that was given up is given up once more at the repetition
  pub at_repetition : why ≡ reason.Retry → (t : ℕ) → latest k ≤ t → IsGivenUpAt g f s k t ↔ (moment ≤ t)
  at_repetition again t ahead = (
    λ up. ⊎_elim (λ due. (due_from t ahead).0 due) (λ silent. (due_from t ahead).0 (due_without t (inr given) silent.2)) up,
    λ low. inl ((due_from t ahead).1 low),
  )
    where
      given : past.has_nullified here ≡ true
      given = ⊎_elim
          (λ yes. yes)
          (λ kept. absurd (first_no_retry (latest k) (has_budget s.voter (voter_of s k)) (term_deadline s.voter (voter_of s k)) here kept opened
          (none_where_unheard (has_budget s.voter (voter_of s k)) (past.latch here) (λ on. unreasoned kept on)) (moment, why) next again))
          (either_way (past.has_nullified here))

  -- any other at its deadline, or once a silence counts
  pub at_deadline : why ≢ reason.Retry → (t : ℕ) → latest k ≤ t → IsGivenUpAt g f s k t ↔ ((moment ≤ t) ⊎ SilenceCounts g f s k t)
  at_deadline first t ahead = (
    λ up. ⊎_elim
        (λ due. inl ((due_from t ahead).0 due))
        (λ silent. ⊎_elim (λ on. inr (silent.0, on, silent.1)) (λ off. inl ((due_from t ahead).0 (due_without t (inl off) silent.2))) (either_way (has_budget s.voter (voter_of s k))))
        up,
    λ either. ⊎_elim
        (λ low. inl ((due_from t ahead).1 low))
        (λ counts. ⊎_elim
        (λ given. absurd (first (again_is_retry (latest k) (has_budget s.voter (voter_of s k)) (term_deadline s.voter (voter_of s k)) here given (moment, why) next)))
        (λ kept. inr (counts.0, counts.2, due_by_silence t kept counts.1))
        (either_way (past.has_nullified here)))
        either,
  )

  -- so the wake is the repetition
  pub wakes_to_repeat : why ≡ reason.Retry → IsWake g f s k moment
  wakes_to_repeat again = is_wake g f s k (latest k + moment + 1) moment (omega arith) (omega arith) (λ t ahead below. at_repetition again t ahead) early

  -- or the earlier one of the deadline and of the silence
  pub wakes_at_deadline : why ≢ reason.Retry → (r : ℕ) → latest k < 2 ^ 64 → r < 2 ^ 64 → ((t : ℕ) → t < 2 ^ 64 → (r ≤ t) ↔ ((moment ≤ t) ⊎ SilenceCounts g f s k t)) → IsWake g f s k r
  wakes_at_deadline first r fits small is = is_wake g f s k (2 ^ 64) r fits small
      (λ t ahead below. (λ up. (is t below).1 ((at_deadline first t ahead).0 up), λ low. (at_deadline first t ahead).1 ((is t below).0 low))) early

module _ {S D P G C : Type 0} (g : Ghosts S D P G C) (f : Formats S D P G C) (s : Setup S D C) where
  -- so it has behind a poll
  pub has_timeout_after : (h : History S D P G C) → CurrentHasTimeout S D P G C → PollKeepsTimeout S D P G C → HasTimeout s.voter (voter_of s (after_poll s h)) (latest h)
  has_timeout_after h there kept = after_poll_by g f s h (λ (k : History S D P G C). HasTimeout s.voter (voter_of s k) (latest h))
      (λ lacks some final open_ untrue.
      let looked = polled_here s.voter (voter_of s h) (latest h) some in
      there s.voter (voter_of s h) (latest h) some
      (sym (ap (λ (l : List (Item S D P G C)). past.finalization l) looked) ∙ final)
      (sym (ap (λ (l : List (Item S D P G C)). past.has_finalized l) looked) ∙ open_)
      (λ yes. untrue (ap (λ (l : List (Item S D P G C)). past.verdict l) looked ∙ yes)))
      (λ known some final open_ untrue. subst (λ (o : Option (ℕ × TimeoutReason)). IsSome o) (kept s.voter (voter_of s h) (latest h) (latest h) known) (there s.voter (voter_of s h) (latest h) some final open_ untrue))

  -- a view without a timeout is never given up, where it would have one
  pub never_without_timeout : (k : History S D P G C) → AreAllowed g f s k → TimeoutIsEarliest S D P G C → HasTimeout s.voter (voter_of s k) (latest k) → (0 < current_of s k → timeout s.voter (voter_of s k) (latest k) ≡ None)
      → (t : ℕ) → latest k < t → ¬ IsGivenUpAt g f s k t
  never_without_timeout k all law there none t ahead up = ⊎_elim
      (λ due.
      let r = (law s.voter (voter_of s k) (latest k) t (omega (arith, ahead)) due.gives_up).0 due in
      cc (sym r.1 ∙ none due.gives_up.some))
      (λ silent. by_silence silent.2)
      up
    where
      view : ℕ
      view = current_of s k

      by_silence : NullifyIsDue s.voter (latched t view reason.Inactivity ∷ voter_of s k) t → ⊥
      by_silence due =
          let some : 0 < view = due.gives_up.some in
          let w = voter_of s k in
          let is = sym (latched_timeout s.voter w t reason.Inactivity t) ∙ due.next in
          let opened = open_view t (has_budget s.voter w) (term_deadline s.voter w) (past.latched t reason.Inactivity ∷ seen s.voter w view) (due.moment, due.why) is in
          let has : IsSome (timeout s.voter w (latest k)) = there some (is_not_there (past.finalization (seen s.voter w view)) opened.0) opened.1
          (λ yes. let below : view < view = (settled g f s k view all).1 yes in absurd (omega (arith, below))) in
          cc (subst (λ (o : Option (ℕ × TimeoutReason)). IsSome o) (none some) has)
