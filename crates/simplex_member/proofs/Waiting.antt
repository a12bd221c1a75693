-- A view of which nothing was known, that is entered at a moment, isn't given up at that moment: its deadlines lie ahead.
use Rattle.std.proofs.Common.{◌≡◌, ℕ, zero, suc, ◌+◌, ◌-◌, ◌≤◌, ◌<◌, Bool, true, false, List, [], ◌∷◌, Option, Some, None, refl, sym, subst, arith}
use Rattle.std.specs.Prelude.{IfSome, if◌then◌else◌, is_none, is_some, max, nat_le, nat_lt, ◌&&◌, ◌||◌, option_and_then, option_map, ⊤}
use Rattle.std.specs.Option.{option_or}
use Rattle.std.proofs.lemmas.Option.{none-some}
use Rattle.types_core.specs.Positions.{term_start}
use Rattle.voter_history.specs.declared.timeout_reason.TimeoutReason.{TimeoutReason}
use Rattle.voter_history.specs.declared.timeout_reason.TimeoutReason.TheVariants as reason
use Rattle.voter_history.specs.Held.{held}
use Rattle.voter_history.specs.History as views
use Rattle.voter_history.specs.History.{current, last_finalized, later, seen}
use Rattle.voter_history.specs.Past as past
use Rattle.voter_rules.specs.GivingUp.{NullifyIsDue, earlier, first_from, has_budget, oldest_entered, term_deadline, timeout, timeout_of}
use Rattle.simplex_member.specs.Setup.{Setup, DeadlinesLieAhead, IsInTime}
use Rattle.simplex_member.proofs.Lists.{if-some, some-is}
use Rattle.simplex_member.proofs.Seeing.{AreGood}
use Rattle.simplex_member.proofs.Timely.{uncut}

-- when something is to happen, and why
abbrev Timeout : Type 0
Timeout = ℕ × TimeoutReason

abbrev LiesAhead : ℕ → Option Timeout → Type 0
LiesAhead m o = IfSome o (λ t. m < t.0)

ahead-or : (m : ℕ) (a b : Option Timeout) → LiesAhead m a → LiesAhead m b → LiesAhead m (option_or a b)
ahead-or m None b first second = second
ahead-or m (Some t) b first second = first

ahead-if : (m : ℕ) (c : Bool) (o : Option Timeout) → LiesAhead m o → LiesAhead m (if c then o else None)
ahead-if m true o first = first
ahead-if m false o first = tt

ahead-unless : (m : ℕ) (c : Bool) (o : Option Timeout) → LiesAhead m o → LiesAhead m (if c then None else o)
ahead-unless m true o first = tt
ahead-unless m false o first = first

ahead-at : (m : ℕ) (why : TimeoutReason) (o : Option ℕ) → IfSome o (λ d. m < d) → LiesAhead m (option_map (λ d. (d, why)) o)
ahead-at m why None first = tt
ahead-at m why (Some d) first = first

ahead-earlier : (m : ℕ) (own : Option Timeout) (stall : Option ℕ) → LiesAhead m own → IfSome stall (λ d. m < d) → LiesAhead m (earlier m own stall)
ahead-earlier m own None first second = first
ahead-earlier m None (Some d) first second = second
ahead-earlier m (Some t) (Some d) first second = go (nat_le d t.0 && nat_lt m t.0)
  where
    go : (b : Bool) → LiesAhead m (if b then Some (d, reason.StallTimeout) else Some t)
    go true = second
    go false = first

ahead-either : (m : ℕ) (b : Bool) (x y : Option ℕ) → IfSome x (λ d. m < d) → IfSome y (λ d. m < d) → IfSome (if b then x else y) (λ d. m < d)
ahead-either m true x y first second = first
ahead-either m false x y first second = second

ahead-none : (m : ℕ) (o : Option Timeout) → o ≡ None → LiesAhead m o
ahead-none m o none = subst (λ (x : Option Timeout). LiesAhead m x) (sym none) tt

-- of at most one number the first that passes is that one
first-one : (test : ℕ → Bool) (low n u : ℕ) → n ≤ 1 → first_from test low n ≡ Some u → (u ≡ low) × (n ≡ 1)
first-one test low zero u few is = absurd (none-some u is)
first-one test low (suc zero) u few is = go (test low) is
  where
    go : (b : Bool) → (if b then Some low else None) ≡ Some u → (u ≡ low) × (suc zero ≡ 1)
    go true e = (sym (some-is low u e), refl)
    go false e = absurd (none-some u e)
first-one test low (suc (suc n)) u few is = absurd (omega (arith, few))

module _ {S D P G C : Type 0} (m : ℕ) where
  -- an item is no reason to give its view up, by the moment
  abbrev pub IsAhead : past.Item S D P G C → Type 0
  IsAhead (past.latched t why) = ⊥
  IsAhead (past.armed leader certification stall) = (m < leader) × (m < certification) × IfSome stall (λ d. m < d)
  IsAhead x = ⊤

  abbrev Ahead : List (past.Item S D P G C) → Type 0
  Ahead items = AreGood IsAhead items

  no-latch : (items : List (past.Item S D P G C)) → Ahead items → past.latch items ≡ None
  no-latch [] ahead = refl
  no-latch (past.latched t why ∷ items) ahead = absurd ahead.0
  no-latch (x ∷ items) ahead = no-latch items ahead.1

  leader-ahead : (items : List (past.Item S D P G C)) → Ahead items → IfSome (past.leader_deadline items) (λ d. m < d)
  leader-ahead [] ahead = tt
  leader-ahead (past.armed l c stall ∷ items) ahead = ahead-either m (past.is_undecided items) (Some l) (past.leader_deadline items) ahead.0.0 (leader-ahead items ahead.1)
  leader-ahead (x ∷ items) ahead = leader-ahead items ahead.1

  certification-ahead : (items : List (past.Item S D P G C)) → Ahead items → IfSome (past.certification_deadline items) (λ d. m < d)
  certification-ahead [] ahead = tt
  certification-ahead (past.armed l c stall ∷ items) ahead = ahead-either m (past.is_undecided items) (Some c) (past.certification_deadline items) ahead.0.1 (certification-ahead items ahead.1)
  certification-ahead (x ∷ items) ahead = certification-ahead items ahead.1

  armed-ahead : (items : List (past.Item S D P G C)) → Ahead items → IfSome (past.armed_stall items) (λ d. m < d)
  armed-ahead [] ahead = tt
  armed-ahead (past.armed l c stall ∷ items) ahead = ahead.0.2
  armed-ahead (x ∷ items) ahead = armed-ahead items ahead.1

  stall-ahead : (items : List (past.Item S D P G C)) → Ahead items → IfSome (past.stall_deadline items) (λ d. m < d)
  stall-ahead items ahead = ahead-either m (is_some (past.finalization items)) None (past.armed_stall items) tt (armed-ahead items ahead)

  module _ (items : List (past.Item S D P G C)) (ahead : Ahead items) where
    abbrev by_leader : Option Timeout
    by_leader = if is_none (held (past.offers items)) then option_map (λ moment. (moment, reason.LeaderTimeout)) (past.leader_deadline items) else None

    abbrev by_verdict : Option Timeout
    by_verdict = if past.verdict_is_true (past.verdict items) then None else option_map (λ moment. (moment, reason.CertificationTimeout)) (past.certification_deadline items)

    first-ahead : (counts : Bool) → LiesAhead m (past.first_timeout items counts)
    first-ahead counts =
        ahead-or m (if counts then past.latch items else None) (option_or by_leader by_verdict) (ahead-if m counts (past.latch items) (ahead-none m (past.latch items) (no-latch items ahead)))
        (ahead-or m by_leader by_verdict
        (ahead-if m (is_none (held (past.offers items))) (option_map (λ moment. (moment, reason.LeaderTimeout)) (past.leader_deadline items)) (ahead-at m reason.LeaderTimeout (past.leader_deadline items) (leader-ahead items ahead)))
        (ahead-unless m (past.verdict_is_true (past.verdict items)) (option_map (λ moment. (moment, reason.CertificationTimeout)) (past.certification_deadline items))
        (ahead-at m reason.CertificationTimeout (past.certification_deadline items) (certification-ahead items ahead))))

  next-ahead : (items : List (past.Item S D P G C)) (counts : Bool) → Ahead items → past.has_nullified items ≡ false → LiesAhead m (past.next_timeout items counts)
  next-ahead items counts ahead fresh = ahead-unless m (is_some (past.finalization items) || past.has_finalized items)
      (if past.has_nullified items then option_map (λ moment. (moment, reason.Retry)) (past.retry items) else past.first_timeout items counts) (go (past.has_nullified items) fresh)
    where
      go : (b : Bool) → b ≡ false → LiesAhead m (if b then option_map (λ moment. (moment, reason.Retry)) (past.retry items) else past.first_timeout items counts)
      go true e = absurd (cc e)
      go false e = first-ahead items ahead counts

  timeout-ahead : (items : List (past.Item S D P G C)) (counts : Bool) (stall : Option ℕ) → Ahead items → past.has_nullified items ≡ false → IfSome stall (λ d. m < d) → LiesAhead m (timeout_of m counts stall items)
  timeout-ahead items counts stall ahead fresh later_too = go (is_some (past.finalization items) || past.has_finalized items || past.has_nullified items)
    where
      own : LiesAhead m (past.next_timeout items counts)
      own = next-ahead items counts ahead fresh

      go : (b : Bool) → LiesAhead m (if b then past.next_timeout items counts else earlier m (past.next_timeout items counts) stall)
      go true = own
      go false = ahead-earlier m (past.next_timeout items counts) stall own later_too

  module _ (s : views.Setup S C) (h : List (views.Point S D P G C)) (ahead : Ahead (seen s h (current s h))) (first : current s h ≤ max (last_finalized h + 1) (term_start s.length (current s h))) where
    -- no view of the term was entered before the current one, but for those that are final
    term-ahead : IfSome (term_deadline s h) (λ d. m < d)
    term-ahead = go (oldest_entered s h) refl
      where
        go : (o : Option ℕ) → oldest_entered s h ≡ o → IfSome (option_and_then (λ u. past.stall_deadline (seen s h u)) o) (λ d. m < d)
        go None e = tt
        go (Some u) e =
            let one = first-one (λ v. is_some (past.entered_at (seen s h v))) (max (last_finalized h + 1) (term_start s.length (current s h))) (current s h + 1 - max (last_finalized h + 1) (term_start s.length (current s h))) u (omega (arith, first)) e in
            let same : u ≡ current s h = omega (arith, one.0, one.1, first) in
            subst (λ (v : ℕ). IfSome (past.stall_deadline (seen s h v)) (λ d. m < d)) (sym same) (stall-ahead (seen s h (current s h)) ahead)

    -- so it isn't given up at the moment
    pub not-given-up : past.has_nullified (seen s h (current s h)) ≡ false → NullifyIsDue s h m → ⊥
    not-given-up fresh due =
        let late : m < due.moment = if-some (λ (t : Timeout). m < t.0) (timeout s h m) (due.moment, due.why) (timeout-ahead (seen s h (current s h)) (has_budget s h) (term_deadline s h) ahead fresh term-ahead) due.next in
        omega (arith, late, due.reached)

-- the deadlines of a view that is entered at a moment early enough lie ahead of it
pub entered-ahead : {S D C : Type 0} (s : Setup S D C) (m : ℕ) → IsInTime s m → DeadlinesLieAhead s
    → (m < past.deadline m s.voter.leader_timeout) × (m < past.deadline m s.voter.certification_timeout) × IfSome (later m s.voter.stall_timeout) (λ d. m < d)
entered-ahead s m early waits =
    let these = uncut s m early in (
      omega (arith, these.leader, waits.leader),
      omega (arith, these.certification, waits.certification),
      subst (λ (o : Option ℕ). IfSome o (λ d. m < d)) (sym these.stall) (counted s.voter.stall_timeout waits.stall),
    )
  where
    counted : (o : Option ℕ) → IfSome o (λ t. 0 < t) → IfSome (option_map (λ t. m + t) o) (λ d. m < d)
    counted None some = tt
    counted (Some t) some = omega (arith, some)
