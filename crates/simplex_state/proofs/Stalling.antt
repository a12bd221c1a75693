-- When a reason counts, and when a term's standstill does.
use denote.Enum.Bare.{sameb}
use mathlib.Core.Bool.{true≢false}
use Rattle.std.proofs.Common.{◌≡◌, ◌<◌, ◌≤◌, ◌+◌, ◌-◌, ◌^◌, ◌==◌, min, ℕ, Bool, true, false, refl, sym, ap, subst, ◌∙◌, ⊎_elim, arith, if◌then◌else◌, is_lt, nat_cmp}
use Rattle.std.specs.Prelude.{◌↔◌, ◌||◌, not, nat_lt, List, [], ◌∷◌, Option, Some, None, IsTrue, is_some, option_and_then}
use Rattle.std.proofs.lemmas.Bool.{cases_Bool}
use Rattle.std.proofs.lemmas.Bool.Decides.{nat_tests}
use Rattle.std.proofs.lemmas.Grind.{common_steps}
use Rattle.voter_history.specs.contracts.timeout_reason.TimeoutReason.{the_type}
use Rattle.voter_history.specs.declared.timeout_reason.TimeoutReason.{TimeoutReason}
use Rattle.voter_history.specs.declared.timeout_reason.TimeoutReason.TheVariants as reason
use Rattle.voter_history.specs.Held.{IsUnequivocated}
use Rattle.voter_history.specs.Past as past
use Rattle.voter_history.specs.Past.{Item}
use Rattle.voter_history.specs.Pasts.{put}
use Rattle.voter_history.specs.History.{Setup, Point, current, polled, seen}
use Rattle.voter_history.specs.Leaders.{leader}
use Rattle.voter_rules.specs.GivingUp.{IsTracked, MayLatch, earlier, has_budget, oldest_entered, term_deadline, timeout, timeout_of}
use Rattle.simplex_state.specs.Stalling.{MayStall}

-- what happened to a view last happened to it
put-here : {X : Type 0} (at : ℕ) (x : X) (t : ℕ → List X) → put at x t at ≡ x ∷ t at
put-here at x t = let here : (at == at) ≡ true = grind (arith, common_steps) in rw here refl

-- where something happens to the current view, once there is one
at_current : {X : Type 0} (view : ℕ) (x : X) (t : ℕ → List X) → nat_lt 0 view ≡ true → (if nat_lt 0 view then put view x t else t) view ≡ x ∷ t view
at_current view x t started = rw started (put-here view x t)

-- the first of two, where a test says so
if_true : {X : Type 0} (b : Bool) (x y : X) → b ≡ true → x ≡ (if b then x else y)
if_true b x y is = rw is refl

if_false : {X : Type 0} (b : Bool) (x y : X) → b ≡ false → y ≡ (if b then x else y)
if_false b x y is = rw is refl

-- a view that is decided is given up by its own rules alone
alone : {S D P G C : Type 0} (now : ℕ) (counts : Bool) (stall : Option ℕ) (x y : List (Item S D P G C)) → y ≡ x → (is_some (past.finalization x) || past.has_finalized x || past.has_nullified x) ≡ true
    → past.next_timeout x counts ≡ timeout_of now counts stall y
alone now counts stall x y same decided = subst (λ z. past.next_timeout x counts ≡ timeout_of now counts stall z) (sym same) (if_true (is_some (past.finalization x) || past.has_finalized x || past.has_nullified x) (past.next_timeout x counts) _ decided)

-- the view behind a finalized one is the next
pub behind_is : (last final got added r : ℕ) → final ≡ last → final + 1 < 2 ^ 64 → got ≡ final → added ≡ min (got + 1) 18446744073709551615 → r ≡ added → r ≡ last + 1
behind_is last final got added r same fits is sum made = omega (arith, same, fits, is, sum, made)

-- what the test of two views' order tells, where the second is known to be this
below_of : (x y z : ℕ) (b : Bool) → b ≡ is_lt (nat_cmp x y) → b ≡ true → y ≡ z → ¬ (z ≤ x)
below_of x y z b is on same le = grind (arith, nat_tests, is, on, same, le)

from_of : (x y z : ℕ) (b : Bool) → b ≡ is_lt (nat_cmp x y) → b ≡ false → y ≡ z → z ≤ x
from_of x y z b is off same = grind (arith, nat_tests, is, off, same)

-- what the test for a silent leader tells
silent_of : (why : TimeoutReason) (b : Bool) → b ≡ not (sameb the_type why reason.Inactivity) → b ≡ false → why ≡ reason.Inactivity
silent_of reason.Inactivity b is off = refl
silent_of why b is off = absurd (true≢false (sym is ∙ off))

module _ {S D P G C : Type 0} (s : Setup S C) (h : List (Point S D P G C)) where
  -- no reason counts behind the current view, or where nothing is known of the view
  pub behind_never : (view at : ℕ) (why : TimeoutReason) (b : Bool) → b ≡ is_lt (nat_cmp view at) → b ≡ true → at ≡ current s h → IsTrue false ↔ MayLatch s h view why
  behind_never view at why b is on same = (λ never. absurd (cc never), λ may. absurd (below_of view at (current s h) b is on same may.from))

  pub unknown_never : (view : ℕ) (why : TimeoutReason) → (seen s h view ≡ []) × (leader s h view ≡ None) → IsTrue false ↔ MayLatch s h view why
  unknown_never view why none = (λ never. absurd (cc never), λ may. absurd (⊎_elim (λ some. some none.0) (λ led. cc (rw none.1 at led)) may.tracked))

  -- another one than that the leader is silent counts
  pub loud_counts : (view at : ℕ) (why : TimeoutReason) (b c : Bool) → b ≡ is_lt (nat_cmp view at) → b ≡ false → at ≡ current s h → IsTracked s h view → c ≡ not (sameb the_type why reason.Inactivity) → c ≡ true
      → IsTrue true ↔ MayLatch s h view why
  loud_counts view at why b c is off same tracked test on = (
    λ yes. record {
      from = from_of view at (current s h) b is off same;
      tracked = tracked;
      heard = λ silent. let no : c ≡ false = rw silent at test in absurd (true≢false (sym on ∙ no));
    },
    λ may. refl,
  )

  -- the stall deadline of the term is that of its oldest view that was entered
  pub stalls_at : (oldest : ℕ) (r : Option ℕ) → Some oldest ≡ oldest_entered s h → r ≡ past.stall_deadline (seen s h oldest) → r ≡ term_deadline s h
  stalls_at oldest r is own = own ∙ ap (λ (o : Option ℕ). option_and_then (λ (u : ℕ). past.stall_deadline (seen s h u)) o) is

  pub stalls_unknown : (oldest : ℕ) → Some oldest ≡ oldest_entered s h → seen s h oldest ≡ [] → None ≡ term_deadline s h
  stalls_unknown oldest is none = stalls_at oldest None is (sym (ap (λ (l : List (Item S D P G C)). past.stall_deadline l) none))

  pub stalls_never : (r : Option ℕ) → r ≡ None → None ≡ oldest_entered s h → r ≡ term_deadline s h
  stalls_never r is none = is ∙ ap (λ (o : Option ℕ). option_and_then (λ (u : ℕ). past.stall_deadline (seen s h u)) o) none

  -- that the leader is silent counts exactly where no proposal is held that nothing contradicts
  pub silence_counts : (view : ℕ) (why : TimeoutReason) (b : Bool) → current s h ≤ view → IsTracked s h view → why ≡ reason.Inactivity → IsTrue b ↔ IsUnequivocated (past.offers (seen s h view))
      → IsTrue (not b) ↔ MayLatch s h view why
  silence_counts view why true from tracked silent held = (λ never. absurd (cc never), λ may. absurd (may.heard silent (held.0 refl)))
  silence_counts view why false from tracked silent held = (λ yes. record { from = from; tracked = tracked; heard = λ same un. absurd (cc (held.1 un)) }, λ may. refl)

  pub silent_counts : (view at : ℕ) (why : TimeoutReason) (b c d : Bool) → b ≡ is_lt (nat_cmp view at) → b ≡ false → at ≡ current s h → IsTracked s h view → c ≡ not (sameb the_type why reason.Inactivity) → c ≡ false
      → IsTrue d ↔ IsUnequivocated (past.offers (seen s h view)) → IsTrue (not d) ↔ MayLatch s h view why
  silent_counts view at why b c d is off same tracked test silent held = silence_counts view why d (from_of view at (current s h) b is off same) tracked (silent_of why c test silent) held

  -- where a standstill doesn't count, the view's own rules tell the timeout
  pub own_alone : (now moment : ℕ) (counts : Bool) (own : Option (ℕ × TimeoutReason)) → ¬ MayStall s (polled now ∷ h) → counts ≡ has_budget s h → moment ≡ past.deadline now s.timeout_retry
      → own ≡ (if nat_lt 0 (current s h) then past.next_timeout (past.polled moment ∷ seen s h (current s h)) counts else None)
      → own ≡ (if nat_lt 0 (current s h) then timeout s (polled now ∷ h) now else None)
  own_alone now moment counts own calm budget at is = ⊎_elim
      (λ started.
      let x : List (Item S D P G C) = past.polled (past.deadline now s.timeout_retry) ∷ seen s h (current s h) in
      let grown : seen s (polled now ∷ h) (current s h) ≡ x = at_current (current s h) (past.polled (past.deadline now s.timeout_retry)) (seen s h) started in
      let decided : (is_some (past.finalization x) || past.has_finalized x || past.has_nullified x) ≡ true = ⊎_elim
      (λ yes. yes)
      (λ open_. absurd (calm (record { started = grind (arith, nat_tests, started); undecided = rw grown open_ })))
      (cases_Bool (is_some (past.finalization x) || past.has_finalized x || past.has_nullified x)) in
      let told : own ≡ past.next_timeout x (has_budget s h) = is ∙ rw (started, at, budget) (refl {a = past.next_timeout x (has_budget s h)}) in
      told ∙ alone now (has_budget s h) (term_deadline s (polled now ∷ h)) x (seen s (polled now ∷ h) (current s h)) grown decided
      ∙ if_true (nat_lt 0 (current s h)) (timeout s (polled now ∷ h) now) None started)
      (λ before. is ∙ rw before refl)
      (cases_Bool (nat_lt 0 (current s h)))

  -- where it does, the earlier of both is the timeout
  pub own_or_stall : (now moment : ℕ) (counts : Bool) (own : Option (ℕ × TimeoutReason)) (stall : Option ℕ) (r : Option (ℕ × TimeoutReason)) → r ≡ earlier now own stall → MayStall s (polled now ∷ h) → counts ≡ has_budget s h → stall ≡ term_deadline s (polled now ∷ h)
      → moment ≡ past.deadline now s.timeout_retry → own ≡ (if nat_lt 0 (current s h) then past.next_timeout (past.polled moment ∷ seen s h (current s h)) counts else None)
      → r ≡ (if nat_lt 0 (current s h) then timeout s (polled now ∷ h) now else None)
  own_or_stall now moment counts own stall r first may budget due at is =
      let started : nat_lt 0 (current s h) ≡ true = grind (arith, nat_tests, may.started) in
      let x : List (Item S D P G C) = past.polled (past.deadline now s.timeout_retry) ∷ seen s h (current s h) in
      let grown : seen s (polled now ∷ h) (current s h) ≡ x = at_current (current s h) (past.polled (past.deadline now s.timeout_retry)) (seen s h) started in
      let told : own ≡ past.next_timeout x (has_budget s h) = is ∙ rw (started, at, budget) (refl {a = past.next_timeout x (has_budget s h)}) in
      let undecided : (is_some (past.finalization x) || past.has_finalized x || past.has_nullified x) ≡ false =
      subst (λ z. (is_some (past.finalization z) || past.has_finalized z || past.has_nullified z) ≡ false) grown may.undecided in
      let whole : earlier now (past.next_timeout x (has_budget s h)) (term_deadline s (polled now ∷ h)) ≡ timeout s (polled now ∷ h) now =
      subst (λ z. earlier now (past.next_timeout x (has_budget s h)) (term_deadline s (polled now ∷ h)) ≡ timeout_of now (has_budget s h) (term_deadline s (polled now ∷ h)) z) (sym grown)
      (if_false (is_some (past.finalization x) || past.has_finalized x || past.has_nullified x) (past.next_timeout x (has_budget s h)) (earlier now (past.next_timeout x (has_budget s h)) (term_deadline s (polled now ∷ h))) undecided) in
      first ∙ rw (told, due) whole ∙ if_true (nat_lt 0 (current s h)) (timeout s (polled now ∷ h) now) None started
