-- When the current view is given up, by what a voter says of its next timeout.
use Rattle.std.proofs.Common.{◌≡◌, ◌∷◌, ◌∙◌, ℕ, ◌<◌, ◌≤◌, Bool, true, false, List, Option, Some, None, refl, sym, ap, subst, arith}
use Rattle.std.proofs.lemmas.Bool.Decides.{nat_tests}
use Rattle.std.specs.Prelude.{IsTrue, ◌↔◌, nat_le, nat_lt, if◌then◌else◌, unwrap_or}
use Rattle.voter_history.specs.declared.timeout_reason.TimeoutReason.{TimeoutReason}
use Rattle.voter_history.specs.History.{Point, Setup, current, polled}
use Rattle.voter_rules.specs.GivingUp.{MayGiveUp, NullifyIsDue, timeout}
use Rattle.voter_laws.specs.Timeouts.{PollKeepsTimeout}
use Rattle.types_core.specs.declared.scheme.Scheme.{Ghosts}
use Rattle.simplex_member.specs.Layers.{current_of, latest, voter_of}
use Rattle.simplex_member.specs.Packet.{Formats}
use Rattle.simplex_member.specs.Point.{History}
use Rattle.simplex_member.specs.Setup as member
use Rattle.node_requests.specs.Polling.{after_poll_by}
use Rattle.node_requests.specs.Waking.{after_poll}

-- a moment is reached by the present one
pub reached_by : (moment now at : ℕ) → now ≡ at → IsTrue (nat_le moment now) ↔ (moment ≤ at)
reached_by moment now at is = (λ yes. grind (arith, nat_tests, yes, is), λ low. grind (arith, nat_tests, low, is))

-- what the voter says of its next timeout: that of the current view, behind the start
abbrev pub IsTold : {S D P G C : Type 0} → Setup S C → List (Point S D P G C) → ℕ → Option (ℕ × TimeoutReason) → Type 0
IsTold s v now next = next ≡ (if nat_lt 0 (current s v) then timeout s v now else None)

module _ {S D P G C : Type 0} (s : Setup S C) (v : List (Point S D P G C)) (now : ℕ) (next : Option (ℕ × TimeoutReason)) (is : IsTold s v now next) where
  -- behind the start the voter says when and why the view is given up
  told_timeout : 0 < current s v → next ≡ timeout s v now
  told_timeout some = let started : nat_lt 0 (current s v) ≡ true = grind (arith, nat_tests, some) in is ∙ chosen (nat_lt 0 (current s v)) started
    where
      chosen : (b : Bool) → b ≡ true → (if b then timeout s v now else None) ≡ timeout s v now
      chosen true is_so = refl
      chosen false untrue = absurd (cc untrue)

  -- where there is a moment, a nullify is due once that is reached
  pub due_when_reached : (x : ℕ × TimeoutReason) (due : Bool) → next ≡ Some x → IsTrue due ↔ (x.0 ≤ now) → (view : ℕ) → MayGiveUp s v view → IsTrue due ↔ NullifyIsDue s v now
  due_when_reached x due there reached view gives_up =
      let may : MayGiveUp s v (current s v) = subst (λ (w : ℕ). MayGiveUp s v w) gives_up.current gives_up in
      let told : timeout s v now ≡ Some x = sym (told_timeout may.some) ∙ there in (
        λ yes. record { gives_up = may; moment = x.0; why = x.1; next = told; reached = reached.0 yes },
        λ nullify.
            let same : x.0 ≡ nullify.moment = ap (λ (o : Option (ℕ × TimeoutReason)). (unwrap_or o x).0) (sym told ∙ nullify.next) in
            let late = nullify.reached in
            reached.1 (omega (arith, same, late)),
      )

  -- where there is none, none is due
  pub never_due : next ≡ None → (view : ℕ) → MayGiveUp s v view → IsTrue false ↔ NullifyIsDue s v now
  never_due none view gives_up = (λ yes. absurd (cc yes), λ nullify. absurd (cc (sym none ∙ told_timeout nullify.gives_up.some ∙ nullify.next)))

-- it says so of the history behind the poll, whether that is a point or not
pub told_after : {S D P G C : Type 0} (g : Ghosts S D P G C) (f : Formats S D P G C) (s : member.Setup S D C) (h : History S D P G C) (next : Option (ℕ × TimeoutReason)) → PollKeepsTimeout S D P G C
    → next ≡ (if nat_lt 0 (current_of s h) then timeout s.voter (polled (latest h) ∷ voter_of s h) (latest h) else None) → IsTold s.voter (voter_of s (after_poll s h)) (latest h) next
told_after g f s h next law is = after_poll_by g f s h (λ k. IsTold s.voter (voter_of s k) (latest h) next)
    (λ lacks. is)
    (λ known. is ∙ ap (λ (o : Option (ℕ × TimeoutReason)). if nat_lt 0 (current_of s h) then o else None) (law s.voter (voter_of s h) (latest h) (latest h) known))
