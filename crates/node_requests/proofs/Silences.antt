-- When the leader of the current view counts as silent.
use Rattle.std.proofs.Common.{◌≡◌, ◌≢◌, ◌⊎◌, ⊎_elim, inl, inr, min, ◌∷◌, [], ◌∙◌, ℕ, ◌+◌, ◌<◌, ◌≤◌, ◌^◌, ◌==◌, Bool, true, false, List, Option, Some, None, refl, sym, ap, subst, arith}
use Rattle.std.proofs.lemmas.Bool.{cases_lt, false≢true}
use Rattle.std.proofs.lemmas.Grind.{common_steps}
use Rattle.std.specs.Prelude.{◌↔◌, is_none, unwrap_or, if◌then◌else◌}
use Rattle.types_core.specs.declared.scheme.Scheme.{Ghosts}
use Rattle.simplex_messages.specs.VoteParts.{vote_signer}
use Rattle.types_terms.specs.declared.elector.Elector as elector
use Rattle.voter_history.specs.declared.timeout_reason.TimeoutReason.TheVariants as reason
use Rattle.voter_history.specs.Past as past
use Rattle.voter_history.specs.History.{latched, seen}
use Rattle.voter_history.specs.Leaders.{leader}
use Rattle.voter_rules.specs.GivingUp.{IsFirstLatch, MayLatch, has_budget}
use Rattle.simplex_state.specs.declared.state.State.{State}
use Rattle.simplex_state.specs.State as voting
use Rattle.node_record.specs.declared.tables.Tables.{Tables}
use Rattle.node_record.specs.Tables.{KeepsTables}
use Rattle.simplex_member.specs.declared.action.Action.{Action}
use Rattle.simplex_member.specs.Allowed.{AreAllowed, IsSilent}
use Rattle.simplex_member.specs.Asked.{last_heard}
use Rattle.simplex_member.specs.Layers.{current_of, finalized_of, is_begun, latest, voter_of}
use Rattle.simplex_member.specs.Packet.{Formats}
use Rattle.simplex_member.specs.Point.{Point, Opened, Found, Began, Told, Heard, Latches, History}
use Rattle.simplex_member.specs.Setup.{Setup, IsInTime}
use Rattle.node_outbox.specs.Handing.{nothing_more}
use Rattle.node_requests.specs.Asking.{WasAsked}
use Rattle.node_requests.specs.NoneDue.{NoSilence}
use Rattle.node_requests.specs.Silence.{IsSilentFrom, SilenceCounts}
use Rattle.node_requests.proofs.Acts.{one_asked}
use Rattle.node_requests.proofs.Waits.{both_true, none_of}

-- whoever has another index is another member
pub is_another : (same : Bool) (i me own : ℕ) → same ≡ (i == me) → same ≡ false → me ≡ own → i ≢ own
is_another same i me own is differs at equal =
    let here : i ≡ me = equal ∙ sym at in
    let both : (i == me) ≡ true = grind (arith, common_steps, here) in
    false≢true (sym differs ∙ is ∙ both)

module _ {S D P G C : Type 0} (g : Ghosts S D P G C) (f : Formats S D P G C) (s : Setup S D C) where
  either_in_time : (b : Bool) (m n : ℕ) → IsInTime s m → IsInTime s n → IsInTime s (if b then m else n)
  either_in_time true m n one other = one
  either_in_time false m n one other = other

  -- the latest moment, and that at which a member was heard last, were told
  told_in_time : (p : Point S D P G C) (h : History S D P G C) (member : ℕ) → AreAllowed g f s (p ∷ h) → IsInTime s (latest (p ∷ h)) × IsInTime s (last_heard (p ∷ h) member)
  told_in_time (Opened now) h member all = (all.0.due, all.0.due)
  told_in_time (Told now) [] member all = absurd (cc all.0.order)
  told_in_time (Told now) (q ∷ h) member all = (all.0.due.1, (told_in_time q h member all.1).1)
  told_in_time (Heard v) [] member all = absurd (cc all.0.order)
  told_in_time (Heard v) (q ∷ h) member all =
      let before = told_in_time q h member all.1 in
      (before.0, either_in_time (vote_signer v == member) (latest (q ∷ h)) (last_heard (q ∷ h) member) before.0 before.1)
  told_in_time (Found x taken) [] member all = absurd (all.0.order.0 refl)
  told_in_time Began [] member all = absurd (all.0.order.0 refl)
  told_in_time p [] member all = absurd (cc all.0.order)
  told_in_time p (q ∷ h) member all = told_in_time q h member all.1

  pub heard_in_time : (h : History S D P G C) (member : ℕ) → is_begun h ≡ true → AreAllowed g f s h → IsInTime s (last_heard h member)
  heard_in_time [] member begun all = absurd (cc begun)
  heard_in_time (p ∷ h) member begun all = (told_in_time p h member all).1

  pub latest_fits : (h : History S D P G C) → is_begun h ≡ true → AreAllowed g f s h → latest h < 2 ^ 64
  latest_fits [] begun all = absurd (cc begun)
  latest_fits (p ∷ h) begun all = let early = (told_in_time p h 0 all).0 in omega (arith, early)

  -- so a leader's silence is never too long for a number of 64 bits
  pub silence_fits : (h : History S D P G C) (member time : ℕ) → is_begun h ≡ true → AreAllowed g f s h → s.silence ≡ Some time → last_heard h member + time < 2 ^ 64
  silence_fits h member time begun all within =
      let early = heard_in_time h member begun all in
      let is : unwrap_or s.silence 0 ≡ time = ap (λ (o : Option ℕ). unwrap_or o 0) within in
      omega (arith, early, is)

  -- where no leader can be silent, none ever is
  pub never_silent : (h : History S D P G C) → ((now : ℕ) → ¬ IsSilent g f s h now) → IsSilentFrom g f s h None
  never_silent h never = λ now small. (λ silent. absurd (never now silent), λ none. absurd none)

  -- another member counts as silent from the moment on at which it was not heard for so long
  pub silent_since : (h : History S D P G C) (index time moment : ℕ) → leader s.voter (voter_of s h) (current_of s h) ≡ Some index → index ≢ s.me → s.silence ≡ Some time
      → moment ≡ last_heard h index + time → IsSilentFrom g f s h (Some moment)
  silent_since h index time moment known another within is = λ now small. (
    λ silent.
        let same : silent.index ≡ index = ap (λ (o : Option ℕ). unwrap_or o index) (sym silent.known ∙ known) in
        let lasts : silent.time ≡ time = ap (λ (o : Option ℕ). unwrap_or o time) (sym silent.within ∙ within) in
        let reached : last_heard h index + silent.time ≤ now = subst (λ (i : ℕ). last_heard h i + silent.time ≤ now) same silent.reached in
        omega (arith, is, lasts, reached),
    λ late. record { index = index; known = known; another = another; time = time; within = within; reached = omega (arith, is, late) },
  )

module _ {S D P G C : Type 0} (g : Ghosts S D P G C) (f : Formats S D P G C) (s : Setup S D C) (h : History S D P G C) where
  -- a leader that isn't silent is no reason
  pub heard_is_no_reason : ¬ IsSilent g f s h (latest h) → NoSilence g f s h
  heard_is_no_reason heard = λ view due. heard due.there.1

  -- nor is a silence that isn't the first
  pub later_is_no_reason : ¬ IsFirstLatch s.voter (voter_of s h) (current_of s h) reason.Inactivity → NoSilence g f s h
  later_is_no_reason later = λ view due.
      let unlatched : past.is_unlatched (seen s.voter (voter_of s h) view) ≡ true = rw (due.undecided, due.first) refl in
      later (subst (λ (v : ℕ). IsFirstLatch s.voter (voter_of s h) v reason.Inactivity) due.there.0 (record { counts = due.counts; first = unlatched }))

module _ {S L D P G C : Type 0} (g : Ghosts S D P G C) (e : elector.Ghosts L S D P G C) (f : Formats S D P G C) (s : Setup S D C) where
  -- for a silence that is the first reason the view is given up
  pub silence_counts : (voter : State S L D P G C) (tables : Tables S D P G C) (h : History S D P G C) (now view : ℕ) (actions : List (Action S D P G C)) → is_begun h ≡ true → now ≡ latest h → view ≡ current_of s h
      → IsSilent g f s h (latest h) → IsFirstLatch s.voter (voter_of s h) view reason.Inactivity → voting.Keeps g e s.voter voter (latched now view reason.Inactivity ∷ voter_of s h)
      → KeepsTables (finalized_of s h) tables h → WasAsked g e f s voter tables h actions actions
  silence_counts voter tables h now view actions begun at is silent first voter_is tables_are =
      let both = both_true (past.is_undecided (seen s.voter (voter_of s h) view)) (is_none (past.latch (seen s.voter (voter_of s h) view))) first.first in
      one_asked g e f s voter tables h (Latches view reason.Inactivity) actions actions refl
      (record {
        order = begun;
        due = record { there = (is, silent); counts = first.counts; first = none_of (past.latch (seen s.voter (voter_of s h) view)) both.1; undecided = both.0 };
        fits = tt;
        readable = tt;
      })
      (subst (λ (t : ℕ). voting.Keeps g e s.voter voter (latched t view reason.Inactivity ∷ voter_of s h)) at voter_is) tables_are (nothing_more f actions)

module _ {S D P G C : Type 0} (g : Ghosts S D P G C) (f : Formats S D P G C) (s : Setup S D C) (h : History S D P G C) (t moment : ℕ) where
  abbrev Counts : Type 0
  Counts = (has_budget s.voter (voter_of s h) ≡ true) × MayLatch s.voter (voter_of s h) (current_of s h) reason.Inactivity

  -- a deadline is the earlier one where no silence counts
  pub deadline_alone : ¬ SilenceCounts g f s h t → (moment ≤ t) ↔ ((moment ≤ t) ⊎ SilenceCounts g f s h t)
  deadline_alone never = (λ low. inl low, λ either. ⊎_elim (λ low. low) (λ counts. absurd (never counts)) either)

  -- and else the earlier one of both
  pub deadline_or_silence : (silent first : ℕ) → first ≡ min moment silent → IsSilent g f s h t ↔ (silent ≤ t) → Counts → (first ≤ t) ↔ ((moment ≤ t) ⊎ SilenceCounts g f s h t)
  deadline_or_silence silent first is since counts = (
    λ low. ⊎_elim
        (λ ahead. let late : silent ≤ t = omega (arith, is, low, ahead) in inr (since.1 late, counts.0, counts.1))
        (λ reached. inl reached)
        (cases_lt t moment),
    λ either. ⊎_elim (λ low. omega (arith, is, low)) (λ silence. let late : silent ≤ t = since.0 silence.0 in omega (arith, is, late)) either,
  )
