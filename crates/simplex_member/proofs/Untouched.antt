-- An ask changes nothing else: what may come behind it, what that hands out, what is kept, and when a view is given up are as before it.
use Rattle.std.proofs.Common.{◌≡◌, inl, inr, ⊎_elim, ℕ, Bool, true, false, ◌∷◌, Option, Some, None, refl, sym, ◌∙◌, subst}
use Rattle.std.specs.Prelude.{Contains}
use Rattle.types_quorum.specs.Counting.{Contains-cases, Contains-rest}
use Rattle.types_core.specs.declared.context.Context.{Context}
use Rattle.types_core.specs.declared.proposal.Proposal.{Proposal}
use Rattle.types_core.specs.declared.scheme.Scheme.{Ghosts}
use Rattle.simplex_messages.specs.declared.vote.Vote.{Vote}
use Rattle.simplex_messages.specs.declared.vote.Vote.TheVariants as vote
use Rattle.simplex_resolver.specs.declared.ask.Ask.{Ask}
use Rattle.voter_history.specs.declared.timeout_reason.TimeoutReason.{TimeoutReason}
use Rattle.voter_history.specs.declared.timeout_reason.TimeoutReason.TheVariants as reason
use Rattle.simplex_member.specs.Allowed.{Allowed, AnswerCounts, BuildCounts, ComesOf, HasReason, IsDue, IsInOrder, IsSilent, VoteIsDue}
use Rattle.simplex_member.specs.Deeds.{deeds_of}
use Rattle.simplex_member.specs.Layers.{is_begun, latest}
use Rattle.simplex_member.specs.Member.{IsGivenUpAt}
use Rattle.simplex_member.specs.Packet.{Formats}
use Rattle.simplex_member.specs.Point.{Outcome, Counts, Falls, Passes, Point, Opened, Found, Began, Heard, Built, Checked, Judged, Latches, AsksBuild, AsksVerify, AsksCertify, PutsOff, Asks, Resolves, Votes, Repeats, Rewrote, History}
use Rattle.simplex_member.specs.Repairing.{AsksChangeNothingElse, is_of_asks}
use Rattle.simplex_member.specs.Setup.{Setup}
use Rattle.simplex_member.proofs.Telling.{apart}

module _ {S D P G C : Type 0} where
  -- a history that begins with an ask has no request for a verdict in front
  abbrev is_certify : Point S D P G C → Bool
  is_certify (AsksCertify p) = true
  is_certify p = false

  certify-behind : (view : ℕ) (ask : Ask) (to : Option ℕ) (h : History S D P G C) (p : Proposal D) → Contains (Asks view ask to ∷ h) (AsksCertify p) → Contains h (AsksCertify p)
  certify-behind view ask to h p here = ⊎_elim
      (λ is. absurd (apart (subst (λ (q : Point S D P G C). is_certify q ≡ true) (sym is) refl)))
      (λ before. before)
      (Contains-cases (Asks view ask to) h (AsksCertify p) here)

module _ {S D P G C : Type 0} (g : Ghosts S D P G C) (f : Formats S D P G C) (s : Setup S D C) where
  module _ (view : ℕ) (ask : Ask) (to : Option ℕ) (h : History S D P G C) where
    abbrev Behind : History S D P G C → History S D P G C
    Behind l = Asks view ask to ∷ l

    counts-on : (context : Context D P) (payload : Option D) → BuildCounts g f s h context payload → BuildCounts g f s (Behind h) context payload
    counts-on context (Some payload) r = record { tracked = r.tracked; captured = r.captured; not_given_up = r.not_given_up; agrees = r.agrees }
    counts-on context None r = r

    counts-back : (context : Context D P) (payload : Option D) → BuildCounts g f s (Behind h) context payload → BuildCounts g f s h context payload
    counts-back context (Some payload) r = record { tracked = r.tracked; captured = r.captured; not_given_up = r.not_given_up; agrees = r.agrees }
    counts-back context None r = r

    answer-on : (at : ℕ) (answer : Option Bool) → AnswerCounts g f s h at answer → AnswerCounts g f s (Behind h) at answer
    answer-on at (Some true) r = r
    answer-on at answer r = r

    answer-back : (at : ℕ) (answer : Option Bool) → AnswerCounts g f s (Behind h) at answer → AnswerCounts g f s h at answer
    answer-back at (Some true) r = r
    answer-back at answer r = r

    outcome-on : (at : ℕ) (answer : Option Bool) (outcome : Outcome) → ComesOf g f s h at answer outcome → ComesOf g f s (Behind h) at answer outcome
    outcome-on at answer Counts r = (r.0, answer-on at answer r.1)
    outcome-on at answer Falls r = r
    outcome-on at answer Passes r = (r.0, λ counts. r.1 (answer-back at answer counts))

    outcome-back : (at : ℕ) (answer : Option Bool) (outcome : Outcome) → ComesOf g f s (Behind h) at answer outcome → ComesOf g f s h at answer outcome
    outcome-back at answer Counts r = (r.0, answer-back at answer r.1)
    outcome-back at answer Falls r = r
    outcome-back at answer Passes r = (r.0, λ counts. r.1 (answer-on at answer counts))

    silent-on : (now : ℕ) → IsSilent g f s h now → IsSilent g f s (Behind h) now
    silent-on now r = record { index = r.index; known = r.known; another = r.another; time = r.time; within = r.within; reached = r.reached }

    silent-back : (now : ℕ) → IsSilent g f s (Behind h) now → IsSilent g f s h now
    silent-back now r = record { index = r.index; known = r.known; another = r.another; time = r.time; within = r.within; reached = r.reached }

    reason-on : (at : ℕ) (why : TimeoutReason) → HasReason g f s h at why → HasReason g f s (Behind h) at why
    reason-on at reason.LeaderNullify r = record { index = r.index; known = r.known; another = r.another; gave_up = r.gave_up }
    reason-on at reason.Inactivity r = (r.0, silent-on (latest h) r.1)
    reason-on at reason.InvalidProposal r = r
    reason-on at why r = absurd r

    reason-back : (at : ℕ) (why : TimeoutReason) → HasReason g f s (Behind h) at why → HasReason g f s h at why
    reason-back at reason.LeaderNullify r = record { index = r.index; known = r.known; another = r.another; gave_up = r.gave_up }
    reason-back at reason.Inactivity r = (r.0, silent-back (latest h) r.1)
    reason-back at reason.InvalidProposal r = r
    reason-back at why r = absurd r

    vote-on : (v : Vote S D P G C) → VoteIsDue g f s h v → VoteIsDue g f s (Behind h) v
    vote-on (vote.Notarize v) due = due
    vote-on (vote.Nullify v) due = due
    vote-on (vote.Finalize v) due = due

    vote-back : (v : Vote S D P G C) → VoteIsDue g f s (Behind h) v → VoteIsDue g f s h v
    vote-back (vote.Notarize v) due = due
    vote-back (vote.Nullify v) due = due
    vote-back (vote.Finalize v) due = due

    due-on : (q : Point S D P G C) → is_of_asks q ≡ false → IsDue g f s h q → IsDue g f s (Behind h) q
    due-on (Heard v) other due =
        record { member = due.member; another = due.another; epoch = due.epoch; window = due.window; room = due.room; parent = due.parent; free = due.free }
    due-on (Built number handoff context payload took) other due =
        (due.0, (λ is. counts-on context payload (due.1.0 is), λ counts. due.1.1 (counts-back context payload counts)))
    due-on (Checked number at answer outcome) other due = (due.0, outcome-on at answer outcome due.1)
    due-on (Judged r ok) other due =
        record { proposal = due.proposal; asked = Contains-rest (Asks view ask to) h (AsksCertify due.proposal) due.asked; at = due.at; above = due.above; first = due.first }
    due-on (Latches at why) other due = record { there = reason-on at why due.there; counts = due.counts; first = due.first; undecided = due.undecided }
    due-on (AsksBuild number handoff context) other due =
        record { left = due.left; next = due.next; due = due.due; names = due.names; handoff_is = due.handoff_is }
    due-on (AsksVerify number context p) other due =
        record { left = due.left; next = due.next; due = due.due; parent = due.parent; epoch = due.epoch; leader = due.leader }
    due-on (PutsOff at) other due = absurd (apart (sym other))
    due-on (Asks at a target) other due = absurd (apart (sym other))
    due-on (Resolves at kind u) other due = absurd (apart (sym other))
    due-on (Votes v) other due = vote-on v due
    due-on (Repeats v best) other due = record { due = due.due; recorded = due.recorded; best_is = due.best_is }
    due-on (Rewrote c) other due = record { terms = due.terms; next = due.next }
    due-on q other due = due

    due-back : (q : Point S D P G C) → is_of_asks q ≡ false → IsDue g f s (Behind h) q → IsDue g f s h q
    due-back (Heard v) other due =
        record { member = due.member; another = due.another; epoch = due.epoch; window = due.window; room = due.room; parent = due.parent; free = due.free }
    due-back (Built number handoff context payload took) other due =
        (due.0, (λ is. counts-back context payload (due.1.0 is), λ counts. due.1.1 (counts-on context payload counts)))
    due-back (Checked number at answer outcome) other due = (due.0, outcome-back at answer outcome due.1)
    due-back (Judged r ok) other due =
        record { proposal = due.proposal; asked = certify-behind view ask to h due.proposal due.asked; at = due.at; above = due.above; first = due.first }
    due-back (Latches at why) other due = record { there = reason-back at why due.there; counts = due.counts; first = due.first; undecided = due.undecided }
    due-back (AsksBuild number handoff context) other due =
        record { left = due.left; next = due.next; due = due.due; names = due.names; handoff_is = due.handoff_is }
    due-back (AsksVerify number context p) other due =
        record { left = due.left; next = due.next; due = due.due; parent = due.parent; epoch = due.epoch; leader = due.leader }
    due-back (PutsOff at) other due = absurd (apart (sym other))
    due-back (Asks at a target) other due = absurd (apart (sym other))
    due-back (Resolves at kind u) other due = absurd (apart (sym other))
    due-back (Votes v) other due = vote-back v due
    due-back (Repeats v best) other due = record { due = due.due; recorded = due.recorded; best_is = due.best_is }
    due-back (Rewrote c) other due = record { terms = due.terms; next = due.next }
    due-back q other due = due

    order-on : is_begun h ≡ true → (q : Point S D P G C) → IsInOrder g f s h q → IsInOrder g f s (Behind h) q
    order-on begun (Opened now) r = absurd (apart (subst (λ (l : History S D P G C). is_begun l ≡ true) r begun))
    order-on begun (Found x taken) r = absurd (apart (sym r.1 ∙ begun))
    order-on begun Began r = absurd (apart (sym r.1 ∙ begun))
    order-on begun q r = begun

    order-back : is_begun h ≡ true → (q : Point S D P G C) → IsInOrder g f s (Behind h) q → IsInOrder g f s h q
    order-back begun (Opened now) r = absurd (apart (subst (λ (l : History S D P G C). is_begun l ≡ true) r begun))
    order-back begun (Found x taken) r = absurd (apart (sym r.1 ∙ begun))
    order-back begun Began r = absurd (apart (sym r.1 ∙ begun))
    order-back begun q r = begun

    comes-on : is_begun h ≡ true → (q : Point S D P G C) → is_of_asks q ≡ false → Allowed g f s h q → Allowed g f s (Behind h) q
    comes-on begun q other r = record { order = order-on begun q r.order; due = due-on q other r.due; fits = r.fits; readable = r.readable }

    comes-back : is_begun h ≡ true → (q : Point S D P G C) → is_of_asks q ≡ false → Allowed g f s (Behind h) q → Allowed g f s h q
    comes-back begun q other r = record { order = order-back begun q r.order; due = due-back q other r.due; fits = r.fits; readable = r.readable }

    same-deeds : (q : Point S D P G C) → deeds_of g f s (Behind h) q ≡ deeds_of g f s h q
    same-deeds (Found x taken) = refl
    same-deeds q = refl

    wakes-on : (now : ℕ) → IsGivenUpAt g f s h now → IsGivenUpAt g f s (Behind h) now
    wakes-on now given = ⊎_elim (λ due. inl due) (λ silent. inr (silent-on now silent.0, silent.1, silent.2)) given

    wakes-back : (now : ℕ) → IsGivenUpAt g f s (Behind h) now → IsGivenUpAt g f s h now
    wakes-back now given = ⊎_elim (λ due. inl due) (λ silent. inr (silent-back now silent.0, silent.1, silent.2)) given

  pub nothing-else-changes : AsksChangeNothingElse g f s
  nothing-else-changes h view ask to begun = record {
    comes = λ q other. (comes-on view ask to h begun q other, comes-back view ask to h begun q other);
    hands_out = λ q. same-deeds view ask to h q;
    keeps = refl;
    wakes = λ now. (wakes-on view ask to h now, wakes-back view ask to h now);
  }
