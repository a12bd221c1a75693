-- Lemmas: what holds behind a poll of the next timeout, whether that is a point or not.
use Rattle.std.proofs.Common.{◌≡◌, ◌∷◌, List, ℕ, Bool, true, false, Option, Some, None, refl, sym, ◌∙◌, subst, if◌then◌else◌}
use Rattle.std.specs.Prelude.{◌&&◌, IsSome, is_none}
use Rattle.types_core.specs.declared.scheme.Scheme.{Ghosts}
use Rattle.types_terms.specs.declared.elector.Elector as elector
use Rattle.voter_history.specs.Past as past
use Rattle.voter_history.specs.Past.{Item}
use Rattle.voter_history.specs.History.{seen}
use Rattle.simplex_resolver.specs.declared.state.State.{State as Repair}
use Rattle.simplex_resolver.specs.Keeps as repairing
use Rattle.simplex_state.specs.declared.state.State.{State}
use Rattle.simplex_state.specs.State as voting
use Rattle.node_record.specs.declared.tables.Tables.{Tables}
use Rattle.node_record.specs.Tables.{KeepsTables}
use Rattle.simplex_member.specs.Allowed.{AreAllowed, RetryIsKnown}
use Rattle.simplex_member.specs.Layers.{current_of, finalized_of, is_begun, latest, repair_of, voter_of}
use Rattle.simplex_member.specs.Packet.{Formats}
use Rattle.simplex_member.specs.Point.{Polls, History}
use Rattle.simplex_member.specs.Setup.{Setup}
use Rattle.node_requests.specs.Asking.{AskerKeeps}
use Rattle.node_requests.specs.Waking.{after_poll}

module _ {S D P G C : Type 0} (g : Ghosts S D P G C) (f : Formats S D P G C) (s : Setup S D C) (h : History S D P G C) where
  -- it is a point exactly where it isn't known when the view that was given up is given up again
  pub after_poll_by : (Q : History S D P G C → Type 0)
      → ((RetryIsKnown g f s h → ⊥) → Q (Polls ∷ h)) → (RetryIsKnown g f s h → Q h) → Q (after_poll s h)
  after_poll_by Q polled known = by (past.has_nullified here) refl (past.retry here) refl
    where
      here : List (Item S D P G C)
      here = seen s.voter (voter_of s h) (current_of s h)

      by : (b : Bool) → past.has_nullified here ≡ b → (o : Option ℕ) → past.retry here ≡ o → Q (if b && is_none o then Polls ∷ h else h)
      by true given None lacks = polled (λ is. cc (subst (λ (o : Option ℕ). IsSome o) lacks (is given)))
      by true given (Some moment) has = known (λ is. subst (λ (o : Option ℕ). IsSome o) (sym has) refl)
      by false kept o has = known (λ given. cc (sym kept ∙ given))

  -- where that is known it is none
  pub no_poll : RetryIsKnown g f s h → after_poll s h ≡ h
  no_poll is = after_poll_by (λ (k : History S D P G C). k ≡ h) (λ lacks. absurd (lacks is)) (λ known. refl)

  pub latest_after : latest (after_poll s h) ≡ latest h
  latest_after = after_poll_by (λ (k : History S D P G C). latest k ≡ latest h) (λ lacks. refl) (λ known. refl)

  pub current_after : current_of s (after_poll s h) ≡ current_of s h
  current_after = after_poll_by (λ (k : History S D P G C). current_of s k ≡ current_of s h) (λ lacks. refl) (λ known. refl)

  pub allowed_after : is_begun h ≡ true → AreAllowed g f s h → AreAllowed g f s (after_poll s h)
  allowed_after begun all = after_poll_by (λ (k : History S D P G C). AreAllowed g f s k)
      (λ lacks. (record { order = begun; due = lacks; fits = tt; readable = tt }, all)) (λ known. all)

module _ {S L D P G C : Type 0} (g : Ghosts S D P G C) (e : elector.Ghosts L S D P G C) (f : Formats S D P G C) (s : Setup S D C)
    (h : History S D P G C) where
  -- so who asks stands behind it
  pub asker_after : {old new : State S L D P G C} {repair : Repair} {tables : Tables S D P G C} → AskerKeeps g e f s old repair tables h
      → voting.Keeps g e s.voter new (voter_of s (after_poll s h)) → AskerKeeps g e f s new repair tables (after_poll s h)
  asker_after {old} {new} {repair} {tables} keeps looked = record {
    begun = after_poll_by g f s h (λ (k : History S D P G C). is_begun k ≡ true) (λ lacks. keeps.begun) (λ known. keeps.begun);
    allowed = allowed_after g f s h keeps.begun keeps.allowed;
    voter_is = looked;
    repair_is = after_poll_by g f s h (λ (k : History S D P G C). repairing.Keeps s.voter.length repair (repair_of f k))
        (λ lacks. keeps.repair_is) (λ known. keeps.repair_is);
    tables_are = after_poll_by g f s h (λ (k : History S D P G C). KeepsTables (finalized_of s k) tables k)
        (λ lacks. keeps.tables_are) (λ known. keeps.tables_are);
  }
