-- What is due may be recorded.
use Rattle.std.proofs.Common.{◌≡◌, ◌⊎◌, inl, inr, ⊎_elim, true, false, ℕ, List, [], ◌∷◌, sym, ◌∙◌, subst, refl, ◌<◌, ◌≤◌, arith}
use mathlib.Core.Bool.{true≢false}
use Rattle.std.proofs.lemmas.Bool.{cases_lt}
use Rattle.std.proofs.lemmas.Option.{same_Some}
use Rattle.std.specs.Prelude.{Option, Some, None, IsSome}
use Rattle.types_core.specs.declared.proposal.Proposal.{Proposal}
use Rattle.types_core.specs.declared.position.Round.{Round}
use Rattle.types_core.specs.Positions.{term_start}
use Rattle.types_core.specs.Subject.{Statement, notarize, nullify, finalize}
use Rattle.types_terms.specs.Windows.{retention_floor}
use Rattle.simplex_record.specs.Record as recorded
use Rattle.simplex_record.specs.Record.{Entry, HasVoted, HasTaken}
use Rattle.simplex_record.specs.Rules.{AreAlike, MayFinalize}
use Rattle.voter_history.specs.Past as past
use Rattle.voter_history.specs.History.{Setup, Point, started, nullified, finalized, judged, current, last_finalized, seen}
use Rattle.voter_history.specs.Known.{Known, known}
use Rattle.voter_rules.specs.Ancestry.{Member, member, held_at, AreCoveredBetween, IsParent, IsPreferred}
use Rattle.voter_rules.specs.VotesDue.{FinalizeIsDue}
use Rattle.voter_laws.specs.Matching.{Matches, round_of, DueMayBeNotarized, DueMayBeFinalized, DueMayBeNullified}

-- what is there is something
pub some_of : {A : Type 0} (o : Option A) → IsSome o → (x : A) × (o ≡ Some x)
some_of None here = absurd (true≢false (sym here))
some_of (Some x) here = (x, refl)

module _ {D : Type 0} (m : Member) (k : Known D) where
  -- a parent that may stand, or that would be built on, lies below, with all between covered
  parent_covers : (view parent : ℕ) (payload : D) → IsParent m k view parent payload ⊎ IsPreferred m k view parent payload → (parent < view) × AreCoveredBetween m k parent view
  parent_covers view parent payload (inl rule) = (rule.span.below, rule.span.covered)
  parent_covers view parent payload (inr (inl before)) = (omega (arith, before.next), λ u low high. absurd (omega (arith, low, high, before.next)))
  parent_covers view parent payload (inr (inr (inl last))) = (last.below, last.covered)
  parent_covers view parent payload (inr (inr (inr over))) = (omega (arith, over.next), λ u low high. absurd (omega (arith, low, high, over.next)))

module _ {D : Type 0} (m : Member) (k : Known D) (r : List (Entry D)) (matches : Matches m k r) where
  -- what is kept by what is known is kept by the record
  pub kept_in : (view : ℕ) → retention_floor k.last_finalized m.retention ≤ view → recorded.IsKept m.retention r view
  kept_in view above = subst (λ (last : ℕ). retention_floor last m.retention ≤ view) matches.last_finalized above

  -- no vote of a kept view is recorded where none is known
  no_notarize : (p : Proposal D) → recorded.IsKept m.retention r p.round.view → k.has_notarized p.round.view ≡ false → (s : Statement D) → AreAlike (notarize p) s → HasVoted r s → ⊥
  no_notarize p kept none (notarize q) alike voted =
      let known : k.has_notarized p.round.view ≡ true = rw alike (matches.own_notarize q voted (rw (sym alike) kept)) in
      cc (none, known)
  no_notarize p kept none (nullify x) alike voted = alike
  no_notarize p kept none (finalize q) alike voted = alike

  no_nullify : (x : Round) → recorded.IsKept m.retention r x.view → k.has_nullified x.view ≡ false → (s : Statement D) → AreAlike (nullify x) s → HasVoted r s → ⊥
  no_nullify x kept none (notarize q) alike voted = alike
  no_nullify x kept none (nullify y) alike voted =
      let known : k.has_nullified x.view ≡ true = rw alike (matches.own_nullify y voted (rw (sym alike) kept)) in
      cc (none, known)
  no_nullify x kept none (finalize q) alike voted = alike

  no_finalize : (p : Proposal D) → recorded.IsKept m.retention r p.round.view → k.has_finalized p.round.view ≡ false → (s : Statement D) → AreAlike (finalize p) s → HasVoted r s → ⊥
  no_finalize p kept none (notarize q) alike voted = alike
  no_finalize p kept none (nullify x) alike voted = alike
  no_finalize p kept none (finalize q) alike voted =
      let known : k.has_finalized p.round.view ≡ true = rw alike (matches.own_finalize q voted (rw (sym alike) kept)) in
      cc (none, known)

pub due_may_be_notarized : {D : Type 0} → DueMayBeNotarized D
due_may_be_notarized m k r view p matches b due =
    let stands = due.steady (p, b.payload) b.bound in
    let covers = parent_covers m k view p.parent b.payload (⊎_elim (λ rule. inl rule) (λ own. inr own.1) stands.parent) in
    let kept : recorded.IsKept m.retention r p.round.view = rw b.at (kept_in m k r matches view due.kept.1) in
    record {
      room = rw b.at due.room;
      behind = rw b.at (omega (arith, matches.floor, due.behind));
      first = no_notarize m k r matches p kept (rw b.at due.first);
      not_given_up = no_nullify m k r matches p.round kept (rw b.at due.not_given_up);
      parent_below = rw b.at covers.0;
      covered = λ u low high above. matches.covered u (covers.1 u low (rw b.at at high));
    }

module _ {D : Type 0} (m : Member) (k : Known D) (r : List (Entry D)) (matches : Matches m k r) (p : Proposal D) where
  -- a finalize of the proposal that is held in its own view, and notarized, may be recorded where it is due
  finalize_at : held_at m k p.round.view ≡ Some p → HasTaken r (notarize p) → FinalizeIsDue m k p.round.view → MayFinalize m.length r p
  finalize_at held taken due =
      let past : recorded.last_finalized r < p.round.view = rw (sym matches.last_finalized) due.above in
      let kept : recorded.IsKept m.retention r p.round.view = omega (arith, past) in
      record {
        above = past;
        not_given_up = no_nullify m k r matches p.round kept due.not_given_up;
        first = no_finalize m k r matches p kept due.first;
        notarized = taken;
        certified = matches.certified p.round.view due.certified;
        no_other = λ q at certificate. sym (same_Some p q (sym held ∙ subst (λ (v : ℕ). held_at m k v ≡ Some q) at (matches.supported q certificate (rw at kept) (rw at due.unequivocated.1))));
        healed = λ x from below voted. heals x from below voted (cases_lt (recorded.last_finalized r) x.view);
      }
    where
      heals : (x : Round) → term_start m.length p.round.view ≤ x.view → x.view < p.round.view → HasVoted r (nullify x) → (recorded.last_finalized r < x.view) ⊎ (x.view ≤ recorded.last_finalized r) → x.view ≤ recorded.last_finalized r
      heals x from below voted (inl past) =
          let known = matches.own_nullify x voted (omega (arith, past)) in
          let none = due.healed x.view from below (rw matches.last_finalized past) in
          absurd (cc (known, none))
      heals x from below voted (inr not_past) = not_past

pub due_may_be_finalized : {D : Type 0} → DueMayBeFinalized D
due_may_be_finalized {D} m k r view p matches held due =
    let some = some_of (k.notarized view) due.notarized in
    let one = matches.notarized view some.0 some.1 in
    finalizes some.0 one.0 one.1 held due
  where
    finalizes : (q : Proposal D) → q.round.view ≡ view → HasTaken r (notarize q) → held_at m k view ≡ Some p → FinalizeIsDue m k view → MayFinalize m.length r p
    finalizes q at taken held due =
        let kept : recorded.IsKept m.retention r q.round.view = rw at (kept_in m k r matches view (omega (arith, due.above))) in
        let same : q ≡ p = same_Some q p (sym (matches.supported q (inl taken) kept (rw at due.unequivocated.1)) ∙ rw at held) in
        let mine : p.round.view ≡ view = subst (λ (x : Proposal D). x.round.view ≡ view) same at in
        let taken_of : HasTaken r (notarize p) = subst (λ (x : Proposal D). HasTaken r (notarize x)) same taken in
        finalize_at m k r matches p (subst (λ (v : ℕ). held_at m k v ≡ Some p) (sym mine) held) taken_of (subst (λ (v : ℕ). FinalizeIsDue m k v) (sym mine) due)

module _ {S D P G C : Type 0} where
  -- the current view is never below the last finalized one
  pub ahead : (s : Setup S C) (h : List (Point S D P G C)) → last_finalized h ≤ current s h
  ahead s [] = omega arith
  ahead s (started now payload ∷ h) = omega (arith, ahead s h)
  ahead s (nullified now c ∷ h) = omega (arith, ahead s h)
  ahead s (finalized now c ∷ h) = omega (arith, ahead s h)
  ahead s (judged now view true ∷ h) = omega (arith, ahead s h)
  ahead s (judged now view false ∷ h) = ahead s h
  ahead s (x ∷ h) = ahead s h

  pub due_may_be_nullified : DueMayBeNullified S D P G C
  due_may_be_nullified s h r now matches due none =
      let kept : recorded.IsKept s.retention r (current s h) = kept_in (member s) (known s h) r matches (current s h) (omega (arith, ahead s h)) in
      record {
        room = due.gives_up.room;
        current = matches.current;
        first = no_nullify (member s) (known s h) r matches (round_of s (current s h)) kept none;
        not_finalized = λ p at voted. not_final p at (matches.own_finalize p voted (rw at kept));
      }
    where
      not_final : (p : Proposal D) → p.round.view ≡ current s h → past.has_finalized (seen s h p.round.view) ≡ true → ⊥
      not_final p at voted = let known : past.has_finalized (seen s h (current s h)) ≡ true = rw (sym at) voted in cc (due.gives_up.not_finalized, known)
