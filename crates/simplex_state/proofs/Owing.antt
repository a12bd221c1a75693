-- After which points a view may owe a vote that it didn't before.
use Rattle.std.proofs.Common.{◌≡◌, ◌⊎◌, inl, inr, true, false, ℕ, List, [], ◌∷◌, refl, sym, ◌∙◌, subst, ◌+◌, ◌<◌, ◌≤◌, ◌^◌, ⊎_elim, arith, if◌then◌else◌}
use mathlib.Core.Bool.{true≢false}
use Rattle.std.proofs.lemmas.Bool.{cases_eq, cases_lt}
use Rattle.std.proofs.lemmas.Bool.Decides.{nat_tests}
use Rattle.std.proofs.lemmas.Grind.{common_steps}
use Rattle.std.proofs.lemmas.Option.{none-some, same_Some}
use Rattle.std.specs.Prelude.{◌==◌, ◌&&◌, ◌||◌, not, nat_lt, nat_le, Bool, Option, Some, None, IsTrue, ⊤}
use Rattle.std.specs.Option.{option_or}
use Rattle.types_core.specs.declared.proposal.Proposal.{Proposal}
use Rattle.types_core.specs.Positions.{next_term_start}
use Rattle.types_terms.specs.Spans.{term_end-above}
use Rattle.messages_certificates.specs.Artifact.{artifact_round}
use Rattle.messages_certificates.specs.declared.artifact.Artifact.{Artifact}
use Rattle.messages_certificates.specs.declared.artifact.Artifact.TheVariants as artifact
use Rattle.types_terms.specs.declared.kind.Kind.TheVariants as kind
use Rattle.voter_history.specs.Held as offer
use Rattle.voter_history.specs.Past as past
use Rattle.voter_history.specs.Past.{Item}
use Rattle.voter_history.specs.Pasts.{put}
use Rattle.voter_history.specs.History.{Setup, Point, started, based, notarized, nullified, finalized, judged, forwarded, built, confirmed, unbound, latched, build_asked, build_released, verify_asked, ancestry_asked, certify_asked, certify_waited, voted_notarize, voted_nullify, voted_finalize, recalled_notarize, recalled_nullify, recalled_finalize, recalled_verdict, sent, polled, pruned, enter, undecided_payload, current, min_active, seen}
use Rattle.voter_history.specs.Known.{known}
use Rattle.voter_views.specs.Views.{recalls}
use Rattle.voter_rules.specs.Ancestry.{member}
use Rattle.voter_rules.specs.VotesDue.{NotarizeIsDue, FinalizeIsDue}
use Rattle.voter_laws.specs.Steps.{choose_holds, put_holds, put_both, enter_holds, bind_holds}
use Rattle.simplex_state.specs.declared.owed.Owed.{Owed}
use Rattle.simplex_state.specs.OwedViews.{Has, IsFirstFrom}
use Rattle.simplex_state.specs.Candidates.{put_off}
use Rattle.simplex_state.specs.LowestDue.{MayOwe, AreOwed, IsTrueVerdict}
use Rattle.simplex_state.proofs.Waking.{put_off_seen}

-- the verdict that is true was, where one more isn't
true_before : (o : Option Bool) (ok : Bool) → not ok ≡ true → option_or o (Some ok) ≡ Some true → o ≡ Some true
true_before (Some v) ok is true_ = true_
true_before None true is true_ = absurd (true≢false (sym is))
true_before None false is true_ = absurd (true≢false (sym (same_Some false true true_)))

-- none is due below a view
abbrev pub NoneBelow : (ℕ → Type 0) → ℕ → Type 0
NoneBelow Due end = (u : ℕ) → u < end → ¬ Due u

-- one of two is so, where the second is
pub or_true : (b : Bool) → IsTrue (b || true)
or_true true = refl
or_true false = refl

module _ {S D P G C : Type 0} where
  -- an item doesn't make a view owe a vote to notarize, or to finalize
  abbrev IsCalm : Bool → Item S D P G C → Type 0
  IsCalm b (past.offered offer.confirmed) = IsTrue b
  IsCalm b (past.offered (offer.recorded p)) = IsTrue b
  IsCalm b (past.built moment p) = IsTrue b
  IsCalm b (past.judged ok) = IsTrue (not ok || not b)
  IsCalm b x = ⊤

  calm : (b : Bool) (x : Item S D P G C) (l : List (Item S D P G C)) → IsCalm b x → MayOwe b (x ∷ l) → MayOwe b l
  calm false (past.offered offer.confirmed) l is owes = absurd (true≢false (sym is))
  calm false (past.offered (offer.recorded p)) l is owes = absurd (true≢false (sym is))
  calm false (past.offered (offer.forwarded p)) l is owes = record { first = owes.first; not_given_up = owes.not_given_up; found = owes.found }
  calm false (past.offered (offer.certified p)) l is owes = record { first = owes.first; not_given_up = owes.not_given_up; found = owes.found }
  calm false (past.offered offer.building) l is owes = record { first = owes.first; not_given_up = owes.not_given_up; found = owes.found }
  calm false (past.offered offer.released) l is owes = record { first = owes.first; not_given_up = owes.not_given_up; found = owes.found }
  calm false (past.offered offer.verifying) l is owes = record { first = owes.first; not_given_up = owes.not_given_up; found = owes.found }
  calm false (past.built moment p) l is owes = absurd (true≢false (sym is))
  calm false past.voted_notarize l is owes = absurd (true≢false owes.first)
  calm false past.voted_nullify l is owes = absurd (true≢false owes.not_given_up)
  calm false x l is owes = record { first = owes.first; not_given_up = owes.not_given_up; found = owes.found }
  calm true past.voted_nullify l is owes = absurd (true≢false (sym owes.undecided))
  calm true past.voted_finalize l is owes = absurd (decided (not (past.has_nullified l)) owes.undecided)
    where
      decided : (b : Bool) → (b && false) ≡ true → ⊥
      decided true never = true≢false (sym never)
      decided false never = true≢false (sym never)
  calm true (past.judged ok) l is owes = record { undecided = owes.undecided; certified = true_before (past.verdict l) ok (without (not ok) is) owes.certified }
    where
      without : (b : Bool) → (b || false) ≡ true → b ≡ true
      without true is = refl
      without false is = is
  calm true x l is owes = record { undecided = owes.undecided; certified = owes.certified }

  -- a recalled notarize makes none
  recalled_calm : (b : Bool) (p : Proposal D) (l : List (Item S D P G C)) → MayOwe b (past.voted_notarize ∷ past.offered (offer.recorded p) ∷ l) → MayOwe b l
  recalled_calm false p l owes = absurd (true≢false owes.first)
  recalled_calm true p l owes = record { undecided = owes.undecided; certified = owes.certified }

  -- of a view of which nothing is known none is owed
  nothing_owed : (b : Bool) (l : List (Item S D P G C)) → l ≡ [] → MayOwe b l → ⊥
  nothing_owed false l is owes = rw is at owes.found
  nothing_owed true l is owes = none-some true (rw is at owes.certified)

  pub none_owed : (b : Bool) (owed : Owed) → AreOwed {S = S} {D = D} {P = P} {G = G} {C = C} b (λ view. []) owed
  none_owed b owed = record { all = λ view fits owes. absurd (nothing_owed b [] refl owes) }

  -- a point makes no view owe a vote to notarize, or to finalize
  abbrev pub IsQuiet : Bool → Point S D P G C → Type 0
  IsQuiet b (built now p payload) = IsTrue b
  IsQuiet b (confirmed view) = IsTrue b
  IsQuiet b (judged now view ok) = IsTrue (not ok || not b)
  IsQuiet b (recalled_verdict view ok) = IsTrue (not ok || not b)
  IsQuiet b pruned = ⊥
  IsQuiet b x = ⊤

  -- the view that a point may make owe one
  abbrev pub IsLoudAt : Point S D P G C → ℕ → Type 0
  IsLoudAt (built now p payload) at = p.round.view ≡ at
  IsLoudAt (confirmed view) at = view ≡ at
  IsLoudAt (judged now view ok) at = view ≡ at
  IsLoudAt (recalled_verdict view ok) at = view ≡ at
  IsLoudAt x at = ⊥

  module _ (b : Bool) (view : ℕ) (Q : Type 0) where
    -- what follows where the view owes it
    abbrev Follows : List (Item S D P G C) → Type 0
    Follows l = MayOwe b l → Q

    puts : (at : ℕ) (x : Item S D P G C) (t : ℕ → List (Item S D P G C)) → IsCalm b x → Follows (t view) → Follows (put at x t view)
    puts at x t is follows = put_holds Follows view at x t (λ here before owes. before (calm b x (t view) is owes)) follows

    put_loud : (at : ℕ) (x : Item S D P G C) (t : ℕ → List (Item S D P G C)) → (at ≡ view → Q) → Follows (t view) → Follows (put at x t view)
    put_loud at x t q follows = put_holds Follows view at x t (λ here before owes. q here) follows

    enters : (s : Setup S C) (current now at : ℕ) (t : ℕ → List (Item S D P G C)) → Follows (t view) → Follows (enter s current now at t view)
    enters s current now at t follows =
        enter_holds Follows view s current now at t
        (λ moment leader certification stall l before owes. before (calm b (past.entered moment) l (entered_calm moment) (calm b (past.armed leader certification stall) (past.entered moment ∷ l) tt owes))) follows
      where
        entered_calm : (moment : ℕ) → IsCalm b (past.entered moment)
        entered_calm moment = tt

  module _ (b : Bool) (s : Setup S C) (h : List (Point S D P G C)) (view : ℕ) (Q : Type 0) (before : MayOwe b (seen s h view) → Q) where
    quiet : (x : Point S D P G C) → IsQuiet b x → MayOwe b (seen s (x ∷ h) view) → Q
    quiet (started now payload) is = enters b view Q s (current s h) now 1 (seen s h) before
    quiet (notarized c) is = puts b view Q c.proposal.round.view (past.notarized c) (seen s h) tt before
    quiet (nullified now c) is =
        puts b view Q c.round.view (past.nullified c) (enter s (current s h) now (next_term_start s.length c.round.view) (seen s h)) tt (enters b view Q s (current s h) now (next_term_start s.length c.round.view) (seen s h) before)
    quiet (finalized now c) is =
        puts b view Q c.proposal.round.view (past.finalized c) (enter s (current s h) now (c.proposal.round.view + 1) (seen s h)) tt (enters b view Q s (current s h) now (c.proposal.round.view + 1) (seen s h) before)
    quiet (judged now at true) is = enters b view Q s (current s h) now (at + 1) (put at (past.judged true) (seen s h)) (puts b view Q at (past.judged true) (seen s h) is before)
    quiet (judged now at false) is =
        choose_holds (Follows b view Q) view (nat_le (current s h) at) (put at (past.latched now _) (put at (past.judged false) (seen s h))) (put at (past.judged false) (seen s h))
        (puts b view Q at (past.latched now _) (put at (past.judged false) (seen s h)) tt (puts b view Q at (past.judged false) (seen s h) is before)) (puts b view Q at (past.judged false) (seen s h) is before)
    quiet (forwarded at p) is =
        choose_holds (Follows b view Q) view (past.has_nullified (seen s h at)) (seen s h) (put at (past.offered (offer.forwarded p)) (seen s h)) before
        (puts b view Q at (past.offered (offer.forwarded p)) (seen s h) tt before)
    quiet (built now p payload) is =
        puts b view Q p.round.view (past.bound p payload) (put p.round.view (past.built now p) (seen s h)) tt (puts b view Q p.round.view (past.built now p) (seen s h) is before)
    quiet (confirmed at) is =
        choose_holds (Follows b view Q) view (past.has_nullified (seen s h at)) (seen s h) (put at (past.offered offer.confirmed) (seen s h)) before
        (puts b view Q at (past.offered offer.confirmed) (seen s h) is before)
    quiet (unbound at) is = puts b view Q at past.unbound (seen s h) tt before
    quiet (latched now at why) is = puts b view Q at (past.latched now why) (seen s h) tt before
    quiet (build_asked at) is = puts b view Q at (past.offered offer.building) (seen s h) tt before
    quiet (build_released at) is = puts b view Q at (past.offered offer.released) (seen s h) tt before
    quiet (verify_asked at p payload) is = puts b view Q at (past.bound p payload) (put at (past.offered offer.verifying) (seen s h)) tt (puts b view Q at (past.offered offer.verifying) (seen s h) tt before)
    quiet (ancestry_asked at missing) is = puts b view Q at (past.asked missing) (seen s h) tt before
    quiet (certify_asked at handle) is = puts b view Q at (past.certifying handle) (seen s h) tt before
    quiet (based at) is = before
    quiet (certify_waited at) is = before
    quiet (voted_notarize at p) is = puts b view Q at past.voted_notarize (seen s h) tt before
    quiet (voted_nullify at) is = puts b view Q at past.voted_nullify (seen s h) tt before
    quiet (voted_finalize at p) is = puts b view Q at past.voted_finalize (seen s h) tt before
    quiet (recalled_notarize p taken) is =
        bind_holds (Follows b view Q) view (undecided_payload (seen s h p.parent)) p (put p.round.view past.voted_notarize (if taken then put p.round.view (past.offered (offer.recorded p)) (seen s h) else seen s h))
        (λ payload follows owes. follows (calm b (past.bound p payload) _ (bound_calm payload) owes)) (voted taken)
      where
        bound_calm : (payload : D) → IsCalm b (past.bound p payload)
        bound_calm payload = tt

        voted : (ok : Bool) → Follows b view Q (put p.round.view past.voted_notarize (if ok then put p.round.view (past.offered (offer.recorded p)) (seen s h) else seen s h) view)
        voted true = put_both (Follows b view Q) view p.round.view (past.offered (offer.recorded p)) past.voted_notarize (seen s h) (λ here follows owes. follows (recalled_calm b p (seen s h view) owes)) before
        voted false = puts b view Q p.round.view past.voted_notarize (seen s h) tt before
    quiet (recalled_nullify at) is = puts b view Q at past.voted_nullify (seen s h) tt before
    quiet (recalled_finalize p) is = puts b view Q p.round.view past.voted_finalize (seen s h) tt before
    quiet (recalled_verdict at ok) is = puts b view Q at (past.judged ok) (seen s h) is before
    quiet (sent kind.Notarization at) is = puts b view Q at past.sent_notarization (seen s h) tt before
    quiet (sent kind.Nullification at) is = puts b view Q at past.sent_nullification (seen s h) tt before
    quiet (sent kind.Finalization at) is = puts b view Q at past.sent_finalization (seen s h) tt before
    quiet (polled now) is =
        choose_holds (Follows b view Q) view (nat_lt 0 (current s h)) (put (current s h) (past.polled (past.deadline now s.timeout_retry)) (seen s h)) (seen s h)
        (puts b view Q (current s h) (past.polled (past.deadline now s.timeout_retry)) (seen s h) tt before) before
    quiet pruned never = absurd never

    -- such a point but for one view
    loud : (x : Point S D P G C) (at : ℕ) → IsLoudAt x at → (at ≡ view → Q) → MayOwe b (seen s (x ∷ h) view) → Q
    loud (built now p payload) at is q =
        put_both (Follows b view Q) view p.round.view (past.built now p) (past.bound p payload) (seen s h) (λ here follows owes. q (sym is ∙ here)) before
    loud (confirmed from) at is q =
        choose_holds (Follows b view Q) view (past.has_nullified (seen s h from)) (seen s h) (put from (past.offered offer.confirmed) (seen s h)) before
        (put_loud b view Q from (past.offered offer.confirmed) (seen s h) (λ here. q (sym is ∙ here)) before)
    loud (judged now from true) at is q = enters b view Q s (current s h) now (from + 1) (put from (past.judged true) (seen s h)) (put_loud b view Q from (past.judged true) (seen s h) (λ here. q (sym is ∙ here)) before)
    loud (judged now from false) at is q =
        choose_holds (Follows b view Q) view (nat_le (current s h) from) (put from (past.latched now _) (put from (past.judged false) (seen s h))) (put from (past.judged false) (seen s h))
        (puts b view Q from (past.latched now _) (put from (past.judged false) (seen s h)) tt once) once
      where
        once : Follows b view Q (put from (past.judged false) (seen s h) view)
        once = put_loud b view Q from (past.judged false) (seen s h) (λ here. q (sym is ∙ here)) before
    loud (recalled_verdict from ok) at is q = put_loud b view Q from (past.judged ok) (seen s h) (λ here. q (sym is ∙ here)) before
    loud x at never q = absurd never

  module _ (s : Setup S C) (h : List (Point S D P G C)) where
    -- behind a point that makes no view owe any, the same views are enough
    pub owed_still : (b : Bool) (x : Point S D P G C) (owed : Owed) → IsQuiet b x → AreOwed b (seen s h) owed → AreOwed b (seen s (x ∷ h)) owed
    owed_still b x owed is are = record { all = λ view fits. quiet b s h view (Has owed view) (λ owes. are.all view fits owes) x is }

    pub owed_more : (b : Bool) (was now : Owed) → ((u : ℕ) → Has was u → Has now u) → AreOwed b (seen s h) was → AreOwed b (seen s h) now
    owed_more b was now kept are = record { all = λ view fits owes. kept view (are.all view fits owes) }

    -- behind one that makes a view owe one, with that view
    pub owed_there : (b : Bool) (x : Point S D P G C) (at : ℕ) (owed : Owed) → IsLoudAt x at → Has owed at → AreOwed b (seen s h) owed → AreOwed b (seen s (x ∷ h)) owed
    owed_there b x at owed is there are = record { all = λ view fits. loud b s h view (Has owed view) (λ owes. are.all view fits owes) x at is (λ here. subst (λ (v : ℕ). Has owed v) here there) }

    -- a view that is undecided behind a true verdict was so before
    judged_undecided : (now at view : ℕ) → past.is_undecided (seen s (judged now at true ∷ h) view) ≡ true → past.is_undecided (seen s h view) ≡ true
    judged_undecided now at view = enter_holds Was view s (current s h) now (at + 1) (put at (past.judged true) (seen s h)) (λ moment leader certification stall l was. was)
        (put_holds Was view at (past.judged true) (seen s h) (λ here was. was) (λ is. is))
      where
        Was : List (Item S D P G C) → Type 0
        Was l = past.is_undecided l ≡ true → past.is_undecided (seen s h view) ≡ true

    -- behind a verdict, with its view where it is true and the view undecided
    pub judged_owed : (now at : ℕ) (ok : Bool) (owed : Owed) → ((ok && past.is_undecided (seen s h at)) ≡ true → Has owed at) → AreOwed true (seen s h) owed → AreOwed true (seen s (judged now at ok ∷ h)) owed
    judged_owed now at true owed there are = record {
      all = λ view fits owes. loud true s h view (Has owed view) (λ old. are.all view fits old) (judged now at true) at refl
          (λ here. subst (λ (v : ℕ). Has owed v) here (there (subst (λ (v : ℕ). past.is_undecided (seen s h v) ≡ true) (sym here) (judged_undecided now at view owes.undecided)))) owes;
    }
    judged_owed now at false owed there are = owed_still true (judged now at false) owed refl are

    -- and behind an artifact of the record, with its view where that is a true verdict
    pub recalled_owed : (taken : Bool) (a : Artifact S D P G C) (at : ℕ) (owed : Owed) → at ≡ (artifact_round a).view → (IsTrueVerdict a → Has owed at) → AreOwed true (seen s h) owed → AreOwed true (seen s (recalls taken a ∷ h)) owed
    recalled_owed taken (artifact.Certification r true) at owed same there are = owed_there true (recalled_verdict r.view true) at owed (sym same) (there refl) are
    recalled_owed taken (artifact.Certification r false) at owed same there are = owed_still true (recalled_verdict r.view false) owed refl are
    recalled_owed taken (artifact.Notarize v) at owed same there are = owed_still true (recalled_notarize v.proposal taken) owed tt are
    recalled_owed taken (artifact.Notarization c) at owed same there are = owed_still true (sent kind.Notarization c.proposal.round.view) owed tt are
    recalled_owed taken (artifact.Nullify v) at owed same there are = owed_still true (recalled_nullify v.round.view) owed tt are
    recalled_owed taken (artifact.Nullification c) at owed same there are = owed_still true (sent kind.Nullification c.round.view) owed tt are
    recalled_owed taken (artifact.Finalize v) at owed same there are = owed_still true (recalled_finalize v.proposal) owed tt are
    recalled_owed taken (artifact.Finalization c) at owed same there are = owed_still true (sent kind.Finalization c.proposal.round.view) owed tt are

    pub recalled_still : (taken : Bool) (a : Artifact S D P G C) (owed : Owed) → AreOwed false (seen s h) owed → AreOwed false (seen s (recalls taken a ∷ h)) owed
    recalled_still taken (artifact.Certification r ok) owed are = owed_still false (recalled_verdict r.view ok) owed (or_true (not ok)) are
    recalled_still taken (artifact.Notarize v) owed are = owed_still false (recalled_notarize v.proposal taken) owed tt are
    recalled_still taken (artifact.Notarization c) owed are = owed_still false (sent kind.Notarization c.proposal.round.view) owed tt are
    recalled_still taken (artifact.Nullify v) owed are = owed_still false (recalled_nullify v.round.view) owed tt are
    recalled_still taken (artifact.Nullification c) owed are = owed_still false (sent kind.Nullification c.round.view) owed tt are
    recalled_still taken (artifact.Finalize v) owed are = owed_still false (recalled_finalize v.proposal) owed tt are
    recalled_still taken (artifact.Finalization c) owed are = owed_still false (sent kind.Finalization c.proposal.round.view) owed tt are

    -- where verdicts are put off none more is owed
    pub put_off_owed : (b : Bool) (views : List ℕ) (owed : Owed) → AreOwed b (seen s h) owed → AreOwed b (seen s (put_off views h)) owed
    put_off_owed b views owed are = subst (λ (t : ℕ → List (Item S D P G C)). AreOwed b t owed) (sym (put_off_seen s views h)) are

    -- where a view owes none, without that
    pub owed_without : (b : Bool) (t : ℕ → List (Item S D P G C)) (at : ℕ) (was now : Owed) → (MayOwe b (t at) → ⊥) → ((u : ℕ) → (at == u) ≡ false → Has was u → Has now u) → AreOwed b t was → AreOwed b t now
    owed_without b t at was now none kept are = record {
      all = λ view fits owes. elim (cases_eq at view) [
        | inl same ↦ absurd (none (subst (λ (v : ℕ). MayOwe b (t v)) (sym same) owes))
        | inr apart ↦ kept view (grind (arith, nat_tests, apart)) (are.all view fits owes)
      ];
    }

    -- and behind a prune, without those that were dropped
    pub owed_kept : (b : Bool) (floor : ℕ) (was now : Owed) → floor ≡ min_active s h → ((u : ℕ) → floor ≤ u → Has was u → Has now u) → AreOwed b (seen s h) was → AreOwed b (seen s (pruned ∷ h)) now
    owed_kept b floor was now same kept are = record { all = λ view fits. by view fits (nat_lt view (min_active s h)) refl }
      where
        by : (view : ℕ) → view < 2 ^ 64 → (below : Bool) → nat_lt view (min_active s h) ≡ below → MayOwe b (if below then [] else seen s h view) → Has now view
        by view fits true is owes = absurd (nothing_owed b [] refl owes)
        by view fits false is owes = kept view (grind (arith, nat_tests, is, same)) (are.all view fits owes)

    -- no view owes what was voted
    pub voted_once : (p : Proposal D) (view : ℕ) → MayOwe false (seen s (voted_notarize view p ∷ h) view) → ⊥
    voted_once p view owes = let here : (view == view) ≡ true = grind (arith, common_steps) in by (rw here at owes)
      where
        by : MayOwe false (past.voted_notarize ∷ seen s h view) → ⊥
        by o = true≢false o.first

    pub finalized_once : (p : Proposal D) (view : ℕ) → MayOwe true (seen s (voted_finalize view p ∷ h) view) → ⊥
    finalized_once p view owes = let here : (view == view) ≡ true = grind (arith, common_steps) in by (not (past.has_nullified (seen s h view))) (rw here at owes).undecided
      where
        by : (b : Bool) → (b && false) ≡ true → ⊥
        by true never = true≢false (sym never)
        by false never = true≢false (sym never)

    pub given_up_once : (b : Bool) (view : ℕ) → MayOwe b (seen s (voted_nullify view ∷ h) view) → ⊥
    given_up_once b view owes = let here : (view == view) ≡ true = grind (arith, common_steps) in by b (rw here at owes)
      where
        by : (b : Bool) → MayOwe b (past.voted_nullify ∷ seen s h view) → ⊥
        by false o = true≢false o.not_given_up
        by true o = true≢false (sym o.undecided)

  -- votes that are due are owed
  owes_notarize : (s : Setup S C) (h : List (Point S D P G C)) (view : ℕ) → NotarizeIsDue (member s) (known s h) view → MayOwe false (seen s h view)
  owes_notarize s h view due = record { first = due.first; not_given_up = due.not_given_up; found = due.verified.1 }

  owes_finalize : (s : Setup S C) (h : List (Point S D P G C)) (view : ℕ) → FinalizeIsDue (member s) (known s h) view → MayOwe true (seen s h view)
  owes_finalize s h view due = record { undecided = rw (due.not_given_up, due.first) refl; certified = due.certified }

  module _ (s : Setup S C) (h : List (Point S D P G C)) (some : 0 < s.length) (owed : Owed) where
    -- where none is due below a view, and none of these is between, none is below the next of them
    none_up_to : (Due : ℕ → Type 0) → ((u : ℕ) → Due u → Has owed u) → (next first : ℕ) → NoneBelow Due next → ((u : ℕ) → next ≤ u → u < first → ¬ Has owed u) → NoneBelow Due first
    none_up_to Due owes next first none gone u below = ⊎_elim (λ before. none u before) (λ behind due. gone u behind below (owes u due)) (cases_lt u next)

    pub notarizes_owed : AreOwed false (seen s h) owed → (u : ℕ) → NotarizeIsDue (member s) (known s h) u → Has owed u
    notarizes_owed are u due = let room = due.room in let end = term_end-above s.length u some in are.all u (omega (arith, room, end)) (owes_notarize s h u due)

    pub finalizes_owed : AreOwed true (seen s h) owed → (u : ℕ) → FinalizeIsDue (member s) (known s h) u → Has owed u
    finalizes_owed are u due = let room = due.room in let end = term_end-above s.length u some in are.all u (omega (arith, room, end)) (owes_finalize s h u due)

    pub none_before : (Due : ℕ → Type 0) → ((u : ℕ) → Due u → Has owed u) → (next first : ℕ) → NoneBelow Due next → IsFirstFrom owed next first → NoneBelow Due first
    none_before Due owes next first none is = none_up_to Due owes next first none is.least

    pub none_through : (Due : ℕ → Type 0) → ((u : ℕ) → Due u → Has owed u) → (next first : ℕ) → NoneBelow Due next → IsFirstFrom owed next first → ¬ Due first → NoneBelow Due (first + 1)
    none_through Due owes next first none is here u below = ⊎_elim
        (λ before. none_before Due owes next first none is u before)
        (λ behind. let e : u ≡ first = omega (arith, behind, below) in rw e here)
        (cases_lt u first)

    pub none_at_all : (Due : ℕ → Type 0) → ((u : ℕ) → Due u → Has owed u) → (next : ℕ) → NoneBelow Due next → ((u : ℕ) → next ≤ u → ¬ Has owed u) → (u : ℕ) → ¬ Due u
    none_at_all Due owes next none gone u = none_up_to Due owes next (u + 1) none (λ w from below. gone w from) u (omega arith)

  pub notarize_fits : (s : Setup S C) (h : List (Point S D P G C)) → 0 < s.length → (view : ℕ) → view + 1 ≡ 2 ^ 64 → ((u : ℕ) → u < view + 1 → ¬ NotarizeIsDue (member s) (known s h) u) → (u : ℕ) → ¬ NotarizeIsDue (member s) (known s h) u
  notarize_fits s h some view last none u due = let room = due.room in let end = term_end-above s.length u some in none u (omega (arith, room, end, last)) due

  pub finalize_fits : (s : Setup S C) (h : List (Point S D P G C)) → 0 < s.length → (view : ℕ) → view + 1 ≡ 2 ^ 64 → ((u : ℕ) → u < view + 1 → ¬ FinalizeIsDue (member s) (known s h) u) → (u : ℕ) → ¬ FinalizeIsDue (member s) (known s h) u
  finalize_fits s h some view last none u due = let room = due.room in let end = term_end-above s.length u some in none u (omega (arith, room, end, last)) due
