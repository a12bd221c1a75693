-- What each point adds to what happened to a view, and what its record says of it.
use Rattle.std.proofs.Common.{◌≡◌, ◌⊎◌, inl, inr, true, false, ℕ, List, [], ◌∷◌, subst, refl, ◌+◌, ◌≤◌, arith, if◌then◌else◌}
use mathlib.Core.Bool.{true≢false}
use Rattle.std.proofs.lemmas.Bool.Decides.{nat_tests, Decides-eqb}
use Rattle.std.specs.Prelude.{◌==◌, nat_lt, nat_le, Bool, Option, Some, None, IsTrue, Contains, ⊤}
use Rattle.types_quorum.specs.Counting.{Contains-head, Contains-rest}
use Rattle.types_core.specs.declared.proposal.Proposal.{Proposal}
use Rattle.types_core.specs.Positions.{next_term_start}
use Rattle.types_core.specs.Subject.{notarize, nullify, finalize}
use Rattle.types_terms.specs.declared.kind.Kind.TheVariants as kind
use Rattle.simplex_record.specs.Record as recorded
use Rattle.simplex_record.specs.Record.{Entry}
use Rattle.voter_history.specs.Held as offer
use Rattle.voter_history.specs.Held.{Offer, Agrees, held}
use Rattle.voter_history.specs.Past as past
use Rattle.voter_history.specs.Past.{Item, offers}
use Rattle.voter_history.specs.Pasts.{put, bind}
use Rattle.voter_history.specs.History.{Setup, Point, started, based, notarized, nullified, finalized, judged, forwarded, built, confirmed, unbound, latched, build_asked, build_released, verify_asked, ancestry_asked, certify_asked, certify_waited, voted_notarize, voted_nullify, voted_finalize, recalled_notarize, recalled_nullify, recalled_finalize, recalled_verdict, sent, polled, pruned, enter, undecided_payload, current, last_finalized, min_active, seen}
use Rattle.voter_laws.specs.Matching.{round_of, told, OwnWereTaken}

-- a recorded proposal was offered where nothing or the same was held
abbrev pub IsRecordedWell : {D : Type 0} → Offer D → List (Offer D) → Type 0
IsRecordedWell (offer.recorded p) l = Agrees (held l) p
IsRecordedWell o l = ⊤

module _ {S D P G C : Type 0} where
  -- what a record says isn't lost by a further point
  pub told_still : (s : Setup S C) (x : Point S D P G C) (h : List (Point S D P G C)) (e : Entry D) → Contains (told s h) e → Contains (told s (x ∷ h)) e
  told_still s (notarized c) h e here = Contains-rest _ (told s h) e here
  told_still s (nullified now c) h e here = Contains-rest _ (told s h) e here
  told_still s (finalized now c) h e here = Contains-rest _ (told s h) e here
  told_still s (judged now view ok) h e here = Contains-rest _ (told s h) e here
  told_still s (voted_notarize view p) h e here = Contains-rest _ (told s h) e here
  told_still s (voted_nullify view) h e here = one (past.has_nullified (seen s h view)) (recalled_by view)
    where
      recalled_by : ℕ → Entry D
      recalled_by v = recorded.voted (nullify (round_of s v))

      one : (b : Bool) (y : Entry D) → Contains (if b then told s h else y ∷ told s h) e
      one true y = here
      one false y = Contains-rest y (told s h) e here
  told_still s (voted_finalize view p) h e here = Contains-rest _ (told s h) e here
  told_still s (recalled_notarize p taken) h e here = Contains-rest _ (told s h) e here
  told_still s (recalled_nullify view) h e here = Contains-rest _ (told s h) e here
  told_still s (recalled_finalize p) h e here = Contains-rest _ (told s h) e here
  told_still s x h e here = here

  pub own_before : (s : Setup S C) (x : Point S D P G C) (h : List (Point S D P G C)) → OwnWereTaken s (x ∷ h) → OwnWereTaken s h
  own_before s (built now p payload) h own = own.1
  own_before s (recalled_notarize p taken) h own = own.1
  own_before s x h own = own

  -- why an item stands in what happened to a view, in front of these
  abbrev pub IsFounded : Setup S C → List (Point S D P G C) → ℕ → Item S D P G C → List (Item S D P G C) → Type 0
  IsFounded s h view (past.notarized c) l = (c.proposal.round.view ≡ view) × Contains (told s h) (recorded.taken (notarize c.proposal))
  IsFounded s h view (past.finalized c) l = (c.proposal.round.view ≡ view) × Contains (told s h) (recorded.taken (finalize c.proposal))
  IsFounded s h view (past.judged ok) l = Contains (told s h) (recorded.judged (round_of s view) ok) ⊎ Contains h (recalled_verdict view ok)
  IsFounded s h view (past.built moment p) l = OwnWereTaken s h → Agrees (held (offers l)) p
  IsFounded s h view (past.offered o) l = OwnWereTaken s h → IsRecordedWell o (offers l)
  IsFounded s h view x l = ⊤

  pub founded_still : (s : Setup S C) (x : Point S D P G C) (h : List (Point S D P G C)) (view : ℕ) (y : Item S D P G C) (l : List (Item S D P G C))
      → IsFounded s h view y l → IsFounded s (x ∷ h) view y l
  founded_still s x h view (past.notarized c) l f = (f.0, told_still s x h (recorded.taken (notarize c.proposal)) f.1)
  founded_still s x h view (past.finalized c) l f = (f.0, told_still s x h (recorded.taken (finalize c.proposal)) f.1)
  founded_still s x h view (past.judged ok) l (inl here) = inl (told_still s x h (recorded.judged (round_of s view) ok) here)
  founded_still s x h view (past.judged ok) l (inr here) = inr (Contains-rest x h (recalled_verdict view ok) here)
  founded_still s x h view (past.built moment p) l f = λ own. f (own_before s x h own)
  founded_still s x h view (past.offered o) l f = λ own. f (own_before s x h own)
  founded_still s x h view y l f = tt

-- what happened to a view, and then more, each for a reason that the history has
pub data Grows {S D P G C : Type 0} (s : Setup S C) (h : List (Point S D P G C)) (view : ℕ) (old : List (Item S D P G C)) : List (Item S D P G C) → Type 0 where
  still : Grows s h view old old
  more : {new : List (Item S D P G C)} (x : Item S D P G C) → IsFounded s h view x new → Grows s h view old new → Grows s h view old (x ∷ new)

module _ {S D P G C : Type 0} (s : Setup S C) (h : List (Point S D P G C)) (view : ℕ) (old : List (Item S D P G C)) where
  choose_grows : (b : Bool) (t u : ℕ → List (Item S D P G C)) → Grows s h view old (t view) → Grows s h view old (u view) → Grows s h view old ((if b then t else u) view)
  choose_grows true t u one other = one
  choose_grows false t u one other = other

  put_grows : (at : ℕ) (x : Item S D P G C) (t : ℕ → List (Item S D P G C)) → (at ≡ view → IsFounded s h view x (t view)) → Grows s h view old (t view) → Grows s h view old (put at x t view)
  put_grows at x t why g = by (at == view) (λ here. why ((Decides-eqb at view).0 here))
    where
      by : (b : Bool) → (b ≡ true → IsFounded s h view x (t view)) → Grows s h view old (if b then x ∷ t view else t view)
      by true f = more x (f refl) g
      by false f = g

  enter_grows : (current_view now at : ℕ) (t : ℕ → List (Item S D P G C)) → Grows s h view old (t view) → Grows s h view old (enter s current_view now at t view)
  enter_grows current_view now at t g =
      choose_grows (nat_lt current_view at) _ t
      (put_grows at (past.armed (past.deadline now s.leader_timeout) (past.deadline now s.certification_timeout) _) (put at (past.entered now) t) (λ here. tt) (put_grows at (past.entered now) t (λ here. tt) g)) g

  bind_grows : (o : Option D) (p : Proposal D) (t : ℕ → List (Item S D P G C)) → Grows s h view old (t view) → Grows s h view old (bind o p t view)
  bind_grows None p t g = g
  bind_grows (Some payload) p t g = put_grows p.round.view (past.bound p payload) t (λ here. tt) g

module _ {S D P G C : Type 0} where
  -- a point leaves what is known of a view, as long as it drops none
  abbrev pub StaysKept : Setup S C → List (Point S D P G C) → ℕ → Point S D P G C → Type 0
  StaysKept s h view pruned = min_active s h ≤ view
  StaysKept s h view x = ⊤

  pub stays_kept : (s : Setup S C) (h : List (Point S D P G C)) (view : ℕ) (x : Point S D P G C) → min_active s h ≤ view → StaysKept s h view x
  stays_kept s h view pruned kept = kept
  stays_kept s h view x kept = tt

  -- each point adds to what happened to a view
  pub grows : (s : Setup S C) (h : List (Point S D P G C)) (view : ℕ) (x : Point S D P G C) → StaysKept s h view x → Grows s (x ∷ h) view (seen s h view) (seen s (x ∷ h) view)
  grows s h view (started now payload) kept = enter_grows s _ view _ (current s h) now 1 (seen s h) still
  grows s h view (notarized c) kept = put_grows s _ view _ c.proposal.round.view (past.notarized c) (seen s h) (λ here. (here, Contains-head _ (told s h))) still
  grows s h view (nullified now c) kept =
      let entered : ℕ → List (Item S D P G C) = enter s (current s h) now (next_term_start s.length c.round.view) (seen s h) in
      put_grows s _ view _ c.round.view (past.nullified c) entered (λ here. tt) (enter_grows s _ view _ (current s h) now (next_term_start s.length c.round.view) (seen s h) still)
  grows s h view (finalized now c) kept =
      let entered : ℕ → List (Item S D P G C) = enter s (current s h) now (c.proposal.round.view + 1) (seen s h) in
      put_grows s _ view _ c.proposal.round.view (past.finalized c) entered (λ here. (here, Contains-head _ (told s h)))
      (enter_grows s _ view _ (current s h) now (c.proposal.round.view + 1) (seen s h) still)
  grows s h view (judged now at true) kept =
      enter_grows s _ view _ (current s h) now (at + 1) (put at (past.judged true) (seen s h))
      (put_grows s _ view _ at (past.judged true) (seen s h) (λ here. inl (subst (λ (v : ℕ). Contains (told s (judged now at true ∷ h)) (recorded.judged (round_of s v) true)) here (Contains-head _ (told s h)))) still)
  grows s h view (judged now at false) kept =
      choose_grows s _ view _ (nat_le (current s h) at) (put at (past.latched now _) (put at (past.judged false) (seen s h))) (put at (past.judged false) (seen s h))
      (put_grows s _ view _ at (past.latched now _) (put at (past.judged false) (seen s h)) (λ here. tt) once) once
    where
      once : Grows s (judged now at false ∷ h) view (seen s h view) (put at (past.judged false) (seen s h) view)
      once = put_grows s _ view _ at (past.judged false) (seen s h) (λ here. inl (subst (λ (v : ℕ). Contains (told s (judged now at false ∷ h)) (recorded.judged (round_of s v) false)) here (Contains-head _ (told s h)))) still
  grows s h view (forwarded at p) kept =
      choose_grows s _ view _ (past.has_nullified (seen s h at)) (seen s h) (put at (past.offered (offer.forwarded p)) (seen s h)) still
      (put_grows s _ view _ at (past.offered (offer.forwarded p)) (seen s h) (λ here own. tt) still)
  grows s h view (built now p payload) kept =
      put_grows s _ view _ p.round.view (past.bound p payload) (put p.round.view (past.built now p) (seen s h)) (λ here. tt)
      (put_grows s _ view _ p.round.view (past.built now p) (seen s h) (λ here own. subst (λ (v : ℕ). Agrees (held (offers (seen s h v))) p) here own.0) still)
  grows s h view (confirmed at) kept =
      choose_grows s _ view _ (past.has_nullified (seen s h at)) (seen s h) (put at (past.offered offer.confirmed) (seen s h)) still
      (put_grows s _ view _ at (past.offered offer.confirmed) (seen s h) (λ here own. tt) still)
  grows s h view (unbound at) kept = put_grows s _ view _ at past.unbound (seen s h) (λ here. tt) still
  grows s h view (latched now at why) kept = put_grows s _ view _ at (past.latched now why) (seen s h) (λ here. tt) still
  grows s h view (build_asked at) kept = put_grows s _ view _ at (past.offered offer.building) (seen s h) (λ here own. tt) still
  grows s h view (build_released at) kept = put_grows s _ view _ at (past.offered offer.released) (seen s h) (λ here own. tt) still
  grows s h view (verify_asked at p payload) kept =
      put_grows s _ view _ at (past.bound p payload) (put at (past.offered offer.verifying) (seen s h)) (λ here. tt)
      (put_grows s _ view _ at (past.offered offer.verifying) (seen s h) (λ here own. tt) still)
  grows s h view (ancestry_asked at missing) kept = put_grows s _ view _ at (past.asked missing) (seen s h) (λ here. tt) still
  grows s h view (certify_asked at handle) kept = put_grows s _ view _ at (past.certifying handle) (seen s h) (λ here. tt) still
  grows s h view (based at) kept = still
  grows s h view (certify_waited at) kept = still
  grows s h view (voted_notarize at p) kept = put_grows s _ view _ at past.voted_notarize (seen s h) (λ here. tt) still
  grows s h view (voted_nullify at) kept = put_grows s _ view _ at past.voted_nullify (seen s h) (λ here. tt) still
  grows s h view (voted_finalize at p) kept = put_grows s _ view _ at past.voted_finalize (seen s h) (λ here. tt) still
  grows s h view (recalled_notarize p taken) kept =
      bind_grows s _ view _ (undecided_payload (seen s h p.parent)) p (put p.round.view past.voted_notarize (with taken))
      (put_grows s _ view _ p.round.view past.voted_notarize (with taken) (λ here. tt) (recorded_as taken (λ own. own.0)))
    where
      with : Bool → ℕ → List (Item S D P G C)
      with b = if b then put p.round.view (past.offered (offer.recorded p)) (seen s h) else seen s h

      recorded_as : (b : Bool) → (OwnWereTaken s (recalled_notarize p taken ∷ h) → IsTrue b → Agrees (held (offers (seen s h p.round.view))) p)
          → Grows s (recalled_notarize p taken ∷ h) view (seen s h view) ((if b then put p.round.view (past.offered (offer.recorded p)) (seen s h) else seen s h) view)
      recorded_as true agrees =
          put_grows s _ view _ p.round.view (past.offered (offer.recorded p)) (seen s h)
          (λ here own. subst (λ (v : ℕ). Agrees (held (offers (seen s h v))) p) here (agrees own refl)) still
      recorded_as false agrees = still
  grows s h view (recalled_nullify at) kept = put_grows s _ view _ at past.voted_nullify (seen s h) (λ here. tt) still
  grows s h view (recalled_finalize p) kept = put_grows s _ view _ p.round.view past.voted_finalize (seen s h) (λ here. tt) still
  grows s h view (recalled_verdict at ok) kept =
      put_grows s _ view _ at (past.judged ok) (seen s h) (λ here. inr (subst (λ (v : ℕ). Contains (recalled_verdict at ok ∷ h) (recalled_verdict v ok)) here (Contains-head _ h))) still
  grows s h view (sent kind.Notarization at) kept = put_grows s _ view _ at past.sent_notarization (seen s h) (λ here. tt) still
  grows s h view (sent kind.Nullification at) kept = put_grows s _ view _ at past.sent_nullification (seen s h) (λ here. tt) still
  grows s h view (sent kind.Finalization at) kept = put_grows s _ view _ at past.sent_finalization (seen s h) (λ here. tt) still
  grows s h view (polled now) kept =
      choose_grows s _ view _ (nat_lt 0 (current s h)) (put (current s h) (past.polled (past.deadline now s.timeout_retry)) (seen s h)) (seen s h)
      (put_grows s _ view _ (current s h) (past.polled (past.deadline now s.timeout_retry)) (seen s h) (λ here. tt) still) still
  grows s h view pruned kept = unforgotten (nat_lt view (min_active s h)) (grind (arith, nat_tests, kept))
    where
      unforgotten : (b : Bool) → b ≡ false → Grows s (pruned ∷ h) view (seen s h view) (if b then [] else seen s h view)
      unforgotten true stays = absurd (true≢false stays)
      unforgotten false stays = still

  -- the last finalized view only rises, and so does the least that is kept
  pub finalized_rises : (x : Point S D P G C) (h : List (Point S D P G C)) → last_finalized h ≤ last_finalized (x ∷ h)
  finalized_rises (finalized now c) h = omega arith
  finalized_rises x h = omega arith

  -- what is there stays, where each item leaves it
  pub grown : {Q : List (Item S D P G C) → Type 0} {s : Setup S C} {h : List (Point S D P G C)} {view : ℕ} {old new : List (Item S D P G C)}
      → ((x : Item S D P G C) (l : List (Item S D P G C)) → Q l → Q (x ∷ l)) → Grows s h view old new → Q old → Q new
  grown step still here = here
  grown step (more {new = l} x why g) here = step x l (grown step g here)
