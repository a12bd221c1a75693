-- What holds of all that happened to a view stays so, as long as the view is kept, where each item leaves it.
use Rattle.std.proofs.Common.{◌≡◌, ◌⊎◌, inl, inr, ⊎_elim, ℕ, ◌+◌, ◌≤◌, ◌<◌, ◌==◌, Bool, true, false, List, [], ◌∷◌, ◌++◌, Option, Some, None, refl, arith}
use Rattle.std.specs.Prelude.{if◌then◌else◌, nat_lt, nat_le, ⊤}
use Rattle.std.proofs.lemmas.Bool.{cases_lt, eqb-true, le-ltb}
use Rattle.types_core.specs.declared.proposal.Proposal.{Proposal}
use Rattle.types_core.specs.Positions.{next_term_start}
use Rattle.types_terms.specs.declared.kind.Kind.TheVariants as kind
use Rattle.voter_history.specs.declared.timeout_reason.TimeoutReason.TheVariants as reason
use Rattle.voter_history.specs.Held as offer
use Rattle.voter_history.specs.Past as past
use Rattle.voter_history.specs.Past.{Item}
use Rattle.voter_history.specs.Pasts.{bind, put}
use Rattle.voter_history.specs.History as views
use Rattle.voter_history.specs.History.{started, based, notarized, nullified, finalized, judged, forwarded, built, confirmed, unbound, latched, build_asked, build_released, verify_asked, ancestry_asked, certify_asked, certify_waited, voted_notarize, voted_nullify, voted_finalize, recalled_notarize, recalled_nullify, recalled_finalize, recalled_verdict, sent, polled, pruned, current, enter, last_finalized, later, min_active, seen, undecided_payload}
use Rattle.simplex_member.proofs.Rising.{all-rise}

-- a view is no longer kept, or this holds of all that happened to it
abbrev pub UnlessDropped : {S D P G C : Type 0} → views.Setup S C → (List (Item S D P G C) → Type 0) → List (views.Point S D P G C) → ℕ → Type 0
UnlessDropped s Q h view = (view < min_active s h) ⊎ Q (seen s h view)

pub kept-holds : {S D P G C : Type 0} (s : views.Setup S C) (Q : List (Item S D P G C) → Type 0) (h : List (views.Point S D P G C)) (view : ℕ) → min_active s h ≤ view → UnlessDropped s Q h view → Q (seen s h view)
kept-holds s Q h view kept is = ⊎_elim (λ low. absurd (omega (arith, low, kept))) (λ holds. holds) is

pub low-stays : {S D P G C : Type 0} (s : views.Setup S C) (xs h : List (views.Point S D P G C)) (view : ℕ) → view < min_active s h → view < min_active s (xs ++ h)
low-stays s xs h view low = let rises = (all-rise s xs h).1 in omega (arith, low, rises)

module _ {S D P G C : Type 0} (Null : Type 0) (Ahead : ℕ → Type 0) (Asked : Type 0) where
  -- an item leaves it: of three kinds where these hold
  abbrev pub Fits : Item S D P G C → Type 0
  Fits past.voted_nullify = Null
  Fits (past.polled moment) = Ahead moment
  Fits (past.asked u) = Asked
  Fits y = ⊤

  -- a point adds but such items to the view
  abbrev pub Adds : views.Setup S C → ℕ → views.Point S D P G C → Type 0
  Adds s view (voted_nullify at) = at ≡ view → Null
  Adds s view (recalled_nullify at) = at ≡ view → Null
  Adds s view (polled now) = Ahead (past.deadline now s.timeout_retry)
  Adds s view (ancestry_asked at u) = at ≡ view → Asked
  Adds s view x = ⊤

  abbrev pub AllAdd : views.Setup S C → ℕ → List (views.Point S D P G C) → Type 0
  AllAdd s view [] = ⊤
  AllAdd s view (x ∷ xs) = Adds s view x × AllAdd s view xs

  module _ (Q : List (Item S D P G C) → Type 0) (step : (y : Item S D P G C) (l : List (Item S D P G C)) → Fits y → Q l → Q (y ∷ l)) (view : ℕ) where
    stays-choose : (b : Bool) (t u : ℕ → List (Item S D P G C)) → Q (t view) → Q (u view) → Q ((if b then t else u) view)
    stays-choose true t u one other = one
    stays-choose false t u one other = other

    stays-put : (at : ℕ) (y : Item S D P G C) (t : ℕ → List (Item S D P G C)) → (at ≡ view → Fits y) → Q (t view) → Q (put at y t view)
    stays-put at y t fits q = go (at == view) (eqb-true at view)
      where
        go : (b : Bool) → (b ≡ true → at ≡ view) → Q (if b then y ∷ t view else t view)
        go true is = step y (t view) (fits (is refl)) q
        go false is = q

    stays-enter : (s : views.Setup S C) (now_at now at : ℕ) (t : ℕ → List (Item S D P G C)) → Q (t view) → Q (enter s now_at now at t view)
    stays-enter s now_at now at t q = stays-choose (nat_lt now_at at) (put at (past.armed (past.deadline now s.leader_timeout) (past.deadline now s.certification_timeout) (later now s.stall_timeout)) (put at (past.entered now) t)) t
        (stays-put at (past.armed (past.deadline now s.leader_timeout) (past.deadline now s.certification_timeout) (later now s.stall_timeout)) (put at (past.entered now) t) (λ e. tt) (stays-put at (past.entered now) t (λ e. tt) q)) q

    stays-bind : (o : Option D) (p : Proposal D) (t : ℕ → List (Item S D P G C)) → Q (t view) → Q (bind o p t view)
    stays-bind None p t q = q
    stays-bind (Some payload) p t q = stays-put p.round.view (past.bound p payload) t (λ e. tt) q

    stays-recalled : (p : Proposal D) (taken : Bool) (t : ℕ → List (Item S D P G C)) → Q (t view) → Q ((if taken then put p.round.view (past.offered (offer.recorded p)) t else t) view)
    stays-recalled p true t q = stays-put p.round.view (past.offered (offer.recorded p)) t (λ e. tt) q
    stays-recalled p false t q = q

    seen-stays : (s : views.Setup S C) (x : views.Point S D P G C) (h : List (views.Point S D P G C)) → min_active s h ≤ view → Adds s view x → Q (seen s h view) → Q (seen s (x ∷ h) view)
    seen-stays s (started now payload) h kept adds q = stays-enter s (current s h) now 1 (seen s h) q
    seen-stays s (based floor) h kept adds q = q
    seen-stays s (notarized c) h kept adds q = stays-put c.proposal.round.view (past.notarized c) (seen s h) (λ e. tt) q
    seen-stays s (nullified now c) h kept adds q = stays-put c.round.view (past.nullified c) (enter s (current s h) now (next_term_start s.length c.round.view) (seen s h)) (λ e. tt) (stays-enter s (current s h) now (next_term_start s.length c.round.view) (seen s h) q)
    seen-stays s (finalized now c) h kept adds q = stays-put c.proposal.round.view (past.finalized c) (enter s (current s h) now (c.proposal.round.view + 1) (seen s h)) (λ e. tt) (stays-enter s (current s h) now (c.proposal.round.view + 1) (seen s h) q)
    seen-stays s (judged now at true) h kept adds q = stays-enter s (current s h) now (at + 1) (put at (past.judged true) (seen s h)) (stays-put at (past.judged true) (seen s h) (λ e. tt) q)
    seen-stays s (judged now at false) h kept adds q =
        let once = stays-put at (past.judged false) (seen s h) (λ e. tt) q in
        stays-choose (nat_le (current s h) at) (put at (past.latched now reason.FailedCertification) (put at (past.judged false) (seen s h))) (put at (past.judged false) (seen s h)) (stays-put at (past.latched now reason.FailedCertification) (put at (past.judged false) (seen s h)) (λ e. tt) once) once
    seen-stays s (forwarded at p) h kept adds q = stays-choose (past.has_nullified (seen s h at)) (seen s h) (put at (past.offered (offer.forwarded p)) (seen s h)) q (stays-put at (past.offered (offer.forwarded p)) (seen s h) (λ e. tt) q)
    seen-stays s (built now p payload) h kept adds q = stays-put p.round.view (past.bound p payload) (put p.round.view (past.built now p) (seen s h)) (λ e. tt) (stays-put p.round.view (past.built now p) (seen s h) (λ e. tt) q)
    seen-stays s (confirmed at) h kept adds q = stays-choose (past.has_nullified (seen s h at)) (seen s h) (put at (past.offered offer.confirmed) (seen s h)) q (stays-put at (past.offered offer.confirmed) (seen s h) (λ e. tt) q)
    seen-stays s (unbound at) h kept adds q = stays-put at past.unbound (seen s h) (λ e. tt) q
    seen-stays s (latched now at why) h kept adds q = stays-put at (past.latched now why) (seen s h) (λ e. tt) q
    seen-stays s (build_asked at) h kept adds q = stays-put at (past.offered offer.building) (seen s h) (λ e. tt) q
    seen-stays s (build_released at) h kept adds q = stays-put at (past.offered offer.released) (seen s h) (λ e. tt) q
    seen-stays s (verify_asked at p payload) h kept adds q = stays-put at (past.bound p payload) (put at (past.offered offer.verifying) (seen s h)) (λ e. tt) (stays-put at (past.offered offer.verifying) (seen s h) (λ e. tt) q)
    seen-stays s (ancestry_asked at u) h kept adds q = stays-put at (past.asked u) (seen s h) adds q
    seen-stays s (certify_asked at handle) h kept adds q = stays-put at (past.certifying handle) (seen s h) (λ e. tt) q
    seen-stays s (certify_waited at) h kept adds q = q
    seen-stays s (voted_notarize at p) h kept adds q = stays-put at past.voted_notarize (seen s h) (λ e. tt) q
    seen-stays s (voted_nullify at) h kept adds q = stays-put at past.voted_nullify (seen s h) adds q
    seen-stays s (voted_finalize at p) h kept adds q = stays-put at past.voted_finalize (seen s h) (λ e. tt) q
    seen-stays s (recalled_notarize p taken) h kept adds q = stays-bind (undecided_payload (seen s h p.parent)) p (put p.round.view past.voted_notarize (if taken then put p.round.view (past.offered (offer.recorded p)) (seen s h) else seen s h))
        (stays-put p.round.view past.voted_notarize (if taken then put p.round.view (past.offered (offer.recorded p)) (seen s h) else seen s h) (λ e. tt) (stays-recalled p taken (seen s h) q))
    seen-stays s (recalled_nullify at) h kept adds q = stays-put at past.voted_nullify (seen s h) adds q
    seen-stays s (recalled_finalize p) h kept adds q = stays-put p.round.view past.voted_finalize (seen s h) (λ e. tt) q
    seen-stays s (recalled_verdict at ok) h kept adds q = stays-put at (past.judged ok) (seen s h) (λ e. tt) q
    seen-stays s (sent kind.Notarization at) h kept adds q = stays-put at past.sent_notarization (seen s h) (λ e. tt) q
    seen-stays s (sent kind.Nullification at) h kept adds q = stays-put at past.sent_nullification (seen s h) (λ e. tt) q
    seen-stays s (sent kind.Finalization at) h kept adds q = stays-put at past.sent_finalization (seen s h) (λ e. tt) q
    seen-stays s (polled now) h kept adds q = stays-choose (nat_lt 0 (current s h)) (put (current s h) (past.polled (past.deadline now s.timeout_retry)) (seen s h)) (seen s h) (stays-put (current s h) (past.polled (past.deadline now s.timeout_retry)) (seen s h) (λ e. adds) q) q
    seen-stays s pruned h kept adds q = go (nat_lt view (min_active s h)) (le-ltb view (min_active s h) kept)
      where
        go : (b : Bool) → b ≡ false → Q (if b then [] else seen s h view)
        go false e = q
        go true e = absurd (cc e)

    pub all-stay : (s : views.Setup S C) (xs h : List (views.Point S D P G C)) → AllAdd s view xs → UnlessDropped s Q h view → UnlessDropped s Q (xs ++ h) view
    all-stay s [] h adds is = is
    all-stay s (x ∷ xs) h adds is = ⊎_elim
        (λ low. inl (low-stays s (x ∷ []) (xs ++ h) view low))
        (λ holds. ⊎_elim
        (λ low. inl (low-stays s (x ∷ []) (xs ++ h) view low))
        (λ kept. inr (seen-stays s x (xs ++ h) kept adds.0 holds))
        (cases_lt view (min_active s (xs ++ h))))
        (all-stay s xs h adds.1 is)

-- where all items leave it, all points do
module _ {S D P G C : Type 0} where
  any-adds : (s : views.Setup S C) (view : ℕ) (x : views.Point S D P G C) → Adds ⊤ (λ moment. ⊤) ⊤ s view x
  any-adds s view (voted_nullify at) = λ e. tt
  any-adds s view (recalled_nullify at) = λ e. tt
  any-adds s view (ancestry_asked at u) = λ e. tt
  any-adds s view x = tt

  pub all-add : (s : views.Setup S C) (view : ℕ) (xs : List (views.Point S D P G C)) → AllAdd ⊤ (λ moment. ⊤) ⊤ s view xs
  all-add s view [] = tt
  all-add s view (x ∷ xs) = (any-adds s view x, all-add s view xs)

  pub each-stays : (Q : List (Item S D P G C) → Type 0) → ((y : Item S D P G C) (l : List (Item S D P G C)) → Q l → Q (y ∷ l)) → (s : views.Setup S C) (view : ℕ) (xs h : List (views.Point S D P G C))
      → UnlessDropped s Q h view → UnlessDropped s Q (xs ++ h) view
  each-stays Q step s view xs h is = all-stay ⊤ (λ moment. ⊤) ⊤ Q (λ y l fits q. step y l q) view s xs h (all-add s view xs) is
