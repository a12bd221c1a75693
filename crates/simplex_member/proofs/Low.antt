-- What a view's proposal is bound to, while this member didn't vote for it: of what happened to one view.
use Rattle.std.proofs.Common.{◌≡◌, ℕ, ◌+◌, ◌≤◌, ◌==◌, Bool, true, false, List, [], ◌∷◌, ◌++◌, Option, Some, None, refl, sym, subst}
use Rattle.std.specs.Prelude.{if◌then◌else◌, nat_lt, nat_le, ⊤}
use Rattle.std.proofs.lemmas.Bool.{eqb-true, le-ltb}
use Rattle.std.proofs.lemmas.Option.{none-some}
use Rattle.types_core.specs.declared.proposal.Proposal.{Proposal}
use Rattle.types_core.specs.Positions.{next_term_start}
use Rattle.types_terms.specs.declared.kind.Kind.TheVariants as kind
use Rattle.voter_history.specs.declared.timeout_reason.TimeoutReason.TheVariants as reason
use Rattle.voter_history.specs.Held as offer
use Rattle.voter_history.specs.Past as past
use Rattle.voter_history.specs.Past.{Item}
use Rattle.voter_history.specs.Pasts.{bind, put}
use Rattle.voter_history.specs.History as views
use Rattle.voter_history.specs.History.{started, based, notarized, nullified, finalized, judged, forwarded, built, confirmed, unbound, latched, build_asked, build_released, verify_asked, ancestry_asked, certify_asked, certify_waited, voted_notarize, voted_nullify, voted_finalize, recalled_notarize, recalled_nullify, recalled_finalize, recalled_verdict, sent, polled, pruned, current, enter, later, min_active, seen, undecided_payload}
use Rattle.simplex_member.proofs.Bound.{kept-before}
use Rattle.simplex_member.proofs.Lists.{some-is}
use Rattle.simplex_member.proofs.Telling.{apart}

module _ {S D P G C : Type 0} (Q : ℕ → Type 0) where
  -- while no notarize of the view was voted, what is bound to it names a parent with Q
  abbrev pub Binds : List (Item S D P G C) → Type 0
  Binds x = past.has_notarized x ≡ false → (b : Proposal D × D) → past.binding x ≡ Some b → Q b.0.parent

  -- an item that binds nothing, or what has Q
  abbrev FitsSo : Item S D P G C → Type 0
  FitsSo (past.bound p payload) = Q p.parent
  FitsSo y = ⊤

  item-binds : (y : Item S D P G C) (x : List (Item S D P G C)) → FitsSo y → Binds x → Binds (y ∷ x)
  item-binds past.voted_notarize x fits i = λ none. absurd (apart (sym none))
  item-binds past.unbound x fits i = λ none b is. absurd (none-some b is)
  item-binds (past.bound p payload) x fits i = λ none b is. subst (λ (c : Proposal D × D). Q c.0.parent) (some-is (p, payload) b is) fits
  item-binds y x fits i = i

  module _ (view : ℕ) where
    put-binds : (at : ℕ) (y : Item S D P G C) (t : ℕ → List (Item S D P G C)) → (at ≡ view → FitsSo y) → Binds (t view) → Binds (put at y t view)
    put-binds at y t fits i = go (at == view) (eqb-true at view)
      where
        go : (b : Bool) → (b ≡ true → at ≡ view) → Binds (if b then y ∷ t view else t view)
        go true is = item-binds y (t view) (fits (is refl)) i
        go false is = i

    choose-binds : (b : Bool) (t u : ℕ → List (Item S D P G C)) → Binds (t view) → Binds (u view) → Binds ((if b then t else u) view)
    choose-binds true t u one other = one
    choose-binds false t u one other = other

    enter-binds : (v : views.Setup S C) (now_at now at : ℕ) (t : ℕ → List (Item S D P G C)) → Binds (t view) → Binds (enter v now_at now at t view)
    enter-binds v now_at now at t i = choose-binds (nat_lt now_at at) (put at (past.armed (past.deadline now v.leader_timeout) (past.deadline now v.certification_timeout) (later now v.stall_timeout)) (put at (past.entered now) t)) t
        (put-binds at (past.armed (past.deadline now v.leader_timeout) (past.deadline now v.certification_timeout) (later now v.stall_timeout)) (put at (past.entered now) t) (λ e. tt) (put-binds at (past.entered now) t (λ e. tt) i)) i

    -- an own vote that is recalled was voted, whatever is bound to it
    recall-binds : (o : Option D) (p : Proposal D) (taken : Bool) (t : ℕ → List (Item S D P G C)) → Binds (t view)
        → Binds (bind o p (put p.round.view past.voted_notarize (if taken then put p.round.view (past.offered (offer.recorded p)) t else t)) view)
    recall-binds None p taken t i = put-binds p.round.view past.voted_notarize (if taken then put p.round.view (past.offered (offer.recorded p)) t else t) (λ e. tt)
        (choose-binds taken (put p.round.view (past.offered (offer.recorded p)) t) t (put-binds p.round.view (past.offered (offer.recorded p)) t (λ e. tt) i) i)
    recall-binds (Some d) p taken t i = go (p.round.view == view)
      where
        before : List (Item S D P G C)
        before = (if taken then put p.round.view (past.offered (offer.recorded p)) t else t) view

        before-binds : Binds before
        before-binds = choose-binds taken (put p.round.view (past.offered (offer.recorded p)) t) t (put-binds p.round.view (past.offered (offer.recorded p)) t (λ e. tt) i) i

        go : (b : Bool) → Binds (if b then past.bound p d ∷ (if b then past.voted_notarize ∷ before else before) else (if b then past.voted_notarize ∷ before else before))
        go true = λ none. absurd (apart (sym none))
        go false = before-binds

    -- a point of the voter that binds nothing to the view, or what has Q
    abbrev pub IsLow : views.Point S D P G C → Type 0
    IsLow (built now p payload) = p.round.view ≡ view → Q p.parent
    IsLow (verify_asked at p payload) = at ≡ view → Q p.parent
    IsLow x = ⊤

    point-binds : (v : views.Setup S C) (x : views.Point S D P G C) (h : List (views.Point S D P G C)) → IsLow x → min_active v (x ∷ h) ≤ view → Binds (seen v h view) → Binds (seen v (x ∷ h) view)
    point-binds v (started now payload) h fits kept i = enter-binds v (current v h) now 1 (seen v h) i
    point-binds v (based floor) h fits kept i = i
    point-binds v (notarized c) h fits kept i = put-binds c.proposal.round.view (past.notarized c) (seen v h) (λ e. tt) i
    point-binds v (nullified now c) h fits kept i = put-binds c.round.view (past.nullified c) (enter v (current v h) now (next_term_start v.length c.round.view) (seen v h)) (λ e. tt) (enter-binds v (current v h) now (next_term_start v.length c.round.view) (seen v h) i)
    point-binds v (finalized now c) h fits kept i = put-binds c.proposal.round.view (past.finalized c) (enter v (current v h) now (c.proposal.round.view + 1) (seen v h)) (λ e. tt) (enter-binds v (current v h) now (c.proposal.round.view + 1) (seen v h) i)
    point-binds v (judged now at true) h fits kept i = enter-binds v (current v h) now (at + 1) (put at (past.judged true) (seen v h)) (put-binds at (past.judged true) (seen v h) (λ e. tt) i)
    point-binds v (judged now at false) h fits kept i =
        let put_ = put-binds at (past.judged false) (seen v h) (λ e. tt) i in
        choose-binds (nat_le (current v h) at) (put at (past.latched now reason.FailedCertification) (put at (past.judged false) (seen v h))) (put at (past.judged false) (seen v h)) (put-binds at (past.latched now reason.FailedCertification) (put at (past.judged false) (seen v h)) (λ e. tt) put_) put_
    point-binds v (forwarded at p) h fits kept i = choose-binds (past.has_nullified (seen v h at)) (seen v h) (put at (past.offered (offer.forwarded p)) (seen v h)) i (put-binds at (past.offered (offer.forwarded p)) (seen v h) (λ e. tt) i)
    point-binds v (built now p payload) h fits kept i = put-binds p.round.view (past.bound p payload) (put p.round.view (past.built now p) (seen v h)) fits (put-binds p.round.view (past.built now p) (seen v h) (λ e. tt) i)
    point-binds v (confirmed at) h fits kept i = choose-binds (past.has_nullified (seen v h at)) (seen v h) (put at (past.offered offer.confirmed) (seen v h)) i (put-binds at (past.offered offer.confirmed) (seen v h) (λ e. tt) i)
    point-binds v (unbound at) h fits kept i = put-binds at past.unbound (seen v h) (λ e. tt) i
    point-binds v (latched now at why) h fits kept i = put-binds at (past.latched now why) (seen v h) (λ e. tt) i
    point-binds v (build_asked at) h fits kept i = put-binds at (past.offered offer.building) (seen v h) (λ e. tt) i
    point-binds v (build_released at) h fits kept i = put-binds at (past.offered offer.released) (seen v h) (λ e. tt) i
    point-binds v (verify_asked at p payload) h fits kept i = put-binds at (past.bound p payload) (put at (past.offered offer.verifying) (seen v h)) fits (put-binds at (past.offered offer.verifying) (seen v h) (λ e. tt) i)
    point-binds v (ancestry_asked at missing) h fits kept i = put-binds at (past.asked missing) (seen v h) (λ e. tt) i
    point-binds v (certify_asked at handle) h fits kept i = put-binds at (past.certifying handle) (seen v h) (λ e. tt) i
    point-binds v (certify_waited at) h fits kept i = i
    point-binds v (voted_notarize at p) h fits kept i = put-binds at past.voted_notarize (seen v h) (λ e. tt) i
    point-binds v (voted_nullify at) h fits kept i = put-binds at past.voted_nullify (seen v h) (λ e. tt) i
    point-binds v (voted_finalize at p) h fits kept i = put-binds at past.voted_finalize (seen v h) (λ e. tt) i
    point-binds v (recalled_notarize p taken) h fits kept i = recall-binds (undecided_payload (seen v h p.parent)) p taken (seen v h) i
    point-binds v (recalled_nullify at) h fits kept i = put-binds at past.voted_nullify (seen v h) (λ e. tt) i
    point-binds v (recalled_finalize p) h fits kept i = put-binds p.round.view past.voted_finalize (seen v h) (λ e. tt) i
    point-binds v (recalled_verdict at ok) h fits kept i = put-binds at (past.judged ok) (seen v h) (λ e. tt) i
    point-binds v (sent kind.Notarization at) h fits kept i = put-binds at past.sent_notarization (seen v h) (λ e. tt) i
    point-binds v (sent kind.Nullification at) h fits kept i = put-binds at past.sent_nullification (seen v h) (λ e. tt) i
    point-binds v (sent kind.Finalization at) h fits kept i = put-binds at past.sent_finalization (seen v h) (λ e. tt) i
    point-binds v (polled now) h fits kept i = choose-binds (nat_lt 0 (current v h)) (put (current v h) (past.polled (past.deadline now v.timeout_retry)) (seen v h)) (seen v h) (put-binds (current v h) (past.polled (past.deadline now v.timeout_retry)) (seen v h) (λ e. tt) i) i
    point-binds v pruned h fits kept i = go (nat_lt view (min_active v h)) (le-ltb view (min_active v h) kept)
      where
        go : (b : Bool) → b ≡ false → Binds (if b then [] else seen v h view)
        go false e = i
        go true e = absurd (cc e)

    abbrev pub AreLow : List (views.Point S D P G C) → Type 0
    AreLow [] = ⊤
    AreLow (x ∷ xs) = IsLow x × AreLow xs

    pub all-bind : (v : views.Setup S C) (xs h : List (views.Point S D P G C)) → AreLow xs → min_active v (xs ++ h) ≤ view → Binds (seen v h view) → Binds (seen v (xs ++ h) view)
    all-bind v [] h low kept i = i
    all-bind v (x ∷ xs) h low kept i = point-binds v x (xs ++ h) low.0 kept (all-bind v xs h low.1 (kept-before ⊤ (λ p. ⊤) view (λ p e. tt) v x (xs ++ h) kept) i)

-- with less to ask
module _ {S D P G C : Type 0} (Q R : ℕ → Type 0) (less : (n : ℕ) → Q n → R n) where
  pub binds-less : (x : List (Item S D P G C)) → Binds Q x → Binds R x
  binds-less x i = λ none b is. less b.0.parent (i none b is)
