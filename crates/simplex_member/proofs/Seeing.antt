-- What is seen of a view is good, where each point puts good items there.
use Rattle.std.proofs.Common.{◌≡◌, ⊎_elim, ℕ, ◌+◌, ◌==◌, Bool, true, false, List, [], ◌∷◌, ◌++◌, Option, Some, None, refl, subst}
use Rattle.std.specs.Prelude.{Contains, if◌then◌else◌, nat_le, nat_lt, ⊤}
use Rattle.std.proofs.lemmas.Bool.{eqb-true}
use Rattle.types_quorum.specs.Counting.{Contains-cases, Contains-nil}
use Rattle.types_core.specs.declared.proposal.Proposal.{Proposal}
use Rattle.types_core.specs.Positions.{next_term_start}
use Rattle.voter_history.specs.declared.timeout_reason.TimeoutReason.TheVariants as reason
use Rattle.voter_history.specs.Held as offer
use Rattle.voter_history.specs.History as views
use Rattle.voter_history.specs.History.{current, enter, later, min_active, seen, sent_item, undecided_payload}
use Rattle.voter_history.specs.Past as past
use Rattle.voter_history.specs.Pasts.{bind, put}

module _ {S D P G C : Type 0} (Good : past.Item S D P G C → Type 0) where
  abbrev pub AreGood : List (past.Item S D P G C) → Type 0
  AreGood [] = ⊤
  AreGood (x ∷ items) = Good x × AreGood items

  -- so is each that stands among them
  pub good-at : (items : List (past.Item S D P G C)) → AreGood items → (x : past.Item S D P G C) → Contains items x → Good x
  good-at [] good x here = absurd (Contains-nil x here)
  good-at (y ∷ items) good x here = ⊎_elim (λ is. subst Good is good.0) (λ later. good-at items good.1 x later) (Contains-cases y items x here)

  put-good : (at : ℕ) (x : past.Item S D P G C) (t : ℕ → List (past.Item S D P G C)) (view : ℕ) → (at ≡ view → Good x) → AreGood (t view) → AreGood (put at x t view)
  put-good at x t view new good = go (at == view) refl
    where
      go : (b : Bool) → (at == view) ≡ b → AreGood (if b then x ∷ t view else t view)
      go true is = (new (eqb-true at view is), good)
      go false is = good

  either-good : (b : Bool) (xs ys : List (past.Item S D P G C)) → AreGood xs → AreGood ys → AreGood (if b then xs else ys)
  either-good true xs ys first second = first
  either-good false xs ys first second = second

  either-seen : (b : Bool) (t u : ℕ → List (past.Item S D P G C)) (view : ℕ) → AreGood (t view) → AreGood (u view) → AreGood ((if b then t else u) view)
  either-seen true t u view first second = first
  either-seen false t u view first second = second

  bind-good : (o : Option D) (p : Proposal D) (t : ℕ → List (past.Item S D P G C)) (view : ℕ) → ((payload : D) → Good (past.bound p payload)) → AreGood (t view) → AreGood (bind o p t view)
  bind-good None p t view new good = good
  bind-good (Some payload) p t view new good = put-good p.round.view (past.bound p payload) t view (λ e. new payload) good

  module _ (s : views.Setup S C) where
    -- a view is entered at a moment
    abbrev pub Enters : ℕ → Type 0
    Enters now = Good (past.entered now) × Good (past.armed (past.deadline now s.leader_timeout) (past.deadline now s.certification_timeout) (later now s.stall_timeout))

    -- what a point puts on a view is good
    abbrev pub Puts : views.Point S D P G C → ℕ → Type 0
    Puts (views.started now payload) view = Enters now
    Puts (views.based floor) view = ⊤
    Puts (views.notarized c) view = Good (past.notarized c)
    Puts (views.nullified now c) view = Good (past.nullified c) × Enters now
    Puts (views.finalized now c) view = Good (past.finalized c) × Enters now
    Puts (views.judged now at true) view = Good (past.judged true) × Enters now
    Puts (views.judged now at false) view = Good (past.judged false) × (at ≡ view → Good (past.latched now reason.FailedCertification))
    Puts (views.forwarded at p) view = Good (past.offered (offer.forwarded p))
    Puts (views.built now p payload) view = Good (past.built now p) × Good (past.bound p payload)
    Puts (views.confirmed at) view = Good (past.offered offer.confirmed)
    Puts (views.unbound at) view = Good past.unbound
    Puts (views.latched now at why) view = at ≡ view → Good (past.latched now why)
    Puts (views.build_asked at) view = Good (past.offered offer.building)
    Puts (views.build_released at) view = Good (past.offered offer.released)
    Puts (views.verify_asked at p payload) view = Good (past.offered offer.verifying) × Good (past.bound p payload)
    Puts (views.ancestry_asked at missing) view = Good (past.asked missing)
    Puts (views.certify_asked at handle) view = Good (past.certifying handle)
    Puts (views.certify_waited at) view = ⊤
    Puts (views.voted_notarize at p) view = Good past.voted_notarize
    Puts (views.voted_nullify at) view = at ≡ view → Good past.voted_nullify
    Puts (views.voted_finalize at p) view = Good past.voted_finalize
    Puts (views.recalled_notarize p taken) view = Good past.voted_notarize × Good (past.offered (offer.recorded p)) × ((payload : D) → Good (past.bound p payload))
    Puts (views.recalled_nullify at) view = at ≡ view → Good past.voted_nullify
    Puts (views.recalled_finalize p) view = Good past.voted_finalize
    Puts (views.recalled_verdict at ok) view = Good (past.judged ok)
    Puts (views.sent k at) view = Good (sent_item k)
    Puts (views.polled now) view = Good (past.polled (past.deadline now s.timeout_retry))
    Puts views.pruned view = ⊤

    abbrev pub AllPut : List (views.Point S D P G C) → ℕ → Type 0
    AllPut [] view = ⊤
    AllPut (q ∷ points) view = Puts q view × AllPut points view

    enter-good : (low now at : ℕ) (t : ℕ → List (past.Item S D P G C)) (view : ℕ) → Enters now → AreGood (t view) → AreGood (enter s low now at t view)
    enter-good low now at t view new good =
        let armed : past.Item S D P G C = past.armed (past.deadline now s.leader_timeout) (past.deadline now s.certification_timeout) (later now s.stall_timeout) in
        either-seen (nat_lt low at) (put at armed (put at (past.entered now) t)) t view
        (put-good at armed (put at (past.entered now) t) view (λ e. new.1) (put-good at (past.entered now) t view (λ e. new.0) good)) good

    pub seen-good : (q : views.Point S D P G C) (h : List (views.Point S D P G C)) (view : ℕ) → Puts q view → AreGood (seen s h view) → AreGood (seen s (q ∷ h) view)
    seen-good (views.started now payload) h view new good = enter-good (current s h) now 1 (seen s h) view new good
    seen-good (views.based floor) h view new good = good
    seen-good (views.notarized c) h view new good = put-good c.proposal.round.view (past.notarized c) (seen s h) view (λ e. new) good
    seen-good (views.nullified now c) h view new good = put-good c.round.view (past.nullified c) (enter s (current s h) now (next_term_start s.length c.round.view) (seen s h)) view (λ e. new.0)
        (enter-good (current s h) now (next_term_start s.length c.round.view) (seen s h) view new.1 good)
    seen-good (views.finalized now c) h view new good = put-good c.proposal.round.view (past.finalized c) (enter s (current s h) now (c.proposal.round.view + 1) (seen s h)) view (λ e. new.0)
        (enter-good (current s h) now (c.proposal.round.view + 1) (seen s h) view new.1 good)
    seen-good (views.judged now at true) h view new good = enter-good (current s h) now (at + 1) (put at (past.judged true) (seen s h)) view new.1 (put-good at (past.judged true) (seen s h) view (λ e. new.0) good)
    seen-good (views.judged now at false) h view new good =
        let judged = put-good at (past.judged false) (seen s h) view (λ e. new.0) good in
        either-seen (nat_le (current s h) at) (put at (past.latched now reason.FailedCertification) (put at (past.judged false) (seen s h))) (put at (past.judged false) (seen s h)) view
        (put-good at (past.latched now reason.FailedCertification) (put at (past.judged false) (seen s h)) view new.1 judged) judged
    seen-good (views.forwarded at p) h view new good = either-seen (past.has_nullified (seen s h at)) (seen s h) (put at (past.offered (offer.forwarded p)) (seen s h)) view good
        (put-good at (past.offered (offer.forwarded p)) (seen s h) view (λ e. new) good)
    seen-good (views.built now p payload) h view new good = put-good p.round.view (past.bound p payload) (put p.round.view (past.built now p) (seen s h)) view (λ e. new.1)
        (put-good p.round.view (past.built now p) (seen s h) view (λ e. new.0) good)
    seen-good (views.confirmed at) h view new good = either-seen (past.has_nullified (seen s h at)) (seen s h) (put at (past.offered offer.confirmed) (seen s h)) view good
        (put-good at (past.offered offer.confirmed) (seen s h) view (λ e. new) good)
    seen-good (views.unbound at) h view new good = put-good at past.unbound (seen s h) view (λ e. new) good
    seen-good (views.latched now at why) h view new good = put-good at (past.latched now why) (seen s h) view new good
    seen-good (views.build_asked at) h view new good = put-good at (past.offered offer.building) (seen s h) view (λ e. new) good
    seen-good (views.build_released at) h view new good = put-good at (past.offered offer.released) (seen s h) view (λ e. new) good
    seen-good (views.verify_asked at p payload) h view new good = put-good at (past.bound p payload) (put at (past.offered offer.verifying) (seen s h)) view (λ e. new.1)
        (put-good at (past.offered offer.verifying) (seen s h) view (λ e. new.0) good)
    seen-good (views.ancestry_asked at missing) h view new good = put-good at (past.asked missing) (seen s h) view (λ e. new) good
    seen-good (views.certify_asked at handle) h view new good = put-good at (past.certifying handle) (seen s h) view (λ e. new) good
    seen-good (views.certify_waited at) h view new good = good
    seen-good (views.voted_notarize at p) h view new good = put-good at past.voted_notarize (seen s h) view (λ e. new) good
    seen-good (views.voted_nullify at) h view new good = put-good at past.voted_nullify (seen s h) view new good
    seen-good (views.voted_finalize at p) h view new good = put-good at past.voted_finalize (seen s h) view (λ e. new) good
    seen-good (views.recalled_notarize p true) h view new good = bind-good (undecided_payload (seen s h p.parent)) p (put p.round.view past.voted_notarize (put p.round.view (past.offered (offer.recorded p)) (seen s h))) view new.2
        (put-good p.round.view past.voted_notarize (put p.round.view (past.offered (offer.recorded p)) (seen s h)) view (λ e. new.0) (put-good p.round.view (past.offered (offer.recorded p)) (seen s h) view (λ e. new.1) good))
    seen-good (views.recalled_notarize p false) h view new good = bind-good (undecided_payload (seen s h p.parent)) p (put p.round.view past.voted_notarize (seen s h)) view new.2
        (put-good p.round.view past.voted_notarize (seen s h) view (λ e. new.0) good)
    seen-good (views.recalled_nullify at) h view new good = put-good at past.voted_nullify (seen s h) view new good
    seen-good (views.recalled_finalize p) h view new good = put-good p.round.view past.voted_finalize (seen s h) view (λ e. new) good
    seen-good (views.recalled_verdict at ok) h view new good = put-good at (past.judged ok) (seen s h) view (λ e. new) good
    seen-good (views.sent k at) h view new good = put-good at (sent_item k) (seen s h) view (λ e. new) good
    seen-good (views.polled now) h view new good = either-seen (nat_lt 0 (current s h)) (put (current s h) (past.polled (past.deadline now s.timeout_retry)) (seen s h)) (seen s h) view
        (put-good (current s h) (past.polled (past.deadline now s.timeout_retry)) (seen s h) view (λ e. new) good) good
    seen-good views.pruned h view new good = either-good (nat_lt view (min_active s h)) [] (seen s h view) tt good

    -- behind points of which each puts what is good, what is seen is good where it was before
    pub all-seen-good : (points h : List (views.Point S D P G C)) (view : ℕ) → AllPut points view → AreGood (seen s h view) → AreGood (seen s (points ++ h) view)
    all-seen-good [] h view new good = good
    all-seen-good (q ∷ points) h view new good = seen-good q (points ++ h) view new.0 (all-seen-good points h view new.1 good)

-- what is good is so by a weaker measure
pub good-weaker : {S D P G C : Type 0} (Good Fair : past.Item S D P G C → Type 0) → ((x : past.Item S D P G C) → Good x → Fair x) → (items : List (past.Item S D P G C)) → AreGood Good items → AreGood Fair items
good-weaker Good Fair weaker [] good = tt
good-weaker Good Fair weaker (x ∷ items) good = (weaker x good.0, good-weaker Good Fair weaker items good.1)
