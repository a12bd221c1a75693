-- Each proposal that a view was offered lies in it.
use Rattle.std.proofs.Common.{◌≡◌, true, false, ℕ, List, [], ◌∷◌, sym, ◌∙◌, ap, ◌+◌, if◌then◌else◌}
use Rattle.std.proofs.lemmas.Option.{none-some, same_Some}
use Rattle.std.specs.Prelude.{nat_lt, nat_le, Bool, Option, Some, None, ⊤}
use Rattle.std.specs.Option.{option_or}
use Rattle.types_core.specs.declared.position.Round.{Round}
use Rattle.types_core.specs.declared.proposal.Proposal.{Proposal}
use Rattle.types_core.specs.Positions.{next_term_start}
use Rattle.types_terms.specs.declared.kind.Kind.TheVariants as kind
use Rattle.voter_history.specs.Held as offer
use Rattle.voter_history.specs.Held.{held}
use Rattle.voter_history.specs.Past as past
use Rattle.voter_history.specs.Past.{Item, offers}
use Rattle.voter_history.specs.Pasts.{put}
use Rattle.voter_history.specs.History.{Setup, Point, started, based, notarized, nullified, finalized, judged, forwarded, built, confirmed, unbound, latched, build_asked, build_released, verify_asked, ancestry_asked, certify_asked, certify_waited, voted_notarize, voted_nullify, voted_finalize, recalled_notarize, recalled_nullify, recalled_finalize, recalled_verdict, sent, polled, pruned, enter, undecided_payload, current, min_active, seen}
use Rattle.voter_laws.specs.Matching.{round_of}
use Rattle.voter_laws.specs.Placing.{AreOfTheirViews, HeldLiesInItsView}
use Rattle.voter_laws.specs.Steps.{choose_holds, put_holds, enter_holds, bind_holds}

-- a round is known by its epoch and its view
round_by : (x : Round) (epoch view : ℕ) → x.epoch ≡ epoch → x.view ≡ view → x ≡ record { epoch = epoch; view = view }
round_by x epoch view e v = λ i. record { epoch = e i; view = v i }

-- of two proposals one is held: that which was, or this one
first_held : {D : Type 0} (r : Round) (o : Option (Proposal D)) (q p : Proposal D) → ((x : Proposal D) → o ≡ Some x → x.round ≡ r) → q.round ≡ r → option_or o (Some q) ≡ Some p → p.round ≡ r
first_held r None q p before here is = ap (λ (x : Proposal _). x.round) (sym (same_Some q p is)) ∙ here
first_held r (Some x) q p before here is = before p is

module _ {S D P G C : Type 0} (s : Setup S C) (view : ℕ) where
  -- what an item offers lies in the view
  abbrev IsPlaced : Item S D P G C → Type 0
  IsPlaced (past.offered (offer.forwarded p)) = p.round ≡ round_of s view
  IsPlaced (past.offered (offer.certified p)) = p.round ≡ round_of s view
  IsPlaced (past.offered (offer.recorded p)) = p.round ≡ round_of s view
  IsPlaced (past.built moment p) = p.round ≡ round_of s view
  IsPlaced (past.notarized c) = c.proposal.round ≡ round_of s view
  IsPlaced (past.finalized c) = c.proposal.round ≡ round_of s view
  IsPlaced x = ⊤

  abbrev ArePlaced : List (Item S D P G C) → Type 0
  ArePlaced [] = ⊤
  ArePlaced (x ∷ l) = IsPlaced x × ArePlaced l

  -- so one more does
  adds : (at : ℕ) (x : Item S D P G C) (t : ℕ → List (Item S D P G C)) → (at ≡ view → IsPlaced x) → ArePlaced (t view) → ArePlaced (put at x t view)
  adds at x t why are = put_holds ArePlaced view at x t (λ here before. (why here, before)) are

  enters : (now at : ℕ) (h : List (Point S D P G C)) (t : ℕ → List (Item S D P G C)) → ArePlaced (t view) → ArePlaced (enter s (current s h) now at t view)
  enters now at h t are = enter_holds ArePlaced view s (current s h) now at t (λ moment leader certification stall l before. (tt, (tt, before))) are

  forgets : (b : Bool) (l : List (Item S D P G C)) → ArePlaced l → ArePlaced (if b then [] else l)
  forgets true l are = tt
  forgets false l are = are

  placed : (h : List (Point S D P G C)) → AreOfTheirViews s h → ArePlaced (seen s h view)
  placed [] are = tt
  placed (started now payload ∷ h) are = enters now 1 h (seen s h) (placed h are.1)
  placed (notarized c ∷ h) are = adds c.proposal.round.view (past.notarized c) (seen s h) (λ here. round_by c.proposal.round s.epoch view are.0 here) (placed h are.1)
  placed (nullified now c ∷ h) are =
      let entered : ℕ → List (Item S D P G C) = enter s (current s h) now (next_term_start s.length c.round.view) (seen s h) in
      adds c.round.view (past.nullified c) entered (λ here. tt) (enters now (next_term_start s.length c.round.view) h (seen s h) (placed h are.1))
  placed (finalized now c ∷ h) are =
      let entered : ℕ → List (Item S D P G C) = enter s (current s h) now (c.proposal.round.view + 1) (seen s h) in
      adds c.proposal.round.view (past.finalized c) entered (λ here. round_by c.proposal.round s.epoch view are.0 here) (enters now (c.proposal.round.view + 1) h (seen s h) (placed h are.1))
  placed (judged now at true ∷ h) are =
      enters now (at + 1) h (put at (past.judged true) (seen s h)) (adds at (past.judged true) (seen s h) (λ here. tt) (placed h are.1))
  placed (judged now at false ∷ h) are =
      choose_holds ArePlaced view (nat_le (current s h) at) (put at (past.latched now _) (put at (past.judged false) (seen s h))) (put at (past.judged false) (seen s h))
      (adds at (past.latched now _) (put at (past.judged false) (seen s h)) (λ here. tt) (once (placed h are.1))) (once (placed h are.1))
    where
      once : ArePlaced (seen s h view) → ArePlaced (put at (past.judged false) (seen s h) view)
      once before = adds at (past.judged false) (seen s h) (λ here. tt) before
  placed (forwarded at p ∷ h) are =
      choose_holds ArePlaced view (past.has_nullified (seen s h at)) (seen s h) (put at (past.offered (offer.forwarded p)) (seen s h)) (placed h are.1)
      (adds at (past.offered (offer.forwarded p)) (seen s h) (λ here. are.0 ∙ ap (λ (v : ℕ). round_of s v) here) (placed h are.1))
  placed (built now p payload ∷ h) are =
      adds p.round.view (past.bound p payload) (put p.round.view (past.built now p) (seen s h)) (λ here. tt)
      (adds p.round.view (past.built now p) (seen s h) (λ here. round_by p.round s.epoch view are.0 here) (placed h are.1))
  placed (confirmed at ∷ h) are =
      choose_holds ArePlaced view (past.has_nullified (seen s h at)) (seen s h) (put at (past.offered offer.confirmed) (seen s h)) (placed h are.1)
      (adds at (past.offered offer.confirmed) (seen s h) (λ here. tt) (placed h are.1))
  placed (unbound at ∷ h) are = adds at past.unbound (seen s h) (λ here. tt) (placed h are.1)
  placed (latched now at why ∷ h) are = adds at (past.latched now why) (seen s h) (λ here. tt) (placed h are.1)
  placed (build_asked at ∷ h) are = adds at (past.offered offer.building) (seen s h) (λ here. tt) (placed h are.1)
  placed (build_released at ∷ h) are = adds at (past.offered offer.released) (seen s h) (λ here. tt) (placed h are.1)
  placed (verify_asked at p payload ∷ h) are =
      adds at (past.bound p payload) (put at (past.offered offer.verifying) (seen s h)) (λ here. tt) (adds at (past.offered offer.verifying) (seen s h) (λ here. tt) (placed h are.1))
  placed (ancestry_asked at missing ∷ h) are = adds at (past.asked missing) (seen s h) (λ here. tt) (placed h are.1)
  placed (certify_asked at handle ∷ h) are = adds at (past.certifying handle) (seen s h) (λ here. tt) (placed h are.1)
  placed (based at ∷ h) are = placed h are.1
  placed (certify_waited at ∷ h) are = placed h are.1
  placed (voted_notarize at p ∷ h) are = adds at past.voted_notarize (seen s h) (λ here. tt) (placed h are.1)
  placed (voted_nullify at ∷ h) are = adds at past.voted_nullify (seen s h) (λ here. tt) (placed h are.1)
  placed (voted_finalize at p ∷ h) are = adds at past.voted_finalize (seen s h) (λ here. tt) (placed h are.1)
  placed (recalled_notarize p taken ∷ h) are =
      bind_holds ArePlaced view (undecided_payload (seen s h p.parent)) p (put p.round.view past.voted_notarize (with taken)) (λ payload before. (tt, before))
      (adds p.round.view past.voted_notarize (with taken) (λ here. tt)
      (choose_holds ArePlaced view taken (put p.round.view (past.offered (offer.recorded p)) (seen s h)) (seen s h)
      (adds p.round.view (past.offered (offer.recorded p)) (seen s h) (λ here. round_by p.round s.epoch view are.0 here) (placed h are.1)) (placed h are.1)))
    where
      with : Bool → ℕ → List (Item S D P G C)
      with b = if b then put p.round.view (past.offered (offer.recorded p)) (seen s h) else seen s h
  placed (recalled_nullify at ∷ h) are = adds at past.voted_nullify (seen s h) (λ here. tt) (placed h are.1)
  placed (recalled_finalize p ∷ h) are = adds p.round.view past.voted_finalize (seen s h) (λ here. tt) (placed h are.1)
  placed (recalled_verdict at ok ∷ h) are = adds at (past.judged ok) (seen s h) (λ here. tt) (placed h are.1)
  placed (sent kind.Notarization at ∷ h) are = adds at past.sent_notarization (seen s h) (λ here. tt) (placed h are.1)
  placed (sent kind.Nullification at ∷ h) are = adds at past.sent_nullification (seen s h) (λ here. tt) (placed h are.1)
  placed (sent kind.Finalization at ∷ h) are = adds at past.sent_finalization (seen s h) (λ here. tt) (placed h are.1)
  placed (polled now ∷ h) are =
      choose_holds ArePlaced view (nat_lt 0 (current s h)) (put (current s h) (past.polled (past.deadline now s.timeout_retry)) (seen s h)) (seen s h)
      (adds (current s h) (past.polled (past.deadline now s.timeout_retry)) (seen s h) (λ here. tt) (placed h are.1)) (placed h are.1)
  placed (pruned ∷ h) are = forgets (nat_lt view (min_active s h)) (seen s h view) (placed h are.1)

  held_placed : (l : List (Item S D P G C)) (p : Proposal D) → ArePlaced l → held (offers l) ≡ Some p → p.round ≡ round_of s view
  held_placed [] p are is = absurd (none-some p is)
  held_placed (past.offered (offer.forwarded q) ∷ l) p are is = first_held (round_of s view) (held (offers l)) q p (λ x there. held_placed l x are.1 there) are.0 is
  held_placed (past.offered (offer.certified q) ∷ l) p are is = ap (λ (x : Proposal D). x.round) (sym (same_Some q p is)) ∙ are.0
  held_placed (past.offered (offer.recorded q) ∷ l) p are is = ap (λ (x : Proposal D). x.round) (sym (same_Some q p is)) ∙ are.0
  held_placed (past.built moment q ∷ l) p are is = ap (λ (x : Proposal D). x.round) (sym (same_Some q p is)) ∙ are.0
  held_placed (past.notarized c ∷ l) p are is = ap (λ (x : Proposal D). x.round) (sym (same_Some c.proposal p is)) ∙ are.0
  held_placed (past.finalized c ∷ l) p are is = ap (λ (x : Proposal D). x.round) (sym (same_Some c.proposal p is)) ∙ are.0
  held_placed (past.offered offer.confirmed ∷ l) p are is = held_placed l p are.1 is
  held_placed (past.offered offer.building ∷ l) p are is = held_placed l p are.1 is
  held_placed (past.offered offer.released ∷ l) p are is = held_placed l p are.1 is
  held_placed (past.offered offer.verifying ∷ l) p are is = held_placed l p are.1 is
  held_placed (x ∷ l) p are is = held_placed l p are.1 is

pub held_lies_in_its_view : {S D P G C : Type 0} → HeldLiesInItsView S D P G C
held_lies_in_its_view s h view p are is = held_placed s view (seen s h view) p (placed s view h are) is
