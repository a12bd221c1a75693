-- A proposal that was found good is bound, as long as it isn't voted for.
use Rattle.std.proofs.Common.{◌≡◌, ◌≢◌, ◌⊎◌, inl, inr, true, false, ℕ, List, [], ◌∷◌, refl, sym, ◌∙◌, ap, ◌+◌, subst, ⊎_elim, if◌then◌else◌}
use mathlib.Core.Bool.{true≢false}
use Rattle.std.proofs.lemmas.Option.{same_Some}
use Rattle.std.specs.Prelude.{◌==◌, nat_lt, nat_le, Bool, Option, Some, None, IsSome, ⊤}
use Rattle.types_core.specs.declared.proposal.Proposal.{Proposal}
use Rattle.types_core.specs.Positions.{next_term_start}
use Rattle.types_terms.specs.declared.kind.Kind.TheVariants as kind
use Rattle.voter_history.specs.Held as offer
use Rattle.voter_history.specs.Held.{Differs, IsConfirmed, IsTainted, held}
use Rattle.voter_history.specs.Past as past
use Rattle.voter_history.specs.Past.{Item, offers, binding, has_notarized}
use Rattle.voter_history.specs.Pasts.{put, bind}
use Rattle.voter_history.specs.History.{Setup, Point, started, based, notarized, nullified, finalized, judged, forwarded, built, confirmed, unbound, latched, build_asked, build_released, verify_asked, ancestry_asked, certify_asked, certify_waited, voted_notarize, voted_nullify, voted_finalize, recalled_notarize, recalled_nullify, recalled_finalize, recalled_verdict, sent, polled, pruned, enter, undecided_payload, current, min_active, seen}
use Rattle.voter_laws.specs.Placing.{AnswersWereBound, DueNotarizeIsBound}
use Rattle.voter_laws.proofs.Matched.{same_proposal}
use Rattle.voter_laws.proofs.Placed.{held_lies_in_its_view}
use Rattle.voter_laws.specs.Steps.{choose_holds, put_holds, put_both, enter_holds}

module _ {S D P G C : Type 0} (same : (x y : D) → (x ≡ y) ⊎ (x ≢ y)) where
  -- the held proposal is bound
  abbrev HasBinding : List (Item S D P G C) → Type 0
  HasBinding l = (p : Proposal D) × (payload : D) × (held (offers l) ≡ Some p) × (binding l ≡ Some (p, payload))

  -- what was found good, and nothing contradicts, is bound or voted for
  abbrev Stays : List (Item S D P G C) → Type 0
  Stays l = IsConfirmed (offers l) → ¬ IsTainted (offers l) → has_notarized l ≡ false → HasBinding l

  -- a proposal that differs from the held one takes its place only where that taints it
  stays_certified : (l : List (Item S D P G C)) (q : Proposal D) → Stays l → IsConfirmed (offers l) → ¬ (IsTainted (offers l) ⊎ Differs (held (offers l)) q) → has_notarized l ≡ false
      → (p : Proposal D) × (payload : D) × (Some q ≡ Some p) × (binding l ≡ Some (p, payload))
  stays_certified l q was found untainted open_ =
      let (p, payload, there, bound) = was found (λ tainted. untainted (inl tainted)) open_ in
      ⊎_elim
      (λ one. (p, payload, ap (λ (x : Proposal D). Some x) (sym one), bound))
      (λ apart. absurd (untainted (inr (subst (λ (o : Option (Proposal D)). Differs o q) (sym there) apart))))
      (same_proposal same p q)

  -- each item but some leaves that so
  abbrev IsCalm : Item S D P G C → Type 0
  IsCalm (past.offered offer.confirmed) = ⊥
  IsCalm (past.offered (offer.recorded p)) = ⊥
  IsCalm (past.built moment p) = ⊥
  IsCalm (past.bound p payload) = ⊥
  IsCalm past.unbound = ⊥
  IsCalm x = ⊤

  calm : (x : Item S D P G C) (l : List (Item S D P G C)) → IsCalm x → Stays l → Stays (x ∷ l)
  calm (past.offered (offer.forwarded q)) l is was = λ found untainted open_.
      let (p, payload, there, bound) = was found (λ tainted. untainted (inl tainted)) open_ in
      (p, payload, rw there refl, bound)
  calm (past.offered (offer.certified q)) l is was = λ found untainted open_. stays_certified l q was found untainted open_
  calm (past.notarized c) l is was = λ found untainted open_. stays_certified l c.proposal was found untainted open_
  calm (past.finalized c) l is was = λ found untainted open_. stays_certified l c.proposal was found untainted open_
  calm past.voted_notarize l is was = λ found untainted open_. absurd (true≢false open_)
  calm (past.offered offer.confirmed) l never was = absurd never
  calm (past.offered (offer.recorded p)) l never was = absurd never
  calm (past.built moment p) l never was = absurd never
  calm (past.bound p payload) l never was = absurd never
  calm past.unbound l never was = absurd never
  calm (past.offered offer.building) l is was = was
  calm (past.offered offer.released) l is was = was
  calm (past.offered offer.verifying) l is was = was
  calm x l is was = was

  module _ (s : Setup S C) (view : ℕ) where
    adds : (at : ℕ) (x : Item S D P G C) (t : ℕ → List (Item S D P G C)) → IsCalm x → Stays (t view) → Stays (put at x t view)
    adds at x t is was = put_holds Stays view at x t (λ here before. calm x (t view) is before) was

    enters : (now at : ℕ) (h : List (Point S D P G C)) (t : ℕ → List (Item S D P G C)) → Stays (t view) → Stays (enter s (current s h) now at t view)
    enters now at h t was = enter_holds Stays view s (current s h) now at t (λ moment leader certification stall l before. before) was

    forgets : (b : Bool) (l : List (Item S D P G C)) → Stays l → Stays (if b then [] else l)
    forgets true l was = λ never. absurd never
    forgets false l was = was

    stays : (h : List (Point S D P G C)) → AnswersWereBound s h → Stays (seen s h view)
    stays [] were = λ never. absurd never
    stays (started now payload ∷ h) were = enters now 1 h (seen s h) (stays h were)
    stays (notarized c ∷ h) were = adds c.proposal.round.view (past.notarized c) (seen s h) tt (stays h were)
    stays (nullified now c ∷ h) were =
        let entered : ℕ → List (Item S D P G C) = enter s (current s h) now (next_term_start s.length c.round.view) (seen s h) in
        adds c.round.view (past.nullified c) entered tt (enters now (next_term_start s.length c.round.view) h (seen s h) (stays h were))
    stays (finalized now c ∷ h) were =
        let entered : ℕ → List (Item S D P G C) = enter s (current s h) now (c.proposal.round.view + 1) (seen s h) in
        adds c.proposal.round.view (past.finalized c) entered tt (enters now (c.proposal.round.view + 1) h (seen s h) (stays h were))
    stays (judged now at true ∷ h) were = enters now (at + 1) h (put at (past.judged true) (seen s h)) (adds at (past.judged true) (seen s h) tt (stays h were))
    stays (judged now at false ∷ h) were =
        choose_holds Stays view (nat_le (current s h) at) (put at (past.latched now _) (put at (past.judged false) (seen s h))) (put at (past.judged false) (seen s h))
        (adds at (past.latched now _) (put at (past.judged false) (seen s h)) tt (once (stays h were))) (once (stays h were))
      where
        once : Stays (seen s h view) → Stays (put at (past.judged false) (seen s h) view)
        once before = adds at (past.judged false) (seen s h) tt before
    stays (forwarded at p ∷ h) were =
        choose_holds Stays view (past.has_nullified (seen s h at)) (seen s h) (put at (past.offered (offer.forwarded p)) (seen s h)) (stays h were)
        (adds at (past.offered (offer.forwarded p)) (seen s h) tt (stays h were))
    stays (built now p payload ∷ h) were =
        put_both Stays view p.round.view (past.built now p) (past.bound p payload) (seen s h) (λ here before found untainted open_. (p, payload, refl, refl)) (stays h were)
    stays (confirmed at ∷ h) were = by (past.has_nullified (seen s h at)) refl (stays h were.1)
      where
        by : (b : Bool) → past.has_nullified (seen s h at) ≡ b → Stays (seen s h view) → Stays ((if b then seen s h else put at (past.offered offer.confirmed) (seen s h)) view)
        by true is was = was
        by false is was = put_holds Stays view at (past.offered offer.confirmed) (seen s h)
            (λ here before found untainted open_. ⊎_elim
            (λ again. before again untainted open_)
            (λ some. bound_here here some)
            found)
            was
          where
            bound_at : IsSome (held (offers (seen s h at))) → HasBinding (seen s h at)
            bound_at some = of_it (held (offers (seen s h at))) refl some
              where
                of_it : (o : Option (Proposal D)) → held (offers (seen s h at)) ≡ o → IsSome o → HasBinding (seen s h at)
                of_it None none never = absurd (true≢false (sym never))
                of_it (Some p) there some = let bound = were.0 p is there in (p, bound.0, there, bound.1)

            bound_here : at ≡ view → IsSome (held (offers (seen s h view))) → HasBinding (seen s h view)
            bound_here here = subst (λ (v : ℕ). IsSome (held (offers (seen s h v))) → HasBinding (seen s h v)) here bound_at
    stays (unbound at ∷ h) were =
        put_holds Stays view at past.unbound (seen s h)
        (λ here before found untainted open_. absurd (true≢false (sym (subst (λ (v : ℕ). IsConfirmed (offers (seen s h v)) → has_notarized (seen s h v) ≡ true) here were.0 found) ∙ open_)))
        (stays h were.1)
    stays (latched now at why ∷ h) were = adds at (past.latched now why) (seen s h) tt (stays h were)
    stays (build_asked at ∷ h) were = adds at (past.offered offer.building) (seen s h) tt (stays h were)
    stays (build_released at ∷ h) were = adds at (past.offered offer.released) (seen s h) tt (stays h were)
    stays (verify_asked at p payload ∷ h) were =
        put_both Stays view at (past.offered offer.verifying) (past.bound p payload) (seen s h)
        (λ here before found untainted open_. (p, payload, subst (λ (v : ℕ). held (offers (seen s h v)) ≡ Some p) here were.0, refl))
        (stays h were.1)
    stays (ancestry_asked at missing ∷ h) were = adds at (past.asked missing) (seen s h) tt (stays h were)
    stays (certify_asked at handle ∷ h) were = adds at (past.certifying handle) (seen s h) tt (stays h were)
    stays (based at ∷ h) were = stays h were
    stays (certify_waited at ∷ h) were = stays h were
    stays (voted_notarize at p ∷ h) were = adds at past.voted_notarize (seen s h) tt (stays h were)
    stays (voted_nullify at ∷ h) were = adds at past.voted_nullify (seen s h) tt (stays h were)
    stays (voted_finalize at p ∷ h) were = adds at past.voted_finalize (seen s h) tt (stays h were)
    stays (recalled_notarize p taken ∷ h) were = bound_too (undecided_payload (seen s h p.parent)) (voted taken (stays h were))
      where
        voted : (b : Bool) → Stays (seen s h view) → Stays (put p.round.view past.voted_notarize (if b then put p.round.view (past.offered (offer.recorded p)) (seen s h) else seen s h) view)
        voted true was = put_both Stays view p.round.view (past.offered (offer.recorded p)) past.voted_notarize (seen s h) (λ here before found untainted open_. absurd (true≢false open_)) was
        voted false was = adds p.round.view past.voted_notarize (seen s h) tt was

        known : ℕ → List (Item S D P G C)
        known = put p.round.view past.voted_notarize (if taken then put p.round.view (past.offered (offer.recorded p)) (seen s h) else seen s h)

        bound_voted : (payload : D) (b : Bool) (l : List (Item S D P G C)) → Stays (if b then past.voted_notarize ∷ l else l) → Stays (if b then past.bound p payload ∷ (if b then past.voted_notarize ∷ l else l) else (if b then past.voted_notarize ∷ l else l))
        bound_voted payload true l was = λ found untainted open_. absurd (true≢false open_)
        bound_voted payload false l was = was

        bound_too : (o : Option D) → Stays (known view) → Stays (bind o p known view)
        bound_too None was = was
        bound_too (Some payload) was = bound_voted payload (p.round.view == view) ((if taken then put p.round.view (past.offered (offer.recorded p)) (seen s h) else seen s h) view) was
    stays (recalled_nullify at ∷ h) were = adds at past.voted_nullify (seen s h) tt (stays h were)
    stays (recalled_finalize p ∷ h) were = adds p.round.view past.voted_finalize (seen s h) tt (stays h were)
    stays (recalled_verdict at ok ∷ h) were = adds at (past.judged ok) (seen s h) tt (stays h were)
    stays (sent kind.Notarization at ∷ h) were = adds at past.sent_notarization (seen s h) tt (stays h were)
    stays (sent kind.Nullification at ∷ h) were = adds at past.sent_nullification (seen s h) tt (stays h were)
    stays (sent kind.Finalization at ∷ h) were = adds at past.sent_finalization (seen s h) tt (stays h were)
    stays (polled now ∷ h) were =
        choose_holds Stays view (nat_lt 0 (current s h)) (put (current s h) (past.polled (past.deadline now s.timeout_retry)) (seen s h)) (seen s h)
        (adds (current s h) (past.polled (past.deadline now s.timeout_retry)) (seen s h) tt (stays h were)) (stays h were)
    stays (pruned ∷ h) were = forgets (nat_lt view (min_active s h)) (seen s h view) (stays h were)

pub due_notarize_is_bound : {S D P G C : Type 0} → ((x y : D) → (x ≡ y) ⊎ (x ≢ y)) → DueNotarizeIsBound S D P G C
due_notarize_is_bound same s h view p are were due is =
    let (q, payload, there, bound) = stays same s view h were due.verified.1 due.verified.2 due.first in
    let one : q ≡ p = same_Some q p (sym there ∙ is) in
    record {
      held = is;
      at = ap (λ r. r.view) (held_lies_in_its_view s h view p are is);
      payload = payload;
      bound = bound ∙ ap (λ (x : Proposal _). Some (x, payload)) one;
    }
