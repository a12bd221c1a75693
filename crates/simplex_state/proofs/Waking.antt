-- After which points something may be to ask for a view's verdict that wasn't before.
use Rattle.std.proofs.Common.{◌≡◌, ◌≢◌, ◌⊎◌, inl, inr, true, false, ℕ, List, [], ◌∷◌, ◌++◌, refl, sym, ◌∙◌, ap, subst, ◌+◌, ◌<◌, ◌≤◌, ◌^◌, arith, if◌then◌else◌}
use mathlib.Core.Bool.{true≢false}
use Rattle.std.proofs.lemmas.Bool.{cases_eq, or_left, or_right}
use Rattle.std.proofs.lemmas.Bool.Decides.{nat_tests, Decides-eqb}
use Rattle.std.proofs.lemmas.Option.{none-some, same_Some}
use Rattle.std.specs.Prelude.{◌==◌, ◌||◌, nat_lt, nat_le, Bool, Contains, Option, Some, None, is_some, IsSome, IsTrue, option_map, ⊤}
use Rattle.std.specs.Option.{option_or}
use Rattle.std.specs.Ordering.{nat_cmp}
use Rattle.std.specs.BTreeSet.{BTreeSet, contains}
use Rattle.types_core.specs.declared.proposal.Proposal.{Proposal}
use Rattle.types_quorum.specs.Counting.{Contains-nil, Contains-cases}
use Rattle.types_core.specs.Positions.{next_term_start, term_start}
use Rattle.messages_certificates.specs.ProposalCertificate.{Notarization, Finalization}
use Rattle.messages_certificates.specs.Artifact.{artifact_round}
use Rattle.messages_certificates.specs.declared.artifact.Artifact.{Artifact}
use Rattle.messages_certificates.specs.declared.artifact.Artifact.TheVariants as artifact
use Rattle.types_terms.specs.declared.kind.Kind.TheVariants as kind
use Rattle.voter_history.specs.Held as offer
use Rattle.voter_history.specs.Held.{held}
use Rattle.voter_history.specs.Past as past
use Rattle.voter_history.specs.Past.{Item}
use Rattle.voter_history.specs.Pasts.{put, bind}
use Rattle.voter_history.specs.History.{Setup, Point, started, based, notarized, nullified, finalized, judged, forwarded, built, confirmed, unbound, latched, build_asked, build_released, verify_asked, ancestry_asked, certify_asked, certify_waited, voted_notarize, voted_nullify, voted_finalize, recalled_notarize, recalled_nullify, recalled_finalize, recalled_verdict, sent, polled, pruned, enter, undecided_payload, current, last_finalized, min_active, genesis, is_marked, seen}
use Rattle.voter_history.specs.Known.{known, waits}
use Rattle.voter_views.specs.Views.{recalls}
use Rattle.voter_rules.specs.Ancestry.{member, explicit, IsRequired, IsSpan}
use Rattle.voter_rules.specs.Requests.{MayBeAsked}
use Rattle.simplex_state.specs.declared.state.certifying.Verdicts.{Verdicts}
use Rattle.simplex_state.specs.Candidates.{AreAll, AreAmong, IsWoken, put_off}

-- of two options the one that a test takes is there
choose_some : {D : Type 0} (b : Bool) (g g' c c' : Option D) → (b ≡ true → g' ≡ g) → c' ≡ c → IsSome (if b then g' else c') → IsSome (if b then g else c)
choose_some {D = D} true g g' c c' start rest some = subst (λ (o : Option D). IsSome o) (start refl) some
choose_some {D = D} false g g' c c' start rest some = subst (λ (o : Option D). IsSome o) rest some

module _ {S D P G C : Type 0} where
  -- the view of which a point tells something that verdicts rest on: the start, a certificate, a verdict or a proposal
  abbrev pub told : Point S D P G C → Option ℕ
  told (started now payload) = Some 0
  told (notarized c) = Some c.proposal.round.view
  told (finalized now c) = Some c.proposal.round.view
  told (judged now view ok) = Some view
  told (forwarded view p) = Some view
  told (built now p payload) = Some p.round.view
  told (recalled_notarize p taken) = Some p.round.view
  told (recalled_verdict view ok) = Some view
  told x = None

  -- an item stands in what happened to a view behind such a point alone, if verdicts rest on it
  abbrev IsAllowed : Point S D P G C → ℕ → Item S D P G C → Type 0
  IsAllowed x view (past.notarized c) = (told x ≡ Some view) × (c.proposal.round.view ≡ view)
  IsAllowed x view (past.finalized c) = told x ≡ Some view
  IsAllowed x view (past.judged ok) = told x ≡ Some view
  IsAllowed x view (past.built moment p) = told x ≡ Some view
  IsAllowed x view (past.offered (offer.forwarded p)) = told x ≡ Some view
  IsAllowed x view (past.offered (offer.certified p)) = told x ≡ Some view
  IsAllowed x view (past.offered (offer.recorded p)) = told x ≡ Some view
  IsAllowed x view y = ⊤

  -- what happened to a view, and then more, each allowed by the point
  data Grows (x : Point S D P G C) (view : ℕ) (old : List (Item S D P G C)) : List (Item S D P G C) → Type 0 where
    still : Grows x view old old
    more : {new : List (Item S D P G C)} (y : Item S D P G C) → IsAllowed x view y → Grows x view old new → Grows x view old (y ∷ new)

  module _ (s : Setup S C) (x : Point S D P G C) (view : ℕ) (old : List (Item S D P G C)) where
    choose_grows : (b : Bool) (t u : ℕ → List (Item S D P G C)) → Grows x view old (t view) → Grows x view old (u view) → Grows x view old ((if b then t else u) view)
    choose_grows true t u one other = one
    choose_grows false t u one other = other

    put_grows : (at : ℕ) (y : Item S D P G C) (t : ℕ → List (Item S D P G C)) → (at ≡ view → IsAllowed x view y) → Grows x view old (t view) → Grows x view old (put at y t view)
    put_grows at y t why g = by (at == view) (λ here. why ((Decides-eqb at view).0 here))
      where
        by : (b : Bool) → (b ≡ true → IsAllowed x view y) → Grows x view old (if b then y ∷ t view else t view)
        by true f = more y (f refl) g
        by false f = g

    enter_grows : (current_view now at : ℕ) (t : ℕ → List (Item S D P G C)) → Grows x view old (t view) → Grows x view old (enter s current_view now at t view)
    enter_grows current_view now at t g =
        choose_grows (nat_lt current_view at) _ t
        (put_grows at (past.armed (past.deadline now s.leader_timeout) (past.deadline now s.certification_timeout) _) (put at (past.entered now) t) (λ here. tt) (put_grows at (past.entered now) t (λ here. tt) g)) g

    bind_grows : (o : Option D) (p : Proposal D) (t : ℕ → List (Item S D P G C)) → Grows x view old (t view) → Grows x view old (bind o p t view)
    bind_grows None p t g = g
    bind_grows (Some payload) p t g = put_grows p.round.view (past.bound p payload) t (λ here. tt) g

  -- a point leaves what is known of a view, as long as it drops none
  abbrev StaysKept : Setup S C → List (Point S D P G C) → ℕ → Point S D P G C → Type 0
  StaysKept s h view pruned = min_active s h ≤ view
  StaysKept s h view x = ⊤

  stays_kept : (s : Setup S C) (h : List (Point S D P G C)) (view : ℕ) (x : Point S D P G C) → last_finalized h ≤ view → StaysKept s h view x
  stays_kept s h view pruned from = omega (arith, from)
  stays_kept s h view x from = tt

  -- each point adds what it allows
  grows : (s : Setup S C) (h : List (Point S D P G C)) (view : ℕ) (x : Point S D P G C) → StaysKept s h view x → Grows x view (seen s h view) (seen s (x ∷ h) view)
  grows s h view (started now payload) kept = enter_grows s (started now payload) view _ (current s h) now 1 (seen s h) still
  grows s h view (notarized c) kept = put_grows s (notarized c) view _ c.proposal.round.view (past.notarized c) (seen s h) (λ here. (ap Some here, here)) still
  grows s h view (nullified now c) kept =
      let entered : ℕ → List (Item S D P G C) = enter s (current s h) now (next_term_start s.length c.round.view) (seen s h) in
      put_grows s (nullified now c) view _ c.round.view (past.nullified c) entered (λ here. tt)
      (enter_grows s (nullified now c) view _ (current s h) now (next_term_start s.length c.round.view) (seen s h) still)
  grows s h view (finalized now c) kept =
      let entered : ℕ → List (Item S D P G C) = enter s (current s h) now (c.proposal.round.view + 1) (seen s h) in
      put_grows s (finalized now c) view _ c.proposal.round.view (past.finalized c) entered (λ here. ap Some here)
      (enter_grows s (finalized now c) view _ (current s h) now (c.proposal.round.view + 1) (seen s h) still)
  grows s h view (judged now at true) kept =
      enter_grows s (judged now at true) view _ (current s h) now (at + 1) (put at (past.judged true) (seen s h))
      (put_grows s (judged now at true) view _ at (past.judged true) (seen s h) (λ here. ap Some here) still)
  grows s h view (judged now at false) kept =
      choose_grows s (judged now at false) view _ (nat_le (current s h) at) (put at (past.latched now _) (put at (past.judged false) (seen s h))) (put at (past.judged false) (seen s h))
      (put_grows s (judged now at false) view _ at (past.latched now _) (put at (past.judged false) (seen s h)) (λ here. tt) once) once
    where
      once : Grows (judged now at false) view (seen s h view) (put at (past.judged false) (seen s h) view)
      once = put_grows s (judged now at false) view _ at (past.judged false) (seen s h) (λ here. ap Some here) still
  grows s h view (forwarded at p) kept =
      choose_grows s (forwarded at p) view _ (past.has_nullified (seen s h at)) (seen s h) (put at (past.offered (offer.forwarded p)) (seen s h)) still
      (put_grows s (forwarded at p) view _ at (past.offered (offer.forwarded p)) (seen s h) (λ here. ap Some here) still)
  grows s h view (built now p payload) kept =
      put_grows s (built now p payload) view _ p.round.view (past.bound p payload) (put p.round.view (past.built now p) (seen s h)) (λ here. tt)
      (put_grows s (built now p payload) view _ p.round.view (past.built now p) (seen s h) (λ here. ap Some here) still)
  grows s h view (confirmed at) kept =
      choose_grows s (confirmed at) view _ (past.has_nullified (seen s h at)) (seen s h) (put at (past.offered offer.confirmed) (seen s h)) still
      (put_grows s (confirmed at) view _ at (past.offered offer.confirmed) (seen s h) (λ here. tt) still)
  grows s h view (unbound at) kept = put_grows s (unbound at) view _ at past.unbound (seen s h) (λ here. tt) still
  grows s h view (latched now at why) kept = put_grows s (latched now at why) view _ at (past.latched now why) (seen s h) (λ here. tt) still
  grows s h view (build_asked at) kept = put_grows s (build_asked at) view _ at (past.offered offer.building) (seen s h) (λ here. tt) still
  grows s h view (build_released at) kept = put_grows s (build_released at) view _ at (past.offered offer.released) (seen s h) (λ here. tt) still
  grows s h view (verify_asked at p payload) kept =
      put_grows s (verify_asked at p payload) view _ at (past.bound p payload) (put at (past.offered offer.verifying) (seen s h)) (λ here. tt)
      (put_grows s (verify_asked at p payload) view _ at (past.offered offer.verifying) (seen s h) (λ here. tt) still)
  grows s h view (ancestry_asked at missing) kept = put_grows s (ancestry_asked at missing) view _ at (past.asked missing) (seen s h) (λ here. tt) still
  grows s h view (certify_asked at handle) kept = put_grows s (certify_asked at handle) view _ at (past.certifying handle) (seen s h) (λ here. tt) still
  grows s h view (based at) kept = still
  grows s h view (certify_waited at) kept = still
  grows s h view (voted_notarize at p) kept = put_grows s (voted_notarize at p) view _ at past.voted_notarize (seen s h) (λ here. tt) still
  grows s h view (voted_nullify at) kept = put_grows s (voted_nullify at) view _ at past.voted_nullify (seen s h) (λ here. tt) still
  grows s h view (voted_finalize at p) kept = put_grows s (voted_finalize at p) view _ at past.voted_finalize (seen s h) (λ here. tt) still
  grows s h view (recalled_notarize p taken) kept =
      bind_grows s (recalled_notarize p taken) view _ (undecided_payload (seen s h p.parent)) p (put p.round.view past.voted_notarize (with taken))
      (put_grows s (recalled_notarize p taken) view _ p.round.view past.voted_notarize (with taken) (λ here. tt) (recorded_as taken))
    where
      with : Bool → ℕ → List (Item S D P G C)
      with b = if b then put p.round.view (past.offered (offer.recorded p)) (seen s h) else seen s h

      recorded_as : (b : Bool) → Grows (recalled_notarize p taken) view (seen s h view) ((if b then put p.round.view (past.offered (offer.recorded p)) (seen s h) else seen s h) view)
      recorded_as true = put_grows s (recalled_notarize p taken) view _ p.round.view (past.offered (offer.recorded p)) (seen s h) (λ here. ap Some here) still
      recorded_as false = still
  grows s h view (recalled_nullify at) kept = put_grows s (recalled_nullify at) view _ at past.voted_nullify (seen s h) (λ here. tt) still
  grows s h view (recalled_finalize p) kept = put_grows s (recalled_finalize p) view _ p.round.view past.voted_finalize (seen s h) (λ here. tt) still
  grows s h view (recalled_verdict at ok) kept = put_grows s (recalled_verdict at ok) view _ at (past.judged ok) (seen s h) (λ here. ap Some here) still
  grows s h view (sent kind.Notarization at) kept = put_grows s (sent kind.Notarization at) view _ at past.sent_notarization (seen s h) (λ here. tt) still
  grows s h view (sent kind.Nullification at) kept = put_grows s (sent kind.Nullification at) view _ at past.sent_nullification (seen s h) (λ here. tt) still
  grows s h view (sent kind.Finalization at) kept = put_grows s (sent kind.Finalization at) view _ at past.sent_finalization (seen s h) (λ here. tt) still
  grows s h view (polled now) kept =
      choose_grows s (polled now) view _ (nat_lt 0 (current s h)) (put (current s h) (past.polled (past.deadline now s.timeout_retry)) (seen s h)) (seen s h)
      (put_grows s (polled now) view _ (current s h) (past.polled (past.deadline now s.timeout_retry)) (seen s h) (λ here. tt) still) still
  grows s h view pruned kept = unforgotten (nat_lt view (min_active s h)) (grind (arith, nat_tests, kept))
    where
      unforgotten : (b : Bool) → b ≡ false → Grows pruned view (seen s h view) (if b then [] else seen s h view)
      unforgotten true stays = absurd (true≢false stays)
      unforgotten false stays = still

  -- the payload of the held proposal, where it is finalized or its verdict true
  abbrev certified : List (Item S D P G C) → Option D
  certified l =
      if is_some (option_map (λ (c : Finalization S D P G C). c.proposal) (past.finalization l)) || past.verdict_is_true (past.verdict l)
      then option_map (λ (p : Proposal D). p.payload) (held (past.offers l)) else None

  -- of what verdicts rest on nothing came
  record IsQuiet (old new : List (Item S D P G C)) : Type 0 where
    notarization : past.notarization new ≡ past.notarization old
    verdict : past.verdict new ≡ past.verdict old
    certified : certified new ≡ certified old
    asked : past.is_certify_asked new ≡ false → past.is_certify_asked old ≡ false
    voted : past.has_notarized old ≡ true → past.has_notarized new ≡ true

  quiet_more : (x : Point S D P G C) (view : ℕ) (old new : List (Item S D P G C)) (y : Item S D P G C) → told x ≢ Some view → IsAllowed x view y → IsQuiet old new → IsQuiet old (y ∷ new)
  quiet_more x view old new (past.notarized c) silent why q = absurd (silent why.0)
  quiet_more x view old new (past.finalized c) silent why q = absurd (silent why)
  quiet_more x view old new (past.judged ok) silent why q = absurd (silent why)
  quiet_more x view old new (past.built moment p) silent why q = absurd (silent why)
  quiet_more x view old new (past.offered (offer.forwarded p)) silent why q = absurd (silent why)
  quiet_more x view old new (past.offered (offer.certified p)) silent why q = absurd (silent why)
  quiet_more x view old new (past.offered (offer.recorded p)) silent why q = absurd (silent why)
  quiet_more x view old new (past.certifying handle) silent why q = record { notarization = q.notarization; verdict = q.verdict; certified = q.certified; asked = λ never. absurd (true≢false never); voted = q.voted }
  quiet_more x view old new past.aborted silent why q = record { notarization = q.notarization; verdict = q.verdict; certified = q.certified; asked = λ never. absurd (true≢false never); voted = q.voted }
  quiet_more x view old new past.voted_notarize silent why q = record { notarization = q.notarization; verdict = q.verdict; certified = q.certified; asked = q.asked; voted = λ before. refl }
  quiet_more x view old new y silent why q = record { notarization = q.notarization; verdict = q.verdict; certified = q.certified; asked = q.asked; voted = q.voted }

  quiet : {x : Point S D P G C} {view : ℕ} {old new : List (Item S D P G C)} → told x ≢ Some view → Grows x view old new → IsQuiet old new
  quiet silent still = record { notarization = refl; verdict = refl; certified = refl; asked = λ a. a; voted = λ a. a }
  quiet {x = x} {view = view} {old = old} silent (more {new = new} y why g) = quiet_more x view old new y silent why (quiet silent g)

  -- a notarization stands at its view
  abbrev pub AreAt : ℕ → List (Item S D P G C) → Type 0
  AreAt view l = (c : Notarization S D P G C) → past.notarization l ≡ Some c → c.proposal.round.view ≡ view

  first_or : (o : Option (Notarization S D P G C)) (d c : Notarization S D P G C) → option_or o (Some d) ≡ Some c → (o ≡ Some c) ⊎ (d ≡ c)
  first_or None d c is = inr (same_Some d c is)
  first_or (Some e) d c is = inl is

  at_more : (x : Point S D P G C) (view : ℕ) (l : List (Item S D P G C)) (y : Item S D P G C) → IsAllowed x view y → AreAt view l → AreAt view (y ∷ l)
  at_more x view l (past.notarized d) why at = λ c is. elim (first_or (past.notarization l) d c is) [
    | inl before ↦ at c before
    | inr here ↦ subst (λ (z : Notarization S D P G C). z.proposal.round.view ≡ view) here why.1
  ]
  at_more x view l y why at = at

  at_grown : {x : Point S D P G C} {view : ℕ} {old new : List (Item S D P G C)} → Grows x view old new → AreAt view old → AreAt view new
  at_grown still at = at
  at_grown {x = x} {view = view} (more {new = new} y why g) at = at_more x view new y why (at_grown g at)

  at_unless : (view : ℕ) (b : Bool) (l : List (Item S D P G C)) → AreAt view l → AreAt view (if b then [] else l)
  at_unless view true l at = λ c is. absurd (none-some c is)
  at_unless view false l at = at

  pub at_view : (s : Setup S C) (h : List (Point S D P G C)) (view : ℕ) → AreAt view (seen s h view)
  at_view s [] view = λ c is. absurd (none-some c is)
  at_view s (pruned ∷ h) view = at_unless view (nat_lt view (min_active s h)) (seen s h view) (at_view s h view)
  at_view s (x ∷ h) view = at_grown (grows s h view x tt) (at_view s h view)

  -- what a view is notarized for is a proposal of that view
  pub notarized_at : (s : Setup S C) (h : List (Point S D P G C)) (view : ℕ) (p : Proposal D) → option_map (λ (c : Notarization S D P G C). c.proposal) (past.notarization (seen s h view)) ≡ Some p
      → p.round.view ≡ view
  notarized_at s h view p is = by (past.notarization (seen s h view)) is (at_view s h view)
    where
      by : (o : Option (Notarization S D P G C)) → option_map (λ (c : Notarization S D P G C). c.proposal) o ≡ Some p → ((c : Notarization S D P G C) → o ≡ Some c → c.proposal.round.view ≡ view) → p.round.view ≡ view
      by None none at = absurd (none-some p none)
      by (Some c) some at = subst (λ (q : Proposal D). q.round.view ≡ view) (same_Some c.proposal p some) (at c refl)

  rises : (x : Point S D P G C) (h : List (Point S D P G C)) → last_finalized h ≤ last_finalized (x ∷ h)
  rises (finalized now c) h = omega arith
  rises x h = omega arith

  -- the payload at the start stays
  genesis_stays : (x : Point S D P G C) (h : List (Point S D P G C)) → told x ≢ Some 0 → genesis (x ∷ h) ≡ genesis h
  genesis_stays (started now payload) h silent = absurd (silent refl)
  genesis_stays x h silent = refl

  -- a mark stays on a view that is kept
  mark_stays : (s : Setup S C) (x : Point S D P G C) (h : List (Point S D P G C)) (view : ℕ) → StaysKept s h view x → is_marked s waits h view ≡ true → is_marked s waits (x ∷ h) view ≡ true
  mark_stays s pruned h view kept marked = unforgotten (nat_lt view (min_active s h)) (grind (arith, nat_tests, kept))
    where
      unforgotten : (b : Bool) → b ≡ false → (if b then false else is_marked s waits h view) ≡ true
      unforgotten true stays = absurd (true≢false stays)
      unforgotten false stays = marked
  mark_stays s x h view kept marked = or_right (waits x view) (is_marked s waits h view) marked

  module _ (s : Setup S C) (h : List (Point S D P G C)) (x : Point S D P G C) (view : ℕ) (p : Proposal D) (may : MayBeAsked (member s) (known s (x ∷ h)) view p)
      (own : told x ≢ Some view) (before : (u : ℕ) → view ≡ u + 1 → told x ≢ Some u) where
    from : (u : ℕ) → view ≤ u + 1 → last_finalized h ≤ u
    from u near = omega (arith, near, rises x h, may.opens.above)

    here : IsQuiet (seen s h view) (seen s (x ∷ h) view)
    here = quiet own (grows s h view x (stays_kept s h view x (from view (omega arith))))

    spans : (required : ℕ) → IsRequired (member s) (known s h) view p.parent required → IsSpan (member s) (known s h) view p.parent
    spans required asked = elim (cases_eq view (term_start s.length view)) [
      | inl start ↦
          let early = asked.early start in
          record {
            below = may.opens.below;
            above = let least = from required (omega (arith, asked.next)) in omega (arith, least, early.0);
            next = inl start;
            covered = λ u after under. absurd (omega (arith, after, under, asked.next, early.0));
          }
      | inr inside ↦
          let span = may.opens.span required (record { next = asked.next; early = λ start. absurd (inside start) }) in
          let next : view ≡ p.parent + 1 = elim span.next [ inl start ↦ absurd (inside start) | inr next ↦ next ] in
          record {
            below = may.opens.below;
            above = omega (arith, rises x h, span.above);
            next = inr next;
            covered = λ u after under. absurd (omega (arith, after, under, next));
          }
    ]

    explicit_before : (u : ℕ) → view ≡ u + 1 → IsSome (explicit (member s) (known s (x ∷ h)) u) → IsSome (explicit (member s) (known s h) u)
    explicit_before u next some =
        let parent : IsQuiet (seen s h u) (seen s (x ∷ h) u) = quiet (before u next) (grows s h u x (stays_kept s h u x (from u (omega (arith, next))))) in
        choose_some (u == 0) (genesis h) (genesis (x ∷ h)) (certified (seen s h u)) (certified (seen s (x ∷ h) u))
        (λ start. genesis_stays x h (λ is. before u next (is ∙ ap Some (sym ((Decides-eqb u 0).0 start))))) parent.certified some

    -- what may be to ask behind a point that tells nothing of the view and the one before was before it
    asked_before : MayBeAsked (member s) (known s h) view p
    asked_before = record {
      opens = record {
        room = may.opens.room;
        above = let rise = rises x h in omega (arith, rise, may.opens.above);
        notarized = ap (λ (o : Option (Notarization S D P G C)). option_map (λ (c : Notarization S D P G C). c.proposal) o) (sym here.notarization) ∙ may.opens.notarized;
        without = sym here.verdict ∙ may.opens.without;
        first = here.asked may.opens.first;
        below = may.opens.below;
        span = spans;
      };
      woken = λ waited required asked. explicit_before required asked.next
          (may.woken (mark_stays s x h view (stays_kept s h view x (from view (omega arith))) waited) required
          (record { next = asked.next; early = λ start. let early = asked.early start in (early.0, early.1, here.voted early.2) }));
    }

  -- so those for whose verdicts something may be to ask stay among the views, where those of which a point tells come in
  rouse : (s : Setup S C) (h : List (Point S D P G C)) (x : Point S D P G C) (was now : BTreeSet ℕ) → AreAmong s h was
      → ((u : ℕ) → IsTrue (contains nat_cmp was u) → IsTrue (contains nat_cmp now u))
      → ((u : ℕ) → told x ≡ Some u → IsTrue (contains nat_cmp now u) × ((w : ℕ) → w ≡ u + 1 → w < 2 ^ 64 → IsTrue (contains nat_cmp now w)))
      → AreAmong s (x ∷ h) now
  rouse s h x was now among kept woken = record { all = λ view p fits may. by view p fits may (told x) refl }
    where
      by : (view : ℕ) (p : Proposal D) → view < 2 ^ 64 → MayBeAsked (member s) (known s (x ∷ h)) view p → (o : Option ℕ) → told x ≡ o → IsTrue (contains nat_cmp now view)
      by view p fits may None is = kept view (among.all view p fits (asked_before s h x view p may (λ there. none-some view (sym is ∙ there)) (λ u next there. none-some u (sym is ∙ there))))
      by view p fits may (Some u) is = elim (cases_eq view u) [
        | inl same ↦ subst (λ (v : ℕ). IsTrue (contains nat_cmp now v)) (sym same) (woken u is).0
        | inr apart ↦ elim (cases_eq view (u + 1)) [
          | inl next ↦ (woken u is).1 view next fits
          | inr far ↦ kept view (among.all view p fits (asked_before s h x view p may
              (λ there. apart (sym (same_Some u view (sym is ∙ there))))
              (λ w next there. far (next ∙ ap (λ n. n + 1) (sym (same_Some u w (sym is ∙ there)))))))
        ]
      ]

  module _ (s : Setup S C) (h : List (Point S D P G C)) where
    -- they do behind a point that tells nothing
    pub stays : (x : Point S D P G C) (views : BTreeSet ℕ) → told x ≡ None → AreAmong s h views → AreAmong s (x ∷ h) views
    stays x views silent among = rouse s h x views views among (λ u there. there) (λ u is. absurd (none-some u (sym silent ∙ is)))

    pub stays_if : (b : Bool) (x : Point S D P G C) (views : BTreeSet ℕ) → told x ≡ None → AreAmong s h views → AreAmong s (if b then x ∷ h else h) views
    stays_if true x views silent among = stays x views silent among
    stays_if false x views silent among = among

    -- and behind one that tells of a view that was woken
    pub wakes : (x : Point S D P G C) (was now : BTreeSet ℕ) (view : ℕ) → ((u : ℕ) → told x ≡ Some u → u ≡ view) → IsWoken was now view → AreAmong s h was → AreAmong s (x ∷ h) now
    wakes x was now view tells woken among = rouse s h x was now among woken.kept
        (λ u is. (subst (λ (v : ℕ). IsTrue (contains nat_cmp now v)) (sym (tells u is)) woken.own, λ w next fits. woken.behind w (next ∙ ap (λ n. n + 1) (tells u is)) fits))

    pub wakes_if : (b : Bool) (x : Point S D P G C) (was now : BTreeSet ℕ) (view : ℕ) → told x ≡ Some view → IsWoken was now view → AreAmong s h was → AreAmong s (if b then x ∷ h else h) now
    wakes_if true x was now view tells woken among = wakes x was now view (λ u is. sym (same_Some view u (sym tells ∙ is))) woken among
    wakes_if false x was now view tells woken among = record { all = λ v p fits may. woken.kept v (among.all v p fits may) }

  -- what is known where verdicts were put off
  module _ (s : Setup S C) where
    pub put_off_seen : (views : List ℕ) (h : List (Point S D P G C)) → seen s (put_off views h) ≡ seen s h
    put_off_seen [] h = refl
    put_off_seen (v ∷ views) h = put_off_seen views (certify_waited v ∷ h)

    put_off_genesis : (views : List ℕ) (h : List (Point S D P G C)) → genesis (put_off views h) ≡ genesis h
    put_off_genesis [] h = refl
    put_off_genesis (v ∷ views) h = put_off_genesis views (certify_waited v ∷ h)

    put_off_explicit : (views : List ℕ) (h : List (Point S D P G C)) (u : ℕ) → explicit (member s) (known s (put_off views h)) u ≡ explicit (member s) (known s h) u
    put_off_explicit views h u = rw (put_off_seen views h, put_off_genesis views h) refl

    put_off_mark : (views : List ℕ) (h : List (Point S D P G C)) (view : ℕ) → is_marked s waits h view ≡ true → is_marked s waits (put_off views h) view ≡ true
    put_off_mark [] h view marked = marked
    put_off_mark (v ∷ views) h view marked = put_off_mark views (certify_waited v ∷ h) view (mark_stays s (certify_waited v) h view tt marked)

    put_off_marks : (views : List ℕ) (h : List (Point S D P G C)) (view : ℕ) → Contains views view → is_marked s waits (put_off views h) view ≡ true
    put_off_marks [] h view there = absurd (Contains-nil view there)
    put_off_marks (v ∷ views) h view there = elim (Contains-cases v views view there) [
      | inl first ↦ put_off_mark views (certify_waited v ∷ h) view (or_left (v == view) (is_marked s waits h view) ((Decides-eqb v view).1 first))
      | inr later ↦ put_off_marks views (certify_waited v ∷ h) view later
    ]

    put_off_before : (views : List ℕ) (h : List (Point S D P G C)) (view : ℕ) (p : Proposal D) → MayBeAsked (member s) (known s (put_off views h)) view p → MayBeAsked (member s) (known s h) view p
    put_off_before [] h view p may = may
    put_off_before (v ∷ views) h view p may =
        asked_before s h (certify_waited v) view p (put_off_before views (certify_waited v ∷ h) view p may) (λ there. none-some view there) (λ u next there. none-some u there)

    -- something may be to ask only where a verdict was
    pub kept_among : (h : List (Point S D P G C)) (v : Verdicts D) (views : BTreeSet ℕ) → AreAll (member s) (known s h) v → ((p : Proposal D) → Contains v.ready.items p → IsTrue (contains nat_cmp views p.round.view))
        → AreAmong s (put_off v.put_off.items h) views
    kept_among h v views all kept = record {
      all = λ view p fits may. elim (all.sorted view p (put_off_before v.put_off.items h view p may)) [
        | inl ready ↦ subst (λ (u : ℕ). IsTrue (contains nat_cmp views u)) ready.2 (kept ready.0 ready.1)
        | inr waiting ↦
            let is = (all.put_off.exact view).0 waiting in
            let one : is.1.waits.proposal ≡ p = same_Some is.1.waits.proposal p (sym is.1.waits.opens.notarized ∙ (put_off_before v.put_off.items h view p may).opens.notarized) in
            let asked : IsRequired (member s) (known s h) view p.parent is.0 = subst (λ (q : Proposal D). IsRequired (member s) (known s h) view q.parent is.0) one is.1.waits.requires_it in
            let some = may.woken (put_off_marks v.put_off.items h view waiting) is.0 (record {
              next = asked.next;
              early = λ start. let early = asked.early start in (early.0, early.1, ap (λ (t : ℕ → List (Item S D P G C)). past.has_notarized (t view)) (put_off_seen v.put_off.items h) ∙ early.2);
            }) in
            absurd (true≢false (sym some ∙ ap is_some (put_off_explicit v.put_off.items h is.0 ∙ is.1.waits.missing)))
      ];
    }

  pub put_off_push : (views : List ℕ) (view : ℕ) (h : List (Point S D P G C)) → put_off (views ++ view ∷ []) h ≡ certify_waited view ∷ put_off views h
  put_off_push [] view h = refl
  put_off_push (v ∷ views) view h = put_off_push views view (certify_waited v ∷ h)

  -- an artifact of the record tells nothing of another view than its own
  pub recall_tells : (taken : Bool) (a : Artifact S D P G C) (u : ℕ) → told (recalls taken a) ≡ Some u → u ≡ (artifact_round a).view
  recall_tells taken (artifact.Notarize v) u is = sym (same_Some v.proposal.round.view u is)
  recall_tells taken (artifact.Certification round ok) u is = sym (same_Some round.view u is)
  recall_tells taken a u is = absurd (none-some u is)

  -- for none where nothing happened
  pub none_among : (s : Setup S C) (views : BTreeSet ℕ) → AreAmong {D = D} {P = P} {G = G} s [] views
  none_among s views = record { all = λ view p fits may. absurd (none-some p may.opens.notarized) }
