-- What is found good was bound: of what happened to one view.
use Rattle.std.proofs.Common.{◌≡◌, ◌⊎◌, inl, inr, ⊎_elim, ℕ, zero, suc, ◌+◌, ◌≤◌, ◌==◌, Bool, true, false, List, [], ◌∷◌, ◌++◌, Option, Some, None, refl, ◌∙◌, ap, subst, arith}
use Rattle.std.specs.Prelude.{IsSome, if◌then◌else◌, nat_lt, nat_le, ⊤}
use Rattle.std.specs.Option.{option_or}
use Rattle.std.proofs.lemmas.Bool.{eqb-true, le-ltb}
use Rattle.std.proofs.lemmas.Option.{none-some}
use Rattle.types_core.specs.declared.proposal.Proposal.{Proposal}
use Rattle.types_terms.specs.declared.kind.Kind.TheVariants as kind
use Rattle.types_core.specs.Positions.{next_term_start}
use Rattle.voter_history.specs.declared.timeout_reason.TimeoutReason.TheVariants as reason
use Rattle.voter_history.specs.Held as offer
use Rattle.voter_history.specs.Held.{held, IsConfirmed, IsVerifyAsked}
use Rattle.voter_history.specs.Past as past
use Rattle.voter_history.specs.Past.{Item}
use Rattle.voter_history.specs.Leaders.{extend}
use Rattle.voter_history.specs.Pasts.{bind, put}
use Rattle.voter_history.specs.History as views
use Rattle.voter_history.specs.History.{started, based, notarized, nullified, finalized, judged, forwarded, built, confirmed, unbound, latched, build_asked, build_released, verify_asked, ancestry_asked, certify_asked, certify_waited, voted_notarize, voted_nullify, voted_finalize, recalled_notarize, recalled_nullify, recalled_finalize, recalled_verdict, sent, polled, pruned, current, enter, later, min_active, seen, undecided_payload}
use Rattle.voter_history.specs.Leaders.{inherits, leader, named, named_early}
use Rattle.simplex_member.proofs.Rising.{all-rise}
use Rattle.simplex_member.proofs.Lists.{some-is}

or-some : {X : Type 0} (o : Option X) (p q : X) → option_or o (Some p) ≡ Some q → (o ≡ Some q) ⊎ (p ≡ q)
or-some None p q e = inr (some-is p q e)
or-some (Some x) p q e = inl e

extend-known : (here : ℕ → Option ℕ) (from : ℕ → Bool) (known : ℕ → Option ℕ) (view i : ℕ) → known view ≡ Some i → extend here from known view ≡ Some i
extend-known here from known zero i e = e
extend-known here from known (suc w) i e = ap (λ (o : Option ℕ). option_or o (option_or (here (suc w)) (if from (suc w) then extend here from known w else None))) e

-- of a view, while a check of its proposal is under way or not, by all that happened to it
pub record Inv {S D P G C : Type 0} (Pending : Type 0) (In : Proposal D → Type 0) (x : List (Item S D P G C)) : Type 0 where
  -- what is checked was asked for, and so was what is found good
  pub asked : Pending → IsVerifyAsked (past.offers x)
  pub confirmed_asked : IsConfirmed (past.offers x) → IsVerifyAsked (past.offers x)
  -- while it is checked it is not found good, unless it was voted for
  pub unconfirmed : Pending → IsConfirmed (past.offers x) → past.has_notarized x ≡ true
  -- what is found good was voted for or is bound, and what is checked is bound
  pub bound : IsConfirmed (past.offers x) → (past.has_notarized x ≡ true) ⊎ IsSome (past.binding x)
  pub binds : Pending → IsSome (past.binding x)
  -- the held proposal lies in the view, as far as that is asked
  pub in_view : (p : Proposal D) → held (past.offers x) ≡ Some p → In p

module _ {S D P G C : Type 0} where
  pub inv-nil : (Pending : Type 0) (In : Proposal D → Type 0) → (Pending → ⊥) → Inv {S = S} {D = D} {P = P} {G = G} {C = C} Pending In []
  inv-nil Pending In none = record { asked = λ p. absurd (none p); confirmed_asked = λ c. absurd c; unconfirmed = λ p. absurd (none p); bound = λ c. absurd c; binds = λ p. absurd (none p); in_view = λ p e. absurd (none-some p e) }

  pub inv-less : (Pending Less : Type 0) (In : Proposal D → Type 0) (x : List (Item S D P G C)) → (Less → Pending) → Inv Pending In x → Inv Less In x
  inv-less Pending Less In x less i = record { asked = λ p. i.asked (less p); confirmed_asked = i.confirmed_asked; unconfirmed = λ p. i.unconfirmed (less p); bound = i.bound; binds = λ p. i.binds (less p); in_view = i.in_view }

  -- an item that changes nothing of it
  abbrev Fits : (Proposal D → Type 0) → Item S D P G C → Type 0
  Fits In (past.offered (offer.forwarded p)) = In p
  Fits In (past.offered (offer.certified p)) = ⊥
  Fits In (past.offered (offer.recorded p)) = ⊥
  Fits In (past.offered offer.confirmed) = ⊥
  Fits In (past.built moment p) = ⊥
  Fits In (past.notarized c) = In c.proposal
  Fits In (past.finalized c) = In c.proposal
  Fits In past.unbound = ⊥
  Fits In y = ⊤

  module _ (Pending : Type 0) (In : Proposal D → Type 0) (view : ℕ) (into : (p : Proposal D) → p.round.view ≡ view → In p) where
    inv-item : (y : Item S D P G C) (x : List (Item S D P G C)) → Fits In y → Inv Pending In x → Inv Pending In (y ∷ x)
    inv-item (past.offered (offer.forwarded p)) x fits i = record {
      asked = i.asked;
      confirmed_asked = i.confirmed_asked;
      unconfirmed = i.unconfirmed;
      bound = i.bound;
      binds = i.binds;
      in_view = λ q e. ⊎_elim (λ old. i.in_view q old) (λ new. subst In new fits) (or-some (held (past.offers x)) p q e);
    }
    inv-item (past.offered (offer.certified p)) x fits i = absurd fits
    inv-item (past.offered (offer.recorded p)) x fits i = absurd fits
    inv-item (past.offered offer.confirmed) x fits i = absurd fits
    inv-item (past.offered offer.verifying) x fits i = record { asked = λ p. tt; confirmed_asked = λ c. tt; unconfirmed = i.unconfirmed; bound = i.bound; binds = i.binds; in_view = i.in_view }
    inv-item (past.built moment p) x fits i = absurd fits
    inv-item (past.notarized c) x fits i = record {
      asked = λ p. inl (i.asked p);
      confirmed_asked = λ s. inl (i.confirmed_asked s);
      unconfirmed = i.unconfirmed;
      bound = i.bound;
      binds = i.binds;
      in_view = λ q e. subst In (some-is c.proposal q e) fits;
    }
    inv-item (past.finalized c) x fits i = record {
      asked = λ p. inl (i.asked p);
      confirmed_asked = λ s. inl (i.confirmed_asked s);
      unconfirmed = i.unconfirmed;
      bound = i.bound;
      binds = i.binds;
      in_view = λ q e. subst In (some-is c.proposal q e) fits;
    }
    inv-item past.unbound x fits i = absurd fits
    inv-item past.voted_notarize x fits i = record { asked = i.asked; confirmed_asked = i.confirmed_asked; unconfirmed = λ p c. refl; bound = λ c. inl refl; binds = i.binds; in_view = i.in_view }
    inv-item (past.bound p payload) x fits i = record { asked = i.asked; confirmed_asked = i.confirmed_asked; unconfirmed = i.unconfirmed; bound = λ c. inr refl; binds = λ p. refl; in_view = i.in_view }
    inv-item y x fits i = record { asked = i.asked; confirmed_asked = i.confirmed_asked; unconfirmed = i.unconfirmed; bound = i.bound; binds = i.binds; in_view = i.in_view }

    put-inv : (at : ℕ) (y : Item S D P G C) (t : ℕ → List (Item S D P G C)) → (at ≡ view → Fits In y) → Inv Pending In (t view) → Inv Pending In (put at y t view)
    put-inv at y t fits i = go (at == view) (eqb-true at view)
      where
        go : (b : Bool) → (b ≡ true → at ≡ view) → Inv Pending In (if b then y ∷ t view else t view)
        go true is = inv-item y (t view) (fits (is refl)) i
        go false is = i

    choose-inv : (b : Bool) (t u : ℕ → List (Item S D P G C)) → Inv Pending In (t view) → Inv Pending In (u view) → Inv Pending In ((if b then t else u) view)
    choose-inv true t u one other = one
    choose-inv false t u one other = other

    enter-inv : (v : views.Setup S C) (now_at now at : ℕ) (t : ℕ → List (Item S D P G C)) → Inv Pending In (t view) → Inv Pending In (enter v now_at now at t view)
    enter-inv v now_at now at t i = choose-inv (nat_lt now_at at) (put at (past.armed (past.deadline now v.leader_timeout) (past.deadline now v.certification_timeout) (later now v.stall_timeout)) (put at (past.entered now) t)) t
        (put-inv at (past.armed (past.deadline now v.leader_timeout) (past.deadline now v.certification_timeout) (later now v.stall_timeout)) (put at (past.entered now) t) (λ e. tt) (put-inv at (past.entered now) t (λ e. tt) i)) i

    bind-inv : (o : Option D) (p : Proposal D) (t : ℕ → List (Item S D P G C)) → Inv Pending In (t view) → Inv Pending In (bind o p t view)
    bind-inv None p t i = i
    bind-inv (Some d) p t i = put-inv p.round.view (past.bound p d) t (λ e. tt) i

    -- an own vote that is recalled, with its proposal or without
    recall-inv : (p : Proposal D) (taken : Bool) (t : ℕ → List (Item S D P G C)) → Inv Pending In (t view)
        → Inv Pending In (put p.round.view past.voted_notarize (if taken then put p.round.view (past.offered (offer.recorded p)) t else t) view)
    recall-inv p false t i = put-inv p.round.view past.voted_notarize t (λ e. tt) i
    recall-inv p true t i = go (p.round.view == view) (eqb-true p.round.view view)
      where
        go : (b : Bool) → (b ≡ true → p.round.view ≡ view) → Inv Pending In (if b then past.voted_notarize ∷ (if b then past.offered (offer.recorded p) ∷ t view else t view) else (if b then past.offered (offer.recorded p) ∷ t view else t view))
        go true is = record {
          asked = λ x. tt;
          confirmed_asked = λ c. tt;
          unconfirmed = λ x c. refl;
          bound = λ c. inl refl;
          binds = i.binds;
          in_view = λ q e. subst In (some-is p q e) (into p (is refl));
        }
        go false is = i

    -- an own proposal that is built, where nothing is checked
    pub built-inv : (now : ℕ) (p : Proposal D) (payload : D) (t : ℕ → List (Item S D P G C)) → (p.round.view ≡ view → Pending → ⊥) → Inv Pending In (t view)
        → Inv Pending In (put p.round.view (past.bound p payload) (put p.round.view (past.built now p) t) view)
    built-inv now p payload t none i = go (p.round.view == view) (eqb-true p.round.view view)
      where
        go : (b : Bool) → (b ≡ true → p.round.view ≡ view) → Inv Pending In (if b then past.bound p payload ∷ (if b then past.built now p ∷ t view else t view) else (if b then past.built now p ∷ t view else t view))
        go true is = record {
          asked = λ x. tt;
          confirmed_asked = λ c. tt;
          unconfirmed = λ x. absurd (none (is refl) x);
          bound = λ c. inr refl;
          binds = λ x. refl;
          in_view = λ q e. subst In (some-is p q e) (into p (is refl));
        }
        go false is = i

    -- a check that is asked for, the first of its view
    pub verify-inv : (More : Type 0) (at : ℕ) (p : Proposal D) (payload : D) (t : ℕ → List (Item S D P G C)) → (at ≡ view → IsVerifyAsked (past.offers (t view)) → ⊥) → ((at == view) ≡ false → More → Pending) → Inv Pending In (t view)
        → Inv More In (put at (past.bound p payload) (put at (past.offered offer.verifying) t) view)
    verify-inv More at p payload t first less i = go (at == view) (eqb-true at view) less
      where
        go : (b : Bool) → (b ≡ true → at ≡ view) → (b ≡ false → More → Pending) → Inv More In (if b then past.bound p payload ∷ (if b then past.offered offer.verifying ∷ t view else t view) else (if b then past.offered offer.verifying ∷ t view else t view))
        go true is less = record {
          asked = λ x. tt;
          confirmed_asked = λ c. tt;
          unconfirmed = λ x c. absurd (first (is refl) (i.confirmed_asked c));
          bound = λ c. inr refl;
          binds = λ x. refl;
          in_view = i.in_view;
        }
        go false is less = inv-less Pending More In (t view) (less refl) i

    -- a check that ends: it is found good, or what it was bound to fell
    pub confirm-inv : (Less : Type 0) (at : ℕ) (given_up : Bool) (t : ℕ → List (Item S D P G C)) → (at ≡ view → Pending × (Less → ⊥)) → (Less → Pending) → Inv Pending In (t view)
        → Inv Less In ((if given_up then t else put at (past.offered offer.confirmed) t) view)
    confirm-inv Less at true t ends less i = inv-less Pending Less In (t view) less i
    confirm-inv Less at false t ends less i = go (at == view) (eqb-true at view)
      where
        go : (b : Bool) → (b ≡ true → at ≡ view) → Inv Less In (if b then past.offered offer.confirmed ∷ t view else t view)
        go true is = let end = ends (is refl) in record {
          asked = λ x. absurd (end.1 x);
          confirmed_asked = λ c. i.asked end.0;
          unconfirmed = λ x. absurd (end.1 x);
          bound = λ c. inr (i.binds end.0);
          binds = λ x. absurd (end.1 x);
          in_view = i.in_view;
        }
        go false is = inv-less Pending Less In (t view) less i

    pub unbind-inv : (Less : Type 0) (at : ℕ) (t : ℕ → List (Item S D P G C)) → (at ≡ view → Pending × (Less → ⊥)) → (Less → Pending) → Inv Pending In (t view) → Inv Less In (put at past.unbound t view)
    unbind-inv Less at t ends less i = go (at == view) (eqb-true at view)
      where
        go : (b : Bool) → (b ≡ true → at ≡ view) → Inv Less In (if b then past.unbound ∷ t view else t view)
        go true is = let end = ends (is refl) in record {
          asked = λ x. absurd (end.1 x);
          confirmed_asked = i.confirmed_asked;
          unconfirmed = λ x. absurd (end.1 x);
          bound = λ c. inl (i.unconfirmed end.0 c);
          binds = λ x. absurd (end.1 x);
          in_view = i.in_view;
        }
        go false is = inv-less Pending Less In (t view) less i

    -- ---- points of the voter that change nothing of it

    abbrev pub IsPlain : views.Point S D P G C → Type 0
    IsPlain (forwarded at p) = at ≡ view → In p
    IsPlain (built now p payload) = ⊥
    IsPlain (confirmed at) = ⊥
    IsPlain (unbound at) = ⊥
    IsPlain (verify_asked at p payload) = ⊥
    IsPlain x = ⊤

    plain-inv : (v : views.Setup S C) (x : views.Point S D P G C) (h : List (views.Point S D P G C)) → IsPlain x → min_active v (x ∷ h) ≤ view → Inv Pending In (seen v h view) → Inv Pending In (seen v (x ∷ h) view)
    plain-inv v (started now payload) h fits kept i = enter-inv v (current v h) now 1 (seen v h) i
    plain-inv v (based floor) h fits kept i = i
    plain-inv v (notarized c) h fits kept i = put-inv c.proposal.round.view (past.notarized c) (seen v h) (λ e. into c.proposal e) i
    plain-inv v (nullified now c) h fits kept i = put-inv c.round.view (past.nullified c) (enter v (current v h) now (next_term_start v.length c.round.view) (seen v h)) (λ e. tt) (enter-inv v (current v h) now (next_term_start v.length c.round.view) (seen v h) i)
    plain-inv v (finalized now c) h fits kept i = put-inv c.proposal.round.view (past.finalized c) (enter v (current v h) now (c.proposal.round.view + 1) (seen v h)) (λ e. into c.proposal e) (enter-inv v (current v h) now (c.proposal.round.view + 1) (seen v h) i)
    plain-inv v (judged now at true) h fits kept i = enter-inv v (current v h) now (at + 1) (put at (past.judged true) (seen v h)) (put-inv at (past.judged true) (seen v h) (λ e. tt) i)
    plain-inv v (judged now at false) h fits kept i =
        let put_ = put-inv at (past.judged false) (seen v h) (λ e. tt) i in
        choose-inv (nat_le (current v h) at) (put at (past.latched now reason.FailedCertification) (put at (past.judged false) (seen v h))) (put at (past.judged false) (seen v h)) (put-inv at (past.latched now reason.FailedCertification) (put at (past.judged false) (seen v h)) (λ e. tt) put_) put_
    plain-inv v (forwarded at p) h fits kept i = choose-inv (past.has_nullified (seen v h at)) (seen v h) (put at (past.offered (offer.forwarded p)) (seen v h)) i (put-inv at (past.offered (offer.forwarded p)) (seen v h) fits i)
    plain-inv v (built now p payload) h fits kept i = absurd fits
    plain-inv v (confirmed at) h fits kept i = absurd fits
    plain-inv v (unbound at) h fits kept i = absurd fits
    plain-inv v (latched now at why) h fits kept i = put-inv at (past.latched now why) (seen v h) (λ e. tt) i
    plain-inv v (build_asked at) h fits kept i = put-inv at (past.offered offer.building) (seen v h) (λ e. tt) i
    plain-inv v (build_released at) h fits kept i = put-inv at (past.offered offer.released) (seen v h) (λ e. tt) i
    plain-inv v (verify_asked at p payload) h fits kept i = absurd fits
    plain-inv v (ancestry_asked at missing) h fits kept i = put-inv at (past.asked missing) (seen v h) (λ e. tt) i
    plain-inv v (certify_asked at handle) h fits kept i = put-inv at (past.certifying handle) (seen v h) (λ e. tt) i
    plain-inv v (certify_waited at) h fits kept i = i
    plain-inv v (voted_notarize at p) h fits kept i = put-inv at past.voted_notarize (seen v h) (λ e. tt) i
    plain-inv v (voted_nullify at) h fits kept i = put-inv at past.voted_nullify (seen v h) (λ e. tt) i
    plain-inv v (voted_finalize at p) h fits kept i = put-inv at past.voted_finalize (seen v h) (λ e. tt) i
    plain-inv v (recalled_notarize p taken) h fits kept i = bind-inv (undecided_payload (seen v h p.parent)) p (put p.round.view past.voted_notarize (if taken then put p.round.view (past.offered (offer.recorded p)) (seen v h) else seen v h)) (recall-inv p taken (seen v h) i)
    plain-inv v (recalled_nullify at) h fits kept i = put-inv at past.voted_nullify (seen v h) (λ e. tt) i
    plain-inv v (recalled_finalize p) h fits kept i = put-inv p.round.view past.voted_finalize (seen v h) (λ e. tt) i
    plain-inv v (recalled_verdict at ok) h fits kept i = put-inv at (past.judged ok) (seen v h) (λ e. tt) i
    plain-inv v (sent kind.Notarization at) h fits kept i = put-inv at past.sent_notarization (seen v h) (λ e. tt) i
    plain-inv v (sent kind.Nullification at) h fits kept i = put-inv at past.sent_nullification (seen v h) (λ e. tt) i
    plain-inv v (sent kind.Finalization at) h fits kept i = put-inv at past.sent_finalization (seen v h) (λ e. tt) i
    plain-inv v (polled now) h fits kept i = choose-inv (nat_lt 0 (current v h)) (put (current v h) (past.polled (past.deadline now v.timeout_retry)) (seen v h)) (seen v h) (put-inv (current v h) (past.polled (past.deadline now v.timeout_retry)) (seen v h) (λ e. tt) i) i
    plain-inv v pruned h fits kept i = go (nat_lt view (min_active v h)) (le-ltb view (min_active v h) kept)
      where
        go : (b : Bool) → b ≡ false → Inv Pending In (if b then [] else seen v h view)
        go false e = i
        go true e = absurd (cc e)

    abbrev pub ArePlain : List (views.Point S D P G C) → Type 0
    ArePlain [] = ⊤
    ArePlain (x ∷ xs) = IsPlain x × ArePlain xs

    pub kept-before : (v : views.Setup S C) (x : views.Point S D P G C) (h : List (views.Point S D P G C)) → min_active v (x ∷ h) ≤ view → min_active v h ≤ view
    kept-before v x h kept = let rises = (all-rise v (x ∷ []) h).1 in omega (arith, kept, rises)

    pub all-plain : (v : views.Setup S C) (xs h : List (views.Point S D P G C)) → ArePlain xs → min_active v (xs ++ h) ≤ view → Inv Pending In (seen v h view) → Inv Pending In (seen v (xs ++ h) view)
    all-plain v [] h plain kept i = i
    all-plain v (x ∷ xs) h plain kept i = plain-inv v x (xs ++ h) plain.0 kept (all-plain v xs h plain.1 (kept-before v x (xs ++ h) kept) i)

  -- ---- who leads stays

  pub leader-stays : (v : views.Setup S C) (x : views.Point S D P G C) (h : List (views.Point S D P G C)) (view i : ℕ) → min_active v (x ∷ h) ≤ view → leader v h view ≡ Some i → leader v (x ∷ h) view ≡ Some i
  leader-stays v pruned h view i kept e = ap (λ (b : Bool). if b then None else leader v h view) (le-ltb view (min_active v h) kept) ∙ e
  leader-stays v x h view i kept e = extend-known (λ u. option_or (named v x u) (named_early v (x ∷ h) u)) (inherits v (x ∷ h)) (leader v h) view i e

  pub leader-stays-all : (v : views.Setup S C) (xs h : List (views.Point S D P G C)) (view i : ℕ) → min_active v (xs ++ h) ≤ view → leader v h view ≡ Some i → leader v (xs ++ h) view ≡ Some i
  leader-stays-all v [] h view i kept e = e
  leader-stays-all v (x ∷ xs) h view i kept e = leader-stays v x (xs ++ h) view i kept (leader-stays-all v xs h view i (kept-before ⊤ (λ p. ⊤) view (λ p e. tt) v x (xs ++ h) kept) e)
