-- Views that a history didn't come to yet: nothing is seen of them, and no votes of them came up. And whom a member that leads alone knows as
-- leaders: itself, or nobody.
use Rattle.std.proofs.Common.{◌≡◌, ◌⊎◌, inl, inr, ℕ, zero, suc, ◌+◌, ◌<◌, ◌≤◌, ◌-◌, ◌==◌, Bool, true, false, List, [], ◌∷◌, Option, Some, None, refl, sym, ◌∙◌, ap, subst, arith}
use Rattle.std.specs.Prelude.{if◌then◌else◌, nat_le, nat_lt, nat_eq, ◌&&◌, ◌||◌, ⊤}
use Rattle.std.specs.Option.{option_eq, option_or}
use Rattle.std.proofs.lemmas.Bool.{both_ways, eqb-true}
use Rattle.types_core.specs.Positions.{term_start}
use Rattle.simplex_messages.specs.VoteParts.{vote_round}
use Rattle.voter_history.specs.declared.timeout_reason.TimeoutReason.TheVariants as reason
use Rattle.voter_history.specs.Past as past
use Rattle.voter_history.specs.Past.{Item}
use Rattle.voter_history.specs.Pasts.{put}
use Rattle.voter_history.specs.History as views
use Rattle.voter_history.specs.History.{current, enter, last_finalized, later, min_active, seen, sent_item}
use Rattle.voter_history.specs.Leaders.{extend, handoff_leader, inherits, leader, named, named_early}
use Rattle.batcher_verifier.specs.History as votes
use Rattle.batcher_verifier.specs.ConstructionResult.{after}
use Rattle.simplex_member.specs.Layers.{Unopened, all_votes, current_of, floor_of, has_room, opened, opens, stage, votes_of}
use Rattle.simplex_member.specs.Point.{Opened, Began, Built, Judged, Leads, Constructs, AsksBuild, AsksCertify, Votes, Rewrote, History}
use Rattle.simplex_member.specs.Setup.{Setup}

-- a test that two numbers are one, of which the second is greater
chosen-far : {X : Type 0} (at view : ℕ) (a b : X) → at < view → (if at == view then a else b) ≡ b
chosen-far at view a b less = go (at == view) refl
  where
    go : (c : Bool) → (at == view) ≡ c → (if c then a else b) ≡ b
    go true e = absurd (let same = eqb-true at view e in omega (arith, same, less))
    go false e = refl

other-far : (at view : ℕ) → at < view → (at == view) ≡ false
other-far at view less = go (at == view) refl
  where
    go : (c : Bool) → (at == view) ≡ c → c ≡ false
    go true e = absurd (let same = eqb-true at view e in omega (arith, same, less))
    go false e = refl

below : (n at view : ℕ) → n ≤ view → at < n → at < view
below n at view far near = omega (arith, near, far)

closed : (a b c : Bool) → a ≡ false → b ≡ false → ((a || b) && c) ≡ false
closed true b c is also = absurd (both_ways true is refl)
closed false true c is also = absurd (both_ways true also refl)
closed false false c is also = refl

stays : {X : Type 0} (c : Bool) (a b : X) → c ≡ false → (if c then a else b) ≡ b
stays true a b is = absurd (both_ways true is refl)
stays false a b is = refl

either-is : {X : Type 0} (c : Bool) (a b x : X) → a ≡ x → b ≡ x → (if c then a else b) ≡ x
either-is true a b x first second = first
either-is false a b x first second = second

either-at : {X : Type 0} (c : Bool) (t u : ℕ → X) (view : ℕ) (x : X) → t view ≡ x → u view ≡ x → (if c then t else u) view ≡ x
either-at true t u view x first second = first
either-at false t u view x first second = second

less-one : (n m : ℕ) → m + 1 < n → m < n
less-one n m low = omega (arith, low)

module _ {S D P G C : Type 0} (n : ℕ) where
  -- only views below that were entered and spoken of, and nothing came but what one member alone does
  abbrev pub AreNear : List (views.Point S D P G C) → Type 0
  AreNear [] = ⊤
  AreNear (views.started now payload ∷ h) = (1 < n) × AreNear h
  AreNear (views.notarized c ∷ h) = (c.proposal.round.view < n) × AreNear h
  AreNear (views.finalized now c ∷ h) = (c.proposal.round.view + 1 < n) × AreNear h
  AreNear (views.judged now view ok ∷ h) = (view + 1 < n) × AreNear h
  AreNear (views.built now p payload ∷ h) = (p.round.view < n) × AreNear h
  AreNear (views.build_asked view ∷ h) = (view < n) × AreNear h
  AreNear (views.certify_asked view handle ∷ h) = (view < n) × AreNear h
  AreNear (views.voted_notarize view p ∷ h) = (view < n) × AreNear h
  AreNear (views.voted_finalize view p ∷ h) = (view < n) × AreNear h
  AreNear (views.sent k view ∷ h) = (view < n) × AreNear h
  AreNear (views.pruned ∷ h) = AreNear h
  AreNear (views.based view ∷ h) = AreNear h
  AreNear (x ∷ h) = ⊥

  module _ (view : ℕ) (far : n ≤ view) where
    put-far : (at : ℕ) (x : Item S D P G C) (t : ℕ → List (Item S D P G C)) → at < n → t view ≡ [] → put at x t view ≡ []
    put-far at x t near none = let less : at < view = omega (arith, near, far) in subst (λ (l : List (Item S D P G C)). (if at == view then x ∷ l else l) ≡ []) (sym none) (chosen-far at view (x ∷ []) [] less)

    enter-far : (s : views.Setup S C) (low now at : ℕ) (t : ℕ → List (Item S D P G C)) → at < n → t view ≡ [] → enter s low now at t view ≡ []
    enter-far s low now at t near none =
        either-at (nat_lt low at) (put at (past.armed (past.deadline now s.leader_timeout) (past.deadline now s.certification_timeout) (later now s.stall_timeout)) (put at (past.entered now) t)) t view []
        (put-far at (past.armed (past.deadline now s.leader_timeout) (past.deadline now s.certification_timeout) (later now s.stall_timeout)) (put at (past.entered now) t) near (put-far at (past.entered now) t near none)) none

    pub seen-far : (s : views.Setup S C) (h : List (views.Point S D P G C)) → AreNear h → seen s h view ≡ []
    seen-far s [] near = refl
    seen-far s (views.started now payload ∷ h) near = enter-far s (current s h) now 1 (seen s h) near.0 (seen-far s h near.1)
    seen-far s (views.notarized c ∷ h) near = put-far c.proposal.round.view (past.notarized c) (seen s h) near.0 (seen-far s h near.1)
    seen-far s (views.finalized now c ∷ h) near =
        put-far c.proposal.round.view (past.finalized c) (enter s (current s h) now (c.proposal.round.view + 1) (seen s h)) (less-one n c.proposal.round.view near.0)
        (enter-far s (current s h) now (c.proposal.round.view + 1) (seen s h) near.0 (seen-far s h near.1))
    seen-far s (views.judged now at true ∷ h) near =
        enter-far s (current s h) now (at + 1) (put at (past.judged true) (seen s h)) near.0 (put-far at (past.judged true) (seen s h) (less-one n at near.0) (seen-far s h near.1))
    seen-far s (views.judged now at false ∷ h) near =
        let judged_far = put-far at (past.judged false) (seen s h) (less-one n at near.0) (seen-far s h near.1) in
        either-at (nat_le (current s h) at) (put at (past.latched now reason.FailedCertification) (put at (past.judged false) (seen s h))) (put at (past.judged false) (seen s h)) view []
        (put-far at (past.latched now reason.FailedCertification) (put at (past.judged false) (seen s h)) (less-one n at near.0) judged_far) judged_far
    seen-far s (views.built now p payload ∷ h) near =
        put-far p.round.view (past.bound p payload) (put p.round.view (past.built now p) (seen s h)) near.0 (put-far p.round.view (past.built now p) (seen s h) near.0 (seen-far s h near.1))
    seen-far s (views.build_asked at ∷ h) near = put-far at (past.offered _) (seen s h) near.0 (seen-far s h near.1)
    seen-far s (views.certify_asked at handle ∷ h) near = put-far at (past.certifying handle) (seen s h) near.0 (seen-far s h near.1)
    seen-far s (views.voted_notarize at p ∷ h) near = put-far at past.voted_notarize (seen s h) near.0 (seen-far s h near.1)
    seen-far s (views.voted_finalize at p ∷ h) near = put-far at past.voted_finalize (seen s h) near.0 (seen-far s h near.1)
    seen-far s (views.sent k at ∷ h) near = put-far at (sent_item k) (seen s h) near.0 (seen-far s h near.1)
    seen-far s (views.pruned ∷ h) near = either-is (nat_lt view (min_active s h)) [] (seen s h view) [] refl (seen-far s h near)
    seen-far s (views.based at ∷ h) near = seen-far s h near
    seen-far s (x ∷ h) near = absurd near

-- ---- leaders

-- nobody, or the first member
abbrev pub IsFirstOne : Option ℕ → Type 0
IsFirstOne o = (o ≡ None) ⊎ (o ≡ Some 0)

one-or : (a b : Option ℕ) → IsFirstOne a → IsFirstOne b → IsFirstOne (option_or a b)
one-or None b first second = second
one-or (Some i) b first second = first

one-if : (c : Bool) (o : Option ℕ) → IsFirstOne o → IsFirstOne (if c then o else None)
one-if true o is = is
one-if false o is = inl refl

one-kept : (c : Bool) (o : Option ℕ) → IsFirstOne o → IsFirstOne (if c then None else o)
one-kept true o is = inl refl
one-kept false o is = is

one-extend : (here : ℕ → Option ℕ) (from_before : ℕ → Bool) (known : ℕ → Option ℕ) → ((view : ℕ) → IsFirstOne (here view)) → ((view : ℕ) → IsFirstOne (known view)) → (view : ℕ) → IsFirstOne (extend here from_before known view)
one-extend here from_before known names knows zero = knows zero
one-extend here from_before known names knows (suc w) =
    one-or (known (suc w)) (option_or (here (suc w)) (if from_before (suc w) then extend here from_before known w else None)) (knows (suc w))
    (one-or (here (suc w)) (if from_before (suc w) then extend here from_before known w else None) (names (suc w))
    (one-if (from_before (suc w)) (extend here from_before known w) (one-extend here from_before known names knows w)))

elected : {C : Type 0} (elect : ℕ → Option C → ℕ) → ((view : ℕ) (c : Option C) → elect view c ≡ 0) → (view : ℕ) (c : Option C) → IsFirstOne (Some (elect view c))
elected elect elects view c = inr (ap (λ (i : ℕ). Some i) (elects view c))

module _ {S D P G C : Type 0} (s : views.Setup S C) (me : s.me ≡ Some 0) (elects : (view : ℕ) (c : Option C) → s.elect view c ≡ 0) where
  own-early : (h : List (views.Point S D P G C)) (view : ℕ) → IsFirstOne (named_early s h view)
  own-early h view = one-if (past.has_notarized (seen s h (view - 1))) (handoff_leader s view)
      (one-if ((view == term_start s.length view) && option_eq nat_eq s.me (views.scheduled_leader s view)) s.me (inr me))

  names-one : (x : views.Point S D P G C) (view : ℕ) → IsFirstOne (named s x view)
  names-one (views.started now payload) view = one-if (view == 1) (Some (s.elect 1 None)) (elected s.elect elects 1 None)
  names-one (views.notarized c) view = one-if (view == c.proposal.round.view + 1) (Some (s.elect view (Some c.certificate))) (elected s.elect elects view (Some c.certificate))
  names-one (views.nullified now c) view = one-if _ (Some (s.elect view (Some c.certificate))) (elected s.elect elects view (Some c.certificate))
  names-one (views.finalized now c) view = one-if (view == c.proposal.round.view + 1) (Some (s.elect view (Some c.certificate))) (elected s.elect elects view (Some c.certificate))
  names-one x view = inl refl

  leads-on : (x : views.Point S D P G C) (h : List (views.Point S D P G C)) → ((view : ℕ) → IsFirstOne (leader s h view)) → (view : ℕ)
      → IsFirstOne (extend (λ v. option_or (named s x v) (named_early s (x ∷ h) v)) (inherits s (x ∷ h)) (leader s h) view)
  leads-on x h before = one-extend (λ v. option_or (named s x v) (named_early s (x ∷ h) v)) (inherits s (x ∷ h)) (leader s h)
      (λ v. one-or (named s x v) (named_early s (x ∷ h) v) (names-one x v) (own-early (x ∷ h) v)) before

  -- only such points happened as happen to a member alone
  pub leads-alone : (n : ℕ) (h : List (views.Point S D P G C)) → AreNear n h → (view : ℕ) → IsFirstOne (leader s h view)
  leads-alone n [] near view = inl refl
  leads-alone n (views.started now payload ∷ h) near view = leads-on (views.started now payload) h (leads-alone n h near.1) view
  leads-alone n (views.notarized c ∷ h) near view = leads-on (views.notarized c) h (leads-alone n h near.1) view
  leads-alone n (views.finalized now c ∷ h) near view = leads-on (views.finalized now c) h (leads-alone n h near.1) view
  leads-alone n (views.judged now at ok ∷ h) near view = leads-on (views.judged now at ok) h (leads-alone n h near.1) view
  leads-alone n (views.built now p payload ∷ h) near view = leads-on (views.built now p payload) h (leads-alone n h near.1) view
  leads-alone n (views.build_asked at ∷ h) near view = leads-on (views.build_asked at) h (leads-alone n h near.1) view
  leads-alone n (views.certify_asked at handle ∷ h) near view = leads-on (views.certify_asked at handle) h (leads-alone n h near.1) view
  leads-alone n (views.voted_notarize at p ∷ h) near view = leads-on (views.voted_notarize at p) h (leads-alone n h near.1) view
  leads-alone n (views.voted_finalize at p ∷ h) near view = leads-on (views.voted_finalize at p) h (leads-alone n h near.1) view
  leads-alone n (views.sent k at ∷ h) near view = leads-on (views.sent k at) h (leads-alone n h near.1) view
  leads-alone n (views.pruned ∷ h) near view = one-kept (nat_lt view (min_active s h)) (leader s h view) (leads-alone n h near view)
  leads-alone n (views.based at ∷ h) near view = leads-on (views.based at) h (leads-alone n h near) view
  leads-alone n (x ∷ h) near view = absurd near

-- ---- votes

module _ {S D P G C : Type 0} (s : Setup S D C) (n : ℕ) where
  -- only votes of views below that came up
  abbrev pub AreOfNear : History S D P G C → Type 0
  AreOfNear [] = ⊤
  AreOfNear (Opened now ∷ h) = (current_of s (Opened now ∷ h) < n) × AreOfNear h
  AreOfNear (Began ∷ h) = AreOfNear h
  AreOfNear (Built number handoff context payload took ∷ h) = AreOfNear h
  AreOfNear (Judged r ok ∷ h) = (current_of s (Judged r ok ∷ h) < n) × AreOfNear h
  AreOfNear (Leads at i ∷ h) = (at < n) × AreOfNear h
  AreOfNear (Constructs at kind batch ∷ h) = (at < n) × (current_of s (Constructs at kind batch ∷ h) < n) × AreOfNear h
  AreOfNear (AsksBuild number handoff context ∷ h) = AreOfNear h
  AreOfNear (AsksCertify p ∷ h) = AreOfNear h
  AreOfNear (Votes v ∷ h) = ((vote_round v).view < n) × AreOfNear h
  AreOfNear (Rewrote c ∷ h) = AreOfNear h
  AreOfNear (x ∷ h) = ⊥

  module _ (view : ℕ) (far : n ≤ view) where
    added : (at : ℕ) (e : votes.Event _ _) (r : votes.History S D P G C) → at < n → r ≡ [] → (if at == view then e ∷ r else r) ≡ []
    added at e r near none = subst (λ (l : votes.History S D P G C). (if at == view then e ∷ l else l) ≡ []) (sym none) (chosen-far at view (e ∷ []) [] (below n at view far near))

    all-far : (h : History S D P G C) → AreOfNear h → all_votes view h ≡ []
    all-far [] near = refl
    all-far (Opened now ∷ h) near = all-far h near.1
    all-far (Began ∷ h) near = all-far h near
    all-far (Built number handoff context payload took ∷ h) near = all-far h near
    all-far (Judged r ok ∷ h) near = all-far h near.1
    all-far (Leads at i ∷ h) near = added at (votes.Led i) (all_votes view h) near.0 (all-far h near.1)
    all-far (Constructs at kind batch ∷ h) near = chosen-far at view (after kind (Some batch) (all_votes view h)) (all_votes view h) (below n at view far near.0) ∙ all-far h near.2
    all-far (AsksBuild number handoff context ∷ h) near = all-far h near
    all-far (AsksCertify p ∷ h) near = all-far h near
    all-far (Votes v ∷ h) near = added (vote_round v).view (votes.Cast v) (all_votes view h) near.0 (all-far h near.1)
    all-far (Rewrote c ∷ h) near = all-far h near
    all-far (x ∷ h) near = absurd near

    pub votes-far : (h : History S D P G C) → AreOfNear h → votes_of s h view ≡ []
    votes-far h near = either-is (nat_lt view (floor_of s h)) [] (all_votes view h) [] refl (all-far h near)

    not-yet : (h : History S D P G C) → AreOfNear h → opened s h view ≡ Unopened
    not-yet [] near = refl
    not-yet (Opened now ∷ h) near =
        stays (opens s h (Opened now) view) _ (opened s h view) (closed false (current_of s (Opened now ∷ h) == view) (has_room s.voter.length view) refl (other-far (current_of s (Opened now ∷ h)) view (below n (current_of s (Opened now ∷ h)) view far near.0)))
        ∙ not-yet h near.1
    not-yet (Began ∷ h) near = not-yet h near
    not-yet (Built number handoff context payload took ∷ h) near = not-yet h near
    not-yet (Judged r ok ∷ h) near =
        stays (opens s h (Judged r ok) view) _ (opened s h view) (closed false (current_of s (Judged r ok ∷ h) == view) (has_room s.voter.length view) refl (other-far (current_of s (Judged r ok ∷ h)) view (below n (current_of s (Judged r ok ∷ h)) view far near.0)))
        ∙ not-yet h near.1
    not-yet (Leads at i ∷ h) near = not-yet h near.1
    not-yet (Constructs at kind batch ∷ h) near =
        stays (opens s h (Constructs at kind batch) view) _ (opened s h view)
        (closed false (current_of s (Constructs at kind batch ∷ h) == view) (has_room s.voter.length view) refl (other-far (current_of s (Constructs at kind batch ∷ h)) view (below n (current_of s (Constructs at kind batch ∷ h)) view far near.1)))
        ∙ not-yet h near.2
    not-yet (AsksBuild number handoff context ∷ h) near = not-yet h near
    not-yet (AsksCertify p ∷ h) near = not-yet h near
    not-yet (Votes v ∷ h) near =
        stays (opens s h (Votes v) view) _ (opened s h view) (closed ((vote_round v).view == view) false (has_room s.voter.length view) (other-far (vote_round v).view view (below n (vote_round v).view view far near.0)) refl)
        ∙ not-yet h near.1
    not-yet (Rewrote c ∷ h) near = not-yet h near
    not-yet (x ∷ h) near = absurd near

    pub stage-far : (h : History S D P G C) → AreOfNear h → stage s h view ≡ Unopened
    stage-far h near = either-is (nat_lt view (floor_of s h)) Unopened (opened s h view) Unopened refl (not-yet h near)
