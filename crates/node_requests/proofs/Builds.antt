-- Builds that are asked for, and what becomes of those that stand.
use Rattle.std.proofs.Common.{◌≡◌, ◌∷◌, ◌++◌, ◌⊎◌, ⊎_elim, inl, inr, [], ℕ, ◌<◌, ◌≤◌, ◌^◌, ◌-◌, ◌==◌, Bool, true, false, List, Option, Some, None, Result, Ok, Err, refl, sym, ◌∙◌, ap, subst, ◌+◌, arith}
use Rattle.std.specs.Prelude.{IsTrue, IsSome, IfOk, OnOk, is_some, ◌↔◌, if◌then◌else◌, unwrap_or}
use Rattle.std.proofs.lemmas.Bool.{cases_lt, eqb-true}
use Rattle.types_core.specs.declared.context.Context.{Context}
use Rattle.types_core.specs.declared.scheme.Scheme.{Ghosts}
use Rattle.types_terms.specs.declared.elector.Elector as elector
use Rattle.voter_history.specs.History as views
use Rattle.voter_history.specs.History.{build_asked, build_released, pruned, started, nullified, finalized, judged, current, last_finalized, min_active}
use Rattle.voter_history.specs.Leaders.{leader}
use Rattle.voter_history.specs.Known.{Known, known}
use Rattle.voter_history.specs.declared.handoff_abandoned_reason.HandoffAbandonedReason.{HandoffAbandonedReason}
use Rattle.voter_history.specs.declared.handoff_abandoned_reason.HandoffAbandonedReason.TheVariants as abandoned
use Rattle.voter_rules.specs.Ancestry.{Leads, Member, member}
use Rattle.voter_rules.specs.declared.proposal_request.ProposalRequest.{ProposalRequest}
use Rattle.voter_rules.specs.Building.{IsContextOf, IsPrepared, context_of}
use Rattle.voter_rules.specs.GivingUp.{IsTracked}
use Rattle.voter_rules.specs.Requests.{IsFirstBuild, IsHandoff, IsSuperseded, StopsHandoff}
use Rattle.voter_laws.specs.StaysKnown.{IsLeft, ViewsNeverFall, WhatIsKnownStays}
use Rattle.simplex_state.specs.declared.state.State.{State}
use Rattle.simplex_state.specs.Known.{AddsIfTracked, AddsWhere}
use Rattle.simplex_state.specs.State as voting
use Rattle.node_record.specs.declared.tables.Tables.{Tables}
use Rattle.node_record.specs.Tables.{KeepsTables}
use Rattle.node_record.specs.Tables as tabled
use Rattle.simplex_member.specs.declared.action.Action.{Action}
use Rattle.simplex_member.specs.Allowed.{Allowed, AreAllowed, IsGivenBack, IsStopped}
use Rattle.simplex_member.specs.Asked.{HasNumber, build_at, next_number}
use Rattle.simplex_member.specs.Deeds.{Builds}
use Rattle.simplex_member.specs.Layers.{current_of, finalized_of, is_begun, known_of, latest, voter_of, voter_points}
use Rattle.simplex_member.specs.Packet.{Formats}
use Rattle.simplex_member.specs.Point.{Point, AsksBuild, Built, GivesBack, LeavesBehind, History}
use Rattle.simplex_member.specs.Setup.{Setup, member_of}
use Rattle.node_outbox.specs.Handing.{AddsDeeds, nothing_more}
use Rattle.node_requests.specs.Asking.{WasAsked}
use Rattle.node_requests.specs.Building.{IsKeptOrFalls}
use Rattle.node_requests.specs.NoneDue.{NoBuildToGiveBack}
use Rattle.node_requests.proofs.Acts.{one_asked, prepared_or_not}

-- two tests of one thing are one
pub same_truth : {X : Type 0} (a b : Bool) → IsTrue a ↔ X → IsTrue b ↔ X → a ≡ b
same_truth true true x y = refl
same_truth true false x y = absurd (cc (y.1 (x.0 refl)))
same_truth false true x y = absurd (cc (x.1 (y.0 refl)))
same_truth false false x y = refl

-- why a handoff is to stop is told exactly where it is
pub told_stopped : {D : Type 0} (m : Member) (k : Known D) (view parent : ℕ) (payload : D) (told : Option HandoffAbandonedReason) → StopsHandoff m k view parent payload told
    → IsTrue (is_some told) ↔ ((why : HandoffAbandonedReason) × StopsHandoff m k view parent payload (Some why))
told_stopped m k view parent payload (Some why) stops = (λ yes. (why, stops), λ so. refl)
told_stopped {D} m k view parent payload None runs = (λ yes. absurd (cc yes), λ so. absurd (never so.0 so.1))
  where
    never : (why : HandoffAbandonedReason) → StopsHandoff m k view parent payload (Some why) → ⊥
    never abandoned.ParentNullify stops = ⊎_elim (λ explicit. stops.0 explicit) (λ stands. stops.1 stands.0) runs
    never abandoned.AncestryInvalidated stops = ⊎_elim (λ explicit. stops.0 explicit) (λ stands. stops.2 stands.1) runs
    never why stops = stops

-- what is noted and handed out under these names is so under those that are the same
pub noted_as : {S D P G C : Type 0} (low : ℕ) (tables : Tables S D P G C) (h : History S D P G C) (m n : ℕ) (a b : Bool) (x y : Context D P) → m ≡ n → a ≡ b → x ≡ y
    → KeepsTables low tables (AsksBuild m a x ∷ h) → KeepsTables low tables (AsksBuild n b y ∷ h)
noted_as {S} {D} {P} {G} {C} low tables h m n a b x y number is context keeps =
    subst (λ (k : ℕ). KeepsTables low tables (AsksBuild k b y ∷ h)) number
    (subst (λ (c : Bool). KeepsTables low tables (AsksBuild m c y ∷ h)) is (subst (λ (z : Context D P). KeepsTables low tables (AsksBuild m a z ∷ h)) context keeps))

module _ {S D P G C : Type 0} (g : Ghosts S D P G C) (f : Formats S D P G C) (s : Setup S D C) where
  -- a build that the voter asks for may be asked for
  pub build_may_be_asked : (h : History S D P G C) (request : ProposalRequest D P) (handoff : Bool) → is_begun h ≡ true → HasNumber h
      → IsFirstBuild (member_of s) (known_of s h) (context_of request).round.view (context_of request).parent.0 (context_of request).parent.1
      → IsContextOf g s.voter (context_of request)
      → IsPrepared request ↔ IsHandoff (member_of s) (known_of s h) (context_of request).round.view (context_of request).parent.0 (context_of request).parent.1
      → IsTrue handoff ↔ IsPrepared request → Allowed g f s h (AsksBuild (next_number h) handoff (context_of request))
  build_may_be_asked h request handoff begun left first names early is = record {
    order = begun;
    due = record { left = left; next = refl; due = first.due; names = names; handoff_is = (λ yes. early.0 (is.0 yes), λ so. is.1 (early.1 so)) };
    fits = tt;
    readable = tt;
  }

  -- a build has one of the numbers that are left for it
  numbered : (m n left : ℕ) (h : History S D P G C) (x : Option (Bool × Context D P)) (b : Bool × Context D P) → m ≡ left → left < 2 ^ 64 - 1 → (build_at h n ≡ Some b → n < 2 ^ 64 - 1)
      → (if m == n then x else build_at h n) ≡ Some b → n < 2 ^ 64 - 1
  numbered m n left h x b is below before = by (m == n) refl
    where
      by : (c : Bool) → (m == n) ≡ c → (if c then x else build_at h n) ≡ Some b → n < 2 ^ 64 - 1
      by true same there = let at : m ≡ n = eqb-true m n same in omega (arith, at, is, below)
      by false other there = before there

  stood : (m n : ℕ) (h : History S D P G C) (b : Bool × Context D P) (c : Bool) → (if c then None else build_at h n) ≡ Some b → build_at h n ≡ Some b
  stood m n h b true there = absurd (cc there)
  stood m n h b false there = there

  pub build_numbers : (h : History S D P G C) (n : ℕ) (b : Bool × Context D P) → AreAllowed g f s h → build_at h n ≡ Some b → n < 2 ^ 64 - 1
  build_numbers [] n b all there = absurd (cc there)
  build_numbers (AsksBuild m handoff context ∷ h) n b all there =
      numbered m n (next_number h) h (Some (handoff, context)) b all.0.due.next all.0.due.left (λ before. build_numbers h n b all.1 before) there
  build_numbers (Built m handoff context payload took ∷ h) n b all there = build_numbers h n b all.1 (stood m n h b (m == n) there)
  build_numbers (GivesBack m view ∷ h) n b all there = build_numbers h n b all.1 (stood m n h b (m == n) there)
  build_numbers (LeavesBehind m ∷ h) n b all there = build_numbers h n b all.1 (stood m n h b (m == n) there)
  build_numbers (p ∷ h) n b all there = build_numbers h n b all.1 there

-- the last finalized view lies no higher than the current one
pub finalized_behind : {S D P G C : Type 0} (s : views.Setup S C) (v : List (views.Point S D P G C)) → last_finalized v ≤ current s v
finalized_behind s [] = omega arith
finalized_behind s (started now payload ∷ v) = let before = finalized_behind s v in omega (arith, before)
finalized_behind s (nullified now c ∷ v) = let before = finalized_behind s v in omega (arith, before)
finalized_behind s (finalized now c ∷ v) = let before = finalized_behind s v in omega (arith, before)
finalized_behind s (judged now view true ∷ v) = let before = finalized_behind s v in omega (arith, before)
finalized_behind s (judged now view false ∷ v) = finalized_behind s v
finalized_behind s (x ∷ v) = finalized_behind s v

module _ {S D P G C : Type 0} (s : views.Setup S C) (stays : WhatIsKnownStays S D P G C) (rise : ViewsNeverFall S D P G C) where
  left : (v : List (views.Point S D P G C)) (view : ℕ) (x : views.Point S D P G C) → min_active s (x ∷ v) ≤ view → IsLeft s v view x
  left v view pruned low = low
  left v view x low = tt

  some_known : (o : Option ℕ) → IsSome o → (i : ℕ) × (o ≡ Some i)
  some_known None some = absurd (cc some)
  some_known (Some i) some = (i, refl)

  -- who leads a view stays known while the view is kept
  pub still_led : (more v : List (views.Point S D P G C)) (view : ℕ) → min_active s (more ++ v) ≤ view → IsSome (leader s v view) → IsSome (leader s (more ++ v) view)
  still_led [] v view low some = some
  still_led (x ∷ more) v view low some =
      let before = rise s (more ++ v) x in
      let lower : min_active s (more ++ v) ≤ view = omega (arith, before.2, low) in
      let who = some_known (leader s (more ++ v) view) (still_led more v view lower some) in
      subst (λ (o : Option ℕ). IsSome o) (sym ((stays s (more ++ v) view x (left (more ++ v) view x low)).leader who.0 who.1)) refl

  -- the least view that is kept never falls
  pub floor_before : (more v : List (views.Point S D P G C)) (view : ℕ) → min_active s (more ++ v) ≤ view → min_active s v ≤ view
  floor_before [] v view low = low
  floor_before (x ∷ more) v view low = let before = rise s (more ++ v) x in floor_before more v view (omega (arith, before.2, low))

module _ {S D P G C : Type 0} (g : Ghosts S D P G C) (f : Formats S D P G C) (s : Setup S D C) (stays : WhatIsKnownStays S D P G C) (rise : ViewsNeverFall S D P G C) where
  led_behind : (p : Point S D P G C) (h : History S D P G C) (view : ℕ) → min_active s.voter (voter_of s (p ∷ h)) ≤ view
      → (min_active s.voter (voter_of s h) ≤ view → IsSome (leader s.voter (voter_of s h) view)) → IsSome (leader s.voter (voter_of s (p ∷ h)) view)
  led_behind p h view low before =
      let more = voter_points s (latest (p ∷ h)) (last_finalized (voter_of s h)) p in
      still_led s.voter stays rise more (voter_of s h) view low (before (floor_before s.voter stays rise more (voter_of s h) view low))

  led_since_asked : (h : History S D P G C) (early : Bool) (other : Context D P) (n : ℕ) (handoff : Bool) (context : Context D P) → Leads (member_of s) (known_of s h) other.round.view
      → min_active s.voter (build_asked other.round.view ∷ voter_of s h) ≤ context.round.view
      → (build_at h n ≡ Some (handoff, context) → min_active s.voter (voter_of s h) ≤ context.round.view → IsSome (leader s.voter (voter_of s h) context.round.view))
      → (same : Bool) → (if same then Some (early, other) else build_at h n) ≡ Some (handoff, context) → IsSome (leader s.voter (build_asked other.round.view ∷ voter_of s h) context.round.view)
  led_since_asked h early other n handoff context leads low before true there =
      let same : other ≡ context = ap (λ (o : Option (Bool × Context D P)). (unwrap_or o (early, other)).1) there in
      let led : IsSome (leader s.voter (voter_of s h) other.round.view) = subst (λ (o : Option ℕ). IsSome o) (sym leads.known) leads.some in
      still_led s.voter stays rise (build_asked other.round.view ∷ []) (voter_of s h) context.round.view low (subst (λ (c : Context D P). IsSome (leader s.voter (voter_of s h) c.round.view)) same led)
  led_since_asked h early other n handoff context leads low before false there =
      still_led s.voter stays rise (build_asked other.round.view ∷ []) (voter_of s h) context.round.view low
      (before there (floor_before s.voter stays rise (build_asked other.round.view ∷ []) (voter_of s h) context.round.view low))

  -- who leads the view of a build that stands is known while the view is kept: it was asked for since this member does
  pub build_is_led : (h : History S D P G C) (n : ℕ) (handoff : Bool) (context : Context D P) → AreAllowed g f s h → build_at h n ≡ Some (handoff, context)
      → min_active s.voter (voter_of s h) ≤ context.round.view → IsSome (leader s.voter (voter_of s h) context.round.view)
  build_is_led [] n handoff context all there low = absurd (cc there)
  build_is_led (AsksBuild m early other ∷ h) n handoff context all there low =
      led_since_asked h early other n handoff context all.0.due.due.leads low (λ before lower. build_is_led h n handoff context all.1 before lower) (m == n) there
  build_is_led (Built m early other payload took ∷ h) n handoff context all there low =
      led_behind (Built m early other payload took) h context.round.view low (λ lower. build_is_led h n handoff context all.1 (stood g f s m n h (handoff, context) (m == n) there) lower)
  build_is_led (GivesBack m view ∷ h) n handoff context all there low =
      led_behind (GivesBack m view) h context.round.view low (λ lower. build_is_led h n handoff context all.1 (stood g f s m n h (handoff, context) (m == n) there) lower)
  build_is_led (LeavesBehind m ∷ h) n handoff context all there low =
      led_behind (LeavesBehind m) h context.round.view low (λ lower. build_is_led h n handoff context all.1 (stood g f s m n h (handoff, context) (m == n) there) lower)
  build_is_led (p ∷ h) n handoff context all there low = led_behind p h context.round.view low (λ lower. build_is_led h n handoff context all.1 there lower)

  -- so the view of a build that stands is tracked, unless it lies behind
  pub build_is_tracked : (h : History S D P G C) (n : ℕ) (handoff : Bool) (context : Context D P) → AreAllowed g f s h → build_at h n ≡ Some (handoff, context)
      → current_of s h ≤ context.round.view → IsTracked s.voter (voter_of s h) context.round.view
  build_is_tracked h n handoff context all there ahead =
      let before = finalized_behind s.voter (voter_of s h) in
      inr (build_is_led h n handoff context all there (omega (arith, before, ahead)))

module _ {S L D P G C : Type 0} (g : Ghosts S D P G C) (e : elector.Ghosts L S D P G C) (f : Formats S D P G C) (s : Setup S D C) where
  -- a build that the voter asks for is asked for now
  pub build_was_asked : (voter : State S L D P G C) (tables : Tables S D P G C) (h : History S D P G C) (request : ProposalRequest D P) (before after : List (Action S D P G C)) → is_begun h ≡ true → HasNumber h
      → IsFirstBuild (member_of s) (known_of s h) (context_of request).round.view (context_of request).parent.0 (context_of request).parent.1
      → IsContextOf g s.voter (context_of request)
      → IsPrepared request ↔ IsHandoff (member_of s) (known_of s h) (context_of request).round.view (context_of request).parent.0 (context_of request).parent.1
      → voting.Keeps g e s.voter voter (build_asked (context_of request).round.view ∷ voter_of s h)
      → ((handoff : Bool) → IsTrue handoff ↔ IsPrepared request → KeepsTables (finalized_of s h) tables (AsksBuild (next_number h) handoff (context_of request) ∷ h))
      → ((handoff : Bool) → IsTrue handoff ↔ IsPrepared request → AddsDeeds f before after (Builds (next_number h) handoff (context_of request) ∷ []))
      → WasAsked g e f s voter tables h before after
  build_was_asked voter tables h request before after begun left first names early voter_is tables_are acts =
      let is = prepared_or_not request in
      one_asked g e f s voter tables h (AsksBuild (next_number h) is.0 (context_of request)) before after refl
      (build_may_be_asked g f s h request is.0 begun left first names early is.1) voter_is (tables_are is.0 is.1) (acts is.0 is.1)

  module _ (new : State S L D P G C) (h : History S D P G C) (handoff : Bool) (context : Context D P) where
    -- a build is given back: the voter was told, since its view is tracked
    pub falls_back : IsGivenBack g f s h handoff context → IsTracked s.voter (voter_of s h) context.round.view
        → AddsIfTracked g e s.voter new (voter_of s h) context.round.view (build_released context.round.view) → IsKeptOrFalls g e f s new h handoff context true
    falls_back back tracked adds = inr (back, ⊎_elim (λ added. added.1) (λ other. absurd (other.0 tracked)) adds)

    -- one that isn't left behind and whose handoff isn't to stop is superseded or not
    pub superseded_or_not : (superseded : Bool) → ¬ (context.round.view < current_of s h) → ¬ ((handoff ≡ true) × IsStopped g f s h context)
        → IsTrue superseded ↔ IsSuperseded (member_of s) (known_of s h) context.round.view context.parent.0 context.parent.1 → IsTracked s.voter (voter_of s h) context.round.view
        → AddsWhere g e s.voter new (voter_of s h) context.round.view (build_released context.round.view) superseded → IsKeptOrFalls g e f s new h handoff context superseded
    superseded_or_not true ahead runs is tracked adds = falls_back (inl (is.0 refl)) tracked adds
    superseded_or_not false ahead runs is tracked keeps = (ahead, λ back. ⊎_elim (λ so. absurd (cc (is.1 so))) runs back, keeps)

  -- what falls is left behind, or given back
  pub build_fell : (new : State S L D P G C) (tables : Tables S D P G C) (h : History S D P G C) (n : ℕ) (handoff : Bool) (context : Context D P) (actions : List (Action S D P G C)) → is_begun h ≡ true
      → build_at h n ≡ Some (handoff, context) → IsKeptOrFalls g e f s new h handoff context true
      → ((view : ℕ) → KeepsTables (finalized_of s h) tables (GivesBack n view ∷ h)) → KeepsTables (finalized_of s h) tables (LeavesBehind n ∷ h) → WasAsked g e f s new tables h actions actions
  build_fell new tables h n handoff context actions begun there falls given_back left_behind = ⊎_elim
      (λ behind. one_asked g e f s new tables h (LeavesBehind n) actions actions refl (record { order = begun; due = (handoff, context, there, behind.0); fits = tt; readable = tt }) behind.1 left_behind (nothing_more f actions))
      (λ back.
      one_asked g e f s new tables h (GivesBack n context.round.view) actions actions refl (record { order = begun; due = (handoff, context, there, refl, back.0); fits = tt; readable = tt }) back.1
      (given_back context.round.view) (nothing_more f actions))
      falls

  -- the voter stands where it stood, and of the builds below this number none falls
  pub record AreKeptBelow (voter : State S L D P G C) (h : History S D P G C) (from : ℕ) : Type 0 where
    pub voter_is : voting.Keeps g e s.voter voter (voter_of s h)
    pub none_falls : (n : ℕ) (handoff : Bool) (context : Context D P) → n < from → build_at h n ≡ Some (handoff, context)
        → (¬ IsGivenBack g f s h handoff context) × ¬ (context.round.view < current_of s h)

  -- nor does the first of the others
  pub one_more_kept : (voter new : State S L D P G C) (h : History S D P G C) (from n : ℕ) (b : Bool × Context D P) → AreKeptBelow voter h from → tabled.IsFirstBuild h from n b
      → IsKeptOrFalls g e f s new h b.0 b.1 false → AreKeptBelow new h (n + 1)
  one_more_kept voter new h from n b below first kept = record { voter_is = kept.2; none_falls = none }
    where
      none : (m : ℕ) (handoff : Bool) (context : Context D P) → m < n + 1 → build_at h m ≡ Some (handoff, context) → (¬ IsGivenBack g f s h handoff context) × ¬ (context.round.view < current_of s h)
      none m handoff context within there = ⊎_elim
          (λ low. below.none_falls m handoff context low there)
          (λ high. ⊎_elim
          (λ between. absurd (cc (there, first.first m high between)))
          (λ last.
          let at : m ≡ n = omega (arith, last, within) in
          let same : b ≡ (handoff, context) = ap (λ (o : Option (Bool × Context D P)). unwrap_or o b) (sym first.there ∙ ap (λ (k : ℕ). build_at h k) (sym at) ∙ there) in
          subst (λ (x : Bool × Context D P). (¬ IsGivenBack g f s h x.0 x.1) × ¬ (x.1.round.view < current_of s h)) same (kept.1, kept.0))
          (cases_lt m n))
          (cases_lt m from)

  -- where no other stands, none falls
  pub all_are_kept : (voter : State S L D P G C) (h : History S D P G C) (from : ℕ) → AreKeptBelow voter h from → ((n : ℕ) → from ≤ n → build_at h n ≡ None) → NoBuildToGiveBack g f s h
  all_are_kept voter h from below none = record {
    no_return = λ n handoff context there. (of n handoff context there).0;
    none_behind = λ n handoff context there. (of n handoff context there).1;
  }
    where
      of : (n : ℕ) (handoff : Bool) (context : Context D P) → build_at h n ≡ Some (handoff, context) → (¬ IsGivenBack g f s h handoff context) × ¬ (context.round.view < current_of s h)
      of n handoff context there = ⊎_elim (λ low. below.none_falls n handoff context low there) (λ high. absurd (cc (there, none n high))) (cases_lt n from)

module _ {S L D P G C : Type 0} (g : Ghosts S D P G C) (e : elector.Ghosts L S D P G C) (old new : State S L D P G C) (handoff : Bool) (context : Context D P) where
  -- at each history at which the build stands, it falls or not
  abbrev pub FallsAtEach : Bool → Type 0
  FallsAtEach fallen = (f : Formats S D P G C) (s : Setup S D C) (h : History S D P G C) (n : ℕ) → AreAllowed g f s h → build_at h n ≡ Some (handoff, context)
      → voting.Keeps g e s.voter old (voter_of s h) → IsKeptOrFalls g e f s new h handoff context fallen

  module _ (stays : WhatIsKnownStays S D P G C) (rise : ViewsNeverFall S D P G C) (now : ℕ) (at : voting.AtEach g e old (λ s v. now ≡ current s v)) (ahead : now ≤ context.round.view) where
    tracked_here : (f : Formats S D P G C) (s : Setup S D C) (h : History S D P G C) (n : ℕ) → AreAllowed g f s h → build_at h n ≡ Some (handoff, context) → voting.Keeps g e s.voter old (voter_of s h)
        → IsTracked s.voter (voter_of s h) context.round.view
    tracked_here f s h n all there keeps = build_is_tracked g f s stays rise h n handoff context all there (subst (λ (v : ℕ). v ≤ context.round.view) (at s.voter (voter_of s h) keeps) ahead)

    -- one for a handoff that is to stop is given back
    pub stopped_falls : {E : Type 0} (result : Result Bool E) → ((f : Formats S D P G C) (s : Setup S D C) (h : History S D P G C) → voting.Keeps g e s.voter old (voter_of s h) → (handoff ≡ true) × IsStopped g f s h context)
        → IfOk result (λ back. back ≡ true) → OnOk result (voting.AtEach g e old (λ s v. AddsIfTracked g e s new v context.round.view (build_released context.round.view))) → IfOk result FallsAtEach
    stopped_falls (Ok back) stopped is adds = λ f s h n all there keeps.
        subst (λ (b : Bool). IsKeptOrFalls g e f s new h handoff context b) (sym is)
        (falls_back g e f s new h handoff context (inr (stopped f s h keeps)) (tracked_here f s h n all there keeps) (adds s.voter (voter_of s h) keeps))
    stopped_falls (Err why) stopped is adds = tt

    -- any other falls where it is superseded
    pub superseded_falls : (superseded : Bool) → ((f : Formats S D P G C) (s : Setup S D C) (h : History S D P G C) → voting.Keeps g e s.voter old (voter_of s h) → ¬ ((handoff ≡ true) × IsStopped g f s h context))
        → voting.AtEach g e old (λ s v. IsTrue superseded ↔ IsSuperseded (member s) (known s v) context.round.view context.parent.0 context.parent.1)
        → voting.AtEach g e old (λ s v. AddsWhere g e s new v context.round.view (build_released context.round.view) superseded) → FallsAtEach superseded
    superseded_falls superseded runs is adds = λ f s h n all there keeps.
        let same = at s.voter (voter_of s h) keeps in
        superseded_or_not g e f s new h handoff context superseded (λ behind. absurd (omega (arith, behind, ahead, same))) (runs f s h keeps) (is s.voter (voter_of s h) keeps)
        (tracked_here f s h n all there keeps) (adds s.voter (voter_of s h) keeps)
