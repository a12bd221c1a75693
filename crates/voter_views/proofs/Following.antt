-- Who leads by a history, and that nothing is left to be handed on.
use Rattle.std.proofs.Common.{◌≡◌, ◌+◌, ◌-◌, ◌<◌, ◌^◌, ◌==◌, ℕ, suc, Bool, true, false, List, [], ◌∷◌, ⊎_elim, inl, inr, refl, sym, ap, subst, ◌∙◌, arith, if◌then◌else◌}
use Rattle.std.specs.Prelude.{Option, Some, None, nat_lt}
use Rattle.std.specs.Option.{option_or}
use Rattle.std.proofs.lemmas.Grind.{common_steps}
use Rattle.std.proofs.lemmas.Bool.Decides.{nat_tests}
use Rattle.std.proofs.lemmas.Bool.{cases_Bool, cases_eq, or_cases, or_left, or_right}
use Rattle.types_core.specs.Positions.{next_term_start}
use Rattle.messages_certificates.specs.declared.nullification.Nullification.{Nullification}
use Rattle.messages_certificates.specs.ProposalCertificate.{Notarization, Finalization}
use Rattle.voter_history.specs.Past as past
use Rattle.voter_history.specs.Past.{Item, has_notarized}
use Rattle.voter_history.specs.History as History
use Rattle.types_core.specs.declared.scheme.Scheme.{Ghosts}
use Rattle.voter_rounds.specs.declared.tracked.Tracked.{Tracked}
use Rattle.voter_history.specs.Pasts.{forget, is_direct, put}
use Rattle.voter_history.specs.History.{Setup, Point, min_active, seen, enter, current}
use Rattle.voter_history.specs.Leaders.{extend}
use Rattle.voter_history.specs.Leaders.{named, named_early, handoff_leader, inherits, leader, was_forwarded}
use Rattle.voter_history.specs.Leading.{HandsOn, leader_named, leader_voted, or_none}
use Rattle.voter_views.specs.Progress.{frame_of, tables}
use Rattle.voter_rounds.specs.Tracked.{Tables, Inherits, IsClosedAt, Holds, inherits_by}
use Rattle.voter_rounds.specs.Laws.{extend-above, inherits_from, inherits_says, put-fact, Holds-led}
use Rattle.voter_views.proofs.Entering.{enter-fact}

-- what was taken in already doesn't count again
or-again : {A : Type 0} (a b c : Option A) → option_or (option_or a (option_or b c)) c ≡ option_or a (option_or b c)
or-again (Some x) b c = refl
or-again None (Some x) c = refl
or-again None None (Some x) = refl
or-again None None None = refl

-- nothing is left to be handed on where leaders were
pub extend-closed : (here : ℕ → Option ℕ) (from_before : ℕ → Bool) (known : ℕ → Option ℕ) (w : ℕ) → IsClosedAt from_before (extend here from_before known) w
extend-closed here from_before known w so = rw so (or-again (known (suc w)) (here (suc w)) (extend here from_before known w))

-- a point that names the leader of one view
pub named-leader : {C : Type 0} (next led : ℕ) (elect : ℕ → Option C → ℕ) (c : C) (from_before : ℕ → Bool) (known : ℕ → Option ℕ) → led ≡ elect next (Some c) → (u : ℕ)
    → extend (λ w. if w == next then Some led else None) from_before known u ≡ extend (λ w. if w == next then Some (elect w (Some c)) else None) from_before known u
named-leader next led elect c from_before known is u = λ i. extend (λ w. named w i) from_before known u where
  named : (w : ℕ) → (if w == next then Some led else None) ≡ (if w == next then Some (elect w (Some c)) else None)
  named w = ⊎_elim
      (λ e. let here : (w == next) ≡ true = grind (arith, common_steps) in rw here (ap Some (is ∙ ap (λ v. elect v (Some c)) (sym e))))
      (λ ne. let apart : (w == next) ≡ false = grind (arith, common_steps) in rw apart refl)
      (cases_eq w next)

-- a mark on a view that is kept was there
forgotten-note : (floor : ℕ) (f : ℕ → Bool) (u : ℕ) → (if nat_lt u floor then false else f u) ≡ true → f u ≡ true
forgotten-note floor f u so = ⊎_elim (λ gone. absurd (cc (rw gone at so))) (λ kept. rw kept at so) (cases_Bool (nat_lt u floor))

-- where views are dropped nothing is left to be handed on, if nothing was
forgotten-closed : (next_gone gone : Bool) (above below : Option ℕ) → (next_gone ≡ true → gone ≡ true) → (next_gone ≡ false → gone ≡ false → option_or above below ≡ above)
    → option_or (if next_gone then None else above) (if gone then None else below) ≡ (if next_gone then None else above)
forgotten-closed true true above below with_it closed = refl
forgotten-closed true false above below with_it closed = absurd (cc (with_it refl))
forgotten-closed false true above below with_it closed = or_none above
forgotten-closed false false above below with_it closed = closed refl refl

module _ {S D P G C : Type 0} where
  -- what is known of a view that is kept is what was known
  forgotten-direct : (floor : ℕ) (t : ℕ → List (Item S D P G C)) (u : ℕ) → is_direct (forget floor t u) ≡ true → is_direct (t u) ≡ true
  forgotten-direct floor t u so = ⊎_elim (λ gone. absurd (cc (rw gone at so))) (λ kept. rw kept at so) (cases_Bool (nat_lt u floor))

  forgotten-vote : (floor : ℕ) (t : ℕ → List (Item S D P G C)) (u : ℕ) → has_notarized (forget floor t u) ≡ true → has_notarized (t u) ≡ true
  forgotten-vote floor t u so = ⊎_elim (λ gone. absurd (cc (rw gone at so))) (λ kept. rw kept at so) (cases_Bool (nat_lt u floor))

  -- a view that has the leader of the view before when views are dropped had it before
  pub inherits-kept : (s : Setup S C) (h : List (Point S D P G C)) (view : ℕ) → Inherits (frame_of s) (tables s (History.pruned ∷ h)) view → Inherits (frame_of s) (tables s h) view
  inherits-kept s h view i = record {
    optimism = i.optimism;
    inside = i.inside;
    why = ⊎_elim
        (λ there. inl (there.0, there.1, there.2, there.3, forgotten-direct (min_active s h) (seen s h) there.0 there.4))
        (λ window. inr (
          ⊎_elim
              (λ noted. or_left (was_forwarded s h (view - 1)) (has_notarized (seen s h (view - 1))) (forgotten-note (min_active s h) (was_forwarded s h) (view - 1) noted))
              (λ voted. or_right (was_forwarded s h (view - 1)) (has_notarized (seen s h (view - 1))) (forgotten-vote (min_active s h) (seen s h) (view - 1) voted))
              (or_cases (was_forwarded s (History.pruned ∷ h) (view - 1)) (has_notarized (forget (min_active s h) (seen s h) (view - 1))) window.0),
          ⊎_elim (λ first. inl first) (λ there. inr (there.0, there.1, there.2, forgotten-direct (min_active s h) (seen s h) there.0 there.3)) window.1,
        ))
        i.why;
  }

  -- behind a point by which leaders were handed on nothing is left
  closed-behind : (s : Setup S C) (h : List (Point S D P G C)) (x : Point S D P G C) → HandsOn s h x
      → (u : ℕ) → inherits_by (frame_of s) (tables s (x ∷ h)) (suc u) ≡ true → option_or (leader s (x ∷ h) (suc u)) (leader s (x ∷ h) u) ≡ leader s (x ∷ h) (suc u)
  closed-behind s h x e u so = subst (λ l. option_or (l (suc u)) (l u) ≡ l (suc u)) (sym e)
      (extend-closed (λ view. option_or (named s x view) (named_early s (x ∷ h) view)) (inherits s (x ∷ h)) (leader s h) u so)

  -- by no history is anything left to be handed on
  pub leader-closed : (s : Setup S C) (h : List (Point S D P G C)) (u : ℕ) → IsClosedAt (inherits_by (frame_of s) (tables s h)) (leader s h) u
  leader-closed s [] u so = refl
  leader-closed s (History.pruned ∷ h) u so = forgotten-closed (nat_lt (suc u) (min_active s h)) (nat_lt u (min_active s h)) (leader s h (suc u)) (leader s h u)
      (λ gone. grind (arith, nat_tests, gone))
      (λ _ _. leader-closed s h u (inherits_from (frame_of s) (tables s h) (suc u) (inherits-kept s h (suc u) (inherits_says (frame_of s) (tables s (History.pruned ∷ h)) (suc u) so))))
  leader-closed s (History.started now payload ∷ h) u so = closed-behind s h (History.started now payload) refl u so
  leader-closed s (History.based view ∷ h) u so = closed-behind s h (History.based view) refl u so
  leader-closed s (History.notarized c ∷ h) u so = closed-behind s h (History.notarized c) refl u so
  leader-closed s (History.nullified now c ∷ h) u so = closed-behind s h (History.nullified now c) refl u so
  leader-closed s (History.finalized now c ∷ h) u so = closed-behind s h (History.finalized now c) refl u so
  leader-closed s (History.judged now view ok ∷ h) u so = closed-behind s h (History.judged now view ok) refl u so
  leader-closed s (History.forwarded view p ∷ h) u so = closed-behind s h (History.forwarded view p) refl u so
  leader-closed s (History.built now p payload ∷ h) u so = closed-behind s h (History.built now p payload) refl u so
  leader-closed s (History.confirmed view ∷ h) u so = closed-behind s h (History.confirmed view) refl u so
  leader-closed s (History.unbound view ∷ h) u so = closed-behind s h (History.unbound view) refl u so
  leader-closed s (History.latched now view why ∷ h) u so = closed-behind s h (History.latched now view why) refl u so
  leader-closed s (History.build_asked view ∷ h) u so = closed-behind s h (History.build_asked view) refl u so
  leader-closed s (History.build_released view ∷ h) u so = closed-behind s h (History.build_released view) refl u so
  leader-closed s (History.verify_asked view p payload ∷ h) u so = closed-behind s h (History.verify_asked view p payload) refl u so
  leader-closed s (History.ancestry_asked view missing ∷ h) u so = closed-behind s h (History.ancestry_asked view missing) refl u so
  leader-closed s (History.certify_asked view handle ∷ h) u so = closed-behind s h (History.certify_asked view handle) refl u so
  leader-closed s (History.certify_waited view ∷ h) u so = closed-behind s h (History.certify_waited view) refl u so
  leader-closed s (History.voted_notarize view p ∷ h) u so = closed-behind s h (History.voted_notarize view p) refl u so
  leader-closed s (History.voted_nullify view ∷ h) u so = closed-behind s h (History.voted_nullify view) refl u so
  leader-closed s (History.voted_finalize view p ∷ h) u so = closed-behind s h (History.voted_finalize view p) refl u so
  leader-closed s (History.recalled_notarize p taken ∷ h) u so = closed-behind s h (History.recalled_notarize p taken) refl u so
  leader-closed s (History.recalled_nullify view ∷ h) u so = closed-behind s h (History.recalled_nullify view) refl u so
  leader-closed s (History.recalled_finalize p ∷ h) u so = closed-behind s h (History.recalled_finalize p) refl u so
  leader-closed s (History.recalled_verdict view ok ∷ h) u so = closed-behind s h (History.recalled_verdict view ok) refl u so
  leader-closed s (History.sent k view ∷ h) u so = closed-behind s h (History.sent k view) refl u so
  leader-closed s (History.polled now ∷ h) u so = closed-behind s h (History.polled now) refl u so

module _ {S D P G C : Type 0} where
  -- who leads is as it was where a point names nobody, and leaves alone what leaders rest on
  pub leader-same : (s : Setup S C) (h : List (Point S D P G C)) (x : Point S D P G C) → HandsOn s h x → ((u : ℕ) → named s x u ≡ None)
      → ((u : ℕ) → has_notarized (seen s (x ∷ h) u) ≡ has_notarized (seen s h u)) → ((u : ℕ) → inherits_by (frame_of s) (tables s (x ∷ h)) u ≡ inherits_by (frame_of s) (tables s h) u)
      → (u : ℕ) → leader s (x ∷ h) u ≡ leader s h u
  leader-same s h x hands nobody votes same u = leader_named s h x hands votes u
      ∙ extend-above (named s x) (inherits s (x ∷ h)) (leader s h) 0 u refl
      (λ w _. nobody w)
      (λ w _ _ so. leader-closed s h w (sym (same (suc w)) ∙ so))
      (omega arith)

  -- what is known of each view behind a point that brings no own notarize: all but for leaders who are named early
  abbrev pub named-tables : Setup S C → List (Point S D P G C) → Point S D P G C → Tables S D P G C
  named-tables s h x = record { led = extend (named s x) (inherits s (x ∷ h)) (leader s h); past = seen s (x ∷ h); noted = was_forwarded s (x ∷ h) }

  pub named-at : (g : Ghosts S D P G C) (x : Tracked S D P G C) (s : Setup S C) (h : List (Point S D P G C)) (point : Point S D P G C) → HandsOn s h point
      → ((u : ℕ) → has_notarized (seen s (point ∷ h) u) ≡ has_notarized (seen s h u)) → Holds g (frame_of s) x (named-tables s h point) → Holds g (frame_of s) x (tables s (point ∷ h))
  named-at g x s h point hands votes k = Holds-led g (frame_of s) x (named-tables s h point) (leader s (point ∷ h)) k (λ u fits. sym (leader_named s h point hands votes u))

  -- and behind an own notarize of a view: who may lead the next one early is named
  abbrev pub voted-tables : Setup S C → List (Point S D P G C) → Point S D P G C → ℕ → Option ℕ → Tables S D P G C
  voted-tables s h x at heir = record { led = extend (λ u. if u == at + 1 then heir else None) (inherits s (x ∷ h)) (leader s h); past = seen s (x ∷ h); noted = was_forwarded s (x ∷ h) }

  pub voted-at : (g : Ghosts S D P G C) (x : Tracked S D P G C) (s : Setup S C) (h : List (Point S D P G C)) (point : Point S D P G C) (at : ℕ) (heir : Option ℕ) → HandsOn s h point
      → ((u : ℕ) → named s point u ≡ None) → has_notarized (seen s (point ∷ h) at) ≡ true
      → ((u : ℕ) → (at == u) ≡ false → has_notarized (seen s (point ∷ h) u) ≡ has_notarized (seen s h u)) → (at + 1 < 2 ^ 64 → heir ≡ handoff_leader s (at + 1))
      → Holds g (frame_of s) x (voted-tables s h point at heir) → Holds g (frame_of s) x (tables s (point ∷ h))
  voted-at g x s h point at heir hands nobody own others heirs k =
      Holds-led g (frame_of s) x (voted-tables s h point at heir) (leader s (point ∷ h)) k (λ u fits. sym (leader_voted s h point at heir hands nobody own others heirs u fits))

  -- a view that is entered brings no own notarize
  pub entered-votes : (s : Setup S C) (h : List (Point S D P G C)) (now next u : ℕ) → has_notarized (enter s (current s h) now next (seen s h) u) ≡ has_notarized (seen s h u)
  entered-votes s h now next u = enter-fact has_notarized (λ m l. refl) (λ a b o l. refl) s (current s h) now next (seen s h) u

  -- what is known of each view behind a nullification that enters this view, whose leader is named so
  abbrev pub nullified-tables : Setup S C → List (Point S D P G C) → ℕ → Nullification S D P G C → ℕ → ℕ → Tables S D P G C
  nullified-tables s h now c led next =
      let past_next : ℕ → List (Item S D P G C) = put c.round.view (past.nullified c) (enter s (current s h) now next (seen s h)) in
      record {
        led = extend (λ u. if u == next then Some led else None) (inherits_by (frame_of s) (record { led = leader s h; past = past_next; noted = was_forwarded s h })) (leader s h);
        past = past_next;
        noted = was_forwarded s h;
      }

  pub nullified-at : (g : Ghosts S D P G C) (x : Tracked S D P G C) (s : Setup S C) (h : List (Point S D P G C)) (now : ℕ) (c : Nullification S D P G C) (next led : ℕ)
      → next ≡ next_term_start s.length c.round.view → led ≡ s.elect next (Some c.certificate)
      → Holds g (frame_of s) x (nullified-tables s h now c led next) → Holds g (frame_of s) x (tables s (History.nullified now c ∷ h))
  nullified-at g x s h now c next led e f k =
      let start : ℕ = next_term_start s.length c.round.view in
      let moved : Holds g (frame_of s) x (nullified-tables s h now c led start) = subst (λ n. Holds g (frame_of s) x (nullified-tables s h now c led n)) e k in
      named-at g x s h (History.nullified now c) refl
      (λ u. put-fact has_notarized (past.nullified c) (λ l. refl) c.round.view (enter s (current s h) now start (seen s h)) u ∙ entered-votes s h now start u)
      (Holds-led g (frame_of s) x _ (named-tables s h (History.nullified now c)).led moved
      (λ u fits. named-leader start led s.elect c.certificate
      (inherits_by (frame_of s) (record { led = leader s h; past = put c.round.view (past.nullified c) (enter s (current s h) now start (seen s h)); noted = was_forwarded s h }))
      (leader s h) (f ∙ ap (λ n. s.elect n (Some c.certificate)) e) u))

  -- the same behind a notarization
  abbrev pub notarized-tables : Setup S C → List (Point S D P G C) → Notarization S D P G C → ℕ → ℕ → Tables S D P G C
  notarized-tables s h c led next =
      let past_next : ℕ → List (Item S D P G C) = put c.proposal.round.view (past.notarized c) (seen s h) in
      record {
        led = extend (λ u. if u == next then Some led else None) (inherits_by (frame_of s) (record { led = leader s h; past = past_next; noted = was_forwarded s h })) (leader s h);
        past = past_next;
        noted = was_forwarded s h;
      }

  pub notarized-at : (g : Ghosts S D P G C) (x : Tracked S D P G C) (s : Setup S C) (h : List (Point S D P G C)) (c : Notarization S D P G C) (next led : ℕ)
      → next ≡ c.proposal.round.view + 1 → led ≡ s.elect next (Some c.certificate)
      → Holds g (frame_of s) x (notarized-tables s h c led next) → Holds g (frame_of s) x (tables s (History.notarized c ∷ h))
  notarized-at g x s h c next led e f k =
      let start : ℕ = c.proposal.round.view + 1 in
      let moved : Holds g (frame_of s) x (notarized-tables s h c led start) = subst (λ n. Holds g (frame_of s) x (notarized-tables s h c led n)) e k in
      named-at g x s h (History.notarized c) refl
      (λ u. put-fact has_notarized (past.notarized c) (λ l. refl) c.proposal.round.view (seen s h) u)
      (Holds-led g (frame_of s) x _ (named-tables s h (History.notarized c)).led moved
      (λ u fits. named-leader start led s.elect c.certificate
      (inherits_by (frame_of s) (record { led = leader s h; past = put c.proposal.round.view (past.notarized c) (seen s h); noted = was_forwarded s h }))
      (leader s h) (f ∙ ap (λ n. s.elect n (Some c.certificate)) e) u))

  -- and behind a finalization, which enters the next view
  abbrev pub finalized-tables : Setup S C → List (Point S D P G C) → ℕ → Finalization S D P G C → ℕ → ℕ → Tables S D P G C
  finalized-tables s h now c led next =
      let past_next : ℕ → List (Item S D P G C) = put c.proposal.round.view (past.finalized c) (enter s (current s h) now next (seen s h)) in
      record {
        led = extend (λ u. if u == next then Some led else None) (inherits_by (frame_of s) (record { led = leader s h; past = past_next; noted = was_forwarded s h })) (leader s h);
        past = past_next;
        noted = was_forwarded s h;
      }

  pub finalized-at : (g : Ghosts S D P G C) (x : Tracked S D P G C) (s : Setup S C) (h : List (Point S D P G C)) (now : ℕ) (c : Finalization S D P G C) (next led : ℕ)
      → next ≡ c.proposal.round.view + 1 → led ≡ s.elect next (Some c.certificate)
      → Holds g (frame_of s) x (finalized-tables s h now c led next) → Holds g (frame_of s) x (tables s (History.finalized now c ∷ h))
  finalized-at g x s h now c next led e f k =
      let start : ℕ = c.proposal.round.view + 1 in
      let moved : Holds g (frame_of s) x (finalized-tables s h now c led start) = subst (λ n. Holds g (frame_of s) x (finalized-tables s h now c led n)) e k in
      named-at g x s h (History.finalized now c) refl
      (λ u. put-fact has_notarized (past.finalized c) (λ l. refl) c.proposal.round.view (enter s (current s h) now start (seen s h)) u ∙ entered-votes s h now start u)
      (Holds-led g (frame_of s) x _ (named-tables s h (History.finalized now c)).led moved
      (λ u fits. named-leader start led s.elect c.certificate
      (inherits_by (frame_of s) (record { led = leader s h; past = put c.proposal.round.view (past.finalized c) (enter s (current s h) now start (seen s h)); noted = was_forwarded s h }))
      (leader s h) (f ∙ ap (λ n. s.elect n (Some c.certificate)) e) u))

  -- and behind the start, which enters view 1
  abbrev pub started-tables : Setup S C → List (Point S D P G C) → ℕ → ℕ → ℕ → Tables S D P G C
  started-tables s h now led first =
      let past_next : ℕ → List (Item S D P G C) = enter s (current s h) now first (seen s h) in
      record {
        led = extend (λ u. if u == first then Some led else None) (inherits_by (frame_of s) (record { led = leader s h; past = past_next; noted = was_forwarded s h })) (leader s h);
        past = past_next;
        noted = was_forwarded s h;
      }

  pub started-at : (g : Ghosts S D P G C) (x : Tracked S D P G C) (s : Setup S C) (h : List (Point S D P G C)) (now : ℕ) (payload : Option D) (first led : ℕ) → first ≡ 1 → led ≡ s.elect 1 None
      → Holds g (frame_of s) x (started-tables s h now led first) → Holds g (frame_of s) x (tables s (History.started now payload ∷ h))
  started-at g x s h now payload first led e f k =
      let moved : Holds g (frame_of s) x (started-tables s h now (s.elect 1 None) 1) = subst (λ n. Holds g (frame_of s) x (started-tables s h now n 1)) f (subst (λ n. Holds g (frame_of s) x (started-tables s h now led n)) e k) in
      named-at g x s h (History.started now payload) refl (entered-votes s h now 1) moved
