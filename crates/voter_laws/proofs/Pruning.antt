-- Dropping the views that need not be kept changes nothing that is due above the last finalized one.
use Rattle.std.proofs.Common.{◌≡◌, ◌⊎◌, inl, inr, true, false, ℕ, zero, suc, List, [], ◌∷◌, sym, ◌∙◌, ap, subst, refl, ◌+◌, ◌-◌, ◌<◌, ◌≤◌, max, arith, if◌then◌else◌}
use mathlib.Core.Bool.{true≢false}
use Rattle.std.proofs.lemmas.Bool.{cases_lt}
use Rattle.std.proofs.lemmas.Bool.Decides.{nat_tests, Decides-eqb}
use Rattle.std.proofs.lemmas.Option.{none-some, same_Some}
use Rattle.std.specs.Prelude.{◌==◌, ◌↔◌, nat_lt, Bool, Option, Some, None, is_some, IsSome, option_map, option_and_then}
use Rattle.std.specs.List.{cons_option}
use Rattle.std.specs.Option.{option_or}
use Rattle.messages_certificates.specs.ProposalCertificate.{Notarization, Finalization}
use Rattle.voter_history.specs.declared.timeout_reason.TimeoutReason.{TimeoutReason}
use Rattle.voter_history.specs.Held as offer
use Rattle.voter_history.specs.Held.{Offer, held}
use Rattle.voter_history.specs.Past as past
use Rattle.voter_history.specs.Past.{Item, offers}
use Rattle.voter_history.specs.Pasts.{put}
use Rattle.voter_history.specs.History.{started, nullified, judged, Setup, Point, finalized, pruned, enter, is_marked, current, last_finalized, min_active, seen}
use Rattle.voter_history.specs.Leaders.{leader}
use Rattle.voter_history.specs.Known.{known, backs, waits}
use Rattle.voter_rules.specs.Ancestry.{member}
use Rattle.voter_laws.specs.Matching.{AgreeAbove, PruneChangesNothing, PruneKeepsTimeouts}
use Rattle.voter_rules.specs.GivingUp.{first_from, oldest_entered, term_deadline, timeout, NullifyIsDue, IsTracked, MayLatch}
use Rattle.voter_laws.proofs.Agreeing.{turned, what_agrees_is_due_alike}
use Rattle.voter_laws.proofs.Growing.{grows, stays_kept, grown}
use Rattle.voter_laws.proofs.Recordable.{ahead}

-- with one more to give something is given
some_or : {A : Type 0} (o : Option A) (x : A) → IsSome (option_or o (Some x))
some_or None x = refl
some_or (Some y) x = refl

mapped_some : {A B : Type 0} (f : A → B) (o : Option A) → IsSome o → IsSome (option_map f o)
mapped_some f None some = some
mapped_some f (Some x) some = refl

-- where nothing is dropped all stays
unless : {X : Type 0} (b : Bool) (gone x : X) → b ≡ false → x ≡ (if b then gone else x)
unless true gone x stays = absurd (true≢false stays)
unless false gone x stays = refl

module _ {D : Type 0} where
  pub held_more : (o : Offer D) (l : List (Offer D)) → IsSome (held l) → IsSome (held (o ∷ l))
  held_more (offer.forwarded p) l some = some_or (held l) p
  held_more (offer.certified p) l some = refl
  held_more (offer.recorded p) l some = refl
  held_more o l some = some

module _ {S D P G C : Type 0} where
  -- a view is finalized, and holds a proposal
  abbrev IsAnchor : List (Item S D P G C) → Type 0
  IsAnchor l = IsSome (past.finalization l) × IsSome (held (offers l))

  finalization_more : (x : Item S D P G C) (l : List (Item S D P G C)) → IsSome (past.finalization l) → IsSome (past.finalization (x ∷ l))
  finalization_more (past.finalized c) l some = some_or (past.finalization l) c
  finalization_more x l some = some

  anchor_more : (x : Item S D P G C) (l : List (Item S D P G C)) → IsAnchor l → IsAnchor (x ∷ l)
  anchor_more x l anchor = (finalization_more x l anchor.0, by (past.offer_in x))
    where
      by : (o : Option (Offer D)) → IsSome (held (cons_option o (offers l)))
      by None = anchor.1
      by (Some o) = held_more o (offers l) anchor.1

  -- it stays so, while it is the last
  anchor_still : (s : Setup S C) (x : Point S D P G C) (h : List (Point S D P G C)) → (last_finalized h ≡ 0) ⊎ IsAnchor (seen s h (last_finalized h))
      → (last_finalized h ≡ 0) ⊎ IsAnchor (seen s (x ∷ h) (last_finalized h))
  anchor_still s x h (inl none) = inl none
  anchor_still s x h (inr anchor) =
      inr (grown {Q = IsAnchor} anchor_more (grows s h (last_finalized h) x (stays_kept s h (last_finalized h) x (omega arith))) anchor)

  -- the last finalized view is finalized and holds a proposal, unless it is the start
  anchored : (s : Setup S C) (h : List (Point S D P G C)) → (last_finalized h ≡ 0) ⊎ IsAnchor (seen s h (last_finalized h))
  anchored s [] = inl refl
  anchored s (finalized now c ∷ h) = by (cases_lt (last_finalized h) c.proposal.round.view) (anchor_still s (finalized now c) h (anchored s h))
    where
      by : (last_finalized h < c.proposal.round.view) ⊎ (c.proposal.round.view ≤ last_finalized h) → (last_finalized h ≡ 0) ⊎ IsAnchor (seen s (finalized now c ∷ h) (last_finalized h))
          → (max c.proposal.round.view (last_finalized h) ≡ 0) ⊎ IsAnchor (seen s (finalized now c ∷ h) (max c.proposal.round.view (last_finalized h)))
      by (inl above) before =
          let is : c.proposal.round.view ≡ max c.proposal.round.view (last_finalized h) = omega (arith, above) in
          inr (subst (λ (v : ℕ). IsAnchor (seen s (finalized now c ∷ h) v)) is here)
        where
          entered : ℕ → List (Item S D P G C)
          entered = enter s (current s h) now (c.proposal.round.view + 1) (seen s h)

          on_top : (b : Bool) → b ≡ true → IsAnchor (if b then past.finalized c ∷ entered c.proposal.round.view else entered c.proposal.round.view)
          on_top true same = (some_or (past.finalization (entered c.proposal.round.view)) c, refl)
          on_top false same = absurd (true≢false (sym same))

          here : IsAnchor (put c.proposal.round.view (past.finalized c) entered c.proposal.round.view)
          here = on_top (c.proposal.round.view == c.proposal.round.view) ((Decides-eqb c.proposal.round.view c.proposal.round.view).1 refl)
      by (inr below) before =
          let is : last_finalized h ≡ max c.proposal.round.view (last_finalized h) = omega (arith, below) in
          subst (λ (v : ℕ). (v ≡ 0) ⊎ IsAnchor (seen s (finalized now c ∷ h) v)) is before
  anchored s (x ∷ h) = anchor_still s x h (anchored s h)

  pub pruned_agrees : (s : Setup S C) (h : List (Point S D P G C)) → AgreeAbove (member s) (known s h) (known s (pruned ∷ h))
  pruned_agrees s h = record {
    current = refl;
    last_finalized = refl;
    floor = refl;
    genesis = refl;
    ahead = ahead s h;
    anchored = elim (anchored s h) [
      | inl none ↦ inl none
      | inr anchor ↦ inr (mapped_some (λ (c : Finalization S D P G C). c.proposal) (past.finalization (seen s h (last_finalized h))) anchor.0, anchor.1)
    ];
    covered = λ view above. (λ c. c, λ c. c);
    leader = λ view from. unless (nat_lt view (min_active s h)) None (leader s h view) (kept view from);
    offers = λ view from. ap (λ (l : List (Item S D P G C)). offers l) (still view from);
    notarized = λ view from. ap (λ (l : List (Item S D P G C)). option_map (λ (c : Notarization S D P G C). c.proposal) (past.notarization l)) (still view from);
    finalized = λ view from. ap (λ (l : List (Item S D P G C)). option_map (λ (c : Finalization S D P G C). c.proposal) (past.finalization l)) (still view from);
    verdict = λ view from. ap (λ (l : List (Item S D P G C)). past.verdict l) (still view from);
    has_notarized = λ view from. ap (λ (l : List (Item S D P G C)). past.has_notarized l) (still view from);
    has_nullified = λ view from. ap (λ (l : List (Item S D P G C)). past.has_nullified l) (still view from);
    has_finalized = λ view from. ap (λ (l : List (Item S D P G C)). past.has_finalized l) (still view from);
    is_backed = λ view from. unless (nat_lt view (min_active s h)) false (is_marked s backs h view) (kept view from);
    last_asked = λ view from. ap (λ (l : List (Item S D P G C)). past.last_asked l) (still view from);
    binding = λ view from. ap (λ (l : List (Item S D P G C)). past.binding l) (still view from);
    certify_asked = λ view from. ap (λ (l : List (Item S D P G C)). past.is_certify_asked l) (still view from);
    certify_waited = λ view from. unless (nat_lt view (min_active s h)) false (is_marked s waits h view) (kept view from);
  }
    where
      kept : (view : ℕ) → last_finalized h ≤ view → nat_lt view (min_active s h) ≡ false
      kept view from = grind (arith, nat_tests, from)

      still : (view : ℕ) → last_finalized h ≤ view → seen s h view ≡ seen s (pruned ∷ h) view
      still view from = unless (nat_lt view (min_active s h)) [] (seen s h view) (kept view from)

  pub prune_changes_nothing : PruneChangesNothing S D P G C
  prune_changes_nothing s h view above = (
    what_agrees_is_due_alike (member s) (known s h) (known s (pruned ∷ h)) view (pruned_agrees s h) above,
    what_agrees_is_due_alike (member s) (known s (pruned ∷ h)) (known s h) view (turned (member s) (known s h) (known s (pruned ∷ h)) (pruned_agrees s h)) above,
  )

-- the first number that passes is none below the first that is tried
first_above : (test : ℕ → Bool) (low n u : ℕ) → first_from test low n ≡ Some u → low ≤ u
first_above test low zero u is = absurd (none-some u is)
first_above test low (suc n) u is = by (test low) is (first_above test (low + 1) n u)
  where
    by : (b : Bool) → (if b then Some low else first_from test (low + 1) n) ≡ Some u → (first_from test (low + 1) n ≡ Some u → low + 1 ≤ u) → low ≤ u
    by true now later = omega (arith, same_Some low u now)
    by false now later = omega (arith, later now)

pub first_same : (test other : ℕ → Bool) (low n : ℕ) → ((u : ℕ) → low ≤ u → test u ≡ other u) → first_from test low n ≡ first_from other low n
first_same test other low zero same = refl
first_same test other low (suc n) same =
    rw (same low (omega arith), first_same test other (low + 1) n (λ u above. same u (omega (arith, above)))) refl

-- what two functions give alike of what is there
pub then_same : {A : Type 0} (f g : ℕ → Option A) (o : Option ℕ) → ((u : ℕ) → o ≡ Some u → f u ≡ g u) → option_and_then f o ≡ option_and_then g o
then_same f g None same = refl
then_same f g (Some u) same = same u refl

module _ {S D P G C : Type 0} (s : Setup S C) (h : List (Point S D P G C)) where
  -- the current view lies above the last finalized one, unless that is the start
  pub behind : (l : List (Point S D P G C)) → last_finalized l ≤ current s l - 1
  behind [] = omega arith
  behind (started now payload ∷ l) = omega (arith, behind l)
  behind (nullified now c ∷ l) = omega (arith, behind l)
  behind (finalized now c ∷ l) = omega (arith, behind l)
  behind (judged now view true ∷ l) = omega (arith, behind l)
  behind (judged now view false ∷ l) = behind l
  behind (x ∷ l) = behind l

  kept_past : (view : ℕ) → last_finalized h ≤ view → seen s (pruned ∷ h) view ≡ seen s h view
  kept_past view from = sym (unless (nat_lt view (min_active s h)) [] (seen s h view) (grind (arith, nat_tests, from)))

  kept_leader : (view : ℕ) → last_finalized h ≤ view → leader s (pruned ∷ h) view ≡ leader s h view
  kept_leader view from = sym (unless (nat_lt view (min_active s h)) None (leader s h view) (grind (arith, nat_tests, from)))

  current_kept : last_finalized h ≤ current s h
  current_kept = omega (arith, behind h)

  same_oldest : oldest_entered s (pruned ∷ h) ≡ oldest_entered s h
  same_oldest =
      first_same (λ u. is_some (past.entered_at (seen s (pruned ∷ h) u))) (λ u. is_some (past.entered_at (seen s h u))) _ _
      (λ u above. ap (λ (l : List (Item S D P G C)). is_some (past.entered_at l)) (kept_past u (omega (arith, above))))

  same_deadline : term_deadline s (pruned ∷ h) ≡ term_deadline s h
  same_deadline =
      ap (λ (o : Option ℕ). option_and_then (λ u. past.stall_deadline (seen s (pruned ∷ h) u)) o) same_oldest
      ∙ then_same (λ u. past.stall_deadline (seen s (pruned ∷ h) u)) (λ u. past.stall_deadline (seen s h u)) (oldest_entered s h)
      (λ u is. ap (λ (l : List (Item S D P G C)). past.stall_deadline l) (kept_past u (omega (arith, first_above (λ v. is_some (past.entered_at (seen s h v))) _ _ u is))))

  same_timeout : (now : ℕ) → timeout s (pruned ∷ h) now ≡ timeout s h now
  same_timeout now = rw (same_deadline, kept_past (current s h) current_kept) refl

  still_tracked : (view : ℕ) → last_finalized h ≤ view → IsTracked s h view ↔ IsTracked s (pruned ∷ h) view
  still_tracked view from = (λ t. rw (kept_past view from, kept_leader view from) t, λ t. rw (sym (kept_past view from), sym (kept_leader view from)) t)

pub prune_keeps_timeouts : {S D P G C : Type 0} → PruneKeepsTimeouts S D P G C
prune_keeps_timeouts {S} {D} {P} {G} {C} s h now = (same_timeout s h now, (due, due_back), λ view why. (counts view why, counts_back view why))
  where
    same : seen s (pruned ∷ h) (current s h) ≡ seen s h (current s h)
    same = kept_past s h (current s h) (current_kept s h)

    voted : past.has_finalized (seen s (pruned ∷ h) (current s h)) ≡ past.has_finalized (seen s h (current s h))
    voted = ap (λ (l : List (Item S D P G C)). past.has_finalized l) same

    due : NullifyIsDue s h now → NullifyIsDue s (pruned ∷ h) now
    due d = record {
      gives_up = record { current = d.gives_up.current; some = d.gives_up.some; room = d.gives_up.room; not_finalized = voted ∙ d.gives_up.not_finalized };
      moment = d.moment;
      why = d.why;
      next = same_timeout s h now ∙ d.next;
      reached = d.reached;
    }

    due_back : NullifyIsDue s (pruned ∷ h) now → NullifyIsDue s h now
    due_back d = record {
      gives_up = record { current = d.gives_up.current; some = d.gives_up.some; room = d.gives_up.room; not_finalized = sym voted ∙ d.gives_up.not_finalized };
      moment = d.moment;
      why = d.why;
      next = sym (same_timeout s h now) ∙ d.next;
      reached = d.reached;
    }

    counts : (view : ℕ) (why : TimeoutReason) → MayLatch s h view why → MayLatch s (pruned ∷ h) view why
    counts view why m =
        let from : last_finalized h ≤ view = omega (arith, m.from, current_kept s h) in
        record { from = m.from; tracked = (still_tracked s h view from).0 m.tracked; heard = λ silent. rw (kept_past s h view from) (m.heard silent) }

    counts_back : (view : ℕ) (why : TimeoutReason) → MayLatch s (pruned ∷ h) view why → MayLatch s h view why
    counts_back view why m =
        let from : last_finalized h ≤ view = omega (arith, m.from, current_kept s h) in
        record { from = m.from; tracked = (still_tracked s h view from).1 m.tracked; heard = λ silent. rw (sym (kept_past s h view from)) (m.heard silent) }
