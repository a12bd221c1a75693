-- A voter's history to which nothing but certificates came, none of them a notarization: what its views see, and whom it knows as leaders.
use Rattle.std.proofs.Common.{◌≡◌, ◌⊎◌, inl, inr, ℕ, zero, suc, ◌+◌, ◌<◌, ◌-◌, ◌==◌, Bool, true, false, List, [], ◌∷◌, Option, Some, None, refl, sym, ap, subst, arith}
use Rattle.std.specs.Prelude.{if◌then◌else◌, max, nat_lt, ⊤}
use Rattle.std.specs.Option.{option_or}
use Rattle.std.proofs.lemmas.Bool.{both_ways, eqb-true}
use Rattle.types_core.specs.Positions.{next_term_start}
use Rattle.voter_history.specs.Held.{IsConfirmed}
use Rattle.voter_history.specs.Past as past
use Rattle.voter_history.specs.Past.{Item}
use Rattle.voter_history.specs.Pasts.{put}
use Rattle.voter_history.specs.History as views
use Rattle.voter_history.specs.History.{started, nullified, finalized, sent, pruned, current, enter, last_finalized, later, min_active, seen}
use Rattle.voter_history.specs.Leaders.{extend, handoff_leader, inherits, leader, named, named_early}
use Rattle.types_terms.specs.declared.kind.Kind.TheVariants as kind

-- ---- leaders, where no view has the leader of the view before, and the elector names the last member

module _ (IsOne : ℕ → Type 0) where
  -- nobody leads the view, or the last member does and it is one of these
  abbrev pub IsLedSo : ℕ → Option ℕ → Type 0
  IsLedSo view o = (o ≡ None) ⊎ ((o ≡ Some 3) × IsOne view)

  so-or : (view : ℕ) (a b : Option ℕ) → IsLedSo view a → IsLedSo view b → IsLedSo view (option_or a b)
  so-or view None b before now = now
  so-or view (Some x) b before now = before

  so-off : (view : ℕ) (b : Bool) (o : Option ℕ) → b ≡ false → IsLedSo view (if b then o else None)
  so-off view true o e = absurd (both_ways true e refl)
  so-off view false o e = inl refl

  so-kept : (view : ℕ) (b : Bool) (o : Option ℕ) → IsLedSo view o → IsLedSo view (if b then None else o)
  so-kept view true o led = inl refl
  so-kept view false o led = led

  so-at : (view at k : ℕ) → k ≡ 3 → IsOne at → IsLedSo view (if view == at then Some k else None)
  so-at view at k three one = go (view == at) refl
    where
      go : (b : Bool) → (view == at) ≡ b → IsLedSo view (if b then Some k else None)
      go true e = inr (ap (λ (n : ℕ). Some n) three, subst IsOne (sym (eqb-true view at e)) one)
      go false e = inl refl

  so-extend : (here : ℕ → Option ℕ) (from_before : ℕ → Bool) (known : ℕ → Option ℕ) → ((view : ℕ) → from_before view ≡ false) → ((view : ℕ) → IsLedSo view (here view)) → ((view : ℕ) → IsLedSo view (known view))
      → (view : ℕ) → IsLedSo view (extend here from_before known view)
  so-extend here from_before known off names knows zero = knows zero
  so-extend here from_before known off names knows (suc w) =
      so-or (suc w) (known (suc w)) (option_or (here (suc w)) (if from_before (suc w) then extend here from_before known w else None)) (knows (suc w))
      (so-or (suc w) (here (suc w)) (if from_before (suc w) then extend here from_before known w else None) (names (suc w))
      (so-off (suc w) (from_before (suc w)) (extend here from_before known w) (off (suc w))))

module _ {S D P G C : Type 0} where
  -- nothing was found good, notarized, or voted for
  pub record IsMild (x : List (Item S D P G C)) : Type 0 where
    pub unconfirmed : IsConfirmed (past.offers x) → ⊥
    pub unnotarized : past.notarization x ≡ None
    pub unvoted : past.has_notarized x ≡ false

  -- only the start, finalizations and nullifications came, and were handed out
  abbrev pub IsStir : List (views.Point S D P G C) → Type 0
  IsStir [] = ⊤
  IsStir (started now payload ∷ h) = IsStir h
  IsStir (nullified now c ∷ h) = IsStir h
  IsStir (finalized now c ∷ h) = IsStir h
  IsStir (sent kind.Nullification view ∷ h) = IsStir h
  IsStir (sent kind.Finalization view ∷ h) = IsStir h
  IsStir (pruned ∷ h) = IsStir h
  IsStir (x ∷ h) = ⊥

  none-mild : IsMild []
  none-mild = record { unconfirmed = λ is. is; unnotarized = refl; unvoted = refl }

  -- what holds of one of two holds of the chosen one
  either : (Q : List (Item S D P G C) → Type 0) (b : Bool) (x y : List (Item S D P G C)) → Q x → Q y → Q (if b then x else y)
  either Q true x y first second = first
  either Q false x y first second = second

  either-seen : (Q : List (Item S D P G C) → Type 0) (b : Bool) (t u : ℕ → List (Item S D P G C)) → ((view : ℕ) → Q (t view)) → ((view : ℕ) → Q (u view)) → (view : ℕ) → Q ((if b then t else u) view)
  either-seen Q true t u first second view = first view
  either-seen Q false t u first second view = second view

  put-keeps : (Q : List (Item S D P G C) → Type 0) (at : ℕ) (x : Item S D P G C) (t : ℕ → List (Item S D P G C)) → ((xs : List (Item S D P G C)) → Q xs → Q (x ∷ xs)) → ((view : ℕ) → Q (t view)) → (view : ℕ) → Q (put at x t view)
  put-keeps Q at x t keeps all view = either Q (at == view) (x ∷ t view) (t view) (keeps (t view) (all view)) (all view)

  module _ (s : views.Setup S C) where
    enter-keeps : (Q : List (Item S D P G C) → Type 0) → ((a b : ℕ) (o : Option ℕ) (xs : List (Item S D P G C)) → Q xs → Q (past.armed a b o ∷ xs)) → ((a : ℕ) (xs : List (Item S D P G C)) → Q xs → Q (past.entered a ∷ xs))
        → (low now at : ℕ) (t : ℕ → List (Item S D P G C)) → ((view : ℕ) → Q (t view)) → (view : ℕ) → Q (enter s low now at t view)
    enter-keeps Q armed entered low now at t all =
        either-seen Q (nat_lt low at) (put at (past.armed (past.deadline now s.leader_timeout) (past.deadline now s.certification_timeout) (later now s.stall_timeout)) (put at (past.entered now) t)) t
        (put-keeps Q at (past.armed (past.deadline now s.leader_timeout) (past.deadline now s.certification_timeout) (later now s.stall_timeout)) (put at (past.entered now) t)
        (armed (past.deadline now s.leader_timeout) (past.deadline now s.certification_timeout) (later now s.stall_timeout))
        (put-keeps Q at (past.entered now) t (entered now) all)) all

    enter-mild : (low now at : ℕ) (t : ℕ → List (Item S D P G C)) → ((view : ℕ) → IsMild (t view)) → (view : ℕ) → IsMild (enter s low now at t view)
    enter-mild = enter-keeps IsMild (λ a b o xs m. record { unconfirmed = m.unconfirmed; unnotarized = m.unnotarized; unvoted = m.unvoted }) (λ a xs m. record { unconfirmed = m.unconfirmed; unnotarized = m.unnotarized; unvoted = m.unvoted })

    pub stir-mild : (h : List (views.Point S D P G C)) → IsStir h → (view : ℕ) → IsMild (seen s h view)
    stir-mild [] stir view = none-mild
    stir-mild (started now payload ∷ h) stir view = enter-mild (current s h) now 1 (seen s h) (stir-mild h stir) view
    stir-mild (nullified now c ∷ h) stir view =
        put-keeps IsMild c.round.view (past.nullified c) (enter s (current s h) now (next_term_start s.length c.round.view) (seen s h)) (λ xs m. record { unconfirmed = m.unconfirmed; unnotarized = m.unnotarized; unvoted = m.unvoted })
        (enter-mild (current s h) now (next_term_start s.length c.round.view) (seen s h) (stir-mild h stir)) view
    stir-mild (finalized now c ∷ h) stir view =
        put-keeps IsMild c.proposal.round.view (past.finalized c) (enter s (current s h) now (c.proposal.round.view + 1) (seen s h)) (λ xs m. record { unconfirmed = m.unconfirmed; unnotarized = m.unnotarized; unvoted = m.unvoted })
        (enter-mild (current s h) now (c.proposal.round.view + 1) (seen s h) (stir-mild h stir)) view
    stir-mild (sent kind.Nullification at ∷ h) stir view = put-keeps IsMild at past.sent_nullification (seen s h) (λ xs m. record { unconfirmed = m.unconfirmed; unnotarized = m.unnotarized; unvoted = m.unvoted }) (stir-mild h stir) view
    stir-mild (sent kind.Finalization at ∷ h) stir view = put-keeps IsMild at past.sent_finalization (seen s h) (λ xs m. record { unconfirmed = m.unconfirmed; unnotarized = m.unnotarized; unvoted = m.unvoted }) (stir-mild h stir) view
    stir-mild (pruned ∷ h) stir view = either IsMild (nat_lt view (min_active s h)) [] (seen s h view) none-mild (stir-mild h stir view)
    stir-mild (x ∷ h) stir view = absurd stir

    -- nothing was offered above the last finalized view
    abbrev Vacant : List (Item S D P G C) → Type 0
    Vacant x = past.offers x ≡ []

    put-quiet : (at view : ℕ) (x : Item S D P G C) (t : ℕ → List (Item S D P G C)) → Vacant (x ∷ t view) → Vacant (t view) → Vacant (put at x t view)
    put-quiet at view x t with_it is = either Vacant (at == view) (x ∷ t view) (t view) with_it is

    enter-vacant : (low now at view : ℕ) (t : ℕ → List (Item S D P G C)) → Vacant (t view) → Vacant (enter s low now at t view)
    enter-vacant low now at view t is = go (nat_lt low at)
      where
        inner : Vacant (put at (past.entered now) t view)
        inner = put-quiet at view (past.entered now) t is is

        go : (b : Bool) → Vacant ((if b then put at (past.armed (past.deadline now s.leader_timeout) (past.deadline now s.certification_timeout) (later now s.stall_timeout)) (put at (past.entered now) t) else t) view)
        go true = put-quiet at view (past.armed (past.deadline now s.leader_timeout) (past.deadline now s.certification_timeout) (later now s.stall_timeout)) (put at (past.entered now) t) inner inner
        go false = is

    put-other : (at view : ℕ) (x : Item S D P G C) (t : ℕ → List (Item S D P G C)) → at < view → Vacant (t view) → Vacant (put at x t view)
    put-other at view x t below is = go (at == view) refl
      where
        go : (b : Bool) → (at == view) ≡ b → Vacant (if b then x ∷ t view else t view)
        go true e = absurd (let same = eqb-true at view e in omega (arith, same, below))
        go false e = is

    pub stir-vacant : (h : List (views.Point S D P G C)) → IsStir h → (view : ℕ) → last_finalized h < view → past.offers (seen s h view) ≡ []
    stir-vacant [] stir view above = refl
    stir-vacant (started now payload ∷ h) stir view above = enter-vacant (current s h) now 1 view (seen s h) (stir-vacant h stir view above)
    stir-vacant (nullified now c ∷ h) stir view above =
        let before = enter-vacant (current s h) now (next_term_start s.length c.round.view) view (seen s h) (stir-vacant h stir view above) in
        put-quiet c.round.view view (past.nullified c) (enter s (current s h) now (next_term_start s.length c.round.view) (seen s h)) before before
    stir-vacant (finalized now c ∷ h) stir view above =
        let most : max c.proposal.round.view (last_finalized h) < view = above in
        put-other c.proposal.round.view view (past.finalized c) (enter s (current s h) now (c.proposal.round.view + 1) (seen s h)) (omega (arith, most))
        (enter-vacant (current s h) now (c.proposal.round.view + 1) view (seen s h) (stir-vacant h stir view (omega (arith, most))))
    stir-vacant (sent kind.Nullification at ∷ h) stir view above = let before = stir-vacant h stir view above in put-quiet at view past.sent_nullification (seen s h) before before
    stir-vacant (sent kind.Finalization at ∷ h) stir view above = let before = stir-vacant h stir view above in put-quiet at view past.sent_finalization (seen s h) before before
    stir-vacant (pruned ∷ h) stir view above = either Vacant (nat_lt view (min_active s h)) [] (seen s h view) refl (stir-vacant h stir view above)
    stir-vacant (x ∷ h) stir view above = absurd stir

    module _ (IsOne : ℕ → Type 0) where
      -- it names those that the start and certificates lead to
      abbrev pub NamesOnes : List (views.Point S D P G C) → Type 0
      NamesOnes [] = ⊤
      NamesOnes (started now payload ∷ h) = IsOne 1 × NamesOnes h
      NamesOnes (nullified now c ∷ h) = IsOne (next_term_start s.length c.round.view) × NamesOnes h
      NamesOnes (finalized now c ∷ h) = IsOne (c.proposal.round.view + 1) × NamesOnes h
      NamesOnes (x ∷ h) = NamesOnes h

      module _ (alone : (h : List (views.Point S D P G C)) (view : ℕ) → inherits s h view ≡ false) (three : (view : ℕ) (c : Option C) → s.elect view c ≡ 3) where
        so-on : (x : views.Point S D P G C) (h : List (views.Point S D P G C)) → IsStir (x ∷ h) → ((view : ℕ) → IsLedSo IsOne view (named s x view)) → ((view : ℕ) → IsLedSo IsOne view (leader s h view))
            → (view : ℕ) → IsLedSo IsOne view (extend (λ v. option_or (named s x v) (named_early s (x ∷ h) v)) (inherits s (x ∷ h)) (leader s h) view)
        so-on x h stir names before = so-extend IsOne (λ v. option_or (named s x v) (named_early s (x ∷ h) v)) (inherits s (x ∷ h)) (leader s h) (alone (x ∷ h))
            (λ v. so-or IsOne v (named s x v) (named_early s (x ∷ h) v) (names v) (so-off IsOne v (past.has_notarized (seen s (x ∷ h) (v - 1))) (handoff_leader s v) (stir-mild (x ∷ h) stir (v - 1)).unvoted)) before

        pub stir-leads : (h : List (views.Point S D P G C)) → IsStir h → NamesOnes h → (view : ℕ) → IsLedSo IsOne view (leader s h view)
        stir-leads [] stir ones view = inl refl
        stir-leads (started now payload ∷ h) stir ones view = so-on (started now payload) h stir (λ v. so-at IsOne v 1 (s.elect 1 None) (three 1 None) ones.0) (stir-leads h stir ones.1) view
        stir-leads (nullified now c ∷ h) stir ones view =
            so-on (nullified now c) h stir (λ v. so-at IsOne v (next_term_start s.length c.round.view) (s.elect v (Some c.certificate)) (three v (Some c.certificate)) ones.0) (stir-leads h stir ones.1) view
        stir-leads (finalized now c ∷ h) stir ones view =
            so-on (finalized now c) h stir (λ v. so-at IsOne v (c.proposal.round.view + 1) (s.elect v (Some c.certificate)) (three v (Some c.certificate)) ones.0) (stir-leads h stir ones.1) view
        stir-leads (sent kind.Nullification at ∷ h) stir ones view = so-on (sent kind.Nullification at) h stir (λ v. inl refl) (stir-leads h stir ones) view
        stir-leads (sent kind.Finalization at ∷ h) stir ones view = so-on (sent kind.Finalization at) h stir (λ v. inl refl) (stir-leads h stir ones) view
        stir-leads (pruned ∷ h) stir ones view = so-kept IsOne view (nat_lt view (min_active s h)) (leader s h view) (stir-leads h stir ones view)
        stir-leads (x ∷ h) stir ones view = absurd stir
