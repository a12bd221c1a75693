-- A voter's history in which nothing was offered and nothing certified but that the first view was given up: what its views see, and whom it knows as leaders.
use Rattle.std.proofs.Common.{◌≡◌, ◌⊎◌, inl, inr, ℕ, zero, suc, ◌≤◌, ◌-◌, Bool, true, false, List, [], ◌∷◌, Option, Some, None, refl, sym, ap, subst, arith}
use Rattle.std.specs.Prelude.{if◌then◌else◌, nat_lt, ◌==◌, ⊤}
use Rattle.std.specs.Option.{option_or}
use Rattle.std.proofs.lemmas.Bool.{both_ways, eqb-true}
use Rattle.types_core.specs.Positions.{next_term_start}
use Rattle.types_terms.specs.declared.kind.Kind.TheVariants as kind
use Rattle.voter_history.specs.Past as past
use Rattle.voter_history.specs.Past.{Item}
use Rattle.voter_history.specs.Pasts.{put}
use Rattle.voter_history.specs.History as views
use Rattle.voter_history.specs.History.{started, nullified, sent, recalled_nullify, voted_nullify, polled, pruned, current, enter, later, min_active, seen}
use Rattle.voter_history.specs.Leaders.{extend, handoff_leader, inherits, leader, named, named_early}

-- whom a view has as leader: nobody, or the views up to the last one the fourth member
abbrev pub IsLed : ℕ → ℕ → Option ℕ → Type 0
IsLed last view o = (o ≡ None) ⊎ ((o ≡ Some 3) × (1 ≤ view) × (view ≤ last))

module _ (last : ℕ) where
  led-or : (view : ℕ) (a b : Option ℕ) → IsLed last view a → IsLed last view b → IsLed last view (option_or a b)
  led-or view None b before now = now
  led-or view (Some x) b before now = before

  led-off : (view : ℕ) (b : Bool) (o : Option ℕ) → b ≡ false → IsLed last view (if b then o else None)
  led-off view true o e = absurd (both_ways true e refl)
  led-off view false o e = inl refl

  led-extend : (here : ℕ → Option ℕ) (from_before : ℕ → Bool) (known : ℕ → Option ℕ) → ((view : ℕ) → from_before view ≡ false) → ((view : ℕ) → IsLed last view (here view)) → ((view : ℕ) → IsLed last view (known view))
      → (view : ℕ) → IsLed last view (extend here from_before known view)
  led-extend here from_before known off names knows zero = knows zero
  led-extend here from_before known off names knows (suc w) =
      led-or (suc w) (known (suc w)) (option_or (here (suc w)) (if from_before (suc w) then extend here from_before known w else None)) (knows (suc w))
      (led-or (suc w) (here (suc w)) (if from_before (suc w) then extend here from_before known w else None) (names (suc w))
      (led-off (suc w) (from_before (suc w)) (extend here from_before known w) (off (suc w))))

  -- at this view it is named
  led-at : (view at k : ℕ) → k ≡ 3 → 1 ≤ at → at ≤ last → IsLed last view (if view == at then Some k else None)
  led-at view at k three low high = go (view == at) refl
    where
      go : (b : Bool) → (view == at) ≡ b → IsLed last view (if b then Some k else None)
      go true e = let is = eqb-true view at e in inr (ap (λ (n : ℕ). Some n) three, omega (arith, is, low), omega (arith, is, high))
      go false e = inl refl

  led-kept : (view : ℕ) (b : Bool) (o : Option ℕ) → IsLed last view o → IsLed last view (if b then None else o)
  led-kept view true o led = inl refl
  led-kept view false o led = led

module _ {S D P G C : Type 0} where
  -- nothing was offered to a view's proposal, it isn't notarized, and this member didn't vote for it
  pub record IsPlain (x : List (Item S D P G C)) : Type 0 where
    pub offers : past.offers x ≡ []
    pub notarization : past.notarization x ≡ None
    pub unvoted : past.has_notarized x ≡ false

  -- nothing came but the start, own nullifies, looks at the clock, and that the first view was given up, by which another is entered
  abbrev pub IsCalm : ℕ → List (views.Point S D P G C) → Type 0
  IsCalm last [] = ⊤
  IsCalm last (started now payload ∷ h) = IsCalm last h
  IsCalm last (nullified now c ∷ h) = (c.round.view ≡ 1) × (2 ≤ last) × IsCalm last h
  IsCalm last (sent kind.Nullification view ∷ h) = IsCalm last h
  IsCalm last (recalled_nullify view ∷ h) = IsCalm last h
  IsCalm last (voted_nullify view ∷ h) = IsCalm last h
  IsCalm last (polled now ∷ h) = IsCalm last h
  IsCalm last (pruned ∷ h) = IsCalm last h
  IsCalm last (x ∷ h) = ⊥

  none-plain : IsPlain []
  none-plain = record { offers = refl; notarization = refl; unvoted = refl }

  either : (b : Bool) (x y : List (Item S D P G C)) → IsPlain x → IsPlain y → IsPlain (if b then x else y)
  either true x y first second = first
  either false x y first second = second

  either-seen : (b : Bool) (t u : ℕ → List (Item S D P G C)) → ((view : ℕ) → IsPlain (t view)) → ((view : ℕ) → IsPlain (u view)) → (view : ℕ) → IsPlain ((if b then t else u) view)
  either-seen true t u first second view = first view
  either-seen false t u first second view = second view

  put-plain : (at : ℕ) (x : Item S D P G C) (t : ℕ → List (Item S D P G C)) → ((xs : List (Item S D P G C)) → IsPlain xs → IsPlain (x ∷ xs)) → ((view : ℕ) → IsPlain (t view)) → (view : ℕ) → IsPlain (put at x t view)
  put-plain at x t keeps all view = either (at == view) (x ∷ t view) (t view) (keeps (t view) (all view)) (all view)

  module _ (s : views.Setup S C) (last : ℕ) where
    enter-plain : (low now at : ℕ) (t : ℕ → List (Item S D P G C)) → ((view : ℕ) → IsPlain (t view)) → (view : ℕ) → IsPlain (enter s low now at t view)
    enter-plain low now at t all =
        either-seen (nat_lt low at) (put at (past.armed _ _ (later now s.stall_timeout)) (put at (past.entered now) t)) t
        (put-plain at (past.armed _ _ (later now s.stall_timeout)) (put at (past.entered now) t) (λ xs plain. record { offers = plain.offers; notarization = plain.notarization; unvoted = plain.unvoted })
        (put-plain at (past.entered now) t (λ xs plain. record { offers = plain.offers; notarization = plain.notarization; unvoted = plain.unvoted }) all)) all

    pub calm-seen : (h : List (views.Point S D P G C)) → IsCalm last h → (view : ℕ) → IsPlain (seen s h view)
    calm-seen [] calm view = none-plain
    calm-seen (started now payload ∷ h) calm view = enter-plain (current s h) now 1 (seen s h) (calm-seen h calm) view
    calm-seen (nullified now c ∷ h) calm view =
        put-plain c.round.view (past.nullified c) (enter s (current s h) now (next_term_start s.length c.round.view) (seen s h)) (λ xs plain. record { offers = plain.offers; notarization = plain.notarization; unvoted = plain.unvoted })
        (enter-plain (current s h) now (next_term_start s.length c.round.view) (seen s h) (calm-seen h calm.2)) view
    calm-seen (sent kind.Nullification at ∷ h) calm view = put-plain at past.sent_nullification (seen s h) (λ xs plain. record { offers = plain.offers; notarization = plain.notarization; unvoted = plain.unvoted }) (calm-seen h calm) view
    calm-seen (recalled_nullify at ∷ h) calm view = put-plain at past.voted_nullify (seen s h) (λ xs plain. record { offers = plain.offers; notarization = plain.notarization; unvoted = plain.unvoted }) (calm-seen h calm) view
    calm-seen (voted_nullify at ∷ h) calm view = put-plain at past.voted_nullify (seen s h) (λ xs plain. record { offers = plain.offers; notarization = plain.notarization; unvoted = plain.unvoted }) (calm-seen h calm) view
    calm-seen (polled now ∷ h) calm view =
        either-seen (nat_lt 0 (current s h)) (put (current s h) (past.polled _) (seen s h)) (seen s h)
        (put-plain (current s h) (past.polled _) (seen s h) (λ xs plain. record { offers = plain.offers; notarization = plain.notarization; unvoted = plain.unvoted }) (calm-seen h calm)) (calm-seen h calm) view
    calm-seen (pruned ∷ h) calm view = either (nat_lt view (min_active s h)) [] (seen s h view) none-plain (calm-seen h calm view)
    calm-seen (x ∷ h) calm view = absurd calm

    -- nobody is named before the view before is decided
    calm-early : (h : List (views.Point S D P G C)) → IsCalm last h → (view : ℕ) → IsLed last view (named_early s h view)
    calm-early h calm view = led-off last view (past.has_notarized (seen s h (view - 1))) (handoff_leader s view) (calm-seen h calm (view - 1)).unvoted

    -- where no view has the leader of the view before, terms have one view, and the elector names the fourth member
    module _ (alone : (h : List (views.Point S D P G C)) (view : ℕ) → inherits s h view ≡ false) (three : (view : ℕ) (c : Option C) → s.elect view c ≡ 3) (one : s.length ≡ 1) (some : 1 ≤ last) where
      -- behind one more point, of which it is known whom it names
      leads-on : (x : views.Point S D P G C) (h : List (views.Point S D P G C)) → IsCalm last (x ∷ h) → ((view : ℕ) → IsLed last view (named s x view)) → ((view : ℕ) → IsLed last view (leader s h view))
          → (view : ℕ) → IsLed last view (extend (λ v. option_or (named s x v) (named_early s (x ∷ h) v)) (inherits s (x ∷ h)) (leader s h) view)
      leads-on x h calm names before = led-extend last (λ v. option_or (named s x v) (named_early s (x ∷ h) v)) (inherits s (x ∷ h)) (leader s h) (alone (x ∷ h))
          (λ v. led-or last v (named s x v) (named_early s (x ∷ h) v) (names v) (calm-early (x ∷ h) calm v)) before

      pub calm-leads : (h : List (views.Point S D P G C)) → IsCalm last h → (view : ℕ) → IsLed last view (leader s h view)
      calm-leads [] calm view = inl refl
      calm-leads (started now payload ∷ h) calm view = leads-on (started now payload) h calm (λ v. led-at last v 1 (s.elect 1 None) (three 1 None) (omega arith) some) (calm-leads h calm) view
      calm-leads (nullified now c ∷ h) calm view =
          let next : next_term_start s.length c.round.view ≡ 2 = subst (λ (n : ℕ). next_term_start n c.round.view ≡ 2) (sym one) (subst (λ (u : ℕ). next_term_start 1 u ≡ 2) (sym calm.0) refl) in
          leads-on (nullified now c) h calm
          (λ v. led-at last v (next_term_start s.length c.round.view) (s.elect v (Some c.certificate)) (three v (Some c.certificate)) (omega (arith, next)) (omega (arith, next, calm.1)))
          (calm-leads h calm.2) view
      calm-leads (sent kind.Nullification at ∷ h) calm view = leads-on (sent kind.Nullification at) h calm (λ v. inl refl) (calm-leads h calm) view
      calm-leads (recalled_nullify at ∷ h) calm view = leads-on (recalled_nullify at) h calm (λ v. inl refl) (calm-leads h calm) view
      calm-leads (voted_nullify at ∷ h) calm view = leads-on (voted_nullify at) h calm (λ v. inl refl) (calm-leads h calm) view
      calm-leads (polled now ∷ h) calm view = leads-on (polled now) h calm (λ v. inl refl) (calm-leads h calm) view
      calm-leads (pruned ∷ h) calm view = led-kept last view (nat_lt view (min_active s h)) (leader s h view) (calm-leads h calm view)
      calm-leads (x ∷ h) calm view = absurd calm
