-- What those who stand above take from who leads: where a point brings no own notarize, nobody is named early who doesn't lead.
use Rattle.std.proofs.Common.{◌≡◌, ◌+◌, ◌-◌, ◌<◌, ◌==◌, ◌^◌, ℕ, zero, suc, Bool, true, false, List, [], ◌∷◌, refl, sym, ap, subst, ◌∙◌, ⊎_elim, arith, if◌then◌else◌}
use Rattle.std.specs.Prelude.{nat_lt, Option, Some, None}
use Rattle.std.specs.Option.{option_or}
use Rattle.std.proofs.lemmas.Bool.{cases_eq, eq-eqb, ne_eqb}
use Rattle.std.proofs.lemmas.Bool.Decides.{nat_tests}
use Rattle.voter_history.specs.Past as past
use Rattle.voter_history.specs.Leaders.{extend}
use Rattle.voter_history.specs.History.{Setup, Point, pruned, min_active, seen}
use Rattle.voter_history.specs.Leaders.{handoff_leader, inherits, leader, named, named_early}

-- what there is of one and nothing
pub or_none : {A : Type 0} (o : Option A) → option_or o None ≡ o
or_none None = refl
or_none (Some x) = refl

-- whoever was named just now isn't named once more
named_once : {A : Type 0} (known named early rest : Option A)
    → option_or (option_or known (option_or (option_or named early) rest)) early ≡ option_or known (option_or (option_or named early) rest)
named_once (Some x) named early rest = refl
named_once None (Some x) early rest = refl
named_once None None (Some x) rest = refl
named_once None None None rest = or_none rest

-- where the early one leads already, the other alone counts
named_alone : (known named early before : Option ℕ) → early ≡ before → option_or known before ≡ known → option_or known (option_or named early) ≡ option_or known named
named_alone (Some i) named early before is led = refl
named_alone None named early before is led = ap (λ (e : Option ℕ). option_or named e) (is ∙ led) ∙ or_none named

-- where nobody is named otherwise, the early one counts
early_alone : (known named early heir : Option ℕ) → named ≡ None → early ≡ heir → option_or known (option_or named early) ≡ option_or known heir
early_alone known named early heir none is = λ i. option_or known (option_or (none i) (is i))

-- leaders are handed on alike, up to a view, where those that are named on the way differ only where the leader is known
pub extend_alike : (here other : ℕ → Option ℕ) (from_before : ℕ → Bool) (known : ℕ → Option ℕ) (view : ℕ)
    → ((w : ℕ) → w < view → option_or (known (suc w)) (here (suc w)) ≡ option_or (known (suc w)) (other (suc w))) → extend here from_before known view ≡ extend other from_before known view
extend_alike here other from_before known zero same = refl
extend_alike here other from_before known (suc w) same =
    one (known (suc w)) (here (suc w)) (other (suc w)) (from_before (suc w)) (extend here from_before known w) (extend other from_before known w) (same w (omega arith))
    (extend_alike here other from_before known w (λ v below. same v (omega (arith, below))))
  where
    one : (led a b : Option ℕ) (hands : Bool) (x y : Option ℕ) → option_or led a ≡ option_or led b → x ≡ y
        → option_or led (option_or a (if hands then x else None)) ≡ option_or led (option_or b (if hands then y else None))
    one (Some i) a b hands x y same before = refl
    one None a b hands x y same before = λ i. option_or (same i) (if hands then before i else None)

module _ {S D P G C : Type 0} (s : Setup S C) where
  -- behind a prune a view is named early as it was, or it has no view before any more
  early_kept : (h : List (Point S D P G C)) (w : ℕ) (gone next_gone : Bool) → nat_lt (suc w - 1) (min_active s h) ≡ gone → nat_lt (suc w) (min_active s h) ≡ next_gone
      → option_or (leader s h (suc w)) (named_early s h (suc w)) ≡ leader s h (suc w)
      → option_or (if next_gone then None else leader s h (suc w)) (if past.has_notarized (if gone then [] else seen s h (suc w - 1)) then handoff_leader s (suc w) else None)
      ≡ (if next_gone then None else leader s h (suc w))
  early_kept h w true true below next_below before = refl
  early_kept h w true false below next_above before = or_none (leader s h (suc w))
  early_kept h w false true above next_below before = absurd (grind (arith, nat_tests, above, next_below))
  early_kept h w false false above next_above before = before

  -- whoever may be named early leads
  pub early_led : (h : List (Point S D P G C)) (w : ℕ) → option_or (leader s h (suc w)) (named_early s h (suc w)) ≡ leader s h (suc w)
  early_led [] w = refl
  early_led (pruned ∷ h) w = early_kept h w (nat_lt (suc w - 1) (min_active s h)) (nat_lt (suc w) (min_active s h)) refl refl (early_led h w)
  early_led (x ∷ h) w =
      named_once (leader s h (suc w)) (named s x (suc w)) (named_early s (x ∷ h) (suc w)) (if inherits s (x ∷ h) (suc w) then leader s (x ∷ h) w else None)

  -- by the point leaders were handed on
  abbrev pub HandsOn : List (Point S D P G C) → Point S D P G C → Type 0
  HandsOn h x = leader s (x ∷ h) ≡ extend (λ view. option_or (named s x view) (named_early s (x ∷ h) view)) (inherits s (x ∷ h)) (leader s h)

  -- behind a point that brings no own notarize, whom it names is all that counts
  pub leader_named : (h : List (Point S D P G C)) (x : Point S D P G C) → HandsOn h x → ((u : ℕ) → past.has_notarized (seen s (x ∷ h) u) ≡ past.has_notarized (seen s h u))
      → (view : ℕ) → leader s (x ∷ h) view ≡ extend (named s x) (inherits s (x ∷ h)) (leader s h) view
  leader_named h x hands votes view =
      ap (λ (l : ℕ → Option ℕ). l view) hands
      ∙ extend_alike (λ u. option_or (named s x u) (named_early s (x ∷ h) u)) (named s x) (inherits s (x ∷ h)) (leader s h) view
      (λ w _. named_alone (leader s h (suc w)) (named s x (suc w)) (named_early s (x ∷ h) (suc w)) (named_early s h (suc w))
      (ap (λ (b : Bool). if b then handoff_leader s (suc w) else None) (votes (suc w - 1))) (early_led h w))

  -- behind an own notarize of a view, and nothing else, the next one is led by whoever may lead it early
  pub leader_voted : (h : List (Point S D P G C)) (x : Point S D P G C) (at : ℕ) (heir : Option ℕ) → HandsOn h x → ((u : ℕ) → named s x u ≡ None)
      → past.has_notarized (seen s (x ∷ h) at) ≡ true → ((u : ℕ) → (at == u) ≡ false → past.has_notarized (seen s (x ∷ h) u) ≡ past.has_notarized (seen s h u))
      → (at + 1 < 2 ^ 64 → heir ≡ handoff_leader s (at + 1)) → (view : ℕ) → view < 2 ^ 64
      → leader s (x ∷ h) view ≡ extend (λ u. if u == at + 1 then heir else None) (inherits s (x ∷ h)) (leader s h) view
  leader_voted h x at heir hands nobody own others heirs view fits =
      ap (λ (l : ℕ → Option ℕ). l view) hands
      ∙ extend_alike (λ u. option_or (named s x u) (named_early s (x ∷ h) u)) (λ u. if u == at + 1 then heir else None) (inherits s (x ∷ h)) (leader s h) view
      (λ w below. ⊎_elim (behind w below) (beside w) (cases_eq at w))
    where
      behind : (w : ℕ) → w < view → at ≡ w
          → option_or (leader s h (suc w)) (option_or (named s x (suc w)) (named_early s (x ∷ h) (suc w))) ≡ option_or (leader s h (suc w)) (if suc w == at + 1 then heir else None)
      behind w below same =
          let next : suc w ≡ at + 1 = omega (arith, same) in
          let here : (suc w == at + 1) ≡ true = eq-eqb (suc w) (at + 1) next in
          let back : at ≡ suc w - 1 = omega (arith, same) in
          let voted : past.has_notarized (seen s (x ∷ h) (suc w - 1)) ≡ true = subst (λ (u : ℕ). past.has_notarized (seen s (x ∷ h) u) ≡ true) back own in
          early_alone (leader s h (suc w)) (named s x (suc w)) (named_early s (x ∷ h) (suc w)) (if suc w == at + 1 then heir else None) (nobody (suc w))
          (ap (λ (b : Bool). if b then handoff_leader s (suc w) else None) voted ∙ ap (λ (u : ℕ). handoff_leader s u) next ∙ sym (heirs (omega (arith, same, below, fits)))
          ∙ sym (ap (λ (b : Bool). if b then heir else None) here))

      beside : (w : ℕ) → (at ≡ w → ⊥)
          → option_or (leader s h (suc w)) (option_or (named s x (suc w)) (named_early s (x ∷ h) (suc w))) ≡ option_or (leader s h (suc w)) (if suc w == at + 1 then heir else None)
      beside w other =
          let apart : (at == suc w - 1) ≡ false = ne_eqb at (suc w - 1) (λ e. other (omega (arith, e))) in
          let off : (suc w == at + 1) ≡ false = ne_eqb (suc w) (at + 1) (λ e. other (omega (arith, e))) in
          early_alone (leader s h (suc w)) (named s x (suc w)) (named_early s (x ∷ h) (suc w)) (named_early s h (suc w)) (nobody (suc w))
          (ap (λ (b : Bool). if b then handoff_leader s (suc w) else None) (others (suc w - 1) apart))
          ∙ early_led h w ∙ sym (or_none (leader s h (suc w))) ∙ ap (λ (b : Bool). option_or (leader s h (suc w)) (if b then heir else None)) (sym off)
