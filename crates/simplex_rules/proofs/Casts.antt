-- One more vote of a signer in a round.
use Rattle.std.proofs.Common.{◌≡◌, ◌≢◌, ◌⊎◌, List, [], ◌∷◌, ◌++◌, refl, sym, ap, ◌∙◌, subst, inl, inr, append_assoc, arith}
use Rattle.std.specs.Cmp.{IsTotalOrder}
use Rattle.std.specs.Ordering.{ordering_reverse}
use Rattle.std.specs.declared.cmp.Ordering.{Ordering}
use Rattle.std.specs.declared.cmp.Ordering.TheVariants.{Less, Equal, Greater}
use Rattle.simplex_rules.specs.declared.cast.Choice.{Choice}
use Rattle.simplex_rules.specs.declared.cast.Cast.{Cast}
use Rattle.std.specs.Prelude.{Contains, None}
use Rattle.types_quorum.specs.Counting.{Contains-nil}
use Rattle.simplex_rules.specs.declared.cast.Kept.{Kept}
use Rattle.simplex_rules.specs.declared.cast.Kept.TheVariants.{Nothing, Claim, One, Two}
use Rattle.simplex_rules.specs.Cast.{IsLower, IsFirst, AreNone, IsFor, HasOne, HasTwo, StandsForAll, Summarizes, IsSettled, IsPlacedAt}
use Rattle.simplex_rules.proofs.Lists.{each_push}

module _ {D : Type 0} {cmp : D → D → Ordering} (order : IsTotalOrder cmp) where
  pub IsLower-trans : (p q r : Choice D) → IsLower cmp p q → IsLower cmp q r → IsLower cmp p r
  IsLower-trans p q r (inl a) (inl b) = inl (omega arith)
  IsLower-trans p q r (inl a) (inr b) = inl (omega (arith, b.0))
  IsLower-trans p q r (inr a) (inl b) = inl (omega (arith, a.0))
  IsLower-trans p q r (inr a) (inr b) = inr (a.0 ∙ b.0, order.trans p.payload q.payload r.payload a.1 b.1)

  never_less : (o : Ordering) → o ≡ ordering_reverse o → o ≡ Less → ⊥
  never_less Less e f = let g : Less ≡ Greater = e in cc
  never_less Equal e f = cc
  never_less Greater e f = cc

  pub IsLower-differs : (p q : Choice D) → IsLower cmp p q → p ≢ q
  IsLower-differs p q (inl a) e = let same : p.parent ≡ q.parent = ap (λ (c : Choice D). c.parent) e in omega arith
  IsLower-differs p q (inr a) e =
      let same : q.payload ≡ p.payload = sym (ap (λ (c : Choice D). c.payload) e) in
      never_less (cmp p.payload p.payload) (order.antisymm p.payload p.payload) (subst (λ (x : D). cmp p.payload x ≡ Less) same a.1)

module _ {X : Type 0} (P : X → Type 0) where
  pub IsFirst-push : (xs : List X) (a x : X) → IsFirst P xs a → IsFirst P (xs ++ x ∷ []) a
  IsFirst-push xs a x f = record {
    before = f.before;
    after = f.after ++ x ∷ [];
    whole = ap (λ (t : List X). t ++ x ∷ []) f.whole ∙ append_assoc f.before (a ∷ f.after) (x ∷ []);
    is_so = f.is_so;
    first = f.first;
  }

  pub IsFirst-last : (xs : List X) (x : X) → P x → AreNone P xs → IsFirst P (xs ++ x ∷ []) x
  IsFirst-last xs x so none = record { before = xs; after = []; whole = refl; is_so = so; first = none }

  pub AreNone-push : (xs : List X) (x : X) → AreNone P xs → (P x → ⊥) → AreNone P (xs ++ x ∷ [])
  AreNone-push xs x none fails = each_push (λ y. P y → ⊥) xs x none fails

module _ {D G : Type 0} (Verifies : Cast D G → Type 0) where
  one_more : (casts : List (Cast D G)) (a c : Cast D G) → HasOne Verifies casts a → (Verifies c → c.choice ≡ a.choice) → HasOne Verifies (casts ++ c ∷ []) a
  one_more casts a c s same = (IsFirst-push (IsFor Verifies a.choice) casts a c s.0, each_push (λ d. Verifies d → d.choice ≡ a.choice) casts c s.1 same)

  one_last : (casts : List (Cast D G)) (c : Cast D G) → AreNone Verifies casts → Verifies c → HasOne Verifies (casts ++ c ∷ []) c
  one_last casts c none verifies = (
    IsFirst-last (IsFor Verifies c.choice) casts c (verifies, refl) (λ d there so. none d there so.0),
    each_push (λ d. Verifies d → d.choice ≡ c.choice) casts c (λ d there so. absurd (none d there so)) (λ so. refl),
  )

  stands_last : (casts : List (Cast D G)) (c : Cast D G) → AreNone Verifies casts → StandsForAll Verifies (casts ++ c ∷ []) c
  stands_last casts c none = (λ verifies. one_last casts c none verifies, λ fails. AreNone-push Verifies casts c none fails)

  -- the one vote of a signer stands for all
  pub claim_alone : (casts : List (Cast D G)) (c : Cast D G) → casts ≡ [] → StandsForAll Verifies (casts ++ c ∷ []) c
  claim_alone casts c none = stands_last casts c (λ d there so. Contains-nil d (subst (λ (cs : List (Cast D G)). Contains cs d) none there))

  -- so does a vote where it is read again
  pub claim_again : (casts : List (Cast D G)) (c d : Cast D G) → StandsForAll Verifies casts c → c ≡ d → StandsForAll Verifies (casts ++ d ∷ []) c
  claim_again casts c d s same = subst (λ (e : Cast D G). StandsForAll Verifies (casts ++ e ∷ []) c) same (
    λ verifies. one_more casts c c (s.0 verifies) (λ so. refl),
    λ fails. AreNone-push Verifies casts c (s.1 fails) fails,
  )

  -- and the one behind a vote that stood for all and fails
  pub claim_next : (casts : List (Cast D G)) (c d : Cast D G) → StandsForAll Verifies casts c → (Verifies c → ⊥) → StandsForAll Verifies (casts ++ d ∷ []) d
  claim_next casts c d s fails = stands_last casts d (s.1 fails)

  module _ {cmp : D → D → Ordering} (order : IsTotalOrder cmp) (casts : List (Cast D G)) (c : Cast D G) where
    pub one_lower : (a : Cast D G) → HasOne Verifies casts a → Verifies c → IsLower cmp c.choice a.choice → HasTwo Verifies cmp (casts ++ c ∷ []) c a
    one_lower a s verifies low = (
      IsFirst-last (IsFor Verifies c.choice) casts c (verifies, refl) (λ d there so. IsLower-differs order c.choice a.choice low (sym so.1 ∙ s.1 d there so.0)),
      IsFirst-push (IsFor Verifies a.choice) casts a c s.0,
      low,
      each_push _ casts c (λ d there so. inr (inl (s.1 d there so))) (λ so. inl refl),
    )

    pub one_same : (a : Cast D G) → HasOne Verifies casts a → c.choice ≡ a.choice → HasOne Verifies (casts ++ c ∷ []) a
    one_same a s same = one_more casts a c s (λ so. same)

    pub one_higher : (a : Cast D G) → HasOne Verifies casts a → Verifies c → IsLower cmp a.choice c.choice → HasTwo Verifies cmp (casts ++ c ∷ []) a c
    one_higher a s verifies high = (
      IsFirst-push (IsFor Verifies a.choice) casts a c s.0,
      IsFirst-last (IsFor Verifies c.choice) casts c (verifies, refl) (λ d there so. IsLower-differs order a.choice c.choice high (sym (s.1 d there so.0) ∙ so.1)),
      high,
      each_push _ casts c (λ d there so. inl (s.1 d there so)) (λ so. inr (inl refl)),
    )

    module _ (a b : Cast D G) (s : HasTwo Verifies cmp casts a b) where
      pub two_lower : Verifies c → IsLower cmp c.choice a.choice → HasTwo Verifies cmp (casts ++ c ∷ []) c a
      two_lower verifies low = (
        IsFirst-last (IsFor Verifies c.choice) casts c (verifies, refl) (λ d there so. elim (s.3 d there so.0) [
          | inl is_a ↦ IsLower-differs order c.choice a.choice low (sym so.1 ∙ is_a)
          | inr other ↦ elim other [
            | inl is_b ↦ IsLower-differs order c.choice b.choice (IsLower-trans order c.choice a.choice b.choice low s.2) (sym so.1 ∙ is_b)
            | inr above ↦ IsLower-differs order c.choice d.choice (IsLower-trans order c.choice b.choice d.choice (IsLower-trans order c.choice a.choice b.choice low s.2) above) (sym so.1)
          ]
        ]),
        IsFirst-push (IsFor Verifies a.choice) casts a c s.0,
        low,
        each_push _ casts c (λ d there so. elim (s.3 d there so) [
          | inl is_a ↦ inr (inl is_a)
          | inr other ↦ inr (inr (elim other [
            | inl is_b ↦ subst (λ (x : Choice D). IsLower cmp a.choice x) (sym is_b) s.2
            | inr above ↦ IsLower-trans order a.choice b.choice d.choice s.2 above
          ]))
        ]) (λ so. inl refl),
      )

      two_more : ((Verifies c) → (c.choice ≡ a.choice) ⊎ ((c.choice ≡ b.choice) ⊎ IsLower cmp b.choice c.choice)) → HasTwo Verifies cmp (casts ++ c ∷ []) a b
      two_more stands = (IsFirst-push (IsFor Verifies a.choice) casts a c s.0, IsFirst-push (IsFor Verifies b.choice) casts b c s.1, s.2, each_push _ casts c s.3 stands)

      pub two_first : c.choice ≡ a.choice → HasTwo Verifies cmp (casts ++ c ∷ []) a b
      two_first same = two_more (λ so. inl same)

      pub two_between : Verifies c → IsLower cmp a.choice c.choice → IsLower cmp c.choice b.choice → HasTwo Verifies cmp (casts ++ c ∷ []) a c
      two_between verifies high low = (
        IsFirst-push (IsFor Verifies a.choice) casts a c s.0,
        IsFirst-last (IsFor Verifies c.choice) casts c (verifies, refl) (λ d there so. elim (s.3 d there so.0) [
          | inl is_a ↦ IsLower-differs order a.choice c.choice high (sym is_a ∙ so.1)
          | inr other ↦ elim other [
            | inl is_b ↦ IsLower-differs order c.choice b.choice low (sym so.1 ∙ is_b)
            | inr above ↦ IsLower-differs order c.choice d.choice (IsLower-trans order c.choice b.choice d.choice low above) (sym so.1)
          ]
        ]),
        high,
        each_push _ casts c (λ d there so. elim (s.3 d there so) [
          | inl is_a ↦ inl is_a
          | inr other ↦ inr (inr (elim other [
            | inl is_b ↦ subst (λ (x : Choice D). IsLower cmp c.choice x) (sym is_b) low
            | inr above ↦ IsLower-trans order c.choice b.choice d.choice low above
          ]))
        ]) (λ so. inr (inl refl)),
      )

      pub two_second : c.choice ≡ b.choice → HasTwo Verifies cmp (casts ++ c ∷ []) a b
      two_second same = two_more (λ so. inr (inl same))

      pub two_above : IsLower cmp b.choice c.choice → HasTwo Verifies cmp (casts ++ c ∷ []) a b
      two_above above = two_more (λ so. inr (inr above))

    -- a vote that doesn't verify changes nothing of what was verified
    pub none_more : (k : Kept D G) → IsSettled k → Summarizes Verifies cmp casts k → (Verifies c → ⊥) → Summarizes Verifies cmp (casts ++ c ∷ []) k
    none_more Nothing settled s fails = absurd settled
    none_more (Claim a) settled s fails = absurd settled
    none_more (One a) settled s fails = one_more casts a c s (λ so. absurd (fails so))
    none_more (Two a b) settled s fails = two_more a b s (λ so. absurd (fails so))

    -- nor does one that is not kept
    pub none_kept : (k : Kept D G) → Summarizes Verifies cmp casts k → IsPlacedAt cmp k c.choice None → Summarizes Verifies cmp (casts ++ c ∷ []) k
    none_kept Nothing s place = absurd place
    none_kept (Claim a) s place = absurd place
    none_kept (One a) s place = one_same a s place
    none_kept (Two a b) s place = elim place [
      | inl first ↦ two_first a b s first
      | inr other ↦ elim other [
        | inl second ↦ two_second a b s second
        | inr above ↦ two_above a b s above
      ]
    ]
