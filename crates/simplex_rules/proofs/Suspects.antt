-- The order of suspects.
use Rattle.std.proofs.Common.{◌≡◌, ◌<◌, ◌⊎◌, ℕ, true, refl, ap, ◌∙◌, inl, inr, arith}
use Rattle.std.specs.Cmp.{IsTotalOrder, nat_cmp_is, Equal-is}
use Rattle.std.specs.Ordering.{is_eq, nat_cmp, ordering_then}
use Rattle.std.specs.declared.cmp.Ordering.{Ordering}
use Rattle.std.specs.declared.cmp.Ordering.TheVariants.{Less, Equal, Greater}
use Rattle.std.proofs.lemmas.Bool.{cases_lt}
use Rattle.std.proofs.lemmas.Cmp.{nat_cmp_total, on_total, then_total}
use Rattle.std.proofs.lemmas.Map.Lookups.{CmpEqualImpliesEq, exact_unsigned}
use Rattle.simplex_rules.specs.declared.cast.Suspect.{Suspect}
use Rattle.simplex_rules.specs.Audit.{Accusation, Offence, StandsBefore}
use Rattle.simplex_rules.specs.Choices.{round_cmp}
use Rattle.simplex_rules.specs.Kept.{suspect_cmp}

pub suspects_total : IsTotalOrder suspect_cmp
suspects_total =
    then_total (then_total (on_total (λ (s : Suspect). s.round.epoch) nat_cmp_total) (on_total (λ (s : Suspect). s.round.view) nat_cmp_total))
    (on_total (λ (s : Suspect). s.signer) nat_cmp_total)

then-less : (o p : Ordering) → ordering_then o p ≡ Less → (o ≡ Less) ⊎ ((o ≡ Equal) × (p ≡ Less))
then-less Less p e = inl refl
then-less Equal p e = inr (refl, e)
then-less Greater p e = absurd cc

then-equal : (o p : Ordering) → ordering_then o p ≡ Equal → (o ≡ Equal) × (p ≡ Equal)
then-equal Less p e = absurd cc
then-equal Equal p e = (refl, e)
then-equal Greater p e = absurd cc

suspect : ℕ → ℕ → ℕ → Suspect
suspect epoch view signer = record { round = record { epoch = epoch; view = view }; signer = signer }

-- suspects that compare equal are one
pub suspects_exact : CmpEqualImpliesEq suspect_cmp
unfolding suspect
suspects_exact x y e =
    let outer = then-equal (ordering_then (nat_cmp x.round.epoch y.round.epoch) (nat_cmp x.round.view y.round.view)) (nat_cmp x.signer y.signer) e in
    let inner = then-equal (nat_cmp x.round.epoch y.round.epoch) (nat_cmp x.round.view y.round.view) outer.0 in
    let epoch : x.round.epoch ≡ y.round.epoch = exact_unsigned x.round.epoch y.round.epoch inner.0 in
    let view : x.round.view ≡ y.round.view = exact_unsigned x.round.view y.round.view inner.1 in
    let signer : x.signer ≡ y.signer = exact_unsigned x.signer y.signer outer.1 in
    ap (λ (n : ℕ). suspect n x.round.view x.signer) epoch ∙ ap (λ (n : ℕ). suspect y.round.epoch n x.signer) view ∙ ap (λ (n : ℕ). suspect y.round.epoch y.round.view n) signer

-- rounds that compare equal are one
pub rounds_exact : CmpEqualImpliesEq round_cmp
rounds_exact x y e =
    ap (λ (s : Suspect). s.round) (suspects_exact (record { round = x; signer = 0 }) (record { round = y; signer = 0 }) (rw e refl))

pub suspect_cmp-exact : (x y : Suspect) → is_eq (suspect_cmp x y) ≡ true → x ≡ y
suspect_cmp-exact x y e = suspects_exact x y ((Equal-is (suspect_cmp x y)).0 e)

below : (m n : ℕ) → nat_cmp m n ≡ Less → m < n
below m n e = elim (cases_lt m n) [
  | inl lt ↦ lt
  | inr le ↦ elim (cases_lt n m) [
    | inl gt ↦ absurd (let f : Greater ≡ nat_cmp m n = nat_cmp_is m n Greater gt in cc)
    | inr ge ↦ absurd (let same : m ≡ n = omega arith in let f : Equal ≡ nat_cmp m n = nat_cmp_is m n Equal same in cc)
  ]
]

-- what a suspect is accused of
abbrev pub accusation_of : Suspect → Offence → Accusation
accusation_of q o = record { round = q.round; signer = q.signer; offence = o }

-- accusations stand as their suspects do
pub StandsBefore-from_less : (x y : Suspect) (o p : Offence) → suspect_cmp x y ≡ Less → StandsBefore (accusation_of x o) (accusation_of y p)
StandsBefore-from_less x y o p e = elim (then-less (ordering_then (nat_cmp x.round.epoch y.round.epoch) (nat_cmp x.round.view y.round.view)) (nat_cmp x.signer y.signer) e) [
  | inl rounds ↦ elim (then-less (nat_cmp x.round.epoch y.round.epoch) (nat_cmp x.round.view y.round.view) rounds) [
    | inl epochs ↦ inl (below _ _ epochs)
    | inr views ↦ inr (exact_unsigned _ _ views.0, inl (below _ _ views.1))
  ]
  | inr signers ↦
      let rounds = then-equal (nat_cmp x.round.epoch y.round.epoch) (nat_cmp x.round.view y.round.view) signers.0 in
      inr (exact_unsigned _ _ rounds.0, inr (exact_unsigned _ _ rounds.1, inl (below _ _ signers.1)))
]
