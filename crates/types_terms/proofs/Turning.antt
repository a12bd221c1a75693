-- Of as many terms in a row as there are members, each member leads one.
use Rattle.std.proofs.Common.{◌≡◌, ℕ, ◌+◌, ◌-◌, ◌*◌, ◌/◌, ◌%◌, ◌^◌, ◌≤◌, ◌<◌, List, length, get_or, sym, ap, ◌∙◌, arith, inl, inr}
use Rattle.std.specs.List.{Contains}
use Rattle.std.proofs.lemmas.Bool.{cases_lt}
use Rattle.std.proofs.lemmas.List.{get_or_default}
use Rattle.std.proofs.lemmas.List.FromFn.{length-range_with_len}
use Rattle.std.proofs.lemmas.List.Sorted.{Contains-permutation}
use Rattle.std.proofs.lemmas.Nat.{div-add-mod', mod-mul-add}
use Rattle.std.proofs.Math.Nat.{suc-mul, mul-le-mul_right}
use Rattle.types_terms.specs.Rotation.{indices, IsOrder, place, LeadsOnce}
use Rattle.types_terms.specs.RotationLaws.{length-IsOrder}
use Rattle.types_terms.proofs.Orders.{get_or-indices, order-IsOnce}

-- among n numbers in a row one has the remainder k
some_rest : (n s k : ℕ) → k < n → (j : ℕ) × (j < n) × ((s + j) % n ≡ k)
some_rest n s k low =
    let parts : s / n * n + s % n ≡ s = div-add-mod' s n in
    elim (cases_lt k (s % n)) [
      | inl before ↦
          let whole : s + (k + n - s % n) ≡ (s / n + 1) * n + k = omega (arith, parts, low, suc-mul (s / n) n) in
          (k + n - s % n, omega (arith, before, low), ap (λ (m : ℕ). m % n) whole ∙ mod-mul-add (s / n + 1) n k low)
      | inr after ↦
          let whole : s + (k - s % n) ≡ s / n * n + k = omega (arith, parts, after) in
          (k - s % n, omega (arith, low), ap (λ (m : ℕ). m % n) whole ∙ mod-mul-add (s / n) n k low)
    ]

-- numbers of one remainder with different quotients are n apart
apart : (n a b : ℕ) → a % n ≡ b % n → a / n < b / n → a + n ≤ b
apart n a b same before =
    let more : (a / n + 1) * n ≤ b / n * n = mul-le-mul_right n (omega (arith, before)) in
    omega (arith, same, more, suc-mul (a / n) n, div-add-mod' a n, div-add-mod' b n)

-- and only one
one_rest : (n s i j : ℕ) → i < n → j < n → (s + i) % n ≡ (s + j) % n → i ≡ j
one_rest n s i j low_i low_j same = elim (cases_lt ((s + i) / n) ((s + j) / n)) [
  | inl before ↦ absurd (omega (arith, low_i, low_j, apart n (s + i) (s + j) same before))
  | inr not_before ↦ elim (cases_lt ((s + j) / n) ((s + i) / n)) [
    | inl after ↦ absurd (omega (arith, low_i, low_j, apart n (s + j) (s + i) (sym same) after))
    | inr not_after ↦
        let quotient : (s + i) / n ≡ (s + j) / n = omega (arith, not_before, not_after) in
        omega (arith, same, ap (λ (q : ℕ). q * n) quotient, div-add-mod' (s + i) n, div-add-mod' (s + j) n)
  ]
]

-- where the sum is a number of 64 bits it isn't wrapped
place_is : (n epoch first j : ℕ) → epoch + first + n ≤ 2 ^ 64 → j < n → place n epoch (first + j) ≡ (epoch + first + j) % n
place_is n epoch first j room low =
    let whole : (epoch + (first + j)) % 2 ^ 64 ≡ epoch + first + j = omega (arith, room, low) in
    ap (λ (m : ℕ). m % n) whole

pub LeadsOnce-IsOrder : (n : ℕ) (order : List ℕ) → IsOrder n order → (epoch first : ℕ) → epoch + first + n ≤ 2 ^ 64 → (member : ℕ) → member < n → LeadsOnce order epoch first member
LeadsOnce-IsOrder n order o epoch first room member low =
    let long = length-IsOrder n order o in
    let there : Contains (indices n) member = (member, omega (arith, low, length-range_with_len 0 n), get_or-indices n member member low) in
    let stands = Contains-permutation (indices n) order member o there in
    let m = length order in
    let room_m : epoch + first + m ≤ 2 ^ 64 = omega (arith, room, long) in
    let turn = some_rest m (epoch + first) stands.0 stands.1 in
    let turn_place : place m epoch (first + turn.0) ≡ stands.0 = place_is m epoch first turn.0 room_m turn.1 ∙ turn.2 in
    let leads : get_or order (place m epoch (first + turn.0)) 0 ≡ member = ap (λ (k : ℕ). get_or order k 0) turn_place ∙ get_or_default order stands.0 0 member stands.1 ∙ stands.2 in
    record {
      later = turn.0;
      within = turn.1;
      leads = leads;
      only = λ other low_other leads_too.
          let other_place = place_is m epoch first other room_m low_other in
          let low_place : place m epoch (first + other) < m = omega (arith, low_other) in
          let one : place m epoch (first + other) ≡ place m epoch (first + turn.0) = order-IsOnce n order o _ _ 0 low_place (omega (arith, turn_place, stands.1)) (leads_too ∙ sym leads) in
          one_rest m (epoch + first) other turn.0 low_other turn.1 (sym other_place ∙ one ∙ place_is m epoch first turn.0 room_m turn.1);
    }
