-- What follows for leaders who take turns.
use Rattle.std.specs.Prelude.{◌≡◌, ℕ, ◌<◌, List, length, All, Option, Some, None}
use Rattle.std.proofs.Common.{arith, sym, subst, ◌∙◌}
use Rattle.std.proofs.lemmas.List.FromFn.{length-range_with_len, get_or-range_with_len}
use Rattle.std.proofs.lemmas.List.Sorted.{length_permutation, All-permutation, IsPermutation-refl}
use Rattle.types_core.specs.Positions.{term_index}
use Rattle.types_terms.specs.Rotation.{Rotation, indices, IsOrder, place, view_leader}
use Rattle.types_terms.specs.Shuffle.{IsOrderOf}

-- an order of n members is as long
pub length-IsOrder : (n : ℕ) (order : List ℕ) → IsOrder n order → length order ≡ n
length-IsOrder n order o = length_permutation (indices n) order o ∙ length-range_with_len 0 n

-- the indices of n members are below n
pub indices_below : (n : ℕ) → All (λ i. i < n) (indices n)
indices_below n k d l = omega (arith, length-range_with_len 0 n, get_or-range_with_len 0 n k d)

-- a member leads
pub leader_within : (n : ℕ) (r : Rotation) → 0 < n → IsOrder n r.order → (epoch view : ℕ) → view_leader r epoch view < n
leader_within n r some o epoch view =
    let long = length-IsOrder n r.order o in
    let within : place (length r.order) epoch (term_index r.terms.length view) < length r.order = omega (arith, long, some) in
    All-permutation (λ i. i < n) (indices n) r.order o (indices_below n) _ 0 within

-- the order that a seed makes, and the ascending one, are orders
pub IsOrder-from_IsOrderOf : (seed : Option (List ℕ)) (n : ℕ) (order : List ℕ) → IsOrderOf seed n order → IsOrder n order
IsOrder-from_IsOrderOf None n order o = subst (λ (xs : List ℕ). IsOrder n xs) (sym o) (IsPermutation-refl (indices n))
IsOrder-from_IsOrderOf (Some seed) n order o = o.members
