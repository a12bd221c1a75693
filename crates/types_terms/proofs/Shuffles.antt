-- A sort by lots makes the order of a seed, and there is one.
use Rattle.std.proofs.Common.{◌≡◌, ℕ, suc, ◌<◌, inl, inr, false, List, [], ◌∷◌, length, map, get_or, refl, sym, ap, ◌∙◌, subst, arith}
use Rattle.std.specs.Cmp.{IsTotalOrder}
use Rattle.std.specs.Cmp.Lexicographic.{slice_cmp}
use Rattle.std.specs.List.{All, AllPairs, Contains}
use Rattle.std.specs.List.Sorted.{IsPermutation, IsSorted}
use Rattle.std.specs.Ordering.{nat_cmp, ordering_then, ordering_reverse, is_lt}
use Rattle.std.specs.declared.cmp.Ordering.{Ordering}
use Rattle.std.specs.declared.cmp.Ordering.TheVariants.{Less, Equal, Greater}
use Rattle.std.proofs.lemmas.Cmp.{ranked, nat_cmp_total, nat_list_cmp_total, on_total, then_total}
use Rattle.std.proofs.lemmas.List.{get_or-map, length-map}
use Rattle.std.proofs.lemmas.List.FromFn.{length-map-range_with_len, get_or-map-range_with_len}
use Rattle.std.proofs.lemmas.List.Sorted.{IsPermutation-map, IsPermutation-sym, All-permutation, Contains-permutation, ranks_by, sorted_far}
use Rattle.types_quorum.specs.Counting.{Contains-cases, Contains-rest}
use Rattle.types_terms.specs.Rotation.{indices, IsOrder}
use Rattle.types_terms.specs.Shuffle.{lot, lot_cmp, IsBefore, IsShuffled}
use Rattle.types_terms.proofs.Orders.{order-IsOnce}

-- lots are in one order
lot_cmp_total : IsTotalOrder lot_cmp
lot_cmp_total = then_total (on_total (λ (x : List ℕ × ℕ). x.0) nat_list_cmp_total) (on_total (λ (x : List ℕ × ℕ). x.1) nat_cmp_total)

-- the index with its lot
abbrev pub drawn : List ℕ → ℕ → List ℕ × ℕ
drawn seed i = (lot seed i, i)

indices_of_drawn : (seed xs : List ℕ) → map (λ (x : List ℕ × ℕ). x.1) (map (drawn seed) xs) ≡ xs
indices_of_drawn seed [] = refl
indices_of_drawn seed (i ∷ xs) = ap (λ (rest : List ℕ). i ∷ rest) (indices_of_drawn seed xs)

all_drawn : (seed : List ℕ) (n : ℕ) → All (λ (x : List ℕ × ℕ). x ≡ drawn seed x.1) (map (drawn seed) (indices n))
all_drawn seed n k d low =
    let at : get_or (map (drawn seed) (indices n)) k d ≡ drawn seed k = get_or-map-range_with_len (drawn seed) 0 n k k d (omega (arith, low, length-map-range_with_len (drawn seed) 0 n)) (omega arith) in
    rw at refl

-- where neither part is less, both are equal
then_equal : (o p : Ordering) → ordering_then o p ≡ Equal → p ≡ Equal
then_equal Less p e = absurd (cc)
then_equal Equal p e = e
then_equal Greater p e = absurd (cc)

-- of two pairs with different indices, the one that isn't less is greater
less_back : (x y : List ℕ × ℕ) → (x.1 ≡ y.1 → ⊥) → (o : Ordering) → lot_cmp y x ≡ o → is_lt o ≡ false → lot_cmp x y ≡ Less
less_back x y apart Less e not_less = absurd (cc)
less_back x y apart Equal e not_less = absurd (apart (sym (ranked y.1 x.1 Equal (sym (then_equal (slice_cmp nat_cmp y.0 x.0) (nat_cmp y.1 x.1) e)))))
less_back x y apart Greater e not_less = lot_cmp_total.antisymm x y ∙ ap ordering_reverse e

-- sorting all indices by their lots gives the order of the seed
pub IsShuffled-from_sort : (seed : List ℕ) (n : ℕ) (ys : List (List ℕ × ℕ)) → IsPermutation (map (drawn seed) (indices n)) ys → IsSorted lot_cmp ys → IsShuffled seed n (map (λ (x : List ℕ × ℕ). x.1) ys)
IsShuffled-from_sort seed n ys moved up = record { members = order; sorted = each }
  where
    order : IsOrder n (map (λ (x : List ℕ × ℕ). x.1) ys)
    order = subst (λ (xs : List ℕ). IsPermutation xs (map (λ (x : List ℕ × ℕ). x.1) ys)) (indices_of_drawn seed (indices n)) (IsPermutation-map (λ (x : List ℕ × ℕ). x.1) (map (drawn seed) (indices n)) ys moved)

    each : AllPairs (IsBefore seed) (map (λ (x : List ℕ × ℕ). x.1) ys)
    each i j d before below =
        let long = length-map ys (λ (x : List ℕ × ℕ). x.1) in
        let low_j : j < length ys = omega (arith, below, long) in
        let low_i : i < length ys = omega (arith, before, low_j) in
        let x = get_or ys i (drawn seed d) in
        let y = get_or ys j (drawn seed d) in
        let first : get_or (map (λ (x : List ℕ × ℕ). x.1) ys) i d ≡ x.1 = get_or-map (λ (x : List ℕ × ℕ). x.1) ys i (drawn seed d) d low_i in
        let second : get_or (map (λ (x : List ℕ × ℕ). x.1) ys) j d ≡ y.1 = get_or-map (λ (x : List ℕ × ℕ). x.1) ys j (drawn seed d) d low_j in
        let drawn_all = All-permutation (λ (x : List ℕ × ℕ). x ≡ drawn seed x.1) (map (drawn seed) (indices n)) ys moved (all_drawn seed n) in
        let apart : x.1 ≡ y.1 → ⊥ = λ e. absurd (omega (arith, before, order-IsOnce n _ order i j d (omega (arith, before, below)) below (first ∙ e ∙ sym second))) in
        let not_less : is_lt (lot_cmp y x) ≡ false = sorted_far (λ a b. is_lt (lot_cmp a b)) (ranks_by lot_cmp_total (λ (x : List ℕ × ℕ). x)) ys up i j (drawn seed d) (omega (arith, before)) low_j in
        let less : lot_cmp x y ≡ Less = less_back x y apart (lot_cmp y x) refl not_less in
        let x_is : x ≡ drawn seed x.1 = drawn_all i (drawn seed d) low_i in
        let y_is : y ≡ drawn seed y.1 = drawn_all j (drawn seed d) low_j in
        rw (first, second) (subst (λ (p : List ℕ × ℕ). lot_cmp (drawn seed x.1) p ≡ Less) y_is (subst (λ (p : List ℕ × ℕ). lot_cmp p y ≡ Less) x_is less))

-- by no seed two indices come before one another
before_once : (seed : List ℕ) (i j : ℕ) → IsBefore seed i j → IsBefore seed j i → ⊥
before_once seed i j there back =
    let turned : lot_cmp (drawn seed i) (drawn seed j) ≡ Greater = lot_cmp_total.antisymm (drawn seed i) (drawn seed j) ∙ ap ordering_reverse back in
    absurd (let both : Less ≡ Greater = sym there ∙ turned in cc)

-- the first of a sorted list comes before the rest
first_before : (seed : List ℕ) (x : ℕ) (xs : List ℕ) → AllPairs (IsBefore seed) (x ∷ xs) → (z : ℕ) → Contains xs z → IsBefore seed x z
first_before seed x xs up z here = subst (λ (y : ℕ). IsBefore seed x y) here.2 (up 0 (suc here.0) z (omega arith) (omega (arith, here.1)))

-- what a sorted list has, and another one with the same first number has too, is in the rests of both
rest_within : (seed : List ℕ) (x : ℕ) (xs ys : List ℕ) → AllPairs (IsBefore seed) (x ∷ xs) → ((z : ℕ) → Contains (x ∷ xs) z → Contains (x ∷ ys) z) → (z : ℕ) → Contains xs z → Contains ys z
rest_within seed x xs ys up there z here = elim (Contains-cases x ys z (there z (Contains-rest x xs z here))) [
  | inl same ↦
      let itself : IsBefore seed x x = subst (λ (y : ℕ). IsBefore seed x y) (sym same) (first_before seed x xs up z here) in
      absurd (before_once seed x x itself itself)
  | inr rest ↦ rest
]

rest_sorted : (seed : List ℕ) (x : ℕ) (xs : List ℕ) → AllPairs (IsBefore seed) (x ∷ xs) → AllPairs (IsBefore seed) xs
rest_sorted seed x xs up = λ i j d before below. up (suc i) (suc j) d (omega (arith, before)) (omega (arith, below))

-- sorted lists of the same numbers have one first number
first_same : (seed : List ℕ) (x : ℕ) (xs : List ℕ) (y : ℕ) (ys : List ℕ) → AllPairs (IsBefore seed) (x ∷ xs) → AllPairs (IsBefore seed) (y ∷ ys) → Contains (y ∷ ys) x → Contains (x ∷ xs) y → x ≡ y
first_same seed x xs y ys up up' there back = elim (Contains-cases y ys x there) [
  | inl same ↦ sym same
  | inr x_later ↦ elim (Contains-cases x xs y back) [
    | inl same ↦ same
    | inr y_later ↦ absurd (before_once seed x y (first_before seed x xs up y y_later) (first_before seed y ys up' x x_later))
  ]
]

-- sorted lists of the same numbers are one
same_sorted : (seed xs ys : List ℕ) → AllPairs (IsBefore seed) xs → AllPairs (IsBefore seed) ys → ((z : ℕ) → Contains xs z → Contains ys z) → ((z : ℕ) → Contains ys z → Contains xs z) → xs ≡ ys
same_sorted seed [] [] up up' there back = refl
same_sorted seed [] (y ∷ ys) up up' there back = absurd (omega (arith, (back y (0, omega arith, refl)).1))
same_sorted seed (x ∷ xs) [] up up' there back = absurd (omega (arith, (there x (0, omega arith, refl)).1))
same_sorted seed (x ∷ xs) (y ∷ ys) up up' there back =
    let first : y ≡ x = sym (first_same seed x xs y ys up up' (there x (0, omega arith, refl)) (back y (0, omega arith, refl))) in
    let into : (z : ℕ) → Contains (x ∷ xs) z → Contains (x ∷ ys) z = λ z here. subst (λ (w : ℕ). Contains (w ∷ ys) z) first (there z here) in
    let onto : (z : ℕ) → Contains (x ∷ ys) z → Contains (x ∷ xs) z = λ z here. back z (subst (λ (w : ℕ). Contains (w ∷ ys) z) (sym first) here) in
    let sorted : AllPairs (IsBefore seed) (x ∷ ys) = subst (λ (w : ℕ). AllPairs (IsBefore seed) (w ∷ ys)) first up' in
    let rests : xs ≡ ys = same_sorted seed xs ys (rest_sorted seed x xs up) (rest_sorted seed x ys sorted) (rest_within seed x xs ys up into) (rest_within seed x ys xs sorted onto) in
    ap (λ (rest : List ℕ). x ∷ rest) rests ∙ ap (λ (z : ℕ). z ∷ ys) (sym first)

-- a seed makes one order
pub IsShuffled-one : (seed : List ℕ) (n : ℕ) (a b : List ℕ) → IsShuffled seed n a → IsShuffled seed n b → a ≡ b
IsShuffled-one seed n a b p q = same_sorted seed a b p.sorted q.sorted (within a b p.members q.members) (within b a q.members p.members)
  where
    within : (xs ys : List ℕ) → IsOrder n xs → IsOrder n ys → (z : ℕ) → Contains xs z → Contains ys z
    within xs ys o r z here = Contains-permutation (indices n) ys z r (Contains-permutation xs (indices n) z (IsPermutation-sym (indices n) xs o) here)
