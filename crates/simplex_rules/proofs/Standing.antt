-- Suspects that stand in order, and what is kept of them by their places.
use Rattle.std.proofs.Common.{◌≡◌, cond, ◌⊎◌, ◌<◌, ◌+◌, ◌-◌, ℕ, zero, suc, true, false, List, [], ◌∷◌, ◌++◌, length, get_or, Some, None, refl, sym, ap, ◌∙◌, subst, inl, inr, arith}
use Rattle.std.specs.Prelude.{IfSome, IsTrue}
use Rattle.std.specs.Ordering.{is_eq, is_lt, ordering_index, ordering_reverse}
use Rattle.std.specs.BTreeSet.{BTreeSet, contains, IsSubset}
use Rattle.std.specs.List.{slice_get, slice_set, zip}
use Rattle.std.specs.List.Sorted.{IsNonDecreasingBy, IsPartitionPoint, IsStrictlySortedBy}
use Rattle.std.specs.declared.cmp.Ordering.{Ordering}
use Rattle.std.specs.declared.cmp.Ordering.TheVariants.{Less, Equal, Greater}
use Rattle.std.proofs.lemmas.Bool.{cases_Bool, cases_lt, or_left, or_right, or_cases}
use Rattle.std.proofs.lemmas.Cmp.{tied_itself}
use Rattle.std.proofs.lemmas.List.{length-append, get_or_append_left}
use Rattle.std.proofs.lemmas.List.Folds.{list_any-append}
use Rattle.std.proofs.lemmas.List.Sorted.{searchable_from_sorted}
use Rattle.std.proofs.lemmas.Map.Keys.{sorted_tail, Less-from_sorted, sorted_from_all_adjacent, any_passes_from_place}
use Rattle.std.proofs.lemmas.Option.{get_or_from_slice_get, slice_get-get_or, slice_get_within}
use Rattle.std.proofs.Math.Seq.{get_or-append_seam}
use Rattle.simplex_rules.specs.declared.cast.Suspect.{Suspect}
use Rattle.simplex_rules.specs.Kept.{StandsAt, kept_of, set_of, suspect_cmp}
use Rattle.simplex_rules.proofs.Suspects.{suspects_total, suspect_cmp-exact}

-- whether a suspect is among these
abbrev among : Suspect → List Suspect → Type 0
among q ks = IsTrue (contains suspect_cmp (set_of ks) q)

-- a suspect is not one that stands above it
not_above : (q k : Suspect) → suspect_cmp k q ≡ Greater → is_eq (suspect_cmp q k) ≡ false
not_above q k greater = ap is_eq (suspects_total.antisymm q k ∙ ap ordering_reverse greater)

-- nor one that stands below it
not_below : (q k : Suspect) → suspect_cmp k q ≡ Less → is_eq (suspect_cmp q k) ≡ false
not_below q k less = ap is_eq (suspects_total.antisymm q k ∙ ap ordering_reverse less)

-- the test for one suspect and the test for the other are one
swapped : (q p : Suspect) → is_eq (suspect_cmp q p) ≡ is_eq (suspect_cmp p q)
swapped q p = ap is_eq (suspects_total.antisymm q p) ∙ reversed (suspect_cmp p q)
  where
    reversed : (o : Ordering) → is_eq (ordering_reverse o) ≡ is_eq o
    reversed Less = refl
    reversed Equal = refl
    reversed Greater = refl

some_is : {X : Type 0} (x y : X) → Some x ≡ Some y → x ≡ y
some_is x y e = cc

-- the first is below each that stands behind it
first_below : (k : Suspect) (ks : List Suspect) (place : ℕ) (q : Suspect) → IsStrictlySortedBy suspect_cmp (k ∷ ks) → slice_get ks place ≡ Some q → suspect_cmp k q ≡ Less
first_below k ks place q sorted found =
    let inside : place < length ks = slice_get_within ks place q found in
    subst (λ (p : Suspect). suspect_cmp k p ≡ Less) (get_or_from_slice_get ks place q q found) (Less-from_sorted suspect_cmp (k ∷ ks) 0 (suc place) q sorted (omega arith) (omega arith))

-- who stands at a place is there
pub stands-there : (suspects : BTreeSet Suspect) (place : ℕ) (q : Suspect) → StandsAt suspects place q → IsTrue (contains suspect_cmp suspects q)
stands-there suspects place q stands = any_passes_from_place (λ r. is_eq (suspect_cmp q r)) suspects.keys place q stands.1 (ap is_eq (tied_itself suspects_total q))

-- who is none of those that stand somewhere isn't there
none_equal : (ks : List Suspect) (q : Suspect) → ((place : ℕ) (d : Suspect) → place < length ks → is_eq (suspect_cmp q (get_or ks place d)) ≡ false) → contains suspect_cmp (set_of ks) q ≡ false
none_equal [] q others = refl
none_equal (k ∷ ks) q others = rw (others 0 k (omega arith)) (none_equal ks q (λ place d below. others (suc place) d (omega arith)))

-- who is below the first isn't there
pub below_first : (ks : List Suspect) (q : Suspect) → IsStrictlySortedBy suspect_cmp ks → IfSome (slice_get ks 0) (λ k. suspect_cmp k q ≡ Greater) → contains suspect_cmp (set_of ks) q ≡ false
below_first [] q sorted above = refl
below_first (k ∷ []) q sorted above = rw (not_above q k above) refl
below_first (k ∷ l ∷ ks) q sorted above =
    let less : suspect_cmp q l ≡ Less = suspects_total.trans q k l (suspects_total.antisymm q k ∙ ap ordering_reverse above) (first_below k (l ∷ ks) 0 l sorted refl) in
    rw (not_above q k above) (below_first (l ∷ ks) q (sorted_tail suspect_cmp k (l ∷ ks) sorted) (suspects_total.antisymm l q ∙ ap ordering_reverse less))

-- who is above one and below the next isn't there
pub between : (ks : List Suspect) (q : Suspect) (place : ℕ) (last : Suspect) → IsStrictlySortedBy suspect_cmp ks → slice_get ks place ≡ Some last → suspect_cmp last q ≡ Less → IfSome (slice_get ks (suc place)) (λ k. suspect_cmp k q ≡ Greater) → contains suspect_cmp (set_of ks) q ≡ false
between [] q place last sorted found less above = refl
between (k ∷ ks) q zero last sorted found less above =
    let first : k ≡ last = some_is k last found in
    rw (not_below q k (subst (λ (p : Suspect). suspect_cmp p q ≡ Less) (sym first) less)) (below_first ks q (sorted_tail suspect_cmp k ks sorted) above)
between (k ∷ ks) q (suc place) last sorted found less above =
    let below : suspect_cmp k q ≡ Less = suspects_total.trans k last q (first_below k ks place last sorted found) less in
    rw (not_below q k below) (between ks q place last (sorted_tail suspect_cmp k ks sorted) found less above)

-- whom a search finds nowhere isn't there
pub found_nowhere : (ks : List Suspect) (q : Suspect) (gap : ℕ) → IsPartitionPoint (λ k. suspect_cmp k q ≡ Less) (λ k. suspect_cmp k q ≡ Greater) ks gap → contains suspect_cmp (set_of ks) q ≡ false
found_nowhere ks q gap parted = none_equal ks q (λ place d below. elim (cases_lt place gap) [
  | inl before ↦ not_below q (get_or ks place d) (parted.0 place d (omega arith) before)
  | inr behind ↦ not_above q (get_or ks place d) (parted.1 place d behind below)
])

-- the comparisons with a suspect rise along suspects in order, as a binary search asks
pub comparisons_rise : (ks : List Suspect) (q : Suspect) → IsStrictlySortedBy suspect_cmp ks → IsNonDecreasingBy (λ k. ordering_index (suspect_cmp k q)) ks
comparisons_rise ks q sorted = searchable_from_sorted suspects_total (λ (k : Suspect). k) ks q (λ place k from below.
    ap is_lt (suspects_total.antisymm (get_or ks (place + 1) k) (get_or ks place k) ∙ ap ordering_reverse (Less-from_sorted suspect_cmp ks place (place + 1) k sorted (omega arith) below)))

-- nobody stands in order
pub sorted-none : IsStrictlySortedBy suspect_cmp []
sorted-none = sorted_from_all_adjacent suspects_total [] (record { round = record { epoch = 0; view = 0 }; signer = 0 }) (λ place below. absurd (omega arith))

-- one more above the last
pub sorted-push : (ks : List Suspect) (q : Suspect) → IsStrictlySortedBy suspect_cmp ks → (0 < length ks → suspect_cmp (get_or ks (length ks - 1) q) q ≡ Less) → IsStrictlySortedBy suspect_cmp (ks ++ q ∷ [])
sorted-push ks q sorted above = sorted_from_all_adjacent suspects_total (ks ++ q ∷ []) q (λ place below.
    let count : length (ks ++ q ∷ []) ≡ length ks + 1 = length-append ks (q ∷ []) in
    let inside : place < length ks = omega arith in
    rw (get_or_append_left ks (q ∷ []) q place inside) (elim (cases_lt (place + 1) (length ks)) [
      | inl next_inside ↦ rw (get_or_append_left ks (q ∷ []) q (place + 1) next_inside) (Less-from_sorted suspect_cmp ks place (place + 1) q sorted (omega arith) next_inside)
      | inr ge ↦
          let seam : length ks ≡ place + 1 = omega arith in
          let last : length ks - 1 ≡ place = omega arith in
          rw (← seam, get_or-append_seam ks q [] q) (subst (λ (n : ℕ). suspect_cmp (get_or ks n q) q ≡ Less) last (above (omega arith)))
    ]))

-- behind the last, which is below it
pub sorted-push_above : (ks : List Suspect) (last q : Suspect) → IsStrictlySortedBy suspect_cmp ks → Some last ≡ slice_get ks (length ks - 1) → is_lt (suspect_cmp last q) ≡ true → IsStrictlySortedBy suspect_cmp (ks ++ q ∷ [])
sorted-push_above ks last q sorted is less =
    sorted-push ks q sorted (λ some. rw (get_or_from_slice_get ks (length ks - 1) last q (sym is)) (is_less (suspect_cmp last q) less))
  where
    is_less : (o : Ordering) → is_lt o ≡ true → o ≡ Less
    is_less Less e = refl
    is_less Equal e = absurd cc
    is_less Greater e = absurd cc

-- alone
pub sorted-alone : (ks : List Suspect) (q : Suspect) → None ≡ slice_get ks (length ks - 1) → IsStrictlySortedBy suspect_cmp (ks ++ q ∷ [])
sorted-alone [] q none = sorted-push [] q (sorted-none) (λ some. absurd (omega arith))
sorted-alone (k ∷ ks) q none = absurd (let never : None ≡ Some (get_or (k ∷ ks) (length (k ∷ ks) - 1) q) = none ∙ slice_get-get_or (k ∷ ks) (length (k ∷ ks) - 1) q (omega arith) in cc)

-- ---- two lists as a set

pub among-first : (xs ys : List Suspect) (q : Suspect) → among q xs → among q (xs ++ ys)
among-first xs ys q there = list_any-append (λ r. is_eq (suspect_cmp q r)) xs ys ∙ or_left (contains suspect_cmp (set_of xs) q) (contains suspect_cmp (set_of ys) q) there

pub among-second : (xs ys : List Suspect) (q : Suspect) → among q ys → among q (xs ++ ys)
among-second xs ys q there = list_any-append (λ r. is_eq (suspect_cmp q r)) xs ys ∙ or_right (contains suspect_cmp (set_of xs) q) (contains suspect_cmp (set_of ys) q) there

pub among-cases : (xs ys : List Suspect) (q : Suspect) → among q (xs ++ ys) → among q xs ⊎ among q ys
among-cases xs ys q there = or_cases (contains suspect_cmp (set_of xs) q) (contains suspect_cmp (set_of ys) q) (sym (list_any-append (λ r. is_eq (suspect_cmp q r)) xs ys) ∙ there)

-- one more of the first
pub pushed-stay : (xs ys : List Suspect) (k : Suspect) → IsSubset suspect_cmp (set_of (xs ++ ys)) (set_of ((xs ++ k ∷ []) ++ ys))
pushed-stay xs ys k = λ q there. elim (among-cases xs ys q there) [
  | inl first ↦ among-first (xs ++ k ∷ []) ys q (among-first xs (k ∷ []) q first)
  | inr second ↦ among-second (xs ++ k ∷ []) ys q second
]

pub pushed-there : (xs ys : List Suspect) (k : Suspect) → among k ((xs ++ k ∷ []) ++ ys)
pushed-there xs ys k = among-first (xs ++ k ∷ []) ys k (among-second xs (k ∷ []) k (rw (tied_itself suspects_total k) refl))

-- more of the second
pub second-stay : (xs ys zs : List Suspect) → IsSubset suspect_cmp (set_of ys) (set_of zs) → IsSubset suspect_cmp (set_of (xs ++ ys)) (set_of (xs ++ zs))
second-stay xs ys zs stay = λ q there. elim (among-cases xs ys q there) [
  | inl first ↦ among-first xs zs q first
  | inr second ↦ among-second xs zs q (stay q second)
]

-- ---- what is kept by places

module _ {Y : Type 0} where
  zip-none : (ks : List Suspect) → zip {K = Suspect} {X = Y} ks [] ≡ []
  zip-none [] = refl
  zip-none (k ∷ ks) = refl

  get_at : (ks : List Suspect) (kept : List Y) (place : ℕ) (q : Suspect) → IsStrictlySortedBy suspect_cmp ks → slice_get ks place ≡ Some q → kept_of (set_of ks) kept q ≡ slice_get kept place
  get_at [] kept place q sorted found = absurd cc
  get_at (k ∷ ks) [] place q sorted found = refl
  get_at (k ∷ ks) (y ∷ kept) zero q sorted found =
      let first : k ≡ q = some_is k q found in
      rw (subst (λ (p : Suspect). is_eq (suspect_cmp q p) ≡ true) (sym first) (ap is_eq (tied_itself suspects_total q))) refl
  get_at (k ∷ ks) (y ∷ kept) (suc place) q sorted found =
      rw (not_below q k (first_below k ks place q sorted found)) (get_at ks kept place q (sorted_tail suspect_cmp k ks sorted) found)

  -- what is kept of a suspect stands at the suspect's place
  pub kept_at_place : (suspects : BTreeSet Suspect) (kept : List Y) (place : ℕ) (q : Suspect) → StandsAt suspects place q → kept_of suspects kept q ≡ slice_get kept place
  kept_at_place suspects kept place q stands = get_at suspects.keys kept place q stands.0 stands.1

  get_set : (ks : List Suspect) (kept : List Y) (place : ℕ) (q : Suspect) (y : Y) → IsStrictlySortedBy suspect_cmp ks → slice_get ks place ≡ Some q → place < length kept
      → (p : Suspect) → kept_of (set_of ks) (slice_set kept place y) p ≡ cond (is_eq (suspect_cmp q p)) (Some y) (kept_of (set_of ks) kept p)
  get_set [] kept place q y sorted found inside p = absurd cc
  get_set (k ∷ ks) [] place q y sorted found inside p = absurd (omega arith)
  get_set (k ∷ ks) (x ∷ kept) zero q y sorted found inside p =
      let first : k ≡ q = some_is k q found in
      subst (λ (r : Suspect). cond (is_eq (suspect_cmp p r)) (Some y) (kept_of (set_of ks) kept p) ≡ cond (is_eq (suspect_cmp q p)) (Some y) (cond (is_eq (suspect_cmp p r)) (Some x) (kept_of (set_of ks) kept p))) (sym first)
      (elim (cases_Bool (is_eq (suspect_cmp p q))) [
        | inl own ↦ rw (swapped q p, own) refl
        | inr other ↦ rw (swapped q p, other) refl
      ])
  get_set (k ∷ ks) (x ∷ kept) (suc place) q y sorted found inside p = elim (cases_Bool (is_eq (suspect_cmp p k))) [
    | inl own ↦
        let same : p ≡ k = suspect_cmp-exact p k own in
        let apart : is_eq (suspect_cmp q p) ≡ false = subst (λ (r : Suspect). is_eq (suspect_cmp q r) ≡ false) (sym same) (not_below q k (first_below k ks place q sorted found)) in
        rw (own, apart) refl
    | inr other ↦ rw other (get_set ks kept place q y (sorted_tail suspect_cmp k ks sorted) found (omega arith) p)
  ]

  -- what is written at a suspect's place is then kept of the suspect, and of the others what was
  pub kept_set : (suspects : BTreeSet Suspect) (kept : List Y) (place : ℕ) (q : Suspect) (y : Y) → StandsAt suspects place q → place < length kept
      → (p : Suspect) → kept_of suspects (slice_set kept place y) p ≡ cond (is_eq (suspect_cmp q p)) (Some y) (kept_of suspects kept p)
  kept_set suspects kept place q y stands inside p = get_set suspects.keys kept place q y stands.0 stands.1 inside p

  -- one more is kept: of nobody, or of one of whom nothing was
  pub kept_push : (ks : List Suspect) (kept : List Y) (y : Y) (p : Suspect) → (kept_of (set_of ks) (kept ++ y ∷ []) p ≡ kept_of (set_of ks) kept p)
      ⊎ ((kept_of (set_of ks) kept p ≡ None) × (kept_of (set_of ks) (kept ++ y ∷ []) p ≡ Some y) × among p ks)
  kept_push [] kept y p = inl refl
  kept_push (k ∷ ks) [] y p = elim (cases_Bool (is_eq (suspect_cmp p k))) [
    | inl own ↦ inr (refl, rw own refl, rw own refl)
    | inr other ↦ inl (rw (other, zip-none ks) refl)
  ]
  kept_push (k ∷ ks) (x ∷ kept) y p = elim (cases_Bool (is_eq (suspect_cmp p k))) [
    | inl own ↦ inl (rw own refl)
    | inr other ↦ elim (kept_push ks kept y p) [
      | inl same ↦ inl (rw other same)
      | inr new ↦ inr (rw other new.0, rw other new.1, rw other new.2)
    ]
  ]
