-- A round's choice, in rounds that ascend and in rounds that came late.
use Rattle.std.proofs.Common.{◌≡◌, ◌&&◌, nat_eq, ◌⊎◌, ◌<◌, ◌+◌, ◌-◌, ℕ, zero, suc, true, false, List, [], ◌∷◌, ◌++◌, length, get_or, Option, Some, None, refl, sym, ap, ◌∙◌, subst, inl, inr, arith}
use Rattle.std.specs.Ordering.{is_eq, is_lt, ordering_reverse, ordering_index}
use Rattle.std.specs.Cmp.{IsTotalOrder, Equal-is}
use Rattle.std.specs.BTreeMap.{BTreeMap, Updates}
use Rattle.std.specs.List.{slice_get}
use Rattle.std.specs.List.Sorted.{IsNonDecreasingBy, IsPartitionPoint}
use Rattle.std.specs.declared.cmp.Ordering.{Ordering}
use Rattle.std.specs.declared.cmp.Ordering.TheVariants.{Less, Equal, Greater}
use Rattle.std.proofs.lemmas.Bool.{cases_Bool, cases_lt}
use Rattle.std.proofs.lemmas.Bool.Decides.{nat_tests}
use Rattle.std.proofs.lemmas.Cmp.{nat_cmp_total, on_total, then_total, tied_itself, tied_back}
use Rattle.std.proofs.lemmas.List.{length-append, get_or_append_left}
use Rattle.std.proofs.lemmas.List.Sorted.{searchable_from_sorted}
use Rattle.std.proofs.lemmas.Option.{get_or_from_slice_get}
use Rattle.std.proofs.Math.Seq.{get_or-append_seam}
use Rattle.types_core.specs.declared.position.Round.{Round}
use Rattle.simplex_rules.specs.declared.cast.Choice.{Choice}
use Rattle.simplex_rules.specs.Choices.{round_cmp, Ascend, choice_in, Extends}
use Rattle.simplex_rules.proofs.Suspects.{rounds_exact}

pub rounds_total : IsTotalOrder round_cmp
rounds_total = then_total (on_total (λ (r : Round). r.epoch) nat_cmp_total) (on_total (λ (r : Round). r.view) nat_cmp_total)

-- rounds of one epoch and one view
pub tied : (x y : Round) → (nat_eq x.epoch y.epoch && nat_eq x.view y.view) ≡ true → round_cmp x y ≡ Equal
tied x y same = grind (arith, nat_tests, same)

-- a round is not one that stands below it
not_below : (x y : Round) → round_cmp x y ≡ Less → is_eq (round_cmp y x) ≡ false
not_below x y less = ap is_eq (rounds_total.antisymm y x ∙ ap ordering_reverse less)

-- a round is not one that stands above it
not_above : (x y : Round) → round_cmp x y ≡ Greater → is_eq (round_cmp y x) ≡ false
not_above x y greater = ap is_eq (rounds_total.antisymm y x ∙ ap ordering_reverse greater)

is_less : (o : Ordering) → is_lt o ≡ true → o ≡ Less
is_less Less e = refl
is_less Equal e = absurd cc
is_less Greater e = absurd cc

-- there is something or nothing
found_or_not : {X : Type 0} (o : Option X) → ((x : X) × (o ≡ Some x)) ⊎ (o ≡ None)
found_or_not (Some x) = inl (x, refl)
found_or_not None = inr refl

module _ {D : Type 0} where
  -- a choice that stands in the first part
  pub choice_in-first : (xs ys : List (Round × Choice D)) (r : Round) (c : Choice D) → choice_in xs r ≡ Some c → choice_in (xs ++ ys) r ≡ Some c
  choice_in-first [] ys r c found = absurd cc
  choice_in-first (x ∷ xs) ys r c found = elim (cases_Bool (is_eq (round_cmp r x.0))) [
    | inl own ↦ rw own (rw own at found)
    | inr other ↦ rw other (choice_in-first xs ys r c (rw other at found))
  ]

  -- a round that has no choice in the first part
  pub choice_in-second : (xs ys : List (Round × Choice D)) (r : Round) → choice_in xs r ≡ None → choice_in (xs ++ ys) r ≡ choice_in ys r
  choice_in-second [] ys r none = refl
  choice_in-second (x ∷ xs) ys r none = elim (cases_Bool (is_eq (round_cmp r x.0))) [
    | inl own ↦ absurd (let never : Some x.1 ≡ None = rw own at none in cc)
    | inr other ↦ rw other (choice_in-second xs ys r (rw other at none))
  ]

  -- a round that has no choice has none in the first part
  none_first : (xs ys : List (Round × Choice D)) (r : Round) → choice_in (xs ++ ys) r ≡ None → choice_in xs r ≡ None
  none_first xs ys r none = elim (found_or_not (choice_in xs r)) [
    | inl found ↦ absurd (let never : Some found.0 ≡ None = sym (choice_in-first xs ys r found.0 found.1) ∙ none in cc)
    | inr absent ↦ absent
  ]

  -- one more round between two parts is looked up there
  choice_in-between : (xs ys : List (Round × Choice D)) (x : Round × Choice D) (r : Round) → is_eq (round_cmp r x.0) ≡ false → choice_in ((xs ++ x ∷ []) ++ ys) r ≡ choice_in (xs ++ ys) r
  choice_in-between [] ys x r other = rw other refl
  choice_in-between (y ∷ xs) ys x r other = elim (cases_Bool (is_eq (round_cmp r y.0))) [
    | inl own ↦ rw own refl
    | inr not_y ↦ rw not_y (choice_in-between xs ys x r other)
  ]

  -- a round that equals one without a choice has none either
  same_none : (xs : List (Round × Choice D)) (r q : Round) (d : Choice D) → choice_in xs r ≡ None → choice_in xs q ≡ Some d → is_eq (round_cmp r q) ≡ true → ⊥
  same_none xs r q d none found own =
      let same : r ≡ q = rounds_exact r q ((Equal-is (round_cmp r q)).0 own) in
      let gone : choice_in xs q ≡ None = subst (λ (x : Round). choice_in xs x ≡ None) same none in
      let never : None ≡ Some d = sym gone ∙ found in
      cc

  -- a round above all that ascend gets its choice
  pub Extends-pushed : (xs ys : List (Round × Choice D)) (x : Round × Choice D) → choice_in (xs ++ ys) x.0 ≡ None → Extends (xs ++ ys) ((xs ++ x ∷ []) ++ ys)
  Extends-pushed xs ys x none = λ q d before. elim (cases_Bool (is_eq (round_cmp x.0 q))) [
    | inl own ↦ absurd (same_none (xs ++ ys) x.0 q d none before own)
    | inr other ↦
        let not_x : is_eq (round_cmp q x.0) ≡ false = apart x.0 q other in
        choice_in-between xs ys x q not_x ∙ before
  ] where
    apart : (r q : Round) → is_eq (round_cmp r q) ≡ false → is_eq (round_cmp q r) ≡ false
    apart r q other = elim (cases_Bool (is_eq (round_cmp q r))) [
      | inl same ↦ absurd (let never : true ≡ false = sym (ap is_eq (tied_back rounds_total q r ((Equal-is (round_cmp q r)).0 same))) ∙ other in cc)
      | inr differ ↦ differ
    ]

  -- and then it has that choice
  pub own-pushed : (xs ys : List (Round × Choice D)) (x : Round × Choice D) → choice_in (xs ++ ys) x.0 ≡ None → choice_in ((xs ++ x ∷ []) ++ ys) x.0 ≡ Some x.1
  own-pushed [] ys x none = rw (tied_itself rounds_total x.0) refl
  own-pushed (y ∷ xs) ys x none = elim (cases_Bool (is_eq (round_cmp x.0 y.0))) [
    | inl own ↦ absurd (let never : Some y.1 ≡ None = rw own at none in cc)
    | inr other ↦ rw other (own-pushed xs ys x (rw other at none))
  ]

  -- a round that comes late gets its choice
  pub Extends-inserted : (xs : List (Round × Choice D)) (m n : BTreeMap Round (Choice D)) (r : Round) (c : Choice D) → choice_in (xs ++ m.entries) r ≡ None → Updates round_cmp m n r (Some c) → Extends (xs ++ m.entries) (xs ++ n.entries)
  Extends-inserted xs m n r c none updates = λ q d before. elim (found_or_not (choice_in xs q)) [
    | inl found ↦
        let same : Some found.0 ≡ Some d = sym (choice_in-first xs m.entries q found.0 found.1) ∙ before in
        choice_in-first xs n.entries q d (found.1 ∙ same)
    | inr absent ↦ elim (cases_Bool (is_eq (round_cmp r q))) [
      | inl own ↦ absurd (same_none (xs ++ m.entries) r q d none before own)
      | inr other ↦ choice_in-second xs n.entries q absent ∙ updates.0 q ∙ rw other (sym (choice_in-second xs m.entries q absent) ∙ before)
    ]
  ]

  -- and then it has that choice
  pub own-inserted : (xs : List (Round × Choice D)) (m n : BTreeMap Round (Choice D)) (r : Round) (c : Choice D) → choice_in (xs ++ m.entries) r ≡ None → Updates round_cmp m n r (Some c) → choice_in (xs ++ n.entries) r ≡ Some c
  own-inserted xs m n r c none updates = choice_in-second xs n.entries r (none_first xs m.entries r none) ∙ updates.1

  -- a round that none of these is has no choice
  choice_in-none : (xs : List (Round × Choice D)) (r : Round) → ((k : ℕ) (x : Round × Choice D) → k < length xs → is_eq (round_cmp r (get_or xs k x).0) ≡ false) → choice_in xs r ≡ None
  choice_in-none [] r others = refl
  choice_in-none (x ∷ xs) r others = rw (others 0 x (omega arith)) (choice_in-none xs r (λ k y below. others (suc k) y (omega arith)))

  -- where rounds ascend, a round's choice is the one that stands beside it
  pub choice_in-at : (xs : List (Round × Choice D)) (r : Round) (i : ℕ) (d : Round × Choice D) → Ascend xs → i < length xs → round_cmp r (get_or xs i d).0 ≡ Equal → choice_in xs r ≡ Some (get_or xs i d).1
  choice_in-at [] r i d ascend below same = absurd (omega arith)
  choice_in-at (x ∷ xs) r zero d ascend below same = rw same refl
  choice_in-at (x ∷ xs) r (suc i) d ascend below same =
      let less : round_cmp x.0 (get_or xs i d).0 ≡ Less = ascend 0 (suc i) d (omega arith) below in
      let other : is_eq (round_cmp r x.0) ≡ false = ap is_eq (rounds_total.congr r (get_or xs i d).0 x.0 same ∙ rounds_total.antisymm (get_or xs i d).0 x.0 ∙ ap ordering_reverse less) in
      rw other (choice_in-at xs r i d (λ j k y lt in_range. ascend (suc j) (suc k) y (omega arith) (omega arith)) (omega arith) same)

  -- a round above the last is above all that ascend
  all_below : (xs : List (Round × Choice D)) (r : Round) → Ascend xs → ((x : Round × Choice D) → 0 < length xs → round_cmp (get_or xs (length xs - 1) x).0 r ≡ Less) → (k : ℕ) (x : Round × Choice D) → k < length xs → round_cmp (get_or xs k x).0 r ≡ Less
  all_below xs r ascend last k x below = elim (cases_lt k (length xs - 1)) [
    | inl lt ↦ rounds_total.trans (get_or xs k x).0 (get_or xs (length xs - 1) x).0 r (ascend k (length xs - 1) x lt (omega arith)) (last x (omega arith))
    | inr ge ↦ let is_last : length xs - 1 ≡ k = omega arith in rw is_last at (last x (omega arith))
  ]

  -- so they ascend with it behind them
  Ascend-push : (xs : List (Round × Choice D)) (y : Round × Choice D) → Ascend xs → ((x : Round × Choice D) → 0 < length xs → round_cmp (get_or xs (length xs - 1) x).0 y.0 ≡ Less) → Ascend (xs ++ y ∷ [])
  Ascend-push xs y ascend last i j x lt in_range =
      let count : length (xs ++ y ∷ []) ≡ length xs + 1 = length-append xs (y ∷ []) in
      let i_in : i < length xs = omega arith in
      rw (get_or_append_left xs (y ∷ []) x i i_in) (elim (cases_lt j (length xs)) [
        | inl j_in ↦ rw (get_or_append_left xs (y ∷ []) x j j_in) (ascend i j x lt j_in)
        | inr ge ↦
            let is_last : length xs ≡ j = omega arith in
            rw (← is_last, get_or-append_seam xs y [] x) (all_below xs y.0 ascend last i x i_in)
      ])

  -- the comparisons with a round rise along rounds that ascend, as a binary search asks
  pub comparisons_rise : (xs : List (Round × Choice D)) (r : Round) → Ascend xs → IsNonDecreasingBy (λ (x : Round × Choice D). ordering_index (round_cmp x.0 r)) xs
  comparisons_rise xs r ascend = searchable_from_sorted rounds_total (λ (x : Round × Choice D). x.0) xs r (λ k x from below.
      ap is_lt (rounds_total.antisymm (get_or xs (k + 1) x).0 (get_or xs k x).0 ∙ ap ordering_reverse (ascend k (k + 1) x (omega arith) below)))

  -- a round above the last has no choice
  pub above_last : (xs : List (Round × Choice D)) (r : Round) (last : Round × Choice D) → Ascend xs → Some last ≡ slice_get xs (length xs - 1) → round_cmp last.0 r ≡ Less → choice_in xs r ≡ None
  above_last xs r last ascend is less = choice_in-none xs r (λ k x below.
      not_below (get_or xs k x).0 r (all_below xs r ascend (λ y some. rw (get_or_from_slice_get xs (length xs - 1) last y (sym is)) less) k x below))

  -- the last round's choice stands beside it
  pub at_last : (xs : List (Round × Choice D)) (r : Round) (last : Round × Choice D) → Ascend xs → Some last ≡ slice_get xs (length xs - 1) → round_cmp last.0 r ≡ Equal → choice_in xs r ≡ Some last.1
  at_last [] r last ascend is tied = absurd cc
  at_last (x ∷ xs) r last ascend is tied =
      let i = length (x ∷ xs) - 1 in
      let stands : get_or (x ∷ xs) i last ≡ last = get_or_from_slice_get (x ∷ xs) i last last (sym is) in
      choice_in-at (x ∷ xs) r i last ascend (omega arith) (rw stands (tied_back rounds_total last.0 r tied)) ∙ ap (λ (y : Round × Choice D). Some y.1) stands

  -- a round that a search finds nowhere has no choice
  pub found_nowhere : (xs : List (Round × Choice D)) (r : Round) (i : ℕ) → IsPartitionPoint (λ (x : Round × Choice D). round_cmp x.0 r ≡ Less) (λ (x : Round × Choice D). round_cmp x.0 r ≡ Greater) xs i → choice_in xs r ≡ None
  found_nowhere xs r i parted = choice_in-none xs r (λ k x below. elim (cases_lt k i) [
    | inl before ↦ not_below (get_or xs k x).0 r (parted.0 k x (omega arith) before)
    | inr behind ↦ not_above (get_or xs k x).0 r (parted.1 k x behind below)
  ])

  -- a round above the last may stand behind it
  pub Ascend-push_above : (xs : List (Round × Choice D)) (last y : Round × Choice D) → Ascend xs → Some last ≡ slice_get xs (length xs - 1) → is_lt (round_cmp last.0 y.0) ≡ true → Ascend (xs ++ y ∷ [])
  Ascend-push_above xs last y ascend is lt =
      Ascend-push xs y ascend (λ x some. rw (get_or_from_slice_get xs (length xs - 1) last x (sym is)) (is_less (round_cmp last.0 y.0) lt))
