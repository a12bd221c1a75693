-- What a map from each span's first view to its last says of the spans that it lists.
use Rattle.std.proofs.Common.{◌≡◌, ◌≢◌, ◌⊎◌, ◌<◌, ◌≤◌, ◌++◌, ℕ, false, List, [], ◌∷◌, Some, None, refl, sym, ap, ◌∙◌, inl, inr, arith}
use Rattle.std.specs.Prelude.{Contains, IsSome}
use Rattle.std.specs.Cmp.{nat_cmp_is}
use Rattle.std.specs.Ordering.{nat_cmp, is_gt}
use Rattle.std.specs.declared.cmp.Ordering.TheVariants.{Less}
use Rattle.std.specs.declared.ops.Bound.TheVariants.{Included, Excluded, Unbounded}
use Rattle.std.specs.BTreeMap.{BTreeMap, IsOrdered, Updates, get}
use Rattle.std.specs.BTreeMap.Range.{IsRangeOf}
use Rattle.std.proofs.lemmas.Bool.{cases_eq, cases_lt}
use Rattle.std.proofs.lemmas.Bool.Decides.{nat_tests}
use Rattle.std.proofs.lemmas.Cmp.{nat_cmp_total, ranked}
use Rattle.std.proofs.lemmas.Map.Keys.{ge_from_not_lt, le_from_not_gt}
use Rattle.std.proofs.lemmas.Map.Lookups.{exact_unsigned}
use Rattle.std.proofs.lemmas.Map.Views.{btree_map_get_iff}

not_gt_from_le : (a b : ℕ) → a ≤ b → is_gt (nat_cmp a b) ≡ false
not_gt_from_le a b le = grind (arith, nat_tests)

less_from_lt : (a b : ℕ) → a < b → nat_cmp a b ≡ Less
less_from_lt a b lt = sym (nat_cmp_is a b Less lt)

-- of the spans that begin at the view or before it, this one begins last
pub record IsLatest (spans : List (ℕ × ℕ)) (view : ℕ) (s : ℕ × ℕ) : Type 0 where
  pub there : Contains spans s
  pub begins : s.0 ≤ view
  pub latest : (t : ℕ × ℕ) → Contains spans t → t.0 ≤ view → t.0 ≤ s.0

module _ (m : BTreeMap ℕ ℕ) (ordered : IsOrdered nat_cmp m) where
  pub found : (s : ℕ × ℕ) → Contains m.entries s → get nat_cmp m s.0 ≡ Some s.1
  found s there = (btree_map_get_iff nat_cmp_total exact_unsigned m ordered s.0 s.1).1 there

  pub listed : (s : ℕ × ℕ) → get nat_cmp m s.0 ≡ Some s.1 → Contains m.entries s
  listed s is = (btree_map_get_iff nat_cmp_total exact_unsigned m ordered s.0 s.1).0 is

  is_there : (s : ℕ × ℕ) → Contains m.entries s → IsSome (get nat_cmp m s.0)
  is_there s there = rw (found s there) refl

  module _ (view : ℕ) (r : List (ℕ × ℕ)) (range : IsRangeOf nat_cmp Unbounded (Included view) m r) where
    -- the last of the spans up to a view
    pub IsLatest-from_range : (t : List (ℕ × ℕ)) (s : ℕ × ℕ) → r ≡ t ++ s ∷ [] → IsLatest m.entries view s
    IsLatest-from_range t s e =
        let inside = range.3 s t e in
        record {
          there = listed s inside.1;
          begins = le_from_not_gt s.0 view inside.0.1;
          latest = λ u there begins. ge_from_not_lt s.0 u.0 (range.4 s t e u.0 (tt, not_gt_from_le u.0 view begins) (is_there u there));
        }

    -- no span begins up to the view
    pub none_up_to : r ≡ [] → (s : ℕ × ℕ) → Contains m.entries s → view < s.0
    none_up_to e s there = elim (cases_lt view s.0) [
      | inl lt ↦ lt
      | inr le ↦ absurd (
          let none : get nat_cmp m s.0 ≡ None = range.5 e s.0 (tt, not_gt_from_le s.0 view le) in
          let some : get nat_cmp m s.0 ≡ Some s.1 = found s there in
          cc
          )
    ]

  module _ (start end : ℕ) (r : List (ℕ × ℕ)) (range : IsRangeOf nat_cmp (Excluded start) (Included end) m r) where
    -- the first span of the range begins between the two
    pub begins_between : (s : ℕ × ℕ) (t : List (ℕ × ℕ)) → r ≡ s ∷ t → (start < s.0) × (s.0 ≤ end)
    begins_between s t e =
        let inside = rw e at range.1 in
        (ranked start s.0 Less (sym inside.0.0), le_from_not_gt s.0 end inside.0.1)

    -- no span begins between the two
    pub none_between : r ≡ [] → (s : ℕ × ℕ) → Contains m.entries s → (s.0 ≤ start) ⊎ (end < s.0)
    none_between e s there = elim (cases_lt start s.0) [
      | inl above ↦ elim (cases_lt end s.0) [
        | inl past ↦ inr past
        | inr up ↦ absurd (
            let none : get nat_cmp m s.0 ≡ None = range.5 e s.0 (less_from_lt start s.0 above, not_gt_from_le s.0 end up) in
            let some : get nat_cmp m s.0 ≡ Some s.1 = found s there in
            cc
            )
      ]
      | inr below ↦ inl below
    ]

module _ (m n : BTreeMap ℕ ℕ) (was : IsOrdered nat_cmp m) (is : IsOrdered nat_cmp n) (key : ℕ) where
  module _ (removes : Updates nat_cmp m n key None) where
    -- which spans are left
    pub left_from_removed : (s : ℕ × ℕ) → Contains n.entries s → Contains m.entries s × (s.0 ≢ key)
    left_from_removed s there = elim (cases_eq key s.0) [
      | inl same ↦ absurd (
          let none : get nat_cmp n s.0 ≡ None = grind (arith, nat_tests, removes.0 s.0) in
          let some : get nat_cmp n s.0 ≡ Some s.1 = found n is s there in
          cc
          )
      | inr other ↦
          let kept : get nat_cmp n s.0 ≡ get nat_cmp m s.0 = grind (arith, nat_tests, removes.0 s.0) in
          (listed m was s (sym kept ∙ found n is s there), λ e. other (sym e))
    ]

    pub removed_from_left : (s : ℕ × ℕ) → Contains m.entries s → s.0 ≢ key → Contains n.entries s
    removed_from_left s there other =
        let kept : get nat_cmp n s.0 ≡ get nat_cmp m s.0 = grind (arith, nat_tests, removes.0 s.0) in
        listed n is s (kept ∙ found m was s there)

  module _ (value : ℕ) (inserts : Updates nat_cmp m n key (Some value)) where
    -- which spans there are after an insertion
    pub inserted_cases : (s : ℕ × ℕ) → Contains n.entries s → (s ≡ (key, value)) ⊎ (Contains m.entries s × (s.0 ≢ key))
    inserted_cases s there = elim (cases_eq key s.0) [
      | inl same ↦
          let new : get nat_cmp n s.0 ≡ Some value = grind (arith, nat_tests, inserts.0 s.0) in
          let some : get nat_cmp n s.0 ≡ Some s.1 = found n is s there in
          let last : s.1 ≡ value = cc in
          inl (ap (λ (k : ℕ). (k, s.1)) (sym same) ∙ ap (λ (v : ℕ). (key, v)) last)
      | inr other ↦
          let kept : get nat_cmp n s.0 ≡ get nat_cmp m s.0 = grind (arith, nat_tests, inserts.0 s.0) in
          inr (listed m was s (sym kept ∙ found n is s there), λ e. other (sym e))
    ]

    pub inserted_there : Contains n.entries (key, value)
    inserted_there = listed n is (key, value) inserts.1

    pub inserted_beside : (s : ℕ × ℕ) → Contains m.entries s → s.0 ≢ key → Contains n.entries s
    inserted_beside s there other =
        let kept : get nat_cmp n s.0 ≡ get nat_cmp m s.0 = grind (arith, nat_tests, inserts.0 s.0) in
        listed n is s (kept ∙ found m was s there)
