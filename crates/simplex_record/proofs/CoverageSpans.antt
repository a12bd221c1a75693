-- Which views spans cover.
use Rattle.std.proofs.Common.{◌≡◌, ◌≢◌, ◌⊎◌, ◌↔◌, Some, ◌<◌, ◌≤◌, ◌+◌, ◌-◌, ◌^◌, ◌∙◌, ℕ, List, sym, ap, subst, inl, inr, ⊎_elim, arith}
use Rattle.std.specs.Prelude.{Contains}
use Rattle.std.specs.Ordering.{nat_cmp}
use Rattle.std.specs.BTreeMap.{BTreeMap, IsOrdered, Updates}
use Rattle.std.proofs.lemmas.Bool.{cases_lt}
use Rattle.simplex_record.specs.Coverage.{AreApart, IsCovered, LiesIn}
use Rattle.simplex_record.proofs.CoverageMaps.{IsLatest, inserted_beside, inserted_cases, inserted_there}

module _ (spans : List (ℕ × ℕ)) (a : AreApart spans) where
  -- spans with no view between them are one
  touching_are_one : (s t : ℕ × ℕ) → Contains spans s → Contains spans t → s.0 ≤ t.1 + 1 → t.0 ≤ s.1 + 1 → s ≡ t
  touching_are_one s t s_there t_there s_begins t_begins = elim (a.apart s t s_there t_there) [
    | inl same ↦ same
    | inr apart ↦ absurd (⊎_elim (λ before. omega arith) (λ behind. omega arith) apart)
  ]

  -- a covered view lies in the span that begins last up to it
  pub lies_in_latest : (view : ℕ) (s : ℕ × ℕ) → IsLatest spans view s → IsCovered spans view → view ≤ s.1
  lies_in_latest view s latest (t, there, lies) =
      let later : t.0 ≤ s.0 = latest.latest t there lies.0 in
      let begins = latest.begins in
      let ascends : s.0 ≤ s.1 = a.ascends s latest.there in
      let same = touching_are_one s t latest.there there (omega arith) (omega arith) in
      subst (λ (u : ℕ × ℕ). view ≤ u.1) (sym same) lies.1

  module _ (s : ℕ × ℕ) (there : Contains spans s) where
    -- the view before a span is bare
    pub bare_before : (view : ℕ) → view + 1 ≡ s.0 → IsCovered spans view → ⊥
    bare_before view beside (t, covers, lies) =
        let ascends : s.0 ≤ s.1 = a.ascends s there in
        let same = touching_are_one s t there covers (omega arith) (omega arith) in
        let first : s.0 ≡ t.0 = ap (λ (u : ℕ × ℕ). u.0) same in
        omega arith

    -- the view behind a span is bare
    pub bare_behind : IsCovered spans (s.1 + 1) → ⊥
    bare_behind (t, covers, lies) =
        let ascends : s.0 ≤ s.1 = a.ascends s there in
        let same = touching_are_one s t there covers (omega arith) (omega arith) in
        let last : s.1 ≡ t.1 = ap (λ (u : ℕ × ℕ). u.1) same in
        omega arith

-- start and end are where the span begins and ends that first to last make with the covered views beside them
pub record Joins (old : List (ℕ × ℕ)) (first last start end : ℕ) : Type 0 where
  pub before : start ≤ first
  pub forward : first ≤ last
  pub behind : last ≤ end
  pub fits : end < 2 ^ 64
  pub covered_before : (view : ℕ) → start ≤ view → view < first → IsCovered old view
  pub covered_behind : (view : ℕ) → last < view → view ≤ end → IsCovered old view
  pub bare_before : (view : ℕ) → view + 1 ≡ start → IsCovered old view → ⊥
  pub bare_behind : end + 1 < 2 ^ 64 → IsCovered old (end + 1) → ⊥

-- the new spans are the one from start to end, and those of the old that begin outside it
pub record Replaces (old new : List (ℕ × ℕ)) (start end : ℕ) : Type 0 where
  pub cases : (s : ℕ × ℕ) → Contains new s → (s ≡ (start, end)) ⊎ (Contains old s × ((s.0 < start) ⊎ (end < s.0)))
  pub made : Contains new (start, end)
  pub others : (s : ℕ × ℕ) → Contains old s → (s.0 < start) ⊎ (end < s.0) → Contains new s

-- an insertion and the removal of what begins in the inserted span
pub Replaces-from_calls : (m n : BTreeMap ℕ ℕ) (new : List (ℕ × ℕ)) (start end : ℕ) → start ≤ end → IsOrdered nat_cmp m → IsOrdered nat_cmp n → Updates nat_cmp m n start (Some end)
    → ((s : ℕ × ℕ) → Contains new s ↔ (Contains n.entries s × ((s.0 ≤ start) ⊎ (end < s.0)))) → Replaces m.entries new start end
Replaces-from_calls m n new start end forward was is inserts removes = record {
  cases = λ s there.
      let left = (removes s).0 there in
      elim (inserted_cases m n was is start end inserts s left.0) [
        | inl same ↦ inl same
        | inr other ↦ inr (other.0, ⊎_elim (λ before. inl (let apart = other.1 in omega arith)) inr left.1)
      ];
  made = (removes (start, end)).1 (inserted_there m n was is start end inserts, inl (omega arith));
  others = λ s there outside.
      let apart : s.0 ≢ start = ⊎_elim (λ before. omega arith) (λ behind. omega arith) outside in
      (removes s).1 (inserted_beside m n was is start end inserts s there apart, ⊎_elim (λ before. inl (omega arith)) inr outside);
}

module _ (old new : List (ℕ × ℕ)) (first last start end : ℕ) (a : AreApart old) (j : Joins old first last start end) (r : Replaces old new start end) where
  covered_from_new : (view : ℕ) → IsCovered new view → IsCovered old view ⊎ LiesIn (first, last) view
  covered_from_new view (s, there, lies) = elim (r.cases s there) [
    | inl same ↦
        let begins : s.0 ≡ start = ap (λ (u : ℕ × ℕ). u.0) same in
        let ends : s.1 ≡ end = ap (λ (u : ℕ × ℕ). u.1) same in
        elim (cases_lt view first) [
          | inl before ↦ inl (j.covered_before view (omega arith) before)
          | inr from ↦ elim (cases_lt last view) [
            | inl behind ↦ inl (j.covered_behind view behind (omega arith))
            | inr to ↦ inr (from, to)
          ]
        ]
    | inr other ↦ inl (s, other.0, lies)
  ]

  new_from_old : (view : ℕ) (s : ℕ × ℕ) → Contains old s → LiesIn s view → IsCovered new view
  new_from_old view s there lies = elim (cases_lt s.0 start) [
    | inl before ↦ (s, r.others s there (inl before), lies)
    | inr from ↦ elim (cases_lt end s.0) [
      | inl behind ↦ (s, r.others s there (inr behind), lies)
      | inr to ↦ elim (cases_lt end view) [
        | inl past ↦ absurd (
            let fits : s.1 < 2 ^ 64 = a.fits s there in
            j.bare_behind (omega arith) (s, there, (omega arith, omega arith))
            )
        | inr within ↦ ((start, end), r.made, (omega arith, within))
      ]
    ]
  ]

  new_from_joined : (view : ℕ) → LiesIn (first, last) view → IsCovered new view
  new_from_joined view lies =
      let before = j.before in
      let behind = j.behind in
      ((start, end), r.made, (omega arith, omega arith))

  -- the new spans cover what the old ones did, and first to last
  pub covered_iff : (view : ℕ) → IsCovered new view ↔ (IsCovered old view ⊎ LiesIn (first, last) view)
  covered_iff view = (
    covered_from_new view,
    λ covered. ⊎_elim (λ (was : IsCovered old view). new_from_old view was.0 was.1 was.2) (new_from_joined view) covered,
  )

  beside : (t : ℕ × ℕ) → Contains old t → (t.0 < start) ⊎ (end < t.0) → (end + 1 < t.0) ⊎ (t.1 + 1 < start)
  beside t there outside = elim outside [
    | inl before ↦ elim (cases_lt (t.1 + 1) start) [
      | inl apart ↦ inr apart
      | inr touches ↦ absurd (j.bare_before (start - 1) (omega arith) (t, there, (omega arith, omega arith)))
    ]
    | inr behind ↦ elim (cases_lt (end + 1) t.0) [
      | inl apart ↦ inl apart
      | inr touches ↦ absurd (
          let ascends : t.0 ≤ t.1 = a.ascends t there in
          let fits : t.1 < 2 ^ 64 = a.fits t there in
          j.bare_behind (omega arith) (t, there, (omega arith, omega arith))
          )
    ]
  ]

  new_ascends : (s : ℕ × ℕ) → Contains new s → s.0 ≤ s.1
  new_ascends s there = elim (r.cases s there) [
    | inl same ↦
        let before = j.before in
        let forward = j.forward in
        let behind = j.behind in
        subst (λ (u : ℕ × ℕ). u.0 ≤ u.1) (sym same) (omega arith)
    | inr other ↦ a.ascends s other.0
  ]

  new_fits : (s : ℕ × ℕ) → Contains new s → s.1 < 2 ^ 64
  new_fits s there = elim (r.cases s there) [
    | inl same ↦ subst (λ (u : ℕ × ℕ). u.1 < 2 ^ 64) (sym same) j.fits
    | inr other ↦ a.fits s other.0
  ]

  new_apart : (s t : ℕ × ℕ) → Contains new s → Contains new t → (s ≡ t) ⊎ (s.1 + 1 < t.0) ⊎ (t.1 + 1 < s.0)
  new_apart s t s_there t_there = elim (r.cases s s_there) [
    | inl s_same ↦ elim (r.cases t t_there) [
      | inl t_same ↦ inl (s_same ∙ sym t_same)
      | inr t_other ↦ subst (λ (u : ℕ × ℕ). (u ≡ t) ⊎ (u.1 + 1 < t.0) ⊎ (t.1 + 1 < u.0)) (sym s_same) (inr (beside t t_other.0 t_other.1))
    ]
    | inr s_other ↦ elim (r.cases t t_there) [
      | inl t_same ↦ subst (λ (u : ℕ × ℕ). (s ≡ u) ⊎ (s.1 + 1 < u.0) ⊎ (u.1 + 1 < s.0)) (sym t_same) (inr (⊎_elim inr inl (beside s s_other.0 s_other.1)))
      | inr t_other ↦ a.apart s t s_other.0 t_other.0
    ]
  ]

  -- the new spans are apart as the old ones are
  pub AreApart-replaced : AreApart new
  AreApart-replaced = record { ascends = new_ascends; fits = new_fits; apart = new_apart }
