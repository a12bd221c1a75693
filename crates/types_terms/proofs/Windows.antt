-- How many views the windows hold.
use Rattle.std.proofs.Common.{ℕ, ◌≡◌, ◌≤◌, ◌<◌, ◌+◌, ◌-◌, ◌*◌, ◌↔◌, ◌⊎◌, min, inl, inr, arith}
use Rattle.std.proofs.lemmas.Bool.{cases_lt}
use Rattle.types_core.specs.Positions.{term_end, next_term_start}
use Rattle.types_terms.specs.Spans.{term_end-above}
use Rattle.types_terms.specs.Windows.{Admits, later_term_start, early_views, issuance_floor, HasExactly}
use Rattle.types_terms.proofs.Exactly.{row, row_more, one_count}

-- what lies strictly between two numbers
pub between-count : (low high : ℕ) → HasExactly (λ v. (low < v) × (v < high)) (high - (low + 1))
between-count low high = row (low + 1) (high - (low + 1)) (λ v. (
  λ h. (omega (arith, h.0), omega (arith, h.0, h.1)),
  λ h. (omega (arith, h.0), omega (arith, h.0, h.1)),
))

-- an earlier view lies at or above the issuance floor exactly where at most the optimistic views lie between
pub floor-between : (optimistic earlier view : ℕ) → earlier < view → (between : ℕ) → HasExactly (λ v. (earlier < v) × (v < view)) between
    → (issuance_floor optimistic view ≤ earlier) ↔ (between ≤ optimistic)
floor-between optimistic earlier view before between counted =
    let many : between ≡ view - (earlier + 1) = one_count counted (between-count earlier view) in
    (λ h. omega arith, λ h. omega arith)

-- how many views after the current one are listened to
pub listened-count : (views optimistic current : ℕ) → 0 < views
    → HasExactly (λ view. (current < view) × Admits views optimistic current view) (min (2 * optimistic + 1) (term_end views current - current) + 2 + early_views views optimistic)
listened-count views optimistic current some =
    let last = term_end views current in
    let next = next_term_start views current in
    let later = later_term_start views current in
    let ahead : ℕ = min (2 * optimistic + 1) (last - current) in
    let early : ℕ = early_views views optimistic in
    let inside : current ≤ last = term_end-above views current some in
    let InWindow : ℕ → Type 0 = λ v. (current < v) × (v < current + 1 + ahead) in
    let window : HasExactly InWindow ahead = row (current + 1) ahead (λ v. (λ h. (omega (arith, h.0), h.1), λ h. (omega (arith, h.0), h.1))) in
    let WithLater : ℕ → Type 0 = λ v. InWindow v ⊎ ((later ≤ v) × (v < later + 2)) in
    let with_later : HasExactly WithLater (ahead + 2) = row_more later 2 window (λ v h low high. omega (arith, h.1)) (λ v. (λ h. h, λ h. h)) in
    row_more next early with_later
    (λ v h low high. elim h [ inl w ↦ omega (arith, w.1) | inr l ↦ omega (arith, l.0) ])
    (λ v. (
      λ h. elim h.1 [
        | inl past ↦ absurd (omega (arith, past, h.0))
        | inr further ↦ elim further [
          | inl w ↦ inl (inl (h.0, omega (arith, w.1)))
          | inr from_next ↦ elim from_next [
            | inl starts ↦ inr starts
            | inr ends ↦ elim ends [
              | inl first ↦ inl (inr (omega (arith, first), omega (arith, first)))
              | inr second ↦ inl (inr (omega (arith, second), omega (arith, second)))
            ]
          ]
        ]
      ],
      λ h. elim h [
        | inl earlier ↦ elim earlier [
          | inl w ↦ (w.0, inr (inl (w.0, omega (arith, w.1))))
          | inr l ↦ elim (cases_lt v (later + 1)) [
            | inl below ↦ (omega (arith, l.0), inr (inr (inr (inl (omega (arith, l.0))))))
            | inr above ↦ (omega (arith, l.0), inr (inr (inr (inr (omega (arith, l.1))))))
          ]
        ]
        | inr starts ↦ (omega (arith, starts.0), inr (inr (inl starts)))
      ],
    ))
