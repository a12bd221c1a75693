-- Which views one term holds, by the numbers of terms.
use Rattle.std.proofs.Common.{ℕ, zero, suc, ◌≡◌, ◌≤◌, ◌<◌, ◌+◌, ◌*◌, ◌/◌, ◌↔◌, arith}
use Rattle.std.proofs.Math.Nat.{div-lt_iff_lt-mul, le-div_iff_mul-le}
use Rattle.std.proofs.lemmas.Grind.{common_steps}
use Rattle.types_core.specs.Positions.{term_index, term_start, term_end, InCoveringRange, Covers}

-- the term of a view, by the view before it
term_index-suc : (views before : ℕ) → term_index views (suc before) ≡ before / views + 1
term_index-suc views before = grind (arith, common_steps)

-- the first view of a view's term, by the view before that view
term_start-suc : (views before : ℕ) → term_start views (suc before) ≡ before / views * views + 1
term_start-suc views before = grind (arith, common_steps, term_index-suc views before)

-- what is not after the end of a term is in that term or an earlier one
pub term_end-le : (views nullified view : ℕ) → 0 < views → (view ≤ term_end views nullified) ↔ (term_index views view ≤ term_index views nullified)
term_end-le views nullified zero some = (λ _. omega arith, λ _. omega arith)
term_end-le views nullified (suc before) some =
    let within : (before / views < term_index views nullified) ↔ (before < term_index views nullified * views) = div-lt_iff_lt-mul some in
    let place = term_index-suc views before in (
      λ h. let low : before < term_index views nullified * views = omega arith in omega (arith, within.1 low),
      λ h. let low : before / views < term_index views nullified = omega arith in omega (arith, within.0 low),
    )

-- what is not before the start of a term is in that term or a later one
pub term_start-le : (views view other : ℕ) → 0 < views → (term_start views view ≤ other) ↔ (term_index views view ≤ term_index views other)
term_start-le views zero other some = (λ _. omega arith, λ _. omega arith)
term_start-le views (suc before) zero some =
    let place = term_index-suc views before in
    let first = term_start-suc views before in
    (λ h. omega arith, λ h. omega arith)
term_start-le views (suc before) (suc other) some =
    let within : (before / views ≤ other / views) ↔ (before / views * views ≤ other) = le-div_iff_mul-le some in
    let first = term_start-suc views before in
    let place = term_index-suc views before in
    let other_place = term_index-suc views other in (
      λ h. let low : before / views * views ≤ other = omega arith in omega (arith, within.1 low),
      λ h. let low : before / views ≤ other / views = omega arith in omega (arith, within.0 low),
    )

-- the views whose nullification covers a view are those of its covering range
pub InCoveringRange-Covers : (views nullified view : ℕ) → 0 < views → InCoveringRange views view nullified ↔ Covers views nullified view
InCoveringRange-Covers views nullified view some = (
  λ h. (h.1, (term_end-le views nullified view some).1 ((term_start-le views view nullified some).0 h.0)),
  λ h. ((term_start-le views view nullified some).1 ((term_end-le views nullified view some).0 h.1), h.0),
)
