-- Which views a term spans.
use Rattle.std.proofs.Common.{ℕ, zero, suc, ◌≡◌, ◌≤◌, ◌<◌, ◌+◌, ◌*◌, ◌/◌, ◌↔◌, ⊎_elim, ap, arith}
use Rattle.std.proofs.Math.Nat.{div-lt_iff_lt-mul, le-div_iff_mul-le}
use Rattle.std.proofs.lemmas.Grind.{common_steps}
use Rattle.std.proofs.lemmas.Bool.{cases_lt}
use Rattle.types_core.specs.Positions.{term_start, term_end}

-- a view up to the end of a term is of that term or of an earlier one
pub term_end-le : (views u v : ℕ) → 0 < views → (suc v ≤ term_end views (suc u)) ↔ (v / views ≤ u / views)
term_end-le views u v some =
    let within : (v / views < u / views + 1) ↔ (v < (u / views + 1) * views) = div-lt_iff_lt-mul some in
    let last : term_end views (suc u) ≡ (u / views + 1) * views = grind (arith, common_steps) in (
      λ h. omega (arith, within.1 (omega arith)),
      λ h. omega (arith, within.0 (omega arith)),
    )

-- a view from the start of a term on is of that term or of a later one
pub term_start-le : (views u v : ℕ) → 0 < views → (term_start views (suc v) ≤ suc u) ↔ (v / views ≤ u / views)
term_start-le views u v some =
    let within : (v / views ≤ u / views) ↔ (v / views * views ≤ u) = le-div_iff_mul-le some in
    let first : term_start views (suc v) ≡ v / views * views + 1 = grind (arith, common_steps) in (
      λ h. within.1 (omega arith),
      λ h. omega (arith, within.0 h),
    )

-- a view lies in its term
pub term_end-above : (views view : ℕ) → 0 < views → view ≤ term_end views view
term_end-above views zero some = omega arith
term_end-above views (suc v) some = (term_end-le views v v some).1 (omega arith)

-- the views before the term that begins or goes on behind a view are those whose terms end up to it
pub ends-before : (views last view : ℕ) → 0 < views → (view < term_start views (last + 1)) ↔ (term_end views view ≤ last)
ends-before views last zero some = (λ _. let none : term_end views zero ≡ 0 = grind (arith, common_steps) in omega (arith, none), λ _. let first : term_start views (last + 1) ≡ last / views * views + 1 = grind (arith, common_steps) in omega (arith, first))
ends-before views last (suc u) some =
    let start = term_start-le views u last some in
    let end = term_end-le views u last some in
    let next : last + 1 ≡ suc last = omega arith in
    let same : term_start views (last + 1) ≡ term_start views (suc last) = ap (λ n. term_start views n) next in (
      λ before. ⊎_elim (λ lt. let begins = start.1 (end.0 (omega (arith, lt))) in absurd (omega (arith, begins, before, same))) (λ le. le) (cases_lt last (term_end views (suc u))),
      λ ends. ⊎_elim (λ lt. lt) (λ le. let later = end.1 (start.0 (omega (arith, le, same))) in absurd (omega (arith, later, ends))) (cases_lt (suc u) (term_start views (last + 1))),
    )
