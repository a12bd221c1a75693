-- Which views a nullification covers, as a span from its view to the end of its term.
use Rattle.std.proofs.Common.{ℕ, zero, suc, ◌≡◌, ◌<◌, ◌+◌, ◌*◌, ◌/◌, ◌↔◌, arith}
use Rattle.std.proofs.lemmas.Grind.{common_steps}
use Rattle.types_core.specs.Positions.{term_start, term_end, InCoveringRange}
use Rattle.types_terms.specs.Spans.{term_end-le, term_start-le}
use Rattle.simplex_record.specs.Coverage.{LiesIn}

-- the views that a nullification covers are those from its own to the end of its term
pub covers-span : (views view u : ℕ) → 0 < views → LiesIn (u, term_end views u) view ↔ InCoveringRange views view u
covers-span views zero zero some = (λ lies. (omega arith, omega arith), λ range. (omega arith, omega arith))
covers-span views zero (suc u) some = (λ lies. absurd (omega (arith, lies.0)), λ range. absurd (omega (arith, range.1)))
covers-span views (suc v) zero some = (λ lies. absurd (let none : term_end views zero ≡ 0 = grind (arith, common_steps) in omega (arith, lies.1, none)), λ range. absurd (let first : term_start views (suc v) ≡ v / views * views + 1 = grind (arith, common_steps) in omega (arith, range.0, first)))
covers-span views (suc v) (suc u) some =
    let start = term_start-le views u v some in
    let end = term_end-le views u v some in (
      λ lies. (start.1 (end.0 lies.1), lies.0),
      λ range. (range.1, end.1 (start.0 range.0)),
    )
