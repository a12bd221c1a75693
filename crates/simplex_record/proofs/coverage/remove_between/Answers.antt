use Rattle.std.proofs.Common.{⊎_elim, arith}
use Rattle.simplex_record.proofs.CoverageMaps.{begins_between, left_from_removed, none_between, removed_from_left}
use Rattle.simplex_record.proofs.coverage.remove_between.Goals as goal

pub loop-first-preserved : goal.loop-first-preserved
loop-first-preserved c =
    let map = c.loop-first.last_by_first in
    let ordered = c.range.ensures.ordered in
    let inside = begins_between map ordered c.args.start c.args.end _ (c.range.ensures.in_range tt) (c.in-Some.field-0-0.now, c.in-Some.field-0-1.now) _ c.in-Some.ensures.steps in
    record {
      from = λ span there. c.loop-first.invariant.from span (left_from_removed map c.remove.new.self ordered c.remove.ensures.ordered _ c.remove.ensures.updates span there).0;
      keeps = λ span there outside. removed_from_left map c.remove.new.self ordered c.remove.ensures.ordered _ c.remove.ensures.updates span (c.loop-first.invariant.keeps span there outside) (λ first. ⊎_elim (λ before. omega (arith, inside)) (λ behind. omega (arith, inside)) outside);
    }

pub returns : goal.returns
returns c = λ span. (
  λ there. (c.loop-first.invariant.from span there, none_between c.loop-first.last_by_first c.range.ensures.ordered c.args.start c.args.end _ (c.range.ensures.in_range tt) c.in_default.ensures.steps.0 span there),
  λ both. c.loop-first.invariant.keeps span both.0 both.1,
)
