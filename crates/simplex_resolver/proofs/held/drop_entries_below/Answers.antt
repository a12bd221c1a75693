use Rattle.std.proofs.Common.{◌<◌, ◌∙◌, inl, inr, sym, arith}
use Rattle.std.specs.declared.cmp.Ordering.TheVariants.{Less}
use Rattle.std.proofs.lemmas.Bool.{cases_lt}
use Rattle.std.proofs.lemmas.Cmp.{ranked}
use Rattle.simplex_resolver.proofs.Choices.{apart_from_lt, less_from_lt, nat_lt-yes, nat_lt-no}
use Rattle.simplex_resolver.proofs.held.drop_entries_below.Goals as goal

pub loop-view-preserved-in-Some : goal.loop-view-preserved-in-Some
loop-view-preserved-in-Some c = λ view from.
    let inside = rw c.in-Some.ensures.steps at (c.range.ensures.in_range tt).1 in
    let below : c.in-Some.field-0-0.now < c.args.first = ranked _ _ Less (sym inside.0.1) in
    c.remove.ensures.updates.2 view (apart_from_lt _ view (omega (arith, below, from))) ∙ c.loop-view.invariant view from

pub returns : goal.returns
returns c = λ view. elim (cases_lt view c.args.first) [
  | inl below ↦ rw (nat_lt-yes view c.args.first below) ((c.range.ensures.in_range tt).5 c.in_default.ensures.steps.0 view (tt, less_from_lt view c.args.first below))
  | inr from ↦ rw (nat_lt-no view c.args.first from) (c.loop-view.invariant view from)
]
