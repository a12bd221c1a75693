use Rattle.std.proofs.Common.{◌≡◌, ◌<◌, true, false, ◌∙◌, ⊎_elim, sym, arith}
use Rattle.std.specs.Prelude.{nat_lt}
use Rattle.std.specs.declared.cmp.Ordering.TheVariants.{Less}
use Rattle.std.proofs.lemmas.Bool.{cases_lt}
use Rattle.std.proofs.lemmas.Bool.Decides.{nat_tests}
use Rattle.std.proofs.lemmas.Cmp.{ranked}
use Rattle.voter_views.proofs.Pruning.{apart_from_lt, less_from_lt}
use Rattle.voter_views.proofs.views.pruning.drop_before.Goals as goal

pub loop-view-preserved-in-Some : goal.loop-view-preserved-in-Some
loop-view-preserved-in-Some g c = λ view from.
    let inside = rw c.in-Some.ensures.steps at (c.range.ensures.in_range tt).1 in
    let below : c.in-Some.field-0-0.now < c.args.first = ranked _ _ Less (sym inside.0.1) in
    c.remove.ensures.updates.2 view (apart_from_lt _ view (omega (arith, below, from))) ∙ c.loop-view.invariant view from

pub returns : goal.returns
returns g c = λ view. ⊎_elim
    (λ below. let lt : nat_lt view c.args.first ≡ true = grind (arith, nat_tests, below) in rw lt ((c.range.ensures.in_range tt).5 c.in_default.ensures.steps.0 view (tt, less_from_lt view c.args.first below)))
    (λ from. let ge : nat_lt view c.args.first ≡ false = grind (arith, nat_tests, from) in rw ge (c.loop-view.invariant view from))
    (cases_lt view c.args.first)
