use Rattle.std.proofs.Common.{refl}
use Rattle.std.proofs.lemmas.Result.{IfErr-weaker}
use Rattle.simplex_c.proofs.Unfit.{nothing_of_seed, unfit_by}
use Rattle.simplex_c.proofs.settings.settings_of.Goals as goal

pub returns-in_default-truth_of-clause-unfit : goal.returns-in_default-truth_of-clause-unfit
returns-in_default-truth_of-clause-unfit c = nothing_of_seed c.args.numbers.now c.args.base.now c.args.seed.now (c.in_default-truth_of.ensures.none refl)

pub returns-clause-unfit : goal.returns-clause-unfit
returns-clause-unfit c = IfErr-weaker _ _ _ (λ why fault. unfit_by c.args.numbers.now c.args.base.now c.args.seed.now _ (record { size = c.if-numbers-ne-SIZE.false; version = c.if-numbers-ne-VERSION.false })
    (record { committee = c.in-Ok.ensures; member = refl; conduct = c.in-Some.ensures.some }) fault.0 fault.2 why fault.1) c.checked.ensures.fault
