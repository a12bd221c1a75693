use Rattle.std.proofs.Common.{◌<◌, arith}
use Rattle.std.proofs.lemmas.Grind.{common_steps}
use Rattle.types_core.proofs.Terms.{InCoveringRange-Covers}
use Rattle.types_core.proofs.position.View.covers.Goals as goal

pub returns-clause-covered : goal.returns-clause-covered
returns-clause-covered c =
    let some : 0 < c.args.length = omega arith in
    let law = InCoveringRange-Covers c.args.length c.args.self c.args.view some in
    grind (arith, common_steps, law)
