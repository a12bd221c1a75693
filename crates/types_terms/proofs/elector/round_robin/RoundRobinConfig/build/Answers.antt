use Rattle.std.proofs.Common.{◌<◌, length, arith}
use Rattle.types_terms.specs.RotationLaws.{length-IsOrder, IsOrder-from_IsOrderOf}
use Rattle.types_terms.proofs.elector.round_robin.RoundRobinConfig.build.Goals as goal

pub invariant_of-result : goal.invariant_of-result
invariant_of-result g c =
    let n = c.args.participants in
    let order = c.in_ok-order.field-0.items in
    let long = length-IsOrder n order (IsOrder-from_IsOrderOf c.args.self.now.seed n order c.in_ok-order.ensures) in
    let some : 0 < length order = omega (arith, long, c.requires) in
    some
