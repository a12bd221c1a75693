use Rattle.std.proofs.Common.{arith, ◌≤◌, ap, length}
use Rattle.types_codec.specs.Varint.{varint-step, varint-last, fewer_groups}
use Rattle.types_codec.proofs.varint.varint_size.Goals as goal

pub loop-rest-preserved : goal.loop-rest-preserved
loop-rest-preserved c =
    let many : 128 ≤ c.loop-rest.rest = omega arith in
    let fewer = fewer_groups c.loop-rest.size c.loop-rest.rest c.loop-rest.invariant.small many c.loop-rest.invariant.room in
    record { size_so_far = omega (arith, ap length (varint-step c.loop-rest.rest many)); small = omega (arith, fewer.0); room = fewer.1 }

pub returns-clause-size : goal.returns-clause-size
returns-clause-size c = omega (arith, ap length (varint-last c.loop-rest.rest (omega arith)))
