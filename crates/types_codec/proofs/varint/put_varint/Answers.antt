use Rattle.std.proofs.Common.{arith, append_assoc, ◌≤◌}
use Rattle.std.proofs.lemmas.Grind.{common_steps}
use Rattle.types_codec.specs.Varint.{varint-step}
use Rattle.types_codec.proofs.varint.put_varint.Goals as goal

pub loop-rest-preserved : goal.loop-rest-preserved
loop-rest-preserved c =
    let many : 128 ≤ c.loop-rest.rest = omega arith in (
      rw (c.in_ok-push.ensures.items, append_assoc, ← varint-step c.loop-rest.rest many) c.loop-rest.invariant.0,
      grind (arith, common_steps, c.loop-rest.invariant.1, c.in_ok-push.ensures.items),
    )
