use Rattle.std.proofs.Common.{arith}
use Rattle.types_codec.specs.Varint.{length-varint}
use Rattle.types_codec.proofs.varint.u32_size.Goals as goal

pub returns-clause-small : goal.returns-clause-small
returns-clause-small c = rw c.varint_size.ensures.size (rw c.from.ensures (length-varint 4 c.args.number (omega (arith, c.ranges.number))))
