use Rattle.std.proofs.Common.{◌≡◌, ◌++◌, take, vec_len}
use Rattle.types_codec.specs.Varint.{varint}
use Rattle.types_codec.proofs.varint.put_varint.Given as goal

abbrev pub invariant-loop-rest : goal.invariant-loop-rest
invariant-loop-rest l = (l.out.items ++ varint l.rest ≡ l.fn.out.items ++ varint l.fn.number) × (take (vec_len l.fn.out) l.out.items ≡ l.fn.out.items)

abbrev pub decreases-loop-rest : goal.decreases-loop-rest
decreases-loop-rest l = l.rest
