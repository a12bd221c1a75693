use Rattle.std.proofs.Common.{◌≡◌, ◌≤◌, ◌<◌, ◌^◌, ◌-◌, ◌+◌, length}
use Rattle.types_codec.specs.Varint.{varint}
use Rattle.types_codec.proofs.varint.varint_size.Given as goal

abbrev pub invariant-loop-rest : goal.invariant-loop-rest
invariant-loop-rest l = record {
  size_so_far : l.size + length (varint l.rest) ≡ length (varint l.number) + 1;
  small : l.size ≤ 10;
  room : l.rest < 128 ^ (11 - l.size);
}

abbrev pub decreases-loop-rest : goal.decreases-loop-rest
decreases-loop-rest l = l.rest
