use Rattle.std.proofs.Common.{arith, ◌≤◌, append_assoc}
use Rattle.types_codec.specs.Varint.{varint-step}
use Rattle.simplex_types.proofs.hashing.+hash_number.Goals as goal

pub returns-else-number-lt128 : goal.returns-else-number-lt128
returns-else-number-lt128 t c = λ m holds.
    let many : 128 ≤ c.args.number = omega arith in
    let further = c.hash_number.ensures _ (c.update-else-number-lt128.ensures m holds) in
    rw (varint-step c.args.number many) (rw append_assoc at further)
