use Rattle.std.proofs.Common.{arith}
use Rattle.cli_attestations.proofs.marking.push_nullification.Goals as goal

pub push_listed-requires : goal.push_listed-requires
push_listed-requires c = omega (arith, c.attestations-listed.type_inv)
