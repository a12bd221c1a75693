use Rattle.std.proofs.Common.{arith, ◌≤◌}
use Rattle.types_codec.specs.Codec.{bounded-IsCodec}
use Rattle.simplex_types.specs.ListCodec.{ascending-read}
use Rattle.simplex_types.proofs.attestation_list.AttestationListRead.read_cfg.Goals as goal

pub invariant_of-result : goal.invariant_of-result
invariant_of-result g c =
    let codec = bounded-IsCodec (g.met.G.Read.one_spelling c.args.bound c.ranges.bound.fits) (g.met.G.Signature.unbounded c.args.bound) in
    let read = ascending-read codec c.args.bound _ 0 _ c.in_ok-attestations.attestations.items _ c.in_ok-attestations.ensures in
    let few : c.in_ok-count.count ≤ c.args.bound = omega (arith, c.if-from-count.false, c.from.ensures) in
    (read.0, omega (arith, read.1, few, c.ranges.bound.fits))
