use Rattle.std.proofs.Common.{arith}
use Rattle.std.proofs.lemmas.List.Sorted.{length_permutation}
use Rattle.simplex_types.proofs.attestation_list.AttestationList.assemble.Goals as goal

pub returns-clause-quorum : goal.returns-clause-quorum
returns-clause-quorum g c =
    let long = length_permutation c.args.attestations.now c.in_ok-new.field-0 c.in_ok-new.ensures.same in
    omega (arith, c.quorum-needed.ensures, long, c.if-count-needed.false)
