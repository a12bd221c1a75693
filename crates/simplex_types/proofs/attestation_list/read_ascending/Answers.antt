use Rattle.std.proofs.Common.{Vec, Global}
use Rattle.std.proofs.lemmas.Result.{err_from_is_err_and}
use Rattle.types_core.specs.declared.attestation.Attestation.{Attestation}
use Rattle.simplex_types.specs.AttestationList.{ascending_at}
use Rattle.simplex_types.proofs.Ascending.{goes_on, stops, is_done}
use Rattle.simplex_types.proofs.attestation_list.read_ascending.Goals as goal

pub returns-in_err-attestation : goal.returns-in_err-attestation
returns-in_err-attestation g c =
    let reading = g.G.Read.reading c.args.bound in
    let p = err_from_is_err_and c.from_residual.result c.from_residual.ensures.1 in
    rw (p.1, p.2) (stops reading c.args.bound c.loop.low {X = Vec (Attestation _) Global} (λ v. v.items) (ascending_at reading c.args.bound c.args.count 0) c.in_err-attestation.field-0.0 c.loop.attestations.items c.args.count c.loop.counter c.loop.rest.now c.read_next.new.input.now c.args.input.now.now c.loop-test.true c.in_err-attestation.ensures.exact c.loop.invariant)

pub loop-preserved : goal.loop-preserved
loop-preserved g c =
    let reading = g.G.Read.reading c.args.bound in
    rw (c.in_ok-push.ensures.items, c.get-low.ensures.value) (goes_on reading c.args.bound c.loop.low c.loop.attestations.items c.args.count c.loop.counter c.loop.rest.now c.in_ok-attestation.attestation c.read_next.new.input.now (ascending_at reading c.args.bound c.args.count 0 c.args.input.now.now) c.loop-test.true c.in_ok-attestation.ensures.exact c.loop.invariant)

pub returns : goal.returns
returns g c =
    let reading = g.G.Read.reading c.args.bound in
    is_done reading c.args.bound c.loop.low c.loop.attestations.items c.args.count c.loop.counter c.loop.rest.now (ascending_at reading c.args.bound c.args.count 0 c.args.input.now.now) c.loop-test.false c.loop.invariant
