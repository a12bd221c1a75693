use Rattle.std.proofs.Common.{arith, take_all}
use Rattle.types_core.specs.declared.attestation.Attestation.{Attestation}
use Rattle.batcher_assembly.specs.Judging.{is_among}
use Rattle.batcher_assembly.proofs.Keeping.{kept-more, left-more}
use Rattle.batcher_assembly.proofs.judging.backers.Goals as goal
use Rattle.batcher_assembly.proofs.judging.backers.Goals.{then-not-is_listed+in_ok-push, else-not-is_listed}

pub loop-attestation-preserved : goal.loop-attestation-preserved
loop-attestation-preserved g c = λ ascending.
    let listed = λ (a : Attestation g.row.G.Denot). is_among c.args.invalid.now a.signer in
    let before = c.loop-attestation.invariant ascending in
    let is = c.is_listed.ensures ascending in
    elim c.if-not-is_listed.branch [
      | then-not-is_listed+in_ok-push w ↦ rw (w.backers-is, w.in_ok-push.ensures.items)
          (kept-more listed c.args.waiting.now c.loop-attestation.attestation-index c.attestation-item.result c.args.verified.now c.loop-attestation.backers.items c.is_listed.result c.loop-attestation-test.true c.attestation-item.is before is w.if-not-is_listed.true)
      | else-not-is_listed w ↦ rw w.backers-is
          (left-more listed c.args.waiting.now c.loop-attestation.attestation-index c.attestation-item.result c.args.verified.now c.loop-attestation.backers.items c.is_listed.result c.loop-attestation-test.true c.attestation-item.is before is w.if-not-is_listed.false)
    ]

pub returns : goal.returns
returns g c = λ ascending. rw (← take_all c.loop-attestation.attestation-index c.args.waiting.now (omega arith)) (c.loop-attestation.invariant ascending)
