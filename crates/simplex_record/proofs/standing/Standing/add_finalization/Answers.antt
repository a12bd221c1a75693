use Rattle.std.proofs.Common.{arith}
use Rattle.types_core.specs.Subject.{finalize}
use Rattle.simplex_record.proofs.AddingKept.{KeepsCertificates-finalize, KeepsViews-taken, greater}
use Rattle.simplex_record.proofs.standing.Standing.add_finalization.Goals as goal

pub returns-clause-keeps : goal.returns-clause-keeps
returns-clause-keeps g c = λ views before keeps may.
    let standing = c.args.self.now in
    let p = c.args.proposal.now in
    let kept = KeepsCertificates-finalize views standing.certificates before keeps.certificates p may c.insert.new.self c.in_ok-insert.ensures.updates in
    let last = greater standing.last_finalized p.round.view _ c.max-self.ensures in
    let current = greater standing.current_view c.next.result _ c.max-self-2.ensures in
    KeepsViews-taken views standing before keeps (finalize p) _ _ _ kept last (omega (arith, current))
