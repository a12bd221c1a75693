use Rattle.std.proofs.Common.{arith}
use Rattle.types_core.specs.Subject.{notarize}
use Rattle.simplex_record.proofs.AddingKept.{KeepsCertificates-notarize, KeepsViews-taken}
use Rattle.simplex_record.proofs.standing.Standing.add_notarization.Goals as goal

pub returns-clause-keeps : goal.returns-clause-keeps
returns-clause-keeps g c = λ views before keeps may.
    let standing = c.args.self.now in
    let p = c.args.proposal.now in
    let kept = KeepsCertificates-notarize views standing.certificates before keeps.certificates p may c.insert.new.self c.in_ok-insert.ensures.updates in
    KeepsViews-taken views standing before keeps (notarize p) _ _ _ kept (omega arith) (omega arith)
