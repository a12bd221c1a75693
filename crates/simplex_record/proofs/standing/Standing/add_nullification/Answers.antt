use Rattle.std.proofs.Common.{arith}
use Rattle.types_core.specs.Subject.{nullify}
use Rattle.simplex_record.proofs.AddingKept.{KeepsCertificates-nullify, KeepsViews-taken, greater}
use Rattle.simplex_record.proofs.standing.Standing.add_nullification.Goals as goal

pub returns-clause-keeps : goal.returns-clause-keeps
returns-clause-keeps g c = λ before keeps may.
    let standing = c.args.self.now in
    let views = c.args.length in
    let r = c.args.round in
    let covers = rw c.term_end-end.ensures at c.in_ok-cover.ensures.ok in
    let kept = KeepsCertificates-nullify views standing.certificates before keeps.certificates r (omega arith) may c.insert.new.self c.cover.new.self c.in_ok-insert.ensures.updates covers in
    let current = greater standing.current_view c.next.result _ c.max-self.ensures in
    KeepsViews-taken views standing before keeps (nullify r) _ _ _ kept (omega arith) (omega (arith, current))
