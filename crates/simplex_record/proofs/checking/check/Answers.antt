use Rattle.std.proofs.Common.{List, length, sym, ◌∙◌, subst, ap, arith}
use Rattle.std.proofs.lemmas.List.{nil_from_length}
use Rattle.simplex_record.specs.Record.{entries}
use Rattle.simplex_record.proofs.Checks.{IsChecked, checked_first, checked_next, checked_all, kept_all, refused_here}
use Rattle.simplex_record.proofs.Ruling.{true-false}
use Rattle.simplex_record.proofs.checking.check.Goals as goal

pub loop-artifact-init : goal.loop-artifact-init
loop-artifact-init g c = checked_first c.args.artifacts.now c.new-standing.result (c.new-standing.ensures c.args.owner.term_length)

pub returns-then-not-allows-clause-refused : goal.returns-then-not-allows-clause-refused
returns-then-not-allows-clause-refused g c =
    let here = subst (λ (l : List _). IsChecked (g.S.Scheme.attests c.args.scheme.now) (g.S.Scheme.certifies c.args.scheme.now) c.args.owner c.args.artifacts.now l c.loop-artifact.standing) c.in-Some.ensures.cases.0 c.loop-artifact.invariant in
    refused_here c.args.artifacts.now c.in-Some.artifact.now c.in-Some.behind.now c.loop-artifact.standing here _ (omega (arith, ap length c.in-Some.ensures.cases.0))
    (λ fits. true-false (sym ((c.allows.ensures.lawful (entries here.before) here.keeps).1 fits.follows) ∙ c.if-not-allows.true))

pub returns-then-not-verifies-clause-refused : goal.returns-then-not-verifies-clause-refused
returns-then-not-verifies-clause-refused g c =
    let here = subst (λ (l : List _). IsChecked (g.S.Scheme.attests c.args.scheme.now) (g.S.Scheme.certifies c.args.scheme.now) c.args.owner c.args.artifacts.now l c.loop-artifact.standing) c.in-Some.ensures.cases.0 c.loop-artifact.invariant in
    refused_here c.args.artifacts.now c.in-Some.artifact.now c.in-Some.behind.now c.loop-artifact.standing here _ (omega (arith, ap length c.in-Some.ensures.cases.0))
    (λ fits. true-false (sym (c.verifies.ensures.1 fits.verifies) ∙ c.if-not-verifies.true))

pub loop-artifact-preserved : goal.loop-artifact-preserved
loop-artifact-preserved g c =
    let here = subst (λ (l : List _). IsChecked (g.S.Scheme.attests c.args.scheme.now) (g.S.Scheme.certifies c.args.scheme.now) c.args.owner c.args.artifacts.now l c.loop-artifact.standing) c.in-Some.ensures.cases.0 c.loop-artifact.invariant in
    let follows = (c.allows.ensures.lawful (entries here.before) here.keeps).0 c.if-not-allows.false in
    checked_next c.args.artifacts.now c.in-Some.artifact.now c.in-Some.behind.now c.loop-artifact.standing c.add.new.self here
    (record { verifies = c.verifies.ensures.0 c.if-not-verifies.false; follows = follows })
    (c.in_ok-add.ensures.keeps (entries here.before) here.keeps follows)

pub returns-clause-lawful : goal.returns-clause-lawful
returns-clause-lawful g c = checked_all c.args.artifacts.now c.loop-artifact.standing
    (subst (λ (l : List _). IsChecked (g.S.Scheme.attests c.args.scheme.now) (g.S.Scheme.certifies c.args.scheme.now) c.args.owner c.args.artifacts.now l c.loop-artifact.standing) (nil_from_length _ c.in_default.ensures.cases) c.loop-artifact.invariant)

pub returns-clause-keeps : goal.returns-clause-keeps
returns-clause-keeps g c = kept_all c.args.artifacts.now c.loop-artifact.standing
    (subst (λ (l : List _). IsChecked (g.S.Scheme.attests c.args.scheme.now) (g.S.Scheme.certifies c.args.scheme.now) c.args.owner c.args.artifacts.now l c.loop-artifact.standing) (nil_from_length _ c.in_default.ensures.cases) c.loop-artifact.invariant)
