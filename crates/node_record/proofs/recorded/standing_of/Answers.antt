use Rattle.std.proofs.Common.{List, subst}
use Rattle.std.proofs.lemmas.List.{nil_from_length}
use Rattle.node_record.proofs.Built.{IsBuilt, built-all, built-first, built-next}
use Rattle.node_record.proofs.recorded.standing_of.Goals as goal

pub loop-artifact-init : goal.loop-artifact-init
loop-artifact-init g c = built-first c.args.length c.args.artifacts.now c.new-standing.result (c.new-standing.ensures c.args.length)

pub loop-artifact-preserved : goal.loop-artifact-preserved
loop-artifact-preserved g c =
    let here = subst (λ (l : List _). IsBuilt c.args.length c.args.artifacts.now l c.loop-artifact.standing) c.in-Some.ensures.cases.0 c.loop-artifact.invariant in
    built-next c.args.length c.args.artifacts.now c.in-Some.artifact.now c.in-Some.behind.now c.loop-artifact.standing c.add.new.self here c.in_ok-add.ensures.keeps

pub returns : goal.returns
returns g c = built-all c.args.length c.args.artifacts.now c.loop-artifact.standing
    (subst (λ (l : List _). IsBuilt c.args.length c.args.artifacts.now l c.loop-artifact.standing) (nil_from_length _ c.in_default.ensures.cases) c.loop-artifact.invariant)
