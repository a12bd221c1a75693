use Rattle.simplex_record.specs.Lawful.{rewritten}
use Rattle.simplex_record.proofs.Leaving.{left-next}
use Rattle.simplex_record.proofs.rewriting.rewritten.Goals as goal

pub loop-artifact-preserved : goal.loop-artifact-preserved
loop-artifact-preserved g c =
    left-next c.args.length c.args.floor.now c.loop-artifact.left.items c.keep_if.new.left.items c.loop-artifact.rest.now c.in-Some.behind.now (rewritten c.args.length c.args.floor.now c.args.artifacts.now) c.in-Some.artifact.now
    c.reaches_above-reaches.result c.view.result c.in-Some.ensures.cases.0 c.loop-artifact.invariant c.view.ensures c.reaches_above-reaches.ensures c.in_ok-keep_if.ensures
