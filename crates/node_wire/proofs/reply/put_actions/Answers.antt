use Rattle.std.proofs.Common.{arith, take}
use Rattle.std.specs.List.{flat_map}
use Rattle.node_wire.specs.Reply.{fitting_action, spelled_action}
use Rattle.node_wire.proofs.Written.{each_next, front_kept, written_all, written_next}
use Rattle.node_wire.proofs.reply.put_actions.Goals as goal

pub returns-in_err-write_action-clause-err : goal.returns-in_err-write_action-clause-err
returns-in_err-write_action-clause-err g c =
    let spelled = spelled_action g.S.PublicKey.Write.spelling g.D.Write.spelling g.S.Signature.Write.spelling g.S.Certificate.Write.spelling in
    front_kept c.from_residual.result _ c.args.out.now.items (flat_map spelled (take c.loop-action.action-index c.args.actions.now)) c.loop-action.out.items c.write_action.new.out.items c.args.out.now.ok.0 c.in_err-write_action.ensures.err c.loop-action.invariant.0

pub loop-action-preserved : goal.loop-action-preserved
loop-action-preserved g c =
    let spelled = spelled_action g.S.PublicKey.Write.spelling g.D.Write.spelling g.S.Signature.Write.spelling g.S.Certificate.Write.spelling in
    let fitting = fitting_action g.D.PartialEq.eq g.S.PublicKey.Write.fits g.D.Write.fits g.S.Signature.Write.fits g.S.Certificate.Write.fits in
    let actions = c.args.actions.now in
    let i = c.loop-action.action-index in
    let action = c.action-item.result in (
      written_next spelled actions i action c.args.out.now.items c.loop-action.out.items c.write_action.new.out.items c.loop-action-test.true c.action-item.is c.loop-action.invariant.0 c.in_ok-write_action.ensures.ok,
      each_next fitting actions i action c.loop-action-test.true c.action-item.is c.loop-action.invariant.1 c.in_ok-write_action.ensures.readable,
    )

pub returns-clause-ok : goal.returns-clause-ok
returns-clause-ok g c =
    let spelled = spelled_action g.S.PublicKey.Write.spelling g.D.Write.spelling g.S.Signature.Write.spelling g.S.Certificate.Write.spelling in
    written_all spelled c.args.actions.now c.loop-action.action-index c.args.out.now.items c.loop-action.out.items (omega (arith, c.loop-action-test.false)) c.loop-action.invariant.0
