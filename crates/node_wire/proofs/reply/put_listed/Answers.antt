use Rattle.std.proofs.Common.{rules, ◌≤◌, All, length}
use Rattle.types_codec.specs.Varint.{varint, max_u64}
use Rattle.node_wire.specs.Reply.{fitting_action}
use Rattle.node_wire.proofs.Written.{beside, front_stays}
use Rattle.node_wire.proofs.reply.put_listed.Goals as goal

pub returns-clause-readable : goal.returns-clause-readable
returns-clause-readable g c =
    let few : length c.args.actions.now ≤ max_u64 = search rules in
    let fitting = fitting_action g.D.PartialEq.eq g.S.PublicKey.Write.fits g.D.Write.fits g.S.Signature.Write.fits g.S.Certificate.Write.fits in
    beside c.put_actions.result (All fitting c.args.actions.now) (length c.args.actions.now ≤ max_u64) c.put_actions.ensures.readable few

pub returns-clause-err : goal.returns-clause-err
returns-clause-err g c =
    front_stays c.put_actions.result _ _ c.args.out.now.items c.put_varint.new.out.items (varint (length c.args.actions.now)) c.put_actions.new.out.items c.args.out.now.ok.0 c.in_ok-put_varint.ensures.ok c.put_actions.ensures.err
