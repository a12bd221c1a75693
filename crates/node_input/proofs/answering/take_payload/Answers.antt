use Rattle.std.proofs.Common.{Some, refl}
use Rattle.std.proofs.lemmas.Result.{on_ok_weaker}
use Rattle.simplex_member.specs.Deeds.{Relays, own_way}
use Rattle.simplex_member.specs.Layers.{finalized_of, voter_of}
use Rattle.simplex_member.specs.Packet.{formats}
use Rattle.simplex_member.specs.Point.{Built}
use Rattle.node_input.proofs.Behind.{behind_payload}
use Rattle.node_input.proofs.Latching.{declined_deeds, proposed_deeds}
use Rattle.node_input.proofs.answering.take_payload.Goals as goal

pub returns-then-not-took-clause-taken : goal.returns-then-not-took-clause-taken
returns-then-not-took-clause-taken g c = λ s h k stands.
    let f = formats g.D.PartialEq.eq g.D.Write.spelling g.S.Signature.Write.spelling g.S.Certificate.Write.spelling g.D.Read.reading g.S.Signature.Read.reading g.S.Certificate.Read.reading (g.S.Scheme.size s.voter.scheme) in
    let low = finalized_of s h in
    let b = c.args.building in
    record {
      point = Built c.args.number b.handoff b.context (Some c.args.payload) c.in-Ok.took;
      is = (refl, refl);
      taken = record {
        keeps = behind_payload g.S.Scheme g.L.Elector g.K.Disk f s c.args.core.now c.proposed.new.self c.end_build.new.self h c.args.number b.handoff b.context c.args.payload c.in-Ok.took c.moment-now.result
            c.silent_points_leave_votes.ensures.quiet k stands (c.moment-now.ensures low h k.tables) (c.in-Ok.ensures.keeps s.voter (voter_of s h) k.voter) (c.in-Ok.ensures.answer s.voter (voter_of s h) k.voter)
            (c.end_build.ensures.built low h k.tables b.handoff b.context (Some c.args.payload) c.in-Ok.took);
        acts = declined_deeds f _ b.context.round b.handoff c.args.payload c.in-Ok.took c.if-not-took.true;
      };
    }

pub returns-clause-taken : goal.returns-clause-taken
returns-clause-taken g c = on_ok_weaker c.hand_out.result (λ done. λ s h k stands.
    let f = formats g.D.PartialEq.eq g.D.Write.spelling g.S.Signature.Write.spelling g.S.Certificate.Write.spelling g.D.Read.reading g.S.Signature.Read.reading g.S.Certificate.Read.reading (g.S.Scheme.size s.voter.scheme) in
    let low = finalized_of s h in
    let b = c.args.building in
    record {
      point = Built c.args.number b.handoff b.context (Some c.args.payload) c.in-Ok.took;
      is = (refl, refl);
      taken = record {
        keeps = behind_payload g.S.Scheme g.L.Elector g.K.Disk f s c.args.core.now c.proposed.new.self c.end_build.new.self h c.args.number b.handoff b.context c.args.payload c.in-Ok.took c.moment-now.result
            c.silent_points_leave_votes.ensures.quiet k stands (c.moment-now.ensures low h k.tables) (c.in-Ok.ensures.keeps s.voter (voter_of s h) k.voter) (c.in-Ok.ensures.answer s.voter (voter_of s h) k.voter)
            (c.end_build.ensures.built low h k.tables b.handoff b.context (Some c.args.payload) c.in-Ok.took);
        acts = proposed_deeds f _ _ b.context.round b.handoff c.args.payload c.in-Ok.took c.if-not-took.false (done f (Relays c.args.payload (own_way b.handoff b.context.round)) (refl, c.own_plan-plan.ensures));
      };
    }) c.hand_out.ensures.done
