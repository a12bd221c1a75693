use Rattle.std.proofs.Common.{None, refl}
use Rattle.voter_history.specs.declared.timeout_reason.TimeoutReason.TheVariants as reason
use Rattle.simplex_member.specs.Layers.{finalized_of, voter_of}
use Rattle.simplex_member.specs.Packet.{formats}
use Rattle.simplex_member.specs.Point.{Built}
use Rattle.node_input.proofs.Behind.{behind_none}
use Rattle.node_outbox.specs.Handing.{nothing_more}
use Rattle.node_input.proofs.Latching.{latched_or_not}
use Rattle.node_input.proofs.answering.take_no_payload.Goals as goal

pub returns-clause-taken : goal.returns-clause-taken
returns-clause-taken g c = λ s h k stands actions.
    let f = formats g.D.PartialEq.eq g.D.Write.spelling g.S.Signature.Write.spelling g.S.Certificate.Write.spelling g.D.Read.reading g.S.Signature.Read.reading g.S.Certificate.Read.reading (g.S.Scheme.size s.voter.scheme) in
    let low = finalized_of s h in
    let v = voter_of s h in
    let b = c.args.building in
    let first = c.in-Ok.field-0 in
    let came = latched_or_not s.voter v b.context.round.view g.S.Scheme g.L.Elector c.trigger_timeout.new.self c.moment-now.result reason.MissingProposal first (λ is. cc is)
    (c.in-Ok.ensures.keeps s.voter v k.voter) (λ none. c.in-Ok.ensures.unchanged none s.voter v k.voter) (λ is. (c.in-Ok.ensures.answer s.voter v k.voter).0 is) in
    let behind = behind_none g.S.Scheme g.L.Elector g.K.Disk f s c.args.core.now c.trigger_timeout.new.self c.end_build.new.self h c.args.number b.handoff b.context c.moment-now.result
    c.silent_points_leave_votes.ensures.quiet k stands (c.moment-now.ensures low h k.tables) came (λ took. c.end_build.ensures.built low h k.tables b.handoff b.context None took) in
    record {
      point = Built c.args.number b.handoff b.context None behind.0;
      is = (refl, refl);
      taken = record { keeps = behind.1; acts = nothing_more f actions };
    }
