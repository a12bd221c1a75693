use Rattle.std.proofs.Common.{◌≡◌, ◌++◌, ℕ, refl, subst}
use Rattle.simplex_state.specs.State as voting
use Rattle.simplex_member.specs.Layers.{finalized_of, latest, takes_outcome, voter_of}
use Rattle.simplex_member.specs.Packet.{formats}
use Rattle.simplex_member.specs.Point.{Checked}
use Rattle.node_input.proofs.Behind.{behind_answer}
use Rattle.node_outbox.specs.Handing.{nothing_more}
use Rattle.node_input.proofs.answering.take_checked.Goals as goal

pub returns-clause-taken : goal.returns-clause-taken
returns-clause-taken g c = λ s h k stands actions.
    let f = formats g.D.PartialEq.eq g.D.Write.spelling g.S.Signature.Write.spelling g.S.Certificate.Write.spelling g.D.Read.reading g.S.Signature.Read.reading g.S.Certificate.Read.reading (g.S.Scheme.size s.voter.scheme) in
    let low = finalized_of s h in
    let t = c.in-Ok.ensures.told f s h k.voter in
    let at : c.moment-now.result ≡ latest h = c.moment-now.ensures low h k.tables in
    let voter = subst (λ (now : ℕ). voting.Keeps g.S.Scheme g.L.Elector s.voter c.tell_answer.new.voter (takes_outcome now c.args.view c.args.answer t.outcome ++ voter_of s h)) at t.keeps in
    record {
      point = Checked c.args.number c.args.view c.args.answer t.outcome;
      is = (refl, refl);
      taken = record {
        keeps = behind_answer g.S.Scheme g.L.Elector g.K.Disk f s c.args.core.now c.tell_answer.new.voter c.end_check.new.self h c.args.number c.args.view c.args.answer t.outcome
            c.silent_points_leave_votes.ensures.quiet k stands t.comes voter (c.end_check.ensures low h k.tables c.args.view c.args.answer t.outcome);
        acts = nothing_more f actions;
      };
    }
