use Rattle.std.proofs.Common.{ℕ}
use Rattle.simplex_member.specs.Packet.{Formats, formats}
use Rattle.simplex_network.proofs.sentences.headline.Goals as goal

pub returns : goal.returns
returns g c =
    let spoken : ℕ → Formats _ _ _ _ _ = formats g.D.PartialEq.eq g.D.Write.spelling g.S.Signature.Write.spelling g.S.Certificate.Write.spelling g.D.Read.reading g.S.Signature.Read.reading g.S.Certificate.Read.reading in
    record {
      one_proposal_a_view = λ n. c.agreement.ensures.one_proposal_a_view (spoken n) (c.packets_are_read_back.ensures.exact n);
      no_finalized_view_nullified = λ n. c.agreement.ensures.no_finalized_view_nullified (spoken n) (c.packets_are_read_back.ensures.exact n);
      no_finalized_view_skipped = λ n. c.agreement.ensures.no_finalized_view_skipped (spoken n) (c.packets_are_read_back.ensures.exact n);
      one_chain = λ n. c.agreement.ensures.one_chain (spoken n) (c.packets_are_read_back.ensures.exact n);
      every_vote_sent_was_due = λ n. c.sent_votes_were_due.ensures (spoken n);
      none_due_stays_unsent = λ n. c.none_stays_unsent.ensures (spoken n);
      none_blocked = λ n small. c.accountability.ensures.none_blocked (spoken n) (c.packets_are_read_back.ensures.exact n) (c.packets_are_read_back.ensures.read_back n small);
      enough_named = λ n. c.accountability.ensures.reported_enough (spoken n) (c.packets_are_read_back.ensures.exact n);
      in_grammar = c.accountability.ensures.in_grammar;
      read_to_the_end = c.accountability.ensures.read_to_the_end;
    }
