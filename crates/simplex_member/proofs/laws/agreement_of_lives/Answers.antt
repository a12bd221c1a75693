use Rattle.simplex_member.proofs.Honest.{recorded-honest}
use Rattle.simplex_member.proofs.Living.{brought-sound, handed-sound, world-of-lives}
use Rattle.simplex_member.proofs.laws.agreement_of_lives.Goals as goal

pub returns : goal.returns
returns g c = record {
  agree = λ f scheme m world w most honest.
      let is = world-of-lives g.S.Scheme f c.lives_obey.ensures scheme m world w most honest in
      record {
        one_proposal_a_view = c.agreement.ensures.one_proposal_a_view scheme (λ i. (m.setup i).voter.scheme) world is;
        no_finalized_view_nullified = c.agreement.ensures.no_finalized_view_nullified scheme (λ i. (m.setup i).voter.scheme) world is;
        no_finalized_view_skipped = c.agreement.ensures.no_finalized_view_skipped scheme (λ i. (m.setup i).voter.scheme) world is;
      };
  handed = λ f scheme m world w i sender correct x came certifies. handed-sound g.S.Scheme f scheme m world (λ own. g.met.S.Listing.backed own) w i sender correct x came certifies;
  brought = λ f scheme m world w i correct x brought certifies. brought-sound g.S.Scheme f scheme m world (λ own. g.met.S.Listing.backed own) w i correct x brought certifies;
  made = λ f exact scheme m world w. recorded-honest g.S.Scheme f scheme m world (c.rounds_obey.ensures f exact) w;
  all_agree = λ f exact scheme m world w most.
      let is = world-of-lives g.S.Scheme f c.lives_obey.ensures scheme m world w most (recorded-honest g.S.Scheme f scheme m world (c.rounds_obey.ensures f exact) w) in
      record {
        one_proposal_a_view = c.agreement.ensures.one_proposal_a_view scheme (λ i. (m.setup i).voter.scheme) world is;
        no_finalized_view_nullified = c.agreement.ensures.no_finalized_view_nullified scheme (λ i. (m.setup i).voter.scheme) world is;
        no_finalized_view_skipped = c.agreement.ensures.no_finalized_view_skipped scheme (λ i. (m.setup i).voter.scheme) world is;
      };
}
