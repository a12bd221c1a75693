use Rattle.simplex_member.proofs.Comparing.{laws-by}
use Rattle.simplex_member.proofs.laws.rounds_obey.Goals as goal

pub returns : goal.returns
returns g c = λ f exact. laws-by g.S.Scheme g.D.PartialEq.eq f.same (λ x y. g.met.D.Digest.equal_is_same x y) exact
    (record {
      verdicts = λ s h kind x failing sound known failing_are. c.verdicts_on_attestations_are_right.ensures s h kind x failing (c.lawful_histories_are_consistent.ensures s h sound) known failing_are;
      founded = λ s h kind batch sound is. c.batches_rest_on_accepted_votes.ensures.certificates s h kind batch (c.lawful_histories_are_consistent.ensures s h sound) is;
      failed = λ s h kind batch sound is. c.batches_rest_on_accepted_votes.ensures.invalid s h kind batch (c.lawful_histories_are_consistent.ensures s h sound) is;
      selected = λ s h sound. c.votes_are_of_the_round.ensures.selected s h (c.lawful_histories_are_consistent.ensures s h sound);
      unfinished = λ s h kind some due. c.what_is_due_has_no_certificate.ensures s h kind some due;
      waiting = λ s h kind v there. c.votes_that_count_were_accepted.ensures.waiting s h kind v there;
      verified = λ s h kind v there. c.votes_that_count_were_accepted.ensures.verified s h kind v there;
      stated = λ s h kind x sound known. c.votes_that_count_state_it.ensures.waiting s h kind x (c.lawful_histories_are_consistent.ensures s h sound) known;
      no_quorum_lost = λ s h kept sound none. c.no_quorum_is_lost.ensures s h kept (c.lawful_histories_are_consistent.ensures s h sound) none;
    })
