use Rattle.simplex_member.proofs.laws.lists_obey.Goals as goal

pub returns : goal.returns
returns g c = record {
  first = λ own owner. c.three_lists_go_on.ensures.first own owner;
  opens = λ own owner ever opened kept are. c.three_lists_go_on.ensures.opens own owner ever opened kept are;
  records = λ own owner ever opened kept x some are high behind fits. c.three_lists_go_on.ensures.records own owner ever opened kept x some are high behind fits;
  rewrites = λ own owner ever opened kept x are there last. c.three_lists_go_on.ensures.rewrites own owner ever opened kept x are there last;
  kept = λ own owner ever kept some so. (c.what_is_kept_is_lawful.ensures.lawful own owner ever kept some so, c.what_is_kept_is_lawful.ensures.stands own owner ever kept some so);
  ever = λ own owner all lawful. c.ever_lawful_members_vote_lawfully.ensures own owner all lawful;
}
