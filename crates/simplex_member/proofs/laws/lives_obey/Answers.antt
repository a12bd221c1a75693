use Rattle.simplex_member.proofs.laws.lives_obey.Goals as goal

pub returns : goal.returns
returns g c = record {
  records = c.records_obey.ensures;
  lists = c.lists_obey.ensures;
  matches = c.what_is_known_is_recorded.ensures;
  known = c.what_is_recorded_is_known.ensures;
}
