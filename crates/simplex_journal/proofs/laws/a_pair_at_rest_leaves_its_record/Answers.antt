use Rattle.std.proofs.Common.{map}
use Rattle.simplex_journal.proofs.Rewriting.{rests_one}
use Rattle.simplex_journal.proofs.laws.a_pair_at_rest_leaves_its_record.Goals as goal

pub returns : goal.returns
returns g c = λ pair messages is. rests_one pair.is_first pair.generation pair.gate _ _ _ _ (map g.M.Write.spelling messages) is.1
