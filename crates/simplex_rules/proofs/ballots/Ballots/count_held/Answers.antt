use Rattle.std.proofs.lemmas.List.{append-nil}
use Rattle.simplex_rules.proofs.ballots.Ballots.count_held.Goals as goal

pub returns-in-Nothing : goal.returns-in-Nothing
returns-in-Nothing g c = λ votes h. rw (c.in-Nothing.is, append-nil votes) h
