use Rattle.simplex_round.proofs.round.Round.replay.Goals as goal

pub returns-in-Certification : goal.returns-in-Certification
returns-in-Certification g c = λ s l h k. rw c.in-Certification.is (c.certified.ensures s l h k)
