use Rattle.types_quorum.specs.Committee.{two_quorums_share, two_quorums_meet}
use Rattle.types_quorum.proofs.committee.two_quorums_share_members.Goals as goal

pub returns-clause-shared : goal.returns-clause-shared
returns-clause-shared c = two_quorums_share

pub returns-clause-correct : goal.returns-clause-correct
returns-clause-correct c n xs ys faulty some p q few = let met = two_quorums_meet n xs ys faulty some p q few in (met.0, met.2, met.3, met.4)
