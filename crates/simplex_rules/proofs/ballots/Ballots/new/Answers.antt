use Rattle.std.proofs.Common.{refl, []}
use Rattle.simplex_rules.specs.Tally.{KeepsVotes}
use Rattle.simplex_rules.proofs.Tallies.{Tallies-none}
use Rattle.simplex_rules.proofs.ballots.Ballots.new.Goals as goal

pub returns : goal.returns
returns g c = λ scheme contested. rw c.new.ensures.items (record { counted = []; all_counted = refl; tallies = Tallies-none contested (KeepsVotes g.K.ProposalKind.states (g.S.Scheme.attests scheme) g.D.Ord.cmp) })
