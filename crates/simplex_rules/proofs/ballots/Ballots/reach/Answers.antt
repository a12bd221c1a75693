use Rattle.std.proofs.Common.{refl}
use Rattle.simplex_rules.specs.declared.cast.Kept.TheVariants.{Nothing}
use Rattle.simplex_rules.specs.Tally.{KeepsVotes}
use Rattle.simplex_rules.proofs.Tallies.{Tallies-reach}
use Rattle.simplex_rules.proofs.ballots.Ballots.reach.Goals as goal

pub loop-self-preserved : goal.loop-self-preserved
loop-self-preserved g c = λ scheme contested counted before.
    rw c.in_ok-push.ensures.items (Tallies-reach contested (KeepsVotes g.K.ProposalKind.states (g.S.Scheme.attests scheme) g.D.Ord.cmp) Nothing (λ q. refl) counted c.loop-self.self.kept.items (c.loop-self.invariant scheme contested counted before))
