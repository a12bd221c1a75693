use Rattle.std.proofs.Common.{List, length, suc, ◌-◌}
use Rattle.std.specs.BTreeSet.{BTreeSet}
use Rattle.simplex_rules.specs.declared.cast.Cast.{Cast}
use Rattle.simplex_rules.specs.declared.cast.Suspect.{Suspect}
use Rattle.simplex_rules.specs.Kept.{Tallies}
use Rattle.simplex_rules.specs.Tally.{KeepsVotes}
use Rattle.simplex_rules.proofs.ballots.Ballots.reach.Given as goal

-- what was counted is still kept
abbrev pub invariant-loop-self : goal.invariant-loop-self
invariant-loop-self g l = (scheme : _) (contested : BTreeSet Suspect) (counted : List (Suspect × Cast _ _)) → Tallies contested (KeepsVotes g.K.ProposalKind.states (g.S.Scheme.attests scheme) g.D.Ord.cmp) counted l.initial.self.kept.items → Tallies contested (KeepsVotes g.K.ProposalKind.states (g.S.Scheme.attests scheme) g.D.Ord.cmp) counted l.self.kept.items

abbrev pub decreases-loop-self : goal.decreases-loop-self
decreases-loop-self g l = suc l.place - length l.self.kept.items
