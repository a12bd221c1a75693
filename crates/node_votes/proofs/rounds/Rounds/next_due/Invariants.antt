use Rattle.std.specs.BTreeSet.{btree_set_len}
use Rattle.node_votes.specs.Standing.{AtEach, Stand}
use Rattle.node_votes.proofs.rounds.Rounds.next_due.Given as goal

abbrev pub invariant-views : goal.invariant-views
invariant-views g l = AtEach g.S.Scheme g.D.PartialEq.eq l.fn.self (λ s up happened. Stand g.S.Scheme g.D.PartialEq.eq s l.self up happened)

abbrev pub decreases-views : goal.decreases-views
decreases-views g l = btree_set_len l.self.touched
