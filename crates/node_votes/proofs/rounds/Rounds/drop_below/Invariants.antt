use Rattle.std.proofs.Common.{◌≡◌, ◌≤◌, ℕ}
use Rattle.std.specs.BTreeMap.{btree_map_len}
use Rattle.node_votes.specs.Standing.{common_of}
use Rattle.node_votes.proofs.Changing.{IsDropping}
use Rattle.node_votes.proofs.rounds.Rounds.drop_below.Given as goal

abbrev pub invariant-views : goal.invariant-views
invariant-views g l = IsDropping l.floor l.fn.self l.self

abbrev pub decreases-views : goal.decreases-views
decreases-views g l = btree_map_len l.self.by_view
