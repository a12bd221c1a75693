use Rattle.std.proofs.Common.{◌≡◌, ◌≤◌, ℕ}
use Rattle.std.specs.Ordering.{nat_cmp}
use Rattle.std.specs.BTreeMap.{btree_map_len, get}
use Rattle.voter_views.proofs.views.pruning.drop_before.Given as goal

abbrev pub invariant-loop-view : goal.invariant-loop-view
invariant-loop-view g l = (view : ℕ) → l.first ≤ view → get nat_cmp l.reaching view ≡ get nat_cmp l.initial.reaching view

abbrev pub decreases-loop-view : goal.decreases-loop-view
decreases-loop-view g l = btree_map_len l.reaching
