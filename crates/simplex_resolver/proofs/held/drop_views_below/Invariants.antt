use Rattle.std.proofs.Common.{◌≡◌, ◌≤◌, ℕ}
use Rattle.std.specs.Ordering.{nat_cmp}
use Rattle.std.specs.BTreeSet.{btree_set_len, contains}
use Rattle.simplex_resolver.proofs.held.drop_views_below.Given as goal

abbrev pub invariant-loop-view : goal.invariant-loop-view
invariant-loop-view l = (view : ℕ) → l.first ≤ view → contains nat_cmp l.views view ≡ contains nat_cmp l.initial.views view

abbrev pub decreases-loop-view : goal.decreases-loop-view
decreases-loop-view l = btree_set_len l.views
