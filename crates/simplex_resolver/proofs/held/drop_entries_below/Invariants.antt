use Rattle.std.proofs.Common.{◌≡◌, ◌≤◌, ℕ}
use Rattle.std.specs.Ordering.{nat_cmp}
use Rattle.std.specs.BTreeMap.{btree_map_len, get}
use Rattle.simplex_resolver.proofs.held.drop_entries_below.Given as goal

abbrev pub invariant-loop-view : goal.invariant-loop-view
invariant-loop-view l = (view : ℕ) → l.first ≤ view → get nat_cmp l.entries view ≡ get nat_cmp l.initial.entries view

abbrev pub decreases-loop-view : goal.decreases-loop-view
decreases-loop-view l = btree_map_len l.entries
