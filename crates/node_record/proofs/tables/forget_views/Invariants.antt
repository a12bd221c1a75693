use Rattle.std.proofs.Common.{◌≡◌, ◌<◌, ℕ}
use Rattle.std.specs.Ordering.{nat_cmp}
use Rattle.std.specs.BTreeSet.{btree_set_len, contains}
use Rattle.node_record.proofs.tables.forget_views.Given as goal

-- above the last nothing changes
abbrev pub invariant-loop-first : goal.invariant-loop-first
invariant-loop-first l = (u : ℕ) → l.last < u → contains nat_cmp l.views u ≡ contains nat_cmp l.initial.views u

abbrev pub decreases-loop-first : goal.decreases-loop-first
decreases-loop-first l = btree_set_len l.views
