use Rattle.std.proofs.Common.{◌≡◌, ◌<◌}
use Rattle.std.specs.BTreeSet.{btree_set_len, contains}
use Rattle.simplex_member.specs.declared.asked.Asked.{Asked}
use Rattle.node_record.specs.Tables.{asked_cmp}
use Rattle.node_record.proofs.tables.forget_asks.Given as goal

-- above the last nothing changes
abbrev pub invariant-loop-first : goal.invariant-loop-first
invariant-loop-first l = (a : Asked) → l.last < a.view → contains asked_cmp l.asks a ≡ contains asked_cmp l.initial.asks a

abbrev pub decreases-loop-first : goal.decreases-loop-first
decreases-loop-first l = btree_set_len l.asks
