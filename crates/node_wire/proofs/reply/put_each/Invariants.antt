use Rattle.std.proofs.Common.{◌≡◌, ◌++◌, ℕ, ◌<◌, ◌≤◌, take, get_or}
use Rattle.std.specs.List.{flat_map}
use Rattle.types_codec.specs.Varint.{varint, max_u32}
use Rattle.node_wire.proofs.reply.put_each.Given as goal

-- the members so far are written
abbrev pub invariant-loop-member : goal.invariant-loop-member
invariant-loop-member l =
    (l.out.items ≡ l.fn.out.items ++ flat_map varint (take l.member-index l.members))
    × ((k : ℕ) (d : ℕ) → k < l.member-index → get_or l.members k d ≤ max_u32)
