use Rattle.std.proofs.Common.{map, take}
use Rattle.simplex_member.specs.Deeds.{Blocks}
use Rattle.simplex_member.specs.Packet.{Formats}
use Rattle.node_outbox.specs.Handing.{AddsDeeds}
use Rattle.node_outbox.proofs.handing.block_all.Given as goal

-- those before are blocked
abbrev pub invariant-loop-member : goal.invariant-loop-member
invariant-loop-member g l = (f : Formats g.row.S.Denot g.row.D.Denot g.row.S-PublicKey.Denot g.row.S-Signature.Denot g.row.S-Certificate.Denot)
    → AddsDeeds f l.initial.out.items l.out.items (map Blocks (take l.member-index l.members))
