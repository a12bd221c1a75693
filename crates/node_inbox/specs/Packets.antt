-- What a packet holds, as the node has it.
use Rattle.simplex_member.specs.Packet.{Packet, of_vote, of_certificate, of_ask}
use Rattle.node_inbox.specs.declared.packets.Message.{Message}
use Rattle.node_inbox.specs.declared.packets.Message.TheVariants as message

-- a message is this packet
abbrev pub as_packet : {S D P G C : Type 0} → Message S D P G C → Packet S D P G C
as_packet (message.Vote v) = of_vote v
as_packet (message.Certificate c) = of_certificate c
as_packet (message.Ask view) = of_ask view
