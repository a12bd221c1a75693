use Rattle.std.proofs.Common.{◌^◌, sym, ap}
use Rattle.std.specs.Prelude.{◌-◌, option_map}
use Rattle.types_codec.specs.Codec.{unbounded-IsCodec}
use Rattle.types_codec.specs.Varint.{varint-IsCodec}
use Rattle.simplex_member.specs.Packet.{of_ask}
use Rattle.node_inbox.specs.Reading.{whole-none, whole-some}
use Rattle.node_inbox.proofs.packets.ask_in.Goals as goal

pub returns-in-Ok-Some : goal.returns-in-Ok-Some
returns-in-Ok-Some g c =
    let p = c.in-Ok-Some in
    let some = rw p.field-0-is at p.ensures.some in
    ap (option_map of_ask) (sym (whole-some (unbounded-IsCodec (varint-IsCodec (2 ^ 64 - 1))) c.args.bytes.now p.view some.0 some.1))

pub returns-in-Ok-None : goal.returns-in-Ok-None
returns-in-Ok-None g c =
    let p = c.in-Ok-None in
    let none = rw p.field-0-is at p.ensures.none in
    ap (option_map of_ask) (sym (whole-none (unbounded-IsCodec (varint-IsCodec (2 ^ 64 - 1))) c.args.bytes.now none))
