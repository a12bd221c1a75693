use Rattle.std.proofs.Common.{◌<◌, ◌^◌, sym, ap, arith}
use Rattle.std.specs.Prelude.{option_map}
use Rattle.types_codec.specs.Codec.{bounded-IsCodec}
use Rattle.messages_certificates.specs.Certificate.{any_certificate-IsCodec}
use Rattle.simplex_member.specs.Packet.{of_certificate}
use Rattle.node_inbox.specs.Reading.{whole-none, whole-some}
use Rattle.node_inbox.proofs.packets.certificate_in.Goals as goal

pub returns-in-Ok-Some : goal.returns-in-Ok-Some
returns-in-Ok-Some g c =
    let n = c.args.participants in
    let small : n < 2 ^ 32 = omega arith in
    let p = c.in-Ok-Some in
    let some = rw p.field-0-is at p.ensures.some in
    let codec = any_certificate-IsCodec (bounded-IsCodec (g.met.D.Read.one_spelling n small) (g.met.D.Digest.unbounded n)) (g.met.S.Certificate.Read.one_spelling n small) in
    ap (option_map of_certificate) (sym (whole-some codec c.args.bytes.now p.certificate some.0 some.1))

pub returns-in-Ok-None : goal.returns-in-Ok-None
returns-in-Ok-None g c =
    let n = c.args.participants in
    let small : n < 2 ^ 32 = omega arith in
    let p = c.in-Ok-None in
    let none = rw p.field-0-is at p.ensures.none in
    let codec = any_certificate-IsCodec (bounded-IsCodec (g.met.D.Read.one_spelling n small) (g.met.D.Digest.unbounded n)) (g.met.S.Certificate.Read.one_spelling n small) in
    ap (option_map of_certificate) (sym (whole-none codec c.args.bytes.now none))
