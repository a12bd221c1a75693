use Rattle.types_codec.specs.Codec.{bounded-IsCodec}
use Rattle.simplex_messages.specs.Activity.{activity-IsCodec}
use Rattle.simplex_rules.proofs.Reading.{joined-read, shorter}
use Rattle.simplex_rules.proofs.laws.joined_reports_are_read.Goals as goal

pub returns : goal.returns
returns g c = λ n reports messages fault small fits read.
    let codec = activity-IsCodec g.D.PartialEq.eq (bounded-IsCodec (g.met.D.Read.one_spelling n small) (g.met.D.Digest.unbounded n)) (bounded-IsCodec (g.met.S.Signature.Read.one_spelling n small) (g.met.S.Signature.Signature.unbounded n)) (g.met.S.Certificate.Read.one_spelling n small) in
    joined-read codec (shorter g.D.Write.spelling g.S.Signature.Write.spelling g.S.Certificate.Write.spelling) reports messages fault fits read
