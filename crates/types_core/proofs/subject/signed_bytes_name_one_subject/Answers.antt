use Rattle.std.proofs.Common.{arith}
use Rattle.types_codec.specs.Codec.{bounded-IsCodec}
use Rattle.types_core.proofs.Signed.{kinds-differ, one_subject}
use Rattle.types_core.proofs.subject.signed_bytes_name_one_subject.Goals as goal

pub returns-clause-kinds : goal.returns-clause-kinds
returns-clause-kinds g c = kinds-differ

pub returns-clause-subjects : goal.returns-clause-subjects
returns-clause-subjects g c = one_subject (bounded-IsCodec (g.met.D.Read.one_spelling 0 (omega arith)) (g.met.D.Digest.unbounded 0))
