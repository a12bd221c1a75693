use Rattle.types_codec.proofs.OneVarint.{IsVarint_iff}
use Rattle.types_codec.proofs.varint.numbers_have_one_spelling.Goals as goal

pub returns : goal.returns
returns c = IsVarint_iff
