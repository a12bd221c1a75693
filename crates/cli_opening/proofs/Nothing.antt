-- Where nothing is written, a front of any text is.
use Rattle.std.proofs.Common.{ℕ, List, [], Option, None, Some, refl, sym, append-nil}
use Rattle.types_codec.specs.Front.{AppendsFront}

pub nothing_written : (old : Option (List ℕ)) (text : List ℕ) → AppendsFront old old text
nothing_written None text = ([], text, refl, tt)
nothing_written (Some xs) text = ([], text, refl, sym (append-nil xs))
