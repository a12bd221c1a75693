use Rattle.std.proofs.Common.{[], length, map}
use Rattle.std.specs.List.{All}
use Rattle.types_codec.specs.Codec.{Readable}
use Rattle.journal_single.specs.Record.{IsLeft, FitsBelow}
use Rattle.journal_single.proofs.entries.read_entries_below.Given as goal

-- what was read so far are messages, and the entries of these
abbrev pub invariant-loop-size : goal.invariant-loop-size
invariant-loop-size g l = IsLeft [] l.bytes l.rest (map g.M.Write.spelling l.messages.items) × All (FitsBelow l.limit (Readable g.M.Write.fits (g.M.Read.within 65535)) g.M.Write.spelling) l.messages.items

abbrev pub decreases-loop-size : goal.decreases-loop-size
decreases-loop-size g l = length l.rest
