use Rattle.std.proofs.Common.{◌≡◌, ◌++◌, length}
use Rattle.std.specs.List.{All, flat_map}
use Rattle.types_codec.specs.Codec.{Readable}
use Rattle.cli_tool.proofs.reading.read_values.Given as goal

-- what was read so far are values, and this is left
abbrev pub invariant-loop-rest : goal.invariant-loop-rest
invariant-loop-rest g l = All (Readable g.M.Write.fits (g.M.Read.within l.bound)) l.values.items × (l.bytes ≡ flat_map g.M.Write.spelling l.values.items ++ l.rest)

abbrev pub decreases-loop-rest : goal.decreases-loop-rest
decreases-loop-rest g l = length l.rest
