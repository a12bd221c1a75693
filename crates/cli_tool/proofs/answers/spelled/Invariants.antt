use Rattle.std.proofs.Common.{◌≡◌, take}
use Rattle.std.specs.List.{flat_map}
use Rattle.cli_tool.proofs.answers.spelled.Given as goal

abbrev pub invariant-loop-value : goal.invariant-loop-value
invariant-loop-value g l = l.bytes.items ≡ flat_map g.M.Write.spelling (take l.value-index l.values)
