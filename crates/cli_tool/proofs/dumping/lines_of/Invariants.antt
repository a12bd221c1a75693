use Rattle.std.proofs.Common.{◌≡◌, string_bytes, take}
use Rattle.std.specs.List.{flat_map}
use Rattle.cli_tool.proofs.dumping.lines_of.Given as goal

abbrev pub invariant-loop-message : goal.invariant-loop-message
invariant-loop-message g l = string_bytes l.text ≡ flat_map (g.M.Line.line l.style) (take l.message-index l.messages)
