use Rattle.std.proofs.Common.{◌≡◌, string_bytes, take}
use Rattle.std.specs.List.{flat_map}
use Rattle.cli_audit.specs.Lines.{evidence_line}
use Rattle.cli_audit.proofs.lines.text_of.Given as goal

abbrev pub invariant-loop-evidence : goal.invariant-loop-evidence
invariant-loop-evidence l = string_bytes l.text ≡ flat_map evidence_line (take l.evidence-index l.evidence-items)
