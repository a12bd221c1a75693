use Rattle.std.proofs.Common.{◌≡◌, ◌++◌, string_bytes, take}
use Rattle.std.specs.List.{flat_map}
use Rattle.cli_tool.specs.Parts.{signature_field}
use Rattle.cli_tool.proofs.lines.push_attestations.Given as goal

abbrev pub invariant-loop-attestation : goal.invariant-loop-attestation
invariant-loop-attestation l = string_bytes l.text ≡ string_bytes l.fn.text ++ flat_map (signature_field l.style) (take l.attestation-index l.attestation-items)
