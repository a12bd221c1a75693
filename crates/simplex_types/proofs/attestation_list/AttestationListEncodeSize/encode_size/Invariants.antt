use Rattle.std.proofs.Common.{◌≡◌, ◌+◌, ◌*◌, ℕ, ◌<◌, ◌≤◌, length, take, get_or}
use Rattle.std.specs.List.{flat_map}
use Rattle.types_core.specs.declared.attestation.Attestation.{Attestation}
use Rattle.types_codec.specs.Varint.{varint}
use Rattle.types_core.specs.Attestation.{attestation_spelling, attestation_fits}
use Rattle.simplex_types.proofs.attestation_list.AttestationListEncodeSize.encode_size.Given as goal

-- the count and the attestations so far are measured, and each of those can be read again
abbrev pub invariant-loop-attestation : goal.invariant-loop-attestation
invariant-loop-attestation g l =
    (l.size ≡ length (varint (length l.attestation-items)) + length (flat_map (attestation_spelling g.G.Write.spelling) (take l.attestation-index l.attestation-items)))
    × (l.size ≤ 10 + l.attestation-index * 1029)
    × ((k : ℕ) (d : Attestation _) → k < l.attestation-index → attestation_fits g.G.Write.fits (get_or l.attestation-items k d))
