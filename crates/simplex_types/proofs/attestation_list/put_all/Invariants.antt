use Rattle.std.proofs.Common.{◌≡◌, ◌++◌, ℕ, ◌<◌, take, get_or}
use Rattle.std.specs.List.{flat_map}
use Rattle.types_core.specs.declared.attestation.Attestation.{Attestation}
use Rattle.types_core.specs.Attestation.{attestation_spelling, attestation_fits}
use Rattle.simplex_types.proofs.attestation_list.put_all.Given as goal

-- the attestations so far are written, and each of those can be read again
abbrev pub invariant-loop-attestation : goal.invariant-loop-attestation
invariant-loop-attestation g l =
    (l.out.items ≡ l.fn.out.items ++ flat_map (attestation_spelling g.G.Write.spelling) (take l.attestation-index l.attestations))
    × ((k : ℕ) (d : Attestation _) → k < l.attestation-index → attestation_fits g.G.Write.fits (get_or l.attestations k d))
