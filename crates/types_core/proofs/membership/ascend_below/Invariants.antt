use Rattle.std.proofs.Common.{◌<◌, ◌↔◌, drop}
use Rattle.std.specs.List.{All}
use Rattle.types_core.specs.Ascending.{AscendsFrom}
use Rattle.types_core.proofs.membership.ascend_below.Given as goal

-- all ascend below the bound where those behind do, from low on
abbrev pub invariant-loop-attestation : goal.invariant-loop-attestation
invariant-loop-attestation g l =
    (AscendsFrom 0 l.attestations × All (λ a. a.signer < l.bound) l.attestations)
    ↔ (AscendsFrom l.low (drop l.attestation-index l.attestations) × All (λ a. a.signer < l.bound) (drop l.attestation-index l.attestations))
