use Rattle.std.proofs.Common.{◌<◌, ℕ, get_or}
use Rattle.types_core.specs.declared.attestation.Attestation.{Attestation}
use Rattle.types_core.specs.Subject.{statement}
use Rattle.simplex_types.proofs.attesting.all_attest.Given as goal

-- each attestation so far attests
abbrev pub invariant-loop-attestation : goal.invariant-loop-attestation
invariant-loop-attestation g l = (k : ℕ) (d : Attestation _) → k < l.attestation-index → g.C.Attesting.marks l.committee (get_or l.attestations k d).signer (statement l.subject) (get_or l.attestations k d).signature
