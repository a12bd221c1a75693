use Rattle.types_core.specs.Subject.{statement}
use Rattle.simplex_types.proofs.Failing.{Gathered}
use Rattle.simplex_types.proofs.attesting.failing_signers.Given as goal

-- the signers of the attestations so far that fail
abbrev pub invariant-loop-attestation : goal.invariant-loop-attestation
invariant-loop-attestation g l = Gathered (λ i a. g.C.Attesting.marks l.committee i (statement l.subject) a) l.attestations l.attestation-index l.failing.items
