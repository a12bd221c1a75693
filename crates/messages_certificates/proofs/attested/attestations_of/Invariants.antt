use Rattle.std.proofs.Common.{◌≡◌, map, take}
use Rattle.messages_certificates.proofs.attested.attestations_of.Given as goal

-- the attestations so far are those of the votes so far
abbrev pub invariant-loop-vote : goal.invariant-loop-vote
invariant-loop-vote g l = l.attestations.items ≡ map g.V.Attested.attestation_of (take l.vote-index l.votes)
