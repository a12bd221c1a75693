use Rattle.std.proofs.Common.{◌≡◌, ◌+◌, ◌*◌, ◌<◌, ◌^◌, ◌++◌, length}
use Rattle.cli_attestations.specs.Marks.{marks_from}
use Rattle.cli_attestations.proofs.listing.push_listed.Given as goal

-- what was marked, and what is left to mark from here on, are together what there was
abbrev pub invariant-loop-attestation : goal.invariant-loop-attestation
invariant-loop-attestation l = record {
  marked : l.marks.items ++ marks_from l.place l.rest ≡ l.fn.marks.items ++ marks_from l.start l.listed;
  short : l.place + 37 * length l.rest < 2 ^ 63;
}

abbrev pub decreases-loop-attestation : goal.decreases-loop-attestation
decreases-loop-attestation l = length l.rest
