use Rattle.std.proofs.Common.{◌≡◌, ◌++◌, take}
use Rattle.std.specs.List.Sorted.{IsStrictlyIncreasing}
use Rattle.batcher_assembly.specs.Judging.{without}
use Rattle.batcher_assembly.proofs.judging.backers.Given as goal

-- the verified, and of the waiting so far those that are left
abbrev pub invariant-loop-attestation : goal.invariant-loop-attestation
invariant-loop-attestation g l = IsStrictlyIncreasing l.invalid → l.backers.items ≡ l.verified ++ without l.invalid (take l.attestation-index l.waiting)
