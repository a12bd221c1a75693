use Rattle.std.proofs.Common.{take}
use Rattle.std.specs.Prelude.{⊤}
use Rattle.std.specs.BTreeSet.{IsSubset}
use Rattle.simplex_rules.specs.Kept.{suspect_cmp}
use Rattle.simplex_rules.proofs.Gathering.{Gathers}
use Rattle.simplex_rules.proofs.Judging.{suspect_from}
use Rattle.simplex_rules.proofs.survey.insert_all.Given as goal

-- the signers gone over are there
abbrev pub invariant-loop-attestation : goal.invariant-loop-attestation
invariant-loop-attestation g l = record {
  stay : IsSubset suspect_cmp l.initial.suspects l.suspects;
  added : Gathers (λ a. suspect_from l.round a.signer) (λ a. ⊤) (take l.attestation-index l.listed) l.suspects;
}
