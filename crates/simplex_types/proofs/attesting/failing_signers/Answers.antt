use Rattle.std.proofs.Common.{◌≡◌, ℕ, arith, refl, eqb}
use Rattle.std.specs.List.{dedup}
use Rattle.std.proofs.lemmas.List.Filters.{dedup_is}
use Rattle.std.proofs.lemmas.List.Kept.{Contains-dedup_nat, Contains-from_dedup}
use Rattle.std.proofs.lemmas.List.Sorted.{Contains-permutation, IsPermutation-sym}
use Rattle.std.proofs.lemmas.Map.Keys.{IsStrictlyIncreasing-dedup}
use Rattle.types_core.specs.Subject.{statement}
use Rattle.simplex_types.proofs.Failing.{Gathered-failing, Gathered-attesting, Gathered-all}
use Rattle.simplex_types.proofs.attesting.failing_signers.Goals as goal
use Rattle.simplex_types.proofs.attesting.failing_signers.Goals.{then-not-attests+in_ok-push, else-not-attests}

pub loop-attestation-preserved : goal.loop-attestation-preserved
loop-attestation-preserved g c = let marks = λ (i : ℕ) (a : g.row.C-Mark.Denot). g.C.Attesting.marks c.args.committee.now i (statement c.args.subject.now) a in elim c.if-not-attests.branch [
  | then-not-attests+in_ok-push w ↦
      let more = Gathered-failing marks c.args.attestations.now c.loop-attestation.attestation-index c.loop-attestation.failing.items c.attestation-item.result c.loop-attestation-test.true c.attestation-item.is (λ a. let yes = w.if-not-attests.ensures.1 a in absurd (cc yes)) c.loop-attestation.invariant in
      rw w.failing-is (rw w.in_ok-push.ensures.items more)
  | else-not-attests w ↦
      let more = Gathered-attesting marks c.args.attestations.now c.loop-attestation.attestation-index c.loop-attestation.failing.items c.attestation-item.result c.loop-attestation-test.true c.attestation-item.is (w.if-not-attests.ensures.0 refl) c.loop-attestation.invariant in
      rw w.failing-is more
]

pub returns : goal.returns
returns g c =
    let left : c.dedup.new.self.items ≡ dedup eqb c.sort_unstable.new.self.items = dedup_is eqb _ _ c.dedup.ensures.filtered in
    rw left (Gathered-all _ _ c.loop-attestation.failing.items _ c.loop-attestation.attestation-index (omega arith) c.loop-attestation.invariant
    (IsStrictlyIncreasing-dedup c.sort_unstable.new.self.items c.sort_unstable.ensures.sorted)
    (λ i h. Contains-dedup_nat _ i (Contains-permutation _ _ i c.sort_unstable.ensures.permutation h))
    (λ i h. Contains-permutation _ _ i (IsPermutation-sym _ _ c.sort_unstable.ensures.permutation) (Contains-from_dedup eqb _ i h)))
