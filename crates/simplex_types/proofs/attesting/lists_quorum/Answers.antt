use Rattle.std.proofs.Common.{◌≡◌, ◌≤◌, ap, arith, length}
use Rattle.types_core.specs.Subject.{statement}
use Rattle.types_core.specs.Quorum.{IsQuorum-from_ascending}
use Rattle.types_quorum.specs.Committee.{quorum}
use Rattle.simplex_types.proofs.attesting.lists_quorum.Goals as goal

pub returns-then-quorum-listed : goal.returns-then-quorum-listed
returns-then-quorum-listed g c =
    let n = g.C.Attesting.members c.args.committee.now in
    let needed : c.quorum.result ≡ quorum n = rw c.members.ensures.value at c.quorum.ensures in
    let long : length c.attestations-listed.result.now ≡ length c.args.certificate.now = ap length c.attestations-listed.ensures.value in
    let enough : quorum n ≤ length c.args.certificate.now = omega (arith, needed, long, c.if-quorum-listed.true) in
    let attesting = rw c.attestations-listed.ensures.value at c.all_attest.ensures in (
      λ yes. IsQuorum-from_ascending n (λ i a. g.C.Attesting.marks c.args.committee.now i (statement c.args.subject.now) a) c.args.certificate.now (λ i a h. g.met.C.Attesting.marks_member c.args.committee.now i (statement c.args.subject.now) a h) c.attestations-listed.ensures.ascending enough (attesting.0 yes),
      λ q. attesting.1 q.attesting,
    )
