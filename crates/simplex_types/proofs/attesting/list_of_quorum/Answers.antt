use Rattle.std.proofs.Common.{◌≡◌, ◌≤◌, arith, length}
use Rattle.std.proofs.lemmas.List.Sorted.{Contains-permutation, IsPermutation-sym, length_permutation}
use Rattle.simplex_types.specs.AttestationList.{list_within-grows}
use Rattle.types_core.specs.Subject.{statement}
use Rattle.types_core.specs.Quorum.{IsQuorum-from_given}
use Rattle.types_quorum.specs.Committee.{quorum}
use Rattle.simplex_types.proofs.attesting.list_of_quorum.Goals as goal

pub returns-clause-certifies : goal.returns-clause-certifies
returns-clause-certifies g c =
    let n = g.C.Attesting.members c.args.committee.now in
    let given = c.args.attestations.now in
    let listed = c.in_ok-new.field-0 in
    let needed : c.quorum.result ≡ quorum n = rw c.members-members.ensures.value at c.quorum.ensures in
    let long = length_permutation given listed c.in_ok-new.ensures.same in
    let enough : quorum n ≤ length listed = omega (arith, needed, long, c.if-attestations-quorum.false) in
    IsQuorum-from_given n (λ i a. g.C.Attesting.marks c.args.committee.now i (statement c.args.subject.now) a) given listed (λ i a h. g.met.C.Attesting.marks_member c.args.committee.now i (statement c.args.subject.now) a h)
    c.in_ok-new.ensures.same c.in_ok-new.ensures.ascending enough (c.all_attest.ensures.0 c.if-not-all_attest.false)

pub returns-clause-only_given : goal.returns-clause-only_given
returns-clause-only_given g c = λ a there. Contains-permutation c.in_ok-new.field-0 c.args.attestations.now a (IsPermutation-sym c.args.attestations.now c.in_ok-new.field-0 c.in_ok-new.ensures.same) there

pub returns-clause-all_given : goal.returns-clause-all_given
returns-clause-all_given g c = λ a there. Contains-permutation c.args.attestations.now c.in_ok-new.field-0 a c.in_ok-new.ensures.same there

pub returns-clause-within : goal.returns-clause-within
returns-clause-within g c =
    let readable = rw c.members-members.ensures.value at c.in_ok-new.ensures.within in
    list_within-grows (g.C.Attesting.members c.args.committee.now) 65535 c.in_ok-new.field-0 c.members-members.ensures.at_most readable
