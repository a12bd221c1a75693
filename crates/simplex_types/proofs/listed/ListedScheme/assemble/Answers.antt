use Rattle.std.proofs.Common.{◌≡◌, ◌≤◌, arith, length}
use Rattle.std.proofs.lemmas.List.Sorted.{Contains-permutation, IsPermutation-sym}
use Rattle.simplex_types.specs.AttestationList.{list_within-grows}
use Rattle.types_core.specs.Quorum.{IsQuorum-from_given}
use Rattle.types_quorum.specs.Committee.{quorum}
use Rattle.simplex_types.proofs.listed.ListedScheme.assemble.Goals as goal

pub returns-clause-certifies : goal.returns-clause-certifies
returns-clause-certifies g c = λ x all.
    let made = c.in_ok-certificate.ensures in
    let n = g.C.Attesting.members c.args.self.now in
    let count : c.members-members.result ≡ n = rw c.self.view_is at c.members-members.ensures.value in
    let enough : quorum n ≤ length c.in_ok-certificate.certificate = rw count at made.quorum in
    IsQuorum-from_given n (λ i a. g.C.Attesting.marks c.args.self.now i x a) c.args.attestations.now c.in_ok-certificate.certificate (λ i a h. g.met.C.Attesting.marks_member c.args.self.now i x a h) made.same made.ascending enough all

pub returns-clause-only_given : goal.returns-clause-only_given
returns-clause-only_given g c = λ a there. Contains-permutation c.in_ok-certificate.certificate c.args.attestations.now a (IsPermutation-sym c.args.attestations.now c.in_ok-certificate.certificate c.in_ok-certificate.ensures.same) there

pub returns-clause-all_given : goal.returns-clause-all_given
returns-clause-all_given g c = λ listing a there. Contains-permutation c.args.attestations.now c.in_ok-certificate.certificate a c.in_ok-certificate.ensures.same there

pub returns-clause-within : goal.returns-clause-within
returns-clause-within g c = list_within-grows c.members-members.result 65535 c.in_ok-certificate.certificate (omega (arith, c.members-members.ensures.value, c.members-members.ensures.at_most)) c.in_ok-certificate.ensures.within
