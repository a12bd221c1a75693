use Rattle.std.proofs.Common.{rules, arith, ◌<◌}
use Rattle.simplex_types.specs.AttestationList.{list_within}
use Rattle.std.proofs.lemmas.List.Sorted.{IsNonDecreasingBy-from_sort_by_key, All-permutation}
use Rattle.types_core.specs.declared.attestation.Attestation.{Attestation}
use Rattle.types_core.specs.Sorting.{sorted-AscendsFrom}
use Rattle.simplex_types.proofs.Bounds.{AscendsFrom-few}
use Rattle.simplex_types.proofs.attestation_list.AttestationList.new.Goals as goal

pub invariant_of-result : goal.invariant_of-result
invariant_of-result g c =
    let x = c.sort_unstable_by_key.new.self.items in
    let sorted = IsNonDecreasingBy-from_sort_by_key (λ a. a.signer) x c.sort_unstable_by_key.ensures.sorted (λ a r q k. search rules) in
    let moved = rw c.in_ok-attestations.ensures.items at c.sort_unstable_by_key.ensures.permutation in
    let up = sorted-AscendsFrom c.args.attestations.now x c.requires.distinct moved sorted in
    let below = All-permutation (λ (a : Attestation _). a.signer < c.args.participants) c.args.attestations.now x moved c.requires.members in
    (up, omega (arith, AscendsFrom-few c.args.participants x up below, c.ranges.participants.fits))

pub returns-clause-ascending : goal.returns-clause-ascending
returns-clause-ascending g c =
    let x = c.sort_unstable_by_key.new.self.items in
    let sorted = IsNonDecreasingBy-from_sort_by_key (λ a. a.signer) x c.sort_unstable_by_key.ensures.sorted (λ a r q k. search rules) in
    let moved = rw c.in_ok-attestations.ensures.items at c.sort_unstable_by_key.ensures.permutation in
    sorted-AscendsFrom c.args.attestations.now x c.requires.distinct moved sorted

pub returns-clause-within : goal.returns-clause-within
unfolding list_within
returns-clause-within g c =
    let x = c.sort_unstable_by_key.new.self.items in
    let sorted = IsNonDecreasingBy-from_sort_by_key (λ a. a.signer) x c.sort_unstable_by_key.ensures.sorted (λ a r q k. search rules) in
    let moved = rw c.in_ok-attestations.ensures.items at c.sort_unstable_by_key.ensures.permutation in
    let up = sorted-AscendsFrom c.args.attestations.now x c.requires.distinct moved sorted in
    let below = All-permutation (λ (a : Attestation _). a.signer < c.args.participants) c.args.attestations.now x moved c.requires.members in
    (below, AscendsFrom-few c.args.participants x up below)
