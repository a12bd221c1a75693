use Rattle.std.proofs.Common.{rules, ◌<◌, List, subst, IsTrue, ◌↔◌}
use Rattle.std.specs.List.{All}
use Rattle.std.proofs.lemmas.List.Sorted.{IsNonDecreasingBy-from_sort_by_key, All-permutation, IsPermutation-sym}
use Rattle.types_core.specs.declared.attestation.Attestation.{Attestation}
use Rattle.types_core.specs.Ascending.{AscendsFrom}
use Rattle.types_core.specs.Sorting.{sorted-AscendsFrom}
use Rattle.types_core.proofs.Sorting.{AscendsFrom-distinct_before}
use Rattle.types_core.proofs.membership.are_of_distinct_members.Goals as goal

pub returns : goal.returns
returns g c =
    let given = c.args.attestations.now in
    let x = c.sort_unstable_by_key.new.self.items in
    let sorted = IsNonDecreasingBy-from_sort_by_key (λ a. a.signer) x c.sort_unstable_by_key.ensures.sorted (λ a r q k. search rules) in
    let moved = rw c.in_ok-sorted.ensures.items at c.sort_unstable_by_key.ensures.permutation in
    let IsMember : Attestation _ → Type 0 = λ a. a.signer < c.args.participants in
    let Answer : List (Attestation _) → Type 0 = λ listed. IsTrue c.ascend_below.result ↔ (AscendsFrom 0 listed × All IsMember listed) in
    let answer = subst Answer c.deref.ensures.value c.ascend_below.ensures in (
      λ yes. (AscendsFrom-distinct_before given x moved (answer.0 yes).0, All-permutation IsMember x given (IsPermutation-sym given x moved) (answer.0 yes).1),
      λ both. answer.1 (sorted-AscendsFrom given x both.0 moved sorted, All-permutation IsMember given x moved both.1),
    )
