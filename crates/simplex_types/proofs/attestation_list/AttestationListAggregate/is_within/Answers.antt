use Rattle.std.proofs.Common.{◌≡◌, ◌<◌, ◌-◌, length, get_or, arith, ◌∙◌, ap}
use Rattle.std.proofs.lemmas.Bool.{lt-ltb, ltb-true}
use Rattle.types_core.specs.declared.attestation.Attestation.{Attestation}
use Rattle.types_core.specs.Ascending.{AscendsFrom}
use Rattle.simplex_types.specs.AttestationList.{list_within}
use Rattle.simplex_types.proofs.Bounds.{AscendsFrom-last, AscendsFrom-few}
use Rattle.simplex_types.proofs.attestation_list.AttestationListAggregate.is_within.Goals as goal

pub returns-in-Some : goal.returns-in-Some
unfolding list_within
returns-in-Some g c =
    let n = c.args.participants in
    let listed = c.deref.result.now in
    let last = c.in-Some.last.now in
    let found = c.in-Some.ensures.item in
    let some : 0 < length listed = found.3.0 in
    let up : AscendsFrom 0 listed = rw c.deref.ensures.value c.self.invariant.0 in
    let same : listed ≡ c.args.self.now = cc in
    let index : c.get.result ≡ (get_or listed (length listed - 1) last).signer = c.get.ensures.value ∙ ap (λ (a : Attestation _). a.signer) found.1 in
    rw (← same) (
      λ yes.
          let low : c.get.result < n = ltb-true _ _ yes in
          let below = AscendsFrom-last 0 n (length listed - 1) listed last up (omega (arith, some)) (omega (arith, low, index)) in
          (below, AscendsFrom-few n listed up below),
      λ within. lt-ltb _ _ (let low = within.0 (length listed - 1) last (omega (arith, some)) in omega (arith, low, index)),
    )
