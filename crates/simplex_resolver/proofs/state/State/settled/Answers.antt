use Rattle.std.proofs.Common.{◌<◌, ◌∙◌, refl, arith}
use Rattle.std.proofs.lemmas.Bool.Decides.{nat_tests}
use Rattle.simplex_resolver.specs.RepairHistory.{finalized}
use Rattle.simplex_resolver.proofs.Choices.{nat_lt-yes, nat_le-no}
use Rattle.simplex_resolver.proofs.state.State.settled.Goals as goal

pub returns-in-Notarization : goal.returns-in-Notarization
returns-in-Notarization c =
    let past : c.args.self.now.scanner.held.last_finalized < c.args.view = grind (arith, nat_tests) in
    λ views h k.
    let last = k.stands.holds.finalized_is in
    let above : finalized h < c.args.view = omega (arith, past, last) in
    let is = c.is_known.ensures views h k.stands.holds in
    rw c.in-Notarization.is (is ∙ rw (nat_lt-yes (finalized h) c.args.view above, nat_le-no c.args.view (finalized h) above) refl)
