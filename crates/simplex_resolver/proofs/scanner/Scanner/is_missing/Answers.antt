use Rattle.std.proofs.Common.{◌≡◌, ◌<◌, sym, ◌∙◌, ap, arith, Bool, true}
use Rattle.std.proofs.lemmas.Bool.Decides.{nat_tests}
use Rattle.simplex_resolver.specs.RepairHistory.{floor, live, covered}
use Rattle.simplex_resolver.proofs.Choices.{nat_lt-yes}
use Rattle.std.specs.Prelude.{not}
use Rattle.std.proofs.Common.{rules}
use Rattle.simplex_resolver.proofs.Covers.{finalized-floor}
use Rattle.simplex_resolver.proofs.scanner.Scanner.is_missing.Goals as goal

pub returns : goal.returns
returns c = λ views h k.
    let was : c.args.self.now.live ≡ true = search rules in
    let on : live h ≡ true = sym k.live_is ∙ was in
    let floor_is = k.floor_is in
    let above : floor h < c.args.view = grind (arith, nat_tests, floor_is) in
    let low = finalized-floor h in
    let is : c.is_covered.result ≡ covered views h c.args.view = c.is_covered.ensures views h k.holds (omega (arith, low, above)) in
    rw (on, nat_lt-yes (floor h) c.args.view above) (ap (λ (b : Bool). not b) is)
