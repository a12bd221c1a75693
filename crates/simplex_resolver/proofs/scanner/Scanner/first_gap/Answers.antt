use Rattle.std.proofs.Common.{◌≡◌, arith, false, true, rules}
use Rattle.simplex_resolver.proofs.Gaps.{both_first}
use Rattle.simplex_resolver.proofs.scanner.Scanner.first_gap.Goals as goal

pub returns-then-not-self : goal.returns-then-not-self
returns-then-not-self c = λ v past gap.
    let on = gap.0 in
    let off : c.args.self.now.live ≡ false = search rules in
    grind (arith, on, off)

pub returns : goal.returns
returns c =
    let on : c.args.self.now.live ≡ true = search rules in
    rw c.earlier.ensures (both_first c.args.self.now c.args.last c.first_anchor.result c.first_failed.result c.first_anchor.ensures c.first_failed.ensures on)
