use Rattle.std.proofs.Common.{◌≡◌, ◌∷◌, [], length, ap, arith, rules}
use Rattle.simplex_resolver.specs.Gaps.{gaps_behind}
use Rattle.simplex_resolver.proofs.Gaps.{gaps_end, gaps_step}
use Rattle.simplex_resolver.proofs.outstanding.OutstandingIterator.next.Goals as goal

pub returns-in-Some-clause-steps : goal.returns-in-Some-clause-steps
returns-in-Some-clause-steps c = rw (← c.self.view_is) (gaps_step c.self.inside.scanner.now c.self.inside.last c.in-Some.view c.in-Some.ensures)

pub returns-in-Some-clause-goes : goal.returns-in-Some-clause-goes
returns-in-Some-clause-goes c =
    let step : c.args.self.now ≡ c.in-Some.view ∷ gaps_behind c.self.inside.scanner.now c.in-Some.view = rw (← c.self.view_is) (gaps_step c.self.inside.scanner.now c.self.inside.last c.in-Some.view c.in-Some.ensures) in
    let shorter = ap length step in search rules

pub returns-in-None-clause-steps : goal.returns-in-None-clause-steps
returns-in-None-clause-steps c =
    let none : c.args.self.now ≡ [] = rw (← c.self.view_is) (gaps_end c.self.inside.scanner.now c.self.inside.last c.in-None.ensures) in
    (none, none)
