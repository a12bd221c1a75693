use Rattle.std.proofs.Common.{arith}
use Rattle.simplex_resolver.proofs.Choices.{if_some-map, if_none-map}
use Rattle.simplex_resolver.proofs.held.Held.first_missing.Goals as goal

pub returns-clause-least : goal.returns-clause-least
returns-clause-least c = if_some-map c.first_uncovered.result (λ missing is views h k v above from below.
    let value = c.get.ensures.value in
    let before = c.new-before.ensures in
    let some = c.requires in
    (k.covered_is v (omega (arith, above, from))).0 (is.least v (omega (arith, from, value, before, some)) below)) c.first_uncovered.ensures.first

pub returns-clause-none : goal.returns-clause-none
returns-clause-none c = if_none-map c.first_uncovered.result (λ are views h k v above from below.
    let value = c.get.ensures.value in
    let before = c.new-before.ensures in
    let some = c.requires in
    (k.covered_is v (omega (arith, above, from))).0 (are v (omega (arith, from, value, before, some)) below)) c.first_uncovered.ensures.none
