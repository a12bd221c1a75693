use Rattle.std.proofs.Common.{◌≡◌, ◌<◌, ◌≤◌, ◌+◌, ◌⊎◌, inl, inr, arith}
use Rattle.std.proofs.lemmas.Bool.Decides.{nat_tests}
use Rattle.types_core.specs.Positions.{IsTermStart}
use Rattle.simplex_resolver.specs.Gaps.{IsAnchorGap}
use Rattle.simplex_resolver.proofs.Gaps.{first_is_anchor, no_anchor, none_further}
use Rattle.simplex_resolver.proofs.TermStarts.{room-term, term_end-ge}
use Rattle.simplex_resolver.proofs.scanner.Scanner.first_anchor.Goals as goal

pub returns-then-ge : goal.returns-then-ge
returns-then-ge c = λ v past a. let below = a.below in let high : c.args.self.now.current ≤ c.args.last = grind (arith, nat_tests) in absurd (omega (arith, below, past, high))

pub before_anchors-before-requires : goal.before_anchors-before-requires
before_anchors-before-requires c = grind (arith, nat_tests)

pub loop-first-init : goal.loop-first-init
loop-first-init c = record {
  behind = c.before_anchors-before.ensures.behind;
  above = c.before_anchors-before.ensures.above;
  none = c.before_anchors-before.ensures.none;
}

pub returns-then-is_anchor : goal.returns-then-is_anchor
returns-then-is_anchor c = first_is_anchor c.args.self.now c.args.last c.loop-first.before c.in-Some.first c.loop-first.invariant.above c.loop-first.invariant.behind
    c.loop-first.invariant.none c.in-Some.ensures.first (c.is_anchor.ensures.0 c.if-is_anchor.true)

pub term_end-before-requires : goal.term_end-before-requires
term_end-before-requires c =
    let below = c.in-Some.ensures.first.before in
    let room = room-term c.args.self.now.held.length c.args.self.now.some c.in-Some.first c.args.self.now.current c.args.self.now.current_room (omega (arith, below)) in
    omega (arith, room)

pub loop-first-preserved : goal.loop-first-preserved
loop-first-preserved c =
    let behind = c.loop-first.invariant.behind in
    let above = c.loop-first.invariant.above in
    let after = c.in-Some.ensures.first.after in
    let to = term_end-ge c.args.self.now.held.length c.args.self.now.some c.in-Some.first in
    let end = c.term_end-before.ensures in
    let other : (c.in-Some.first ≡ c.args.self.now.floor + 1) ⊎ IsTermStart c.args.self.now.held.length c.in-Some.first → ⊥ = λ anchor.
    let yes = c.is_anchor.ensures.1 anchor in
    let no_one = c.if-is_anchor.false in
    grind (arith, yes, no_one) in
    record {
      behind = omega (arith, behind, after, to, end);
      above = omega (arith, above, after, to, end);
      none = none_further c.args.self.now c.args.last c.args.self.now.some c.loop-first.before c.in-Some.first c.term_end-before.result above c.loop-first.invariant.none
          c.in-Some.ensures.first (λ e. other (inl e)) (λ term. other (inr term)) end;
    }

pub returns : goal.returns
returns c = no_anchor c.args.self.now c.args.last c.loop-first.before c.loop-first.invariant.none c.in_default.ensures.none
