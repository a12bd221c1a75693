use Rattle.std.proofs.Common.{◌≤◌, ◌<◌, ◌-◌, ℕ}
use Rattle.simplex_resolver.specs.Gaps.{IsAnchorGap}
use Rattle.simplex_resolver.proofs.scanner.Scanner.first_anchor.Given as goal

abbrev pub invariant-loop-first : goal.invariant-loop-first
invariant-loop-first l = record {
  behind : l.fn.last ≤ l.before;
  above : l.self.floor ≤ l.before;
  none : (v : ℕ) → l.fn.last < v → v ≤ l.before → ¬ IsAnchorGap l.self v;
}

abbrev pub decreases-loop-first : goal.decreases-loop-first
decreases-loop-first l = l.self.current - l.before
