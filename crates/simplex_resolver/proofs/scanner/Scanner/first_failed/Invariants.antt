use Rattle.std.proofs.Common.{◌≤◌, ◌<◌, ◌-◌, ◌^◌, ℕ}
use Rattle.simplex_resolver.specs.Gaps.{IsFailedGap}
use Rattle.simplex_resolver.proofs.scanner.Scanner.first_failed.Given as goal

abbrev pub invariant-loop-view : goal.invariant-loop-view
invariant-loop-view l = record {
  behind : l.fn.last ≤ l.above;
  floor : l.self.floor ≤ l.above;
  none : (v : ℕ) → l.fn.last < v → v ≤ l.above → ¬ IsFailedGap l.self v;
}

abbrev pub decreases-loop-view : goal.decreases-loop-view
decreases-loop-view l = 2 ^ 64 - l.above
