use Rattle.std.proofs.Common.{◌≤◌, ◌-◌, ◌^◌}
use Rattle.simplex_resolver.specs.RepairHistory.{floor}
use Rattle.simplex_resolver.specs.Keeps.{AtEachScan}
use Rattle.simplex_resolver.proofs.Anchors.{Found}
use Rattle.simplex_resolver.proofs.scanner.Scanner.ask_for_failed.Given as goal

abbrev pub invariant-loop-view : goal.invariant-loop-view
invariant-loop-view l = record {
  from : l.self.floor ≤ l.last;
  found : AtEachScan l.self (λ views h. Found views h (floor h) l.fn.effects.items l.effects.items l.last);
}

abbrev pub decreases-loop-view : goal.decreases-loop-view
decreases-loop-view l = 2 ^ 64 - l.last
