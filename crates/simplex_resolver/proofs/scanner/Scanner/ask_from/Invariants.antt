use Rattle.std.proofs.Common.{◌≤◌, ◌<◌, ◌-◌, ◌+◌}
use Rattle.simplex_resolver.specs.Keeps.{AtEachScan}
use Rattle.simplex_resolver.proofs.Anchors.{Asked}
use Rattle.simplex_resolver.proofs.scanner.Scanner.ask_from.Given as goal

abbrev pub invariant-gaps : goal.invariant-gaps
invariant-gaps l = record {
  above : l.self.floor < l.from;
  asked : AtEachScan l.self (λ views h. Asked views h l.cause l.fn.start l.fn.effects.items l.effects.items l.from);
}

abbrev pub decreases-gaps : goal.decreases-gaps
decreases-gaps l = l.self.current - l.from
