use Rattle.std.proofs.Common.{◌≡◌, ◌≤◌, ◌-◌, ◌^◌, true}
use Rattle.std.specs.Prelude.{IfSome, MatchOption, option_map, unwrap_or}
use Rattle.std.specs.BTreeSet.{contains}
use Rattle.std.specs.Ordering.{nat_cmp}
use Rattle.node_votes.specs.Standing.{AreLedFrom, AtEach}
use Rattle.node_votes.proofs.Unled.{AreLedTo}
use Rattle.node_votes.proofs.rounds.Rounds.first_unled.Given as goal

abbrev pub invariant-views : goal.invariant-views
invariant-views g l = record {
  behind : IfSome l.found (λ view. l.fn.from ≤ view);
  there : IfSome l.found (λ view. contains nat_cmp l.self.unled view ≡ true);
  looks : AtEach g.S.Scheme g.D.PartialEq.eq l.self (λ s up happened. MatchOption l.found (AreLedFrom up happened l.fn.from) (λ view. AreLedTo up happened l.fn.from view));
}

abbrev pub decreases-views : goal.decreases-views
decreases-views g l = unwrap_or (option_map (λ view. 2 ^ 64 - view) l.found) 0
