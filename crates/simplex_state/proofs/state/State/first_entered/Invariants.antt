use Rattle.std.proofs.Common.{◌≡◌, ◌≤◌, ◌<◌, ◌+◌, ◌-◌, ℕ, false, List}
use Rattle.std.specs.Prelude.{is_some}
use Rattle.voter_history.specs.Past as past
use Rattle.voter_history.specs.History.{Setup, Point, seen}
use Rattle.simplex_state.specs.State.{Keeps}
use Rattle.simplex_state.proofs.state.State.first_entered.Given as goal

abbrev pub invariant-views : goal.invariant-views
invariant-views g l = record {
  within : l.fn.from ≤ l.next;
  bare : (s : Setup g.row.S.Denot g.row.S-Certificate.Denot) (h : List (Point g.row.S.Denot g.row.D.Denot g.row.S-PublicKey.Denot g.row.S-Signature.Denot g.row.S-Certificate.Denot))
      → Keeps g.S.Scheme g.L.Elector s l.self h → (u : ℕ) → l.fn.from ≤ u → u < l.next → is_some (past.entered_at (seen s h u)) ≡ false;
}

abbrev pub decreases-views : goal.decreases-views
decreases-views g l = l.last + 1 - l.next
