use Rattle.std.proofs.Common.{◌≤◌, ◌-◌, ◌^◌, List}
use Rattle.voter_history.specs.History.{Setup, Point, current}
use Rattle.simplex_state.specs.Resuming.{first_looked}
use Rattle.simplex_state.specs.State.{Keeps}
use Rattle.simplex_state.proofs.Looking.{Looked}
use Rattle.simplex_state.proofs.state.State.first_wanted.Given as goal

abbrev pub invariant-views : goal.invariant-views
invariant-views g l = record {
  from : l.fn.from ≤ l.next;
  looks : (s : Setup g.row.S.Denot g.row.S-Certificate.Denot) (h : List (Point g.row.S.Denot g.row.D.Denot g.row.S-PublicKey.Denot g.row.S-Signature.Denot g.row.S-Certificate.Denot))
      → Keeps g.S.Scheme g.L.Elector s l.fn.self h
      → (end : List (Point g.row.S.Denot g.row.D.Denot g.row.S-PublicKey.Denot g.row.S-Signature.Denot g.row.S-Certificate.Denot)) × (current s h ≤ l.next) × Looked s l.now h (first_looked s h l.fn.from) l.next end × Keeps g.S.Scheme g.L.Elector s l.self end;
}

abbrev pub decreases-views : goal.decreases-views
decreases-views g l = 2 ^ 64 - l.next
