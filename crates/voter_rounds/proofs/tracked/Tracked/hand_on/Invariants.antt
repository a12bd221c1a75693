use Rattle.std.proofs.Common.{◌≤◌, ◌-◌, ◌^◌, ℕ}
use Rattle.std.specs.Prelude.{Option}
use Rattle.voter_rounds.specs.Tracked.{Frame, Tables, Holds, IsBegun, inherits_by, handed_on}
use Rattle.voter_rounds.proofs.tracked.Tracked.hand_on.Given as goal

abbrev pub invariant-views : goal.invariant-views
invariant-views g l = record {
  after : l.fn.first ≤ l.view;
  holds : (f : Frame g.row.S.Denot) (t : Tables g.row.S.Denot g.row.D.Denot g.row.S-PublicKey.Denot g.row.S-Signature.Denot g.row.S-Certificate.Denot) → Holds g.S.Scheme f l.fn.self t
      → (here known : ℕ → Option ℕ) → IsBegun f t here known l.fn.first l.last → Holds g.S.Scheme f l.self (record t { led = handed_on here (inherits_by f t) known l.view });
}

abbrev pub decreases-views : goal.decreases-views
decreases-views g l = 2 ^ 64 - l.view
