use Rattle.std.proofs.Common.{ℕ}
use Rattle.voter_rounds.specs.Tracked.{Frame, Holds, Tables, count, forgotten}
use Rattle.voter_views.proofs.Pruning.{IsPart}
use Rattle.voter_views.proofs.views.pruning.clear_below.Given as goal

abbrev pub invariant-loop-entry : goal.invariant-loop-entry
invariant-loop-entry g l = (f : Frame g.row.S.Denot) (t : Tables g.row.S.Denot g.row.D.Denot g.row.S-PublicKey.Denot g.row.S-Signature.Denot g.row.S-Certificate.Denot)
    → Holds g.S.Scheme f l.fn.tracked t → (end : ℕ) × Holds g.S.Scheme f l.tracked (forgotten end t) × IsPart t l.first l.floor l.fn.reaching l.reaching l.views.items end

abbrev pub decreases-loop-entry : goal.decreases-loop-entry
decreases-loop-entry g l = count l.tracked
