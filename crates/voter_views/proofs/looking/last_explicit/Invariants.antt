use Rattle.std.proofs.Common.{◌≡◌, ◌≤◌, ◌<◌, ℕ, List}
use Rattle.std.specs.Prelude.{None}
use Rattle.voter_history.specs.History.{Setup, Point}
use Rattle.voter_history.specs.Known.{known}
use Rattle.voter_views.specs.Views.{Keeps}
use Rattle.voter_rules.specs.Ancestry.{explicit, member}
use Rattle.voter_views.proofs.looking.last_explicit.Given as goal

abbrev pub invariant-views : goal.invariant-views
invariant-views g l = record {
  within : l.end ≤ l.view;
  bare : (s : Setup g.row.S.Denot g.row.S-Certificate.Denot) (h : List (Point g.row.S.Denot g.row.D.Denot g.row.S-PublicKey.Denot g.row.S-Signature.Denot g.row.S-Certificate.Denot))
      → Keeps g.S.Scheme g.L.Elector s l.views h → (u : ℕ) → l.end ≤ u → u < l.view → 0 < u → explicit (member s) (known s h) u ≡ None;
}

abbrev pub decreases-views : goal.decreases-views
decreases-views g l = l.end
