use Rattle.std.proofs.Common.{ℕ, List}
use Rattle.std.specs.BTreeSet.{btree_set_len}
use Rattle.voter_history.specs.History.{Setup, Point}
use Rattle.voter_history.specs.Known.{known}
use Rattle.voter_views.specs.Views.{Keeps}
use Rattle.voter_rules.specs.Ancestry.{member}
use Rattle.simplex_state.specs.Candidates.{AreAmong}
use Rattle.simplex_state.proofs.Sorting.{IsLookedAt}
use Rattle.simplex_state.proofs.state.certifying.look_at.Given as goal

abbrev pub invariant-loop-view : goal.invariant-loop-view
invariant-loop-view g l =
    (s : Setup g.row.S.Denot g.row.S-Certificate.Denot) (h : List (Point g.row.S.Denot g.row.D.Denot g.row.S-PublicKey.Denot g.row.S-Signature.Denot g.row.S-Certificate.Denot))
    → Keeps g.S.Scheme g.L.Elector s l.views h → AreAmong s h l.fn.candidates → (end : ℕ) × IsLookedAt (member s) (known s h) end l.found l.rest

abbrev pub decreases-loop-view : goal.decreases-loop-view
decreases-loop-view g l = btree_set_len l.rest
