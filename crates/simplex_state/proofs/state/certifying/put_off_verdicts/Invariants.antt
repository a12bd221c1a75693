use Rattle.std.proofs.Common.{List, take}
use Rattle.voter_history.specs.History.{Setup, Point}
use Rattle.voter_views.specs.Views.{Keeps}
use Rattle.simplex_state.specs.Candidates.{put_off}
use Rattle.simplex_state.proofs.state.certifying.put_off_verdicts.Given as goal

abbrev pub invariant-loop-view : goal.invariant-loop-view
invariant-loop-view g l =
    (s : Setup g.row.S.Denot g.row.S-Certificate.Denot) (h : List (Point g.row.S.Denot g.row.D.Denot g.row.S-PublicKey.Denot g.row.S-Signature.Denot g.row.S-Certificate.Denot))
    → Keeps g.S.Scheme g.L.Elector s l.fn.views h → Keeps g.S.Scheme g.L.Elector s l.views (put_off (take l.view-index l.waiting) h)
