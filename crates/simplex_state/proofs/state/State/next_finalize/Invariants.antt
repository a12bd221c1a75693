use Rattle.std.proofs.Common.{◌-◌, ◌^◌, List}
use Rattle.voter_history.specs.History.{Setup, Point}
use Rattle.voter_history.specs.Known.{known}
use Rattle.voter_rules.specs.Ancestry.{member}
use Rattle.voter_rules.specs.VotesDue.{FinalizeIsDue}
use Rattle.simplex_state.specs.State.{Keeps}
use Rattle.simplex_state.proofs.Owing.{NoneBelow}
use Rattle.simplex_state.proofs.state.State.next_finalize.Given as goal

abbrev pub invariant-views : goal.invariant-views
invariant-views g l =
    (s : Setup g.row.S.Denot g.row.S-Certificate.Denot) (h : List (Point g.row.S.Denot g.row.D.Denot g.row.S-PublicKey.Denot g.row.S-Signature.Denot g.row.S-Certificate.Denot))
    → Keeps g.S.Scheme g.L.Elector s l.self h → NoneBelow (FinalizeIsDue (member s) (known s h)) l.next

abbrev pub decreases-views : goal.decreases-views
decreases-views g l = 2 ^ 64 - l.next
