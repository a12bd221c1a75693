use Rattle.simplex_journal.proofs.Histories.{crashed_stands}
use Rattle.simplex_journal.proofs.history.Stage.crash.Goals as goal

pub returns-clause-stands : goal.returns-clause-stands
returns-clause-stands g c = λ k given history at.
    crashed_stands _ _ _ _ _ c.args.self history c.into_disks-first.result.0 c.into_disks-first.result.1 _ _ c.into_disks-first.ensures.first c.into_disks-first.ensures.second (c.crash.ensures.left k) (c.crash-2.ensures.left k) at
