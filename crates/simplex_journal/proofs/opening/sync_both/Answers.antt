use Rattle.journal_single.specs.Images.{fixes}
use Rattle.simplex_journal.proofs.opening.sync_both.Goals as goal

pub returns-in_err-sync-2-clause-first_left : goal.returns-in_err-sync-2-clause-first_left
returns-in_err-sync-2-clause-first_left g c = λ k. fixes _ _ _ (g.met.K.Disk.seen_is_left c.args.first.now k) (c.in_ok-sync.ensures.fixed k)

pub returns-clause-first_left : goal.returns-clause-first_left
returns-clause-first_left g c = λ k. fixes _ _ _ (g.met.K.Disk.seen_is_left c.args.first.now k) (c.in_ok-sync.ensures.fixed k)

pub returns-clause-second_left : goal.returns-clause-second_left
returns-clause-second_left g c = λ k. fixes _ _ _ (g.met.K.Disk.seen_is_left c.args.second.now k) (c.in_ok-sync-2.ensures.fixed k)
