use Rattle.journal_single.specs.LookingLaws.{kept_leaves, looked_leaves}
use Rattle.journal_single.proofs.journal.Journal.open.Goals as goal

pub returns-in-Err-clause-any_moment_of_a_fault : goal.returns-in-Err-clause-any_moment_of_a_fault
returns-in-Err-clause-any_moment_of_a_fault g c = λ k. looked_leaves (g.met.K.Disk.seen_is_left c.args.disk k) (c.in-Err.ensures.synced_at_most k)

pub returns-in-Ok-keep-clause-any_moment : goal.returns-in-Ok-keep-clause-any_moment
returns-in-Ok-keep-clause-any_moment g c = λ k.
    let looked = c.in-Ok.ensures in
    kept_leaves (g.met.K.Disk.seen_is_left c.args.disk k) (looked.untouched k).asked (looked.reading k) (c.in-Ok-keep.ensures.any_moment c.in-Ok.messages.items k (looked.found k))

pub returns-in-Err-keep-clause-any_moment_of_a_fault : goal.returns-in-Err-keep-clause-any_moment_of_a_fault
returns-in-Err-keep-clause-any_moment_of_a_fault g c = λ k.
    let looked = c.in-Ok.ensures in
    kept_leaves (g.met.K.Disk.seen_is_left c.args.disk k) (looked.untouched k).asked (looked.reading k) (c.in-Err-keep.ensures.any_moment_of_a_fault c.in-Ok.messages.items k (looked.found k))
