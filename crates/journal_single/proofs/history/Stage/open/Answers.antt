use Rattle.std.proofs.Common.{arith}
use Rattle.journal_single.proofs.Histories.{opened_stands, open_failed_stands}
use Rattle.journal_single.proofs.history.Stage.open.Goals as goal

pub returns-in-Ok-clause-stands : goal.returns-in-Ok-clause-stands
returns-in-Ok-clause-stands g c = λ k given history at.
    let done = c.in-Ok.ensures in
    opened_stands _ _ _ _ _ (g.met.M.Read.one_spelling 65535 (omega arith)) c.args.self history c.into_disk.result c.in-Ok.journal c.in-Ok.messages c.into_disk.ensures done.readable (done.record k) (done.found k) (done.any_moment k) at

pub returns-in-Err-clause-stands : goal.returns-in-Err-clause-stands
returns-in-Err-clause-stands g c = λ k given history at.
    open_failed_stands _ _ _ _ _ c.args.self history c.into_disk.result c.in-Err.disk c.in-Err.fault c.into_disk.ensures (c.in-Err.ensures.any_moment_of_a_fault k)
    (g.met.K.Disk.seen_is_left c.in-Err.disk k) (λ place is. c.in-Err.ensures.foreign place is k) at
