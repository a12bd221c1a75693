use Rattle.std.proofs.Common.{◌-◌, ◌^◌, arith}
use Rattle.std.proofs.lemmas.List.Elements.{All-weaker}
use Rattle.types_codec.specs.Codec.{Readable}
use Rattle.journal_single.specs.OneReading.{spellings-one}
use Rattle.journal_single.specs.Record.{FitsBelow}
use Rattle.simplex_journal.specs.PairHistory.{disks_of}
use Rattle.simplex_journal.proofs.Histories.{opened_stands, open_failed_stands, open_failed_comes}
use Rattle.simplex_journal.proofs.history.Stage.open.Goals as goal

pub returns-in-Ok-clause-stands : goal.returns-in-Ok-clause-stands
returns-in-Ok-clause-stands g c = λ k given history at.
    let Fits = Readable g.M.Write.fits (g.M.Read.within 65535) in
    let Short = FitsBelow (2 ^ 32 - 1) Fits g.M.Write.spelling in
    let done = c.in-Ok.ensures in
    opened_stands Short g.M.Write.spelling g.K.Disk.seen g.K.Disk.calls given
    (λ xs ys all others same. spellings-one (g.met.M.Read.one_spelling 65535 (omega arith)) xs ys (All-weaker Short Fits (λ m both. both.0) xs all) (All-weaker Short Fits (λ m both. both.0) ys others) same)
    c.args.self history c.into_disks-first.result.0 c.into_disks-first.result.1 c.in-Ok.pair c.in-Ok.messages c.into_disks-first.ensures.first c.into_disks-first.ensures.second done.readable (done.record k) (done.found k) (done.any_moment k) at

pub returns-in-Err-clause-stands : goal.returns-in-Err-clause-stands
returns-in-Err-clause-stands g c = λ k given history at.
    let Short = FitsBelow (2 ^ 32 - 1) (Readable g.M.Write.fits (g.M.Read.within 65535)) g.M.Write.spelling in
    let done = c.in-Err.ensures in
    open_failed_stands Short g.M.Write.spelling g.K.Disk.seen g.K.Disk.calls given c.args.self history c.into_disks-first.result.0 c.into_disks-first.result.1 c.in-Err.first c.in-Err.second c.in-Err.fault c.into_disks-first.ensures.first c.into_disks-first.ensures.second
    (done.any_moment_of_a_fault k) (g.met.K.Disk.seen_is_left c.into_disks-first.result.0 k) (g.met.K.Disk.seen_is_left c.into_disks-first.result.1 k) (λ place is. done.foreign place is k) at

pub returns-in-Err-clause-comes : goal.returns-in-Err-clause-comes
returns-in-Err-clause-comes g c =
    let Short = FitsBelow (2 ^ 32 - 1) (Readable g.M.Write.fits (g.M.Read.within 65535)) g.M.Write.spelling in
    let done = c.in-Err.ensures in
    open_failed_comes Short g.M.Write.spelling g.K.Disk.keeps g.K.Disk.seen g.K.Disk.calls g.K.Crash.crashed g.K.Disk.failed (disks_of c.args.self) c.into_disks-first.result.0 c.into_disks-first.result.1 c.in-Err.first c.in-Err.second c.in-Err.fault
    c.into_disks-first.ensures.first c.into_disks-first.ensures.second done.device done.no_fault_of_others done.untouched (λ place is k. done.foreign place is k)
