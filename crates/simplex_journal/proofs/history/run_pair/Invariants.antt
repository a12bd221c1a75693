use Rattle.std.proofs.Common.{◌≡◌, ◌≤◌, ◌++◌, ◌-◌, ◌^◌, length, map}
use Rattle.std.specs.Prelude.{All, reverse, vec_capacity}
use Rattle.types_codec.specs.Codec.{Readable}
use Rattle.journal_single.specs.Record.{FitsBelow}
use Rattle.simplex_journal.specs.PairHistory.{OfMessages, request_of, AtEachEvent, IsAnswer, IsStage, disks_of, Stands, CameBy}
use Rattle.simplex_journal.proofs.history.run_pair.Given as goal

-- what was asked so far has led here
abbrev pub invariant-loop-request : goal.invariant-loop-request
invariant-loop-request g l =
    let Short = FitsBelow (2 ^ 32 - 1) (Readable g.M.Write.fits (g.M.Read.within 65535)) g.M.Write.spelling in
    record {
      asked : map request_of l.events.items ++ l.request-iterator.rest.items ≡ l.fn.requests.items;
      room : length l.fn.requests.items ≤ vec_capacity l.events;
      fitting : All (OfMessages (g.M.Read.within 65535)) l.request-iterator.rest.items;
      answers : AtEachEvent IsAnswer (reverse l.events.items);
      came : CameBy Short g.M.Write.spelling g.K.Disk.keeps g.K.Disk.seen g.K.Disk.calls g.K.Crash.crashed g.K.Disk.failed (record { first = l.fn.first; second = l.fn.second }) (reverse l.events.items) (disks_of l.stage);
      stage : IsStage l.stage (reverse l.events.items);
      stands : g.K.Disk.keeps → Stands Short g.M.Write.spelling g.K.Disk.seen g.K.Disk.calls (record { first = g.K.Disk.calls l.fn.first; second = g.K.Disk.calls l.fn.second }) l.stage (reverse l.events.items);
    }
