use Rattle.std.proofs.Common.{◌≡◌, ◌≤◌, ◌++◌, length, map}
use Rattle.std.specs.Prelude.{All, reverse, vec_capacity}
use Rattle.types_codec.specs.Codec.{Readable}
use Rattle.journal_single.specs.History.{OfMessage, request_of, AtEachEvent, IsAnswer, IsStage, disk_of, failures_told, Stands, CameBy}
use Rattle.journal_single.proofs.history.run.Given as goal

-- what was asked so far has led here
abbrev pub invariant-loop-request : goal.invariant-loop-request
invariant-loop-request g l = record {
  asked : map request_of l.events.items ++ l.request-iterator.rest.items ≡ l.fn.requests.items;
  room : length l.fn.requests.items ≤ vec_capacity l.events;
  fitting : All (OfMessage (g.M.Read.within 65535)) l.request-iterator.rest.items;
  answers : AtEachEvent IsAnswer (reverse l.events.items);
  failures : g.K.Disk.failed (disk_of l.stage) ≡ failures_told (g.K.Disk.failed l.fn.disk) (reverse l.events.items);
  came : CameBy g.M.Write.spelling g.K.Disk.keeps g.K.Disk.calls g.K.Crash.crashed g.K.Disk.failed l.fn.disk (reverse l.events.items) (disk_of l.stage);
  stage : IsStage l.stage (reverse l.events.items);
  stands : g.K.Disk.keeps → Stands (Readable g.M.Write.fits (g.M.Read.within 65535)) g.M.Write.spelling g.K.Disk.seen g.K.Disk.calls (g.K.Disk.calls l.fn.disk) l.stage (reverse l.events.items);
}
