use Rattle.std.proofs.Common.{All}
use Rattle.journal_single.specs.History.{OfMessage}
use Rattle.run_journal.proofs.history.requests.Given as goal

-- the requests read so far are of messages that can be read again
abbrev pub invariant-loop : goal.invariant-loop
invariant-loop g l = All (OfMessage (g.M.Read.within 65535)) l.requests.items
