use Rattle.std.proofs.Common.{All}
use Rattle.simplex_journal.specs.PairHistory.{OfMessages}
use Rattle.run_pair.proofs.pair_history.requests.Given as goal

-- the requests read so far are of messages that can be read again
abbrev pub invariant-loop : goal.invariant-loop
invariant-loop g l = All (OfMessages (g.M.Read.within 65535)) l.requests.items
