use Rattle.std.proofs.Common.{All}
use Rattle.run_pair.proofs.session.messages.Given as goal

-- the messages read so far can be read again
abbrev pub invariant-loop : goal.invariant-loop
invariant-loop g l = All (g.M.Read.within 65535) l.list.items
