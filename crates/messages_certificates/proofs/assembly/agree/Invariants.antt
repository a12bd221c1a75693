use Rattle.std.proofs.Common.{◌≡◌, ◌<◌, ℕ, get_or}
use Rattle.messages_certificates.proofs.assembly.agree.Given as goal

-- each vote so far is on the first one's content
abbrev pub invariant-loop-vote : goal.invariant-loop-vote
invariant-loop-vote g l = (k : ℕ) (d : g.row.V.Denot) → k < l.vote-index → g.V.Attested.content_of (get_or l.votes k d) ≡ g.V.Attested.content_of l.first
