use Rattle.std.proofs.Common.{◌≡◌, filter}
use Rattle.std.specs.List.{range_with_len}
use Rattle.voter_history.specs.Leaders.{leader}
use Rattle.simplex_member.specs.Layers.{voter_of, votes_of}
use Rattle.node_core.specs.Entering.{gets}
use Rattle.node_core.specs.Keeps.{AtAll}
use Rattle.node_core.proofs.node_state.Core.recipients.Given as goal

-- those who get it among the members seen so far
abbrev pub invariant-loop-index : goal.invariant-loop-index
invariant-loop-index g l = AtAll g.S.Scheme g.L.Elector g.K.Disk l.fn.self (λ f s h. f.same ≡ g.D.PartialEq.eq → l.who.items ≡ filter (gets f.same s.me s.forward (leader s.voter (voter_of s h) l.fn.entered) (votes_of s h l.fn.before) l.fn.proposal) (range_with_len 0 l.index))
