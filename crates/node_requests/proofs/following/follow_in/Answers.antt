use Rattle.std.proofs.lemmas.Bool.{both_ways}
use Rattle.simplex_member.specs.Layers.{voter_of}
use Rattle.node_requests.proofs.GivenUp.{follows}
use Rattle.node_requests.proofs.following.follow_in.Goals as goal

pub returns-then-not-is_left_by_leader-clause-follows : goal.returns-then-not-is_left_by_leader-clause-follows
returns-then-not-is_left_by_leader-clause-follows g c = λ s h f me now k a.
    (λ due. both_ways c.is_left_by_leader.result c.if-not-is_left_by_leader.true ((c.is_left_by_leader.ensures s h f me k a).1 due.there), k)

pub returns-in-Ok-clause-follows : goal.returns-in-Ok-clause-follows
returns-in-Ok-clause-follows g c = λ s h f me now k a.
    follows g.S.Scheme f s h g.L.Elector c.trigger_timeout.new.self c.in-Ok.first c.args.now c.args.view now
    ((c.is_left_by_leader.ensures s h f me k a).0 c.if-not-is_left_by_leader.false) (c.in-Ok.ensures.answer s.voter (voter_of s h) k) (c.in-Ok.ensures.keeps s.voter (voter_of s h) k) (λ none. c.in-Ok.ensures.unchanged none s.voter (voter_of s h) k)

-- its leader gave it up
pub returns-in-Err-clause-without_memory : goal.returns-in-Err-clause-without_memory
returns-in-Err-clause-without_memory g c = λ s h f me k a stays.
    absurd (stays ((c.is_left_by_leader.ensures s h f me k a).0 c.if-not-is_left_by_leader.false))
