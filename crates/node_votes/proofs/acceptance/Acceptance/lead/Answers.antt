use Rattle.simplex_member.specs.Layers.{stage, votes_of}
use Rattle.node_votes.specs.KeepsVotes.{Keeps, common_part}
use Rattle.node_votes.proofs.Answering.{led, still}
use Rattle.node_votes.proofs.acceptance.Acceptance.lead.Goals as goal

pub returns-in-Ok-clause-led : goal.returns-in-Ok-clause-led
unfolding Keeps
returns-in-Ok-clause-led g c = λ s h k some none. led g.S.Scheme g.D.PartialEq.eq s c.args.self.now h k c.lead.new.self c.args.view c.args.leader some (c.in-Ok.ensures.led (common_part s) (stage s h) (votes_of s h) k.rounds some none)

pub returns-in-Ok-clause-again : goal.returns-in-Ok-clause-again
unfolding Keeps
returns-in-Ok-clause-again g c = λ s h k known. still g.S.Scheme g.D.PartialEq.eq s c.args.self.now h k c.lead.new.self (c.in-Ok.ensures.again (common_part s) (stage s h) (votes_of s h) k.rounds known)

pub returns-in-Err-clause-fault : goal.returns-in-Err-clause-fault
unfolding Keeps
returns-in-Err-clause-fault g c = λ s h k none. c.in-Err.ensures.refused (common_part s) (stage s h) (votes_of s h) k.rounds none

pub returns-in-Err-clause-err : goal.returns-in-Err-clause-err
unfolding Keeps
returns-in-Err-clause-err g c = λ s h k. still g.S.Scheme g.D.PartialEq.eq s c.args.self.now h k c.lead.new.self (c.in-Err.ensures.err (common_part s) (stage s h) (votes_of s h) k.rounds)
