use Rattle.std.proofs.lemmas.Option.{IfSome_then}
use Rattle.simplex_member.specs.Layers.{stage, votes_of}
use Rattle.node_votes.specs.KeepsVotes.{Keeps, common_part}
use Rattle.node_votes.proofs.Advancing.{does, none-is-due}
use Rattle.node_votes.proofs.Answering.{still}
use Rattle.node_votes.proofs.acceptance.Acceptance.next_due.Goals as goal

pub returns-in-Ok-clause-done : goal.returns-in-Ok-clause-done
unfolding Keeps
returns-in-Ok-clause-done g c = IfSome_then c.in-Ok.due c.in-Ok.ensures.done
    (λ x f s h k. does g.S.Scheme g.D.PartialEq.eq s c.args.self.now h k c.next_due.new.self x.0 x.1 (f (common_part s) (stage s h) (votes_of s h) k.rounds))

pub returns-in-Ok-clause-readable : goal.returns-in-Ok-clause-readable
unfolding Keeps
returns-in-Ok-clause-readable g c = IfSome_then c.in-Ok.due c.in-Ok.ensures.readable
    (λ x f s h k. f (common_part s) (stage s h) (votes_of s h) k.rounds)

pub returns-in-Ok-clause-none : goal.returns-in-Ok-clause-none
unfolding Keeps
returns-in-Ok-clause-none g c = λ is s h k.
    let rest = c.in-Ok.ensures.none is (common_part s) (stage s h) (votes_of s h) k.rounds in
    (none-is-due g.S.Scheme g.D.PartialEq.eq s h rest.0, still g.S.Scheme g.D.PartialEq.eq s c.args.self.now h k c.next_due.new.self rest.1)

pub returns-in-Err-clause-err : goal.returns-in-Err-clause-err
unfolding Keeps
returns-in-Err-clause-err g c = λ s h k. still g.S.Scheme g.D.PartialEq.eq s c.args.self.now h k c.next_due.new.self (c.in-Err.ensures.err (common_part s) (stage s h) (votes_of s h) k.rounds)
