use Rattle.std.proofs.Common.{refl}
use Rattle.voter_rounds.specs.Rounds.{setup_of}
use Rattle.voter_rounds.proofs.Lent.{lent-learn}
use Rattle.voter_rounds.proofs.Tables.{is-named}
use Rattle.voter_rounds.proofs.rounds.Rounds.learn.Goals as goal

pub returns-clause-keeps : goal.returns-clause-keeps
returns-clause-keeps g c = λ s led past k member.
    let here = c.in_ok-open.ensures.stands s led past k in
    let follows = c.open.follows.holds c.learn_leader.new.self (rw c.in_ok-open.was refl) in
    lent-learn s led past c.args.leader follows k (c.learn_leader.ensures.member (setup_of s c.args.view) _ _ here member) (is-named (led c.args.view) c.args.leader)

pub returns-clause-answer : goal.returns-clause-answer
returns-clause-answer g c = λ s led past k. c.learn_leader.ensures.answer (setup_of s c.args.view) _ _ (c.in_ok-open.ensures.stands s led past k)
