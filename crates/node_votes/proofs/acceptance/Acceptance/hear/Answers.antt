use Rattle.std.proofs.Common.{◌≡◌, true, false, refl}
use Rattle.simplex_messages.specs.VoteParts.{vote_round}
use Rattle.simplex_member.specs.Layers.{floor_of, stage, votes_of}
use Rattle.node_votes.specs.KeepsVotes.{Keeps, common_part}
use Rattle.node_votes.proofs.Answering.{admitted-now, heard, shut-open, still}
use Rattle.node_votes.proofs.acceptance.Acceptance.hear.Goals as goal

pub returns-then-not-is_open_to-clause-added : goal.returns-then-not-is_open_to-clause-added
returns-then-not-is_open_to-clause-added g c = λ s h k fits. absurd (cc ((c.is_open_to.ensures s h k).1 (rw c.view-view.ensures (fits.kept, fits.room)), c.if-not-is_open_to.true))

pub returns-then-not-is_open_to-clause-block : goal.returns-then-not-is_open_to-clause-block
returns-then-not-is_open_to-clause-block g c = λ s h k fits. absurd (cc ((c.is_open_to.ensures s h k).1 (rw c.view-view.ensures (fits.kept, fits.room)), c.if-not-is_open_to.true))

pub returns-then-not-is_open_to-clause-report : goal.returns-then-not-is_open_to-clause-report
returns-then-not-is_open_to-clause-report g c = λ s h k fits. absurd (cc ((c.is_open_to.ensures s h k).1 (rw c.view-view.ensures (fits.kept, fits.room)), c.if-not-is_open_to.true))

pub returns-in-Ok-clause-added : goal.returns-in-Ok-clause-added
unfolding Keeps
returns-in-Ok-clause-added g c = λ s h k fits. (admitted-now g.S.Scheme g.D.PartialEq.eq s c.args.self.now h k c.take_vote.new.self c.args.sender c.args.vote c.in-Ok.admission (c.in-Ok.ensures.admitted (common_part s) (stage s h) (votes_of s h) k.rounds)).added

pub returns-in-Ok-clause-block : goal.returns-in-Ok-clause-block
unfolding Keeps
returns-in-Ok-clause-block g c = λ s h k fits. (admitted-now g.S.Scheme g.D.PartialEq.eq s c.args.self.now h k c.take_vote.new.self c.args.sender c.args.vote c.in-Ok.admission (c.in-Ok.ensures.admitted (common_part s) (stage s h) (votes_of s h) k.rounds)).block

pub returns-in-Ok-clause-report : goal.returns-in-Ok-clause-report
unfolding Keeps
returns-in-Ok-clause-report g c = λ s h k fits. (admitted-now g.S.Scheme g.D.PartialEq.eq s c.args.self.now h k c.take_vote.new.self c.args.sender c.args.vote c.in-Ok.admission (c.in-Ok.ensures.admitted (common_part s) (stage s h) (votes_of s h) k.rounds)).report

pub returns-in-Ok-clause-heard : goal.returns-in-Ok-clause-heard
unfolding Keeps
returns-in-Ok-clause-heard g c = λ yes s h k.
    let fits = rw c.view-view.ensures at ((c.is_open_to.ensures s h k).0 c.if-not-is_open_to.false) in
    heard g.S.Scheme g.D.PartialEq.eq s c.args.self.now h k c.take_vote.new.self c.args.vote fits.0 fits.1 ((admitted-now g.S.Scheme g.D.PartialEq.eq s c.args.self.now h k c.take_vote.new.self c.args.sender c.args.vote c.in-Ok.admission (c.in-Ok.ensures.admitted (common_part s) (stage s h) (votes_of s h) k.rounds)).taken yes)

pub returns-in-Ok-clause-refused : goal.returns-in-Ok-clause-refused
unfolding Keeps
returns-in-Ok-clause-refused g c = λ no s h k. still g.S.Scheme g.D.PartialEq.eq s c.args.self.now h k c.take_vote.new.self ((admitted-now g.S.Scheme g.D.PartialEq.eq s c.args.self.now h k c.take_vote.new.self c.args.sender c.args.vote c.in-Ok.admission (c.in-Ok.ensures.admitted (common_part s) (stage s h) (votes_of s h) k.rounds)).passed no)

pub returns-in-Err-clause-fault : goal.returns-in-Err-clause-fault
unfolding Keeps
returns-in-Err-clause-fault g c = λ s h k epoch. c.in-Err.ensures.refused (common_part s) (stage s h) (votes_of s h) k.rounds epoch

pub returns-in-Err-clause-err : goal.returns-in-Err-clause-err
unfolding Keeps
returns-in-Err-clause-err g c = λ s h k. still g.S.Scheme g.D.PartialEq.eq s c.args.self.now h k c.take_vote.new.self (c.in-Err.ensures.err (common_part s) (stage s h) (votes_of s h) k.rounds)

pub returns-then-not-is_open_to-clause-shut : goal.returns-then-not-is_open_to-clause-shut
returns-then-not-is_open_to-clause-shut g c = λ s h k shut. (refl, refl, refl)

pub returns-in-Ok-clause-shut : goal.returns-in-Ok-clause-shut
returns-in-Ok-clause-shut g c = λ s h k shut. absurd (shut-open (floor_of s h) (vote_round c.args.vote).view shut (rw c.view-view.ensures at ((c.is_open_to.ensures s h k).0 c.if-not-is_open_to.false)))
