use Rattle.std.proofs.Common.{◌≡◌, true, false, refl}
use Rattle.simplex_messages.specs.VoteParts.{vote_round}
use Rattle.simplex_member.specs.Layers.{floor_of, stage, votes_of}
use Rattle.node_votes.specs.KeepsVotes.{Keeps, common_part}
use Rattle.node_votes.proofs.Answering.{cast-found, cast-kept, cast-now, cast-unkept, found-unkept, low-where-shut, shut-open, still, why-now}
use Rattle.node_votes.proofs.acceptance.Acceptance.cast.Goals as goal

pub returns-then-not-is_open_to-clause-report : goal.returns-then-not-is_open_to-clause-report
returns-then-not-is_open_to-clause-report g c = λ s h k fits. absurd (cc ((c.is_open_to.ensures s h k).1 (rw c.view-view.ensures (fits.kept, fits.room)), c.if-not-is_open_to.true))

pub returns-then-not-is_open_to-clause-cast : goal.returns-then-not-is_open_to-clause-cast
returns-then-not-is_open_to-clause-cast g c = λ s h k fresh. cast-unkept g.S.Scheme g.D.PartialEq.eq s c.args.self.now h k c.args.vote (low-where-shut (floor_of s h) (vote_round c.args.vote).view (rw c.view-view.ensures at (c.is_open_to.ensures s h k)) c.if-not-is_open_to.true fresh.room)

pub returns-then-not-is_open_to-clause-found : goal.returns-then-not-is_open_to-clause-found
returns-then-not-is_open_to-clause-found g c = λ s h k fresh taken. found-unkept g.S.Scheme g.D.PartialEq.eq s c.args.self.now h k c.args.vote taken (low-where-shut (floor_of s h) (vote_round c.args.vote).view (rw c.view-view.ensures at (c.is_open_to.ensures s h k)) c.if-not-is_open_to.true fresh.room)

pub returns-in-Ok-clause-report : goal.returns-in-Ok-clause-report
unfolding Keeps
returns-in-Ok-clause-report g c = λ s h k fits. (cast-now g.S.Scheme g.D.PartialEq.eq s c.args.self.now h k c.cast.new.self c.args.vote c.in-Ok.report (c.in-Ok.ensures.cast (common_part s) (stage s h) (votes_of s h) k.rounds)).report_is

pub returns-in-Ok-clause-cast : goal.returns-in-Ok-clause-cast
unfolding Keeps
returns-in-Ok-clause-cast g c = λ s h k fresh. let fits = rw c.view-view.ensures at ((c.is_open_to.ensures s h k).0 c.if-not-is_open_to.false) in
    cast-kept g.S.Scheme g.D.PartialEq.eq s c.args.self.now h k c.cast.new.self c.args.vote fits.0 fits.1 ((cast-now g.S.Scheme g.D.PartialEq.eq s c.args.self.now h k c.cast.new.self c.args.vote c.in-Ok.report (c.in-Ok.ensures.cast (common_part s) (stage s h) (votes_of s h) k.rounds)).cast fresh.attests fresh.free)

pub returns-in-Ok-clause-found : goal.returns-in-Ok-clause-found
unfolding Keeps
returns-in-Ok-clause-found g c = λ s h k fresh taken. let fits = rw c.view-view.ensures at ((c.is_open_to.ensures s h k).0 c.if-not-is_open_to.false) in
    cast-found g.S.Scheme g.D.PartialEq.eq s c.args.self.now h k c.cast.new.self c.args.vote taken fits.0 fits.1 ((cast-now g.S.Scheme g.D.PartialEq.eq s c.args.self.now h k c.cast.new.self c.args.vote c.in-Ok.report (c.in-Ok.ensures.cast (common_part s) (stage s h) (votes_of s h) k.rounds)).cast fresh.attests fresh.free)

pub returns-in-Ok-clause-again : goal.returns-in-Ok-clause-again
unfolding Keeps
returns-in-Ok-clause-again g c = λ s h k told. still g.S.Scheme g.D.PartialEq.eq s c.args.self.now h k c.cast.new.self ((cast-now g.S.Scheme g.D.PartialEq.eq s c.args.self.now h k c.cast.new.self c.args.vote c.in-Ok.report (c.in-Ok.ensures.cast (common_part s) (stage s h) (votes_of s h) k.rounds)).again told)

pub returns-in-Err-clause-fault : goal.returns-in-Err-clause-fault
unfolding Keeps
returns-in-Err-clause-fault g c = λ s h k epoch agrees. c.in-Err.ensures.refused (common_part s) (stage s h) (votes_of s h) k.rounds epoch agrees

pub returns-in-Err-clause-err : goal.returns-in-Err-clause-err
unfolding Keeps
returns-in-Err-clause-err g c = λ s h k. still g.S.Scheme g.D.PartialEq.eq s c.args.self.now h k c.cast.new.self (c.in-Err.ensures.err (common_part s) (stage s h) (votes_of s h) k.rounds)

pub returns-then-not-is_open_to-clause-shut : goal.returns-then-not-is_open_to-clause-shut
returns-then-not-is_open_to-clause-shut g c = λ s h k shut. (refl, k)

pub returns-then-not-is_open_to-clause-agrees : goal.returns-then-not-is_open_to-clause-agrees
returns-then-not-is_open_to-clause-agrees g c = λ s h k fits. absurd (cc ((c.is_open_to.ensures s h k).1 (rw c.view-view.ensures (fits.kept, fits.room)), c.if-not-is_open_to.true))

pub returns-in-Ok-clause-shut : goal.returns-in-Ok-clause-shut
returns-in-Ok-clause-shut g c = λ s h k shut. absurd (shut-open (floor_of s h) (vote_round c.args.vote).view shut (rw c.view-view.ensures at ((c.is_open_to.ensures s h k).0 c.if-not-is_open_to.false)))

pub returns-in-Ok-clause-agrees : goal.returns-in-Ok-clause-agrees
unfolding Keeps
returns-in-Ok-clause-agrees g c = λ s h k fits. (cast-now g.S.Scheme g.D.PartialEq.eq s c.args.self.now h k c.cast.new.self c.args.vote c.in-Ok.report (c.in-Ok.ensures.cast (common_part s) (stage s h) (votes_of s h) k.rounds)).agrees

pub returns-in-Err-clause-why : goal.returns-in-Err-clause-why
unfolding Keeps
returns-in-Err-clause-why g c = λ s h k. why-now g.S.Scheme g.D.PartialEq.eq s c.args.self.now h k c.cast.new.self c.args.vote c.in-Err.fault (c.in-Err.ensures.why (common_part s) (stage s h) (votes_of s h) k.rounds)
