use Rattle.std.proofs.Common.{◌≡◌, true, false}
use Rattle.messages_certificates.specs.Certificate.{certificate_round}
use Rattle.simplex_member.specs.Layers.{floor_of, stage, votes_of}
use Rattle.node_votes.specs.KeepsVotes.{Keeps, common_part}
use Rattle.node_votes.proofs.Answering.{came-unkept, certificate-unkept, certified-ahead, certified-found, low-where-shut, shut-open, still}
use Rattle.node_votes.proofs.acceptance.Acceptance.record.Goals as goal

pub returns-then-not-is_open_to-clause-came : goal.returns-then-not-is_open_to-clause-came
returns-then-not-is_open_to-clause-came g c = λ s h k room. came-unkept g.S.Scheme g.D.PartialEq.eq s c.args.self.now h k c.args.certificate.now (low-where-shut (floor_of s h) (certificate_round c.args.certificate.now).view (rw c.view-view.ensures at (c.is_open_to.ensures s h k)) c.if-not-is_open_to.true room)

pub returns-then-not-is_open_to-clause-found : goal.returns-then-not-is_open_to-clause-found
returns-then-not-is_open_to-clause-found g c = λ s h k room taken. certificate-unkept g.S.Scheme g.D.PartialEq.eq s c.args.self.now h k c.args.certificate.now taken (low-where-shut (floor_of s h) (certificate_round c.args.certificate.now).view (rw c.view-view.ensures at (c.is_open_to.ensures s h k)) c.if-not-is_open_to.true room)

pub returns-in-Ok-clause-came : goal.returns-in-Ok-clause-came
unfolding Keeps
returns-in-Ok-clause-came g c = λ s h k room. let fits = rw c.view-view.ensures at ((c.is_open_to.ensures s h k).0 c.if-not-is_open_to.false) in
    certified-ahead g.S.Scheme g.D.PartialEq.eq s c.args.self.now h k c.certify.new.self c.args.certificate.now fits.0 fits.1 (c.in-Ok.ensures.certified (common_part s) (stage s h) (votes_of s h) k.rounds)

pub returns-in-Ok-clause-found : goal.returns-in-Ok-clause-found
unfolding Keeps
returns-in-Ok-clause-found g c = λ s h k room taken. let fits = rw c.view-view.ensures at ((c.is_open_to.ensures s h k).0 c.if-not-is_open_to.false) in
    certified-found g.S.Scheme g.D.PartialEq.eq s c.args.self.now h k c.certify.new.self c.args.certificate.now taken fits.0 fits.1 (c.in-Ok.ensures.certified (common_part s) (stage s h) (votes_of s h) k.rounds)

pub returns-in-Err-clause-fault : goal.returns-in-Err-clause-fault
unfolding Keeps
returns-in-Err-clause-fault g c = λ s h k epoch. c.in-Err.ensures.refused (common_part s) (stage s h) (votes_of s h) k.rounds epoch

pub returns-in-Err-clause-err : goal.returns-in-Err-clause-err
unfolding Keeps
returns-in-Err-clause-err g c = λ s h k. still g.S.Scheme g.D.PartialEq.eq s c.args.self.now h k c.certify.new.self (c.in-Err.ensures.err (common_part s) (stage s h) (votes_of s h) k.rounds)

pub returns-then-not-is_open_to-clause-shut : goal.returns-then-not-is_open_to-clause-shut
returns-then-not-is_open_to-clause-shut g c = λ s h k shut. k

pub returns-in-Ok-clause-shut : goal.returns-in-Ok-clause-shut
returns-in-Ok-clause-shut g c = λ s h k shut. absurd (shut-open (floor_of s h) (certificate_round c.args.certificate.now).view shut (rw c.view-view.ensures at ((c.is_open_to.ensures s h k).0 c.if-not-is_open_to.false)))
