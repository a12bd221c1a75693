use Rattle.std.proofs.Common.{◌∙◌, refl, sym, ap, subst}
use Rattle.std.proofs.lemmas.Result.{on_ok_weaker}
use Rattle.messages_certificates.specs.declared.artifact.Artifact.{Artifact}
use Rattle.messages_certificates.specs.declared.artifact.Artifact.TheVariants as artifact
use Rattle.node_votes.specs.KeepsVotes as accepting
use Rattle.simplex_member.specs.Point.{Found}
use Rattle.node_core.specs.Saying.{said_artifact}
use Rattle.node_core.proofs.SaidSo.{its-epoch, its-room, new-own}
use Rattle.node_core.proofs.telling.tell_votes.Goals as goal

pub recount_vote-requires : goal.recount_vote-requires
recount_vote-requires g c =
    let at = c.requires in
    let is = sym c.in_ok-duplicate.ensures ∙ (c.from.ensures ∙ ap said_artifact c.in-Vote.is) in
    (at.0, at.1, at.2, new-own g.S.Scheme at.0 at.1 c.args.artifact.now c.in-Vote.vote is at.3)

pub returns-in-Vote : goal.returns-in-Vote
returns-in-Vote g c = on_ok_weaker c.recount_vote.result (λ told s h k taken counted.
    let is = sym c.in_ok-duplicate.ensures ∙ (c.from.ensures ∙ ap said_artifact c.in-Vote.is) in
    subst (λ (x : Artifact g.row.S.Denot g.row.D.Denot g.row.S-PublicKey.Denot g.row.S-Signature.Denot g.row.S-Certificate.Denot). accepting.KeepsAhead g.S.Scheme g.D.PartialEq.eq s c.recount_vote.new.acceptance h (Found x taken)) (sym is)
    (told s h k taken (new-own g.S.Scheme s h c.args.artifact.now c.in-Vote.vote is counted))) c.recount_vote.ensures

pub recount_certificate-requires : goal.recount_certificate-requires
recount_certificate-requires g c =
    let at = c.requires in
    let is = sym c.in_ok-duplicate.ensures ∙ (c.from.ensures ∙ ap said_artifact c.in-Certificate.is) in
    (at.0, at.1, at.2, its-epoch g.S.Scheme at.0 at.1 c.args.artifact.now c.in-Certificate.certificate is at.3)

pub returns-in-Certificate : goal.returns-in-Certificate
returns-in-Certificate g c = on_ok_weaker c.recount_certificate.result (λ told s h k taken counted.
    let is = sym c.in_ok-duplicate.ensures ∙ (c.from.ensures ∙ ap said_artifact c.in-Certificate.is) in
    subst (λ (x : Artifact g.row.S.Denot g.row.D.Denot g.row.S-PublicKey.Denot g.row.S-Signature.Denot g.row.S-Certificate.Denot). accepting.KeepsAhead g.S.Scheme g.D.PartialEq.eq s c.recount_certificate.new.acceptance h (Found x taken)) (sym is)
    (told s h k taken (its-room g.S.Scheme s h c.args.artifact.now c.in-Certificate.certificate is counted))) c.recount_certificate.ensures

pub returns-in-Verdict : goal.returns-in-Verdict
returns-in-Verdict g c = λ s h k taken counted.
    subst (λ (x : Artifact g.row.S.Denot g.row.D.Denot g.row.S-PublicKey.Denot g.row.S-Signature.Denot g.row.S-Certificate.Denot). accepting.KeepsAhead g.S.Scheme g.D.PartialEq.eq s c.args.acceptance.now h (Found x taken)) (sym (sym c.in_ok-duplicate.ensures ∙ (c.from.ensures ∙ ap said_artifact c.in-Verdict.is)))
    (c.silent_points_leave_votes.ensures.silent s c.args.acceptance.now h (Found (artifact.Certification c.in-Verdict.field-0 c.in-Verdict.field-1) taken) (λ view. (refl, λ r. refl)) k)
