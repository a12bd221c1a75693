use Rattle.std.proofs.Common.{◌∙◌, sym, ap, subst}
use Rattle.std.proofs.lemmas.Result.{on_ok_weaker}
use Rattle.types_core.specs.declared.position.Round.{Round}
use Rattle.types_core.specs.Positions.{HasRoom}
use Rattle.messages_certificates.specs.Artifact.{artifact_round}
use Rattle.simplex_resolver.specs.Keeps as repairing
use Rattle.simplex_member.specs.Layers.{repair_of}
use Rattle.simplex_member.specs.Packet.{formats}
use Rattle.simplex_member.specs.Setup.{owner_of}
use Rattle.node_core.specs.Saying.{said_artifact}
use Rattle.node_core.specs.SaidRounds.{of_certificate}
use Rattle.node_core.proofs.Recalled.{certificate-found, judged-found, vote-found}
use Rattle.node_core.proofs.recalling.tell_repair.Goals as goal

pub returns-in-Vote : goal.returns-in-Vote
returns-in-Vote g c = λ n s h rest room is k.
    vote-found (repairing.Keeps s.voter.length c.args.repair.now) (formats {S = g.row.S.Denot} {P = g.row.S-PublicKey.Denot} g.D.PartialEq.eq g.D.Write.spelling g.S.Signature.Write.spelling g.S.Certificate.Write.spelling g.D.Read.reading g.S.Signature.Read.reading g.S.Certificate.Read.reading n) h c.args.artifact.now c.in-Vote.field-0 (sym c.in_ok-duplicate.ensures ∙ (c.from.ensures ∙ ap said_artifact c.in-Vote.is)) k

pub returns-in-Ok : goal.returns-in-Ok
returns-in-Ok g c = λ n s h rest room is k.
    let f = formats {S = g.row.S.Denot} {P = g.row.S-PublicKey.Denot} g.D.PartialEq.eq g.D.Write.spelling g.S.Signature.Write.spelling g.S.Certificate.Write.spelling g.D.Read.reading g.S.Signature.Read.reading g.S.Certificate.Read.reading n in
    let x = c.args.artifact.now in
    let it = sym c.in_ok-duplicate.ensures ∙ (c.from.ensures ∙ ap said_artifact c.in-Certificate.is) in
    let roomy = subst (λ (u : Round). HasRoom s.voter.length u.view) (ap artifact_round it ∙ of_certificate c.in-Certificate.certificate) room in
    certificate-found (repairing.Keeps s.voter.length c.update_repair.new.repair) f h x c.in-Certificate.certificate it (c.in-Ok.ensures.told s.voter.length (repair_of f h) k roomy)

pub judge-requires : goal.judge-requires
judge-requires g c = c.requires c.in-Verdict.round c.in-Verdict.ok (sym c.in_ok-duplicate.ensures ∙ (c.from.ensures ∙ ap said_artifact c.in-Verdict.is))

pub returns : goal.returns
returns g c = on_ok_weaker c.judge.result (λ told n s h rest room is k.
    let f = formats {S = g.row.S.Denot} {P = g.row.S-PublicKey.Denot} g.D.PartialEq.eq g.D.Write.spelling g.S.Signature.Write.spelling g.S.Certificate.Write.spelling g.D.Read.reading g.S.Signature.Read.reading g.S.Certificate.Read.reading n in
    judged-found (repairing.Keeps s.voter.length c.judge.new.repair) (HasRoom s.voter.length) g.S.Scheme s c.args.recorded.now f h rest c.args.artifact.now c.in-Verdict.round c.in-Verdict.ok (sym c.in_ok-duplicate.ensures ∙ (c.from.ensures ∙ ap said_artifact c.in-Verdict.is)) room is
    (λ xs roomy holds. let made = told (owner_of s) xs holds in (made.0, made.1, made.2 s.voter.length (repair_of f h) k roomy)))
    c.judge.ensures
