use Rattle.std.proofs.Common.{◌∷◌, ℕ, sym, subst}
use Rattle.types_core.specs.Positions.{HasRoom}
use Rattle.messages_certificates.specs.Certificate.{any_certificate_spelling, as_notarization}
use Rattle.messages_certificates.specs.ProposalCertificate.{Notarization}
use Rattle.simplex_resolver.specs.RepairHistory.{Judged}
use Rattle.simplex_resolver.specs.Keeps as repairing
use Rattle.simplex_member.specs.Recorded.{notarization_in}
use Rattle.node_core.proofs.Knowing.{none-some}
use Rattle.node_core.proofs.Recalled.{notarization-at}
use Rattle.node_core.proofs.recalling.judge.Goals as goal

pub returns-in-Ok : goal.returns-in-Ok
returns-in-Ok g c = λ owner xs holds.
    let first = c.in-Some.certificate.now in
    let found = sym (c.in-Some.ensures owner xs holds) in
    let at = notarization-at xs c.args.view first found in
    let told = subst (λ (y : Notarization g.row.S.Denot g.row.D.Denot g.row.S-PublicKey.Denot g.row.S-Signature.Denot g.row.S-Certificate.Denot). repairing.AtEach c.args.repair.now (λ views items. HasRoom views y.proposal.round.view → repairing.Keeps views c.judge_repair.new.repair (Judged y.proposal.round.view (any_certificate_spelling g.D.Write.spelling g.S.Certificate.Write.spelling (as_notarization y)) c.args.ok ∷ items)))
    c.in_ok-copy-in-Some.ensures c.in-Ok.ensures.told in
    (first, found, subst (λ (v : ℕ). repairing.AtEach c.args.repair.now (λ views items. HasRoom views v → repairing.Keeps views c.judge_repair.new.repair (Judged v (any_certificate_spelling g.D.Write.spelling g.S.Certificate.Write.spelling (as_notarization first)) c.args.ok ∷ items))) at told)

-- the notarization is recorded
pub unreachable-requires : goal.unreachable-requires
unreachable-requires g c =
    let at = c.requires in
    none-some (notarization_in at.xs c.args.view) (c.in-None.ensures at.owner at.xs at.holds) at.some
