use Rattle.std.proofs.Common.{◌≡◌, ◌∷◌, ◌∙◌, ℕ, List, sym, subst}
use Rattle.std.proofs.lemmas.Option.{same_Some}
use Rattle.std.proofs.lemmas.Result.{on_ok_weaker}
use Rattle.types_core.specs.Positions.{HasRoom}
use Rattle.messages_certificates.specs.Certificate.{any_certificate_spelling, as_notarization}
use Rattle.messages_certificates.specs.ProposalCertificate.{Notarization}
use Rattle.simplex_resolver.specs.Keeps as repairing
use Rattle.simplex_resolver.specs.RepairHistory as items
use Rattle.node_input.proofs.verdicts.hand_on.Goals as goal

pub returns-clause-told : goal.returns-clause-told
returns-clause-told g c = on_ok_weaker c.judge_repair.result (λ told n is.
    let same : c.in-Some.notarization ≡ n = same_Some c.in-Some.notarization n (sym c.in-Some.is ∙ is) in
    subst (λ (x : Notarization g.row.S.Denot g.row.D.Denot g.row.S-PublicKey.Denot g.row.S-Signature.Denot g.row.S-Certificate.Denot). repairing.AtEach c.args.repair.now (λ views h. HasRoom views x.proposal.round.view → repairing.Keeps views c.judge_repair.new.repair (items.Judged x.proposal.round.view (any_certificate_spelling g.D.Write.spelling g.S.Certificate.Write.spelling (as_notarization x)) c.args.ok ∷ h))) same told)
    c.judge_repair.ensures.told
