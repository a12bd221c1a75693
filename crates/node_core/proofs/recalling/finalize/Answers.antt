use Rattle.std.proofs.Common.{◌++◌, Option, map, refl, subst}
use Rattle.std.specs.Prelude.{option_to_list}
use Rattle.messages_certificates.specs.ProposalCertificate.{Finalization}
use Rattle.simplex_member.specs.Deeds.{AreActions, Finalizes}
use Rattle.node_outbox.specs.Handing.{nothing_more}
use Rattle.node_core.proofs.recalling.finalize.Goals as goal

pub returns-in-Ok : goal.returns-in-Ok
returns-in-Ok g c = λ f owner xs deeds holds are.
    subst (λ (found : Option (Finalization g.row.S.Denot g.row.D.Denot g.row.S-PublicKey.Denot g.row.S-Signature.Denot g.row.S-Certificate.Denot)). AreActions f c.hand_out.new.out.items (deeds ++ map (λ (x : Finalization g.row.S.Denot g.row.D.Denot g.row.S-PublicKey.Denot g.row.S-Signature.Denot g.row.S-Certificate.Denot). Finalizes x.proposal) (option_to_list found)))
    (c.in-Some.ensures owner xs holds) (c.in-Ok.ensures.done f (Finalizes c.in-Some.finalization.now.proposal) refl deeds are)

pub returns-in-None : goal.returns-in-None
returns-in-None g c = λ f owner xs deeds holds are.
    subst (λ (found : Option (Finalization g.row.S.Denot g.row.D.Denot g.row.S-PublicKey.Denot g.row.S-Signature.Denot g.row.S-Certificate.Denot)). AreActions f c.args.out.now.items (deeds ++ map (λ (x : Finalization g.row.S.Denot g.row.D.Denot g.row.S-PublicKey.Denot g.row.S-Signature.Denot g.row.S-Certificate.Denot). Finalizes x.proposal) (option_to_list found)))
    (c.in-None.ensures owner xs holds) (nothing_more f c.args.out.now.items deeds are)
