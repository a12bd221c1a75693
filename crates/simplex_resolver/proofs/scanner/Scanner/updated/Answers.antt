use Rattle.std.proofs.Common.{subst, ◌∷◌}
use Rattle.std.specs.Prelude.{OnOk, IfOk}
use Rattle.messages_certificates.specs.Certificate.{any_certificate_spelling}
use Rattle.simplex_resolver.specs.RepairHistory.{Item}
use Rattle.simplex_resolver.specs.Outstanding.{Gives}
use Rattle.simplex_resolver.specs.Keeps.{Stands, AtEachScan}
use Rattle.simplex_resolver.proofs.Items.{notarized_item, nullified_item, finalized_item}
use Rattle.simplex_resolver.proofs.scanner.Scanner.updated.Goals as goal

pub returns-in-Notarization-clause-keeps : goal.returns-in-Notarization-clause-keeps
returns-in-Notarization-clause-keeps g c = subst (λ (x : Item). OnOk c.notarized.result (AtEachScan c.args.self.now (λ views h. Stands views c.notarized.new.self (x ∷ h)))) (notarized_item (any_certificate_spelling g.D.Write.spelling g.S.Certificate.Write.spelling) c.args.certificate.now c.view-view.result c.view-view.ensures _ c.in-Notarization.is) c.notarized.ensures.keeps

pub returns-in-Notarization-clause-gives : goal.returns-in-Notarization-clause-gives
returns-in-Notarization-clause-gives g c = subst (λ (x : Item). IfOk c.notarized.result (λ given. AtEachScan c.args.self.now (λ views h. Gives views h x given.items))) (notarized_item (any_certificate_spelling g.D.Write.spelling g.S.Certificate.Write.spelling) c.args.certificate.now c.view-view.result c.view-view.ensures _ c.in-Notarization.is) c.notarized.ensures.gives

pub returns-in-Nullification-clause-keeps : goal.returns-in-Nullification-clause-keeps
returns-in-Nullification-clause-keeps g c = subst (λ (x : Item). OnOk c.nullified.result (AtEachScan c.args.self.now (λ views h. Stands views c.nullified.new.self (x ∷ h)))) (nullified_item (any_certificate_spelling g.D.Write.spelling g.S.Certificate.Write.spelling) c.args.certificate.now c.view-view.result c.view-view.ensures _ c.in-Nullification.is) c.nullified.ensures.keeps

pub returns-in-Nullification-clause-gives : goal.returns-in-Nullification-clause-gives
returns-in-Nullification-clause-gives g c = subst (λ (x : Item). IfOk c.nullified.result (λ given. AtEachScan c.args.self.now (λ views h. Gives views h x given.items))) (nullified_item (any_certificate_spelling g.D.Write.spelling g.S.Certificate.Write.spelling) c.args.certificate.now c.view-view.result c.view-view.ensures _ c.in-Nullification.is) c.nullified.ensures.gives

pub returns-in-Finalization-clause-keeps : goal.returns-in-Finalization-clause-keeps
returns-in-Finalization-clause-keeps g c = subst (λ (x : Item). OnOk c.finalized.result (AtEachScan c.args.self.now (λ views h. Stands views c.finalized.new.self (x ∷ h)))) (finalized_item (any_certificate_spelling g.D.Write.spelling g.S.Certificate.Write.spelling) c.args.certificate.now c.view-view.result c.view-view.ensures _ c.in-Finalization.is) c.finalized.ensures.keeps

pub returns-in-Finalization-clause-gives : goal.returns-in-Finalization-clause-gives
returns-in-Finalization-clause-gives g c = subst (λ (x : Item). IfOk c.finalized.result (λ given. AtEachScan c.args.self.now (λ views h. Gives views h x given.items))) (finalized_item (any_certificate_spelling g.D.Write.spelling g.S.Certificate.Write.spelling) c.args.certificate.now c.view-view.result c.view-view.ensures _ c.in-Finalization.is) c.finalized.ensures.gives
