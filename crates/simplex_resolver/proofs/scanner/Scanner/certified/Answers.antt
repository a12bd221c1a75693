use Rattle.std.proofs.Common.{sym, subst, ◌∷◌, ℕ, Bool}
use Rattle.std.specs.Prelude.{OnOk, IfOk}
use Rattle.messages_certificates.specs.Certificate.{any_certificate_spelling, as_notarization}
use Rattle.simplex_resolver.specs.RepairHistory.{Judged}
use Rattle.simplex_resolver.specs.Outstanding.{Gives}
use Rattle.simplex_resolver.specs.Keeps.{Stands, AtEachScan}
use Rattle.simplex_resolver.proofs.Choices.{on_ok-map, if_ok-map}
use Rattle.simplex_resolver.proofs.scanner.Scanner.certified.Goals as goal

pub returns-then-success-clause-keeps : goal.returns-then-success-clause-keeps
returns-then-success-clause-keeps g c =
    subst (λ (v : ℕ). OnOk c.succeeded.result (AtEachScan c.args.self.now (λ views h. Stands views c.succeeded.new.self (Judged v (any_certificate_spelling g.D.Write.spelling g.S.Certificate.Write.spelling (as_notarization c.args.notarization)) c.args.success ∷ h)))) c.view-view.ensures
    (subst (λ (b : Bool). OnOk c.succeeded.result (AtEachScan c.args.self.now (λ views h. Stands views c.succeeded.new.self (Judged c.view-view.result (any_certificate_spelling g.D.Write.spelling g.S.Certificate.Write.spelling (as_notarization c.args.notarization)) b ∷ h)))) (sym c.if-success.true) c.succeeded.ensures.keeps)

pub returns-then-success-clause-gives : goal.returns-then-success-clause-gives
returns-then-success-clause-gives g c =
    subst (λ (v : ℕ). IfOk c.succeeded.result (λ given. AtEachScan c.args.self.now (λ views h. Gives views h (Judged v (any_certificate_spelling g.D.Write.spelling g.S.Certificate.Write.spelling (as_notarization c.args.notarization)) c.args.success) given.items))) c.view-view.ensures
    (subst (λ (b : Bool). IfOk c.succeeded.result (λ given. AtEachScan c.args.self.now (λ views h. Gives views h (Judged c.view-view.result (any_certificate_spelling g.D.Write.spelling g.S.Certificate.Write.spelling (as_notarization c.args.notarization)) b) given.items))) (sym c.if-success.true) c.succeeded.ensures.gives)

pub returns-else-success-clause-keeps : goal.returns-else-success-clause-keeps
returns-else-success-clause-keeps g c =
    on_ok-map c.failed.result (λ keeps views h k. subst (λ (v : ℕ). Stands views c.failed.new.self (Judged v (any_certificate_spelling g.D.Write.spelling g.S.Certificate.Write.spelling (as_notarization c.args.notarization)) c.args.success ∷ h)) c.view-view.ensures
    (subst (λ (b : Bool). Stands views c.failed.new.self (Judged c.view-view.result (any_certificate_spelling g.D.Write.spelling g.S.Certificate.Write.spelling (as_notarization c.args.notarization)) b ∷ h)) (sym c.if-success.false) (keeps (any_certificate_spelling g.D.Write.spelling g.S.Certificate.Write.spelling (as_notarization c.args.notarization)) views h k))) c.failed.ensures.keeps

pub returns-else-success-clause-gives : goal.returns-else-success-clause-gives
returns-else-success-clause-gives g c =
    if_ok-map c.failed.result (λ given gives views h k. subst (λ (v : ℕ). Gives views h (Judged v (any_certificate_spelling g.D.Write.spelling g.S.Certificate.Write.spelling (as_notarization c.args.notarization)) c.args.success) given.items) c.view-view.ensures
    (subst (λ (b : Bool). Gives views h (Judged c.view-view.result (any_certificate_spelling g.D.Write.spelling g.S.Certificate.Write.spelling (as_notarization c.args.notarization)) b) given.items) (sym c.if-success.false) (gives (any_certificate_spelling g.D.Write.spelling g.S.Certificate.Write.spelling (as_notarization c.args.notarization)) views h k))) c.failed.ensures.gives
