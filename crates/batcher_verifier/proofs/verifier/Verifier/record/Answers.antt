use Rattle.std.proofs.Common.{◌≡◌, ◌∷◌, refl, sym, ◌∙◌}
use Rattle.batcher_verifier.specs.History.{accepted, Certified, selection}
use Rattle.batcher_verifier.specs.Keeping.{selection_of, VerifierKeeps}
use Rattle.batcher_verifier.proofs.Folding.{selection-certified}
use Rattle.batcher_rows.specs.Staying.{places-newest}
use Rattle.batcher_verifier.proofs.Choosing.{chosen-keeps, keeps-certified}
use Rattle.batcher_verifier.proofs.verifier.Verifier.record.Goals as goal

pub returns-clause-changed : goal.returns-clause-changed
unfolding VerifierKeeps
returns-clause-changed g c = λ s h k.
    let one : selection_of c.select-next.result ≡ selection (Certified c.args.certificate.now ∷ h) = c.select-next.ensures ∙ rw (c.proposal_of_certificate.ensures, k.selection_is) (sym (selection-certified h c.args.certificate.now)) in
    rw (one, k.selection_is) at c.choose.ensures.changed

pub returns-clause-keeps : goal.returns-clause-keeps
unfolding VerifierKeeps
returns-clause-keeps g c = λ s h k ours.
    let same = g.D.PartialEq.eq in
    let x = c.args.certificate.now in
    let e = Certified x in
    let old = c.args.self.now in
    let one : selection_of c.select-next.result ≡ selection (e ∷ h) = c.select-next.ensures ∙ rw (c.proposal_of_certificate.ensures, k.selection_is) (sym (selection-certified h x)) in
    let is = c.choose.ensures.chosen in
    let made = c.kind_of_certificate.ensures in
    chosen-keeps same g.S.Scheme g.S.Scheme.batchable s h e (accepted h) c.select-next.result old _ c.choose.new.self k refl refl refl refl k.leader_is is one ours refl (places-newest s.members (accepted h) old.rows _ c.finish.ensures.places k.rows.places)
    (λ kind. keeps-certified same s kind h x old.proposal c.select-next.result _ _ (rw made at (c.finish.ensures.kinds kind _ _ _ (k.rows.kinds kind))) is.keeps k.selection_is one)
