use Rattle.std.proofs.Common.{◌≡◌, ◌∷◌, refl, ap, ◌∙◌}
use Rattle.batcher_verifier.specs.History.{accepted, Led, selection, proposal_of, notarized_by}
use Rattle.batcher_verifier.specs.Keeping.{selection_of, held_by, VerifierKeeps}
use Rattle.batcher_verifier.proofs.Choosing.{select-led, select-or, chosen-keeps, keeps-led}
use Rattle.batcher_verifier.proofs.verifier.Verifier.lead.Goals as goal

pub returns-in-None-clause-first : goal.returns-in-None-clause-first
unfolding VerifierKeeps
returns-in-None-clause-first g c = λ s h k none led.
    let same = g.D.PartialEq.eq in
    let e = Led c.args.leader in
    let old = c.args.self.now in
    let one : selection_of c.select-next.result ≡ selection (e ∷ h) = c.select-next.ensures ∙ rw k.selection_is (select-led (selection h) c.args.led (notarized_by h c.args.leader) led) in
    let is = c.choose-changed.ensures.chosen in
    chosen-keeps same g.S.Scheme g.S.Scheme.batchable s h e (accepted h) c.select-next.result old _ c.choose-changed.new.self k refl refl refl refl refl is one none refl k.rows.places
    (λ kind. keeps-led same s kind h c.args.leader old.proposal c.select-next.result old.rows _ (k.rows.kinds kind) is.keeps k.selection_is one)

pub returns-in-None-clause-holds : goal.returns-in-None-clause-holds
unfolding VerifierKeeps held_by
returns-in-None-clause-holds g c = λ s h k none.
    ap proposal_of (c.choose-changed.ensures.chosen.selects ∙ c.select-next.ensures ∙ rw k.selection_is refl) ∙ select-or (selection h) c.args.led
