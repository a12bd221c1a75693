use Rattle.std.proofs.Common.{◌≡◌, ◌∙◌, sym, ap, subst}
use Rattle.std.specs.Prelude.{Some}
use Rattle.std.specs.Option.{option_copied, option_map}
use Rattle.types_core.specs.Subject.{statement}
use Rattle.batcher_verifier.specs.History.{proposal_of, selected, statement_for}
use Rattle.batcher_verifier.specs.Keeping.{selection_of, VerifierKeeps}
use Rattle.batcher_verifier.proofs.verifier.Verifier.construct_of_waiting.Goals as goal
use Rattle.batcher_verifier.proofs.verifier.Verifier.construct_of_waiting.Goals.{in-Some, in-None}

pub returns-clause-keeps : goal.returns-clause-keeps
unfolding VerifierKeeps
returns-clause-keeps g c = λ s h k.
    let itself : c.match-proposal.self ≡ c.args.self.now = elim c.match-proposal.branch [ in-Some w ↦ w.self-is | in-None w ↦ w.self-is ] in
    let chosen : c.match-proposal.selected ≡ proposal_of (selection_of c.args.self.now.proposal) = elim c.match-proposal.branch [
      | in-Some w ↦ w.selected-is ∙ sym (ap option_copied w.in-Some.is) ∙ c.proposal.ensures
      | in-None w ↦ w.selected-is ∙ sym (ap option_copied w.in-None.is) ∙ c.proposal.ensures
    ] in
    let says : statement_for c.args.kind c.match-proposal.self.round c.match-proposal.selected ≡ Some (statement c.in-Some-subject_for.subject) = sym c.subject_for.ensures ∙ ap (option_map statement) c.in-Some-subject_for.is in
    let round : c.match-proposal.self.round ≡ s.round = rw itself k.round_is in
    let one : c.match-proposal.selected ≡ selected h = chosen ∙ ap proposal_of k.selection_is in
    c.in_ok-batch.ensures.keeps s h (subst (λ v. VerifierKeeps g.D.PartialEq.eq g.S.Scheme g.S.Scheme.batchable s v h) (sym itself) k) (rw (round, one) at says)
