use Rattle.std.proofs.Common.{inl, inr, ℕ, List, ◌∙◌, ap, sym, subst}
use Rattle.std.specs.Prelude.{Contains, IsTrue}
use Rattle.std.proofs.lemmas.List.{take_all}
use Rattle.std.specs.Ordering.{nat_cmp}
use Rattle.std.specs.BTreeSet.{contains}
use Rattle.std.proofs.lemmas.Result.{IfOk-from_err}
use Rattle.types_quorum.specs.Counting.{Contains-nil}
use Rattle.types_core.specs.declared.proposal.Proposal.{Proposal}
use Rattle.simplex_state.proofs.Members.{in_next, stays_in}
use Rattle.simplex_state.proofs.state.certifying.keep.Goals as goal

pub loop-proposal-preserved : goal.loop-proposal-preserved
loop-proposal-preserved g c = λ p there. elim (in_next c.args.ready.now c.loop-proposal.proposal-index c.proposal-item.result c.loop-proposal-test.true c.proposal-item.is p there) [
  | inl before ↦ stays_in c.loop-proposal.candidates c.insert.new.self c.view.result c.in_ok-insert.ensures.updates p.round.view (c.loop-proposal.invariant p before)
  | inr same ↦ subst (λ (v : ℕ). IsTrue (contains nat_cmp c.insert.new.self v)) (c.view.ensures ∙ ap (λ (q : Proposal g.row.D.Denot). q.round.view) same) c.in_ok-insert.ensures.updates.1
]

pub returns-in_err-insert : goal.returns-in_err-insert
returns-in_err-insert g c = IfOk-from_err c.from_residual.result _ c.from_residual.ensures.0

pub loop-proposal-init : goal.loop-proposal-init
loop-proposal-init g c = λ p there. absurd (Contains-nil p there)

pub returns : goal.returns
returns g c = λ p there. c.loop-proposal.invariant p (subst (λ (ps : List (Proposal g.row.D.Denot)). Contains ps p) (sym (take_all c.loop-proposal.proposal-index c.args.ready.now c.loop-proposal-test.false)) there)
