use Rattle.std.proofs.Common.{false, true, refl, ◌∙◌}
use Rattle.std.specs.Prelude.{is_some, not}
use Rattle.std.proofs.lemmas.Result.{IfOk-weaker}
use Rattle.voter_history.specs.History.{judged}
use Rattle.simplex_state.specs.State.{Keeps}
use Rattle.simplex_state.proofs.Keeping.{keeps_owed_if}
use Rattle.simplex_state.proofs.Owing.{judged_owed, or_true, owed_more, owed_still}
use Rattle.simplex_state.proofs.state.State.certified.Goals as goal

pub returns-clause-keeps : goal.returns-clause-keeps
unfolding Keeps
returns-clause-keeps g c = IfOk-weaker c.certified.result _ _
    (λ answer moved s h k.
    let point = judged c.args.now c.args.view c.args.is_success in
    let more = owed_more s h true c.args.self.now.finalizes c.add_if.new.self c.in_ok-add_if.ensures.kept k.finalizes in
    keeps_owed_if g.S.Scheme g.L.Elector s h c.args.self.now _ k (is_some answer) point c.wake.new.candidates c.args.self.now.notarizes c.add_if.new.self c.args.view refl c.in_ok-wake.ensures
    k.notarizes more (owed_still s h false point c.args.self.now.notarizes (or_true (not c.args.is_success)) k.notarizes)
    (judged_owed s h c.args.now c.args.view c.args.is_success c.add_if.new.self (λ is. c.in_ok-add_if.ensures.own (c.owes_finalize-owes.ensures s h k ∙ is)) more)
    (moved s h k.views))
    c.certified.ensures.keeps

pub returns-clause-answer : goal.returns-clause-answer
unfolding Keeps
returns-clause-answer g c = IfOk-weaker c.certified.result _ _ (λ answer is s h k. is s h k.views) c.certified.ensures.answer

pub returns-clause-no_room : goal.returns-clause-no_room
unfolding Keeps
returns-clause-no_room g c = IfOk-weaker c.certified.result _ _ (λ answer is s h k. is s h k.views) c.certified.ensures.no_room
