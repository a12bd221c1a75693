use Rattle.std.proofs.Common.{◌∙◌, ◌∷◌, refl}
use Rattle.voter_history.specs.History.{build_asked}
use Rattle.voter_views.specs.ShowsKnown.{at}
use Rattle.simplex_state.specs.State.{Keeps}
use Rattle.simplex_state.proofs.Keeping.{keeps_still}
use Rattle.simplex_state.proofs.Wanting.{may_propose}
use Rattle.simplex_state.proofs.state.State.try_propose.Goals as goal

pub returns-clause-keeps : goal.returns-clause-keeps
unfolding Keeps
returns-clause-keeps g c = λ s h k.
    rw (c.new-2.ensures.context, c.new.ensures.view) (keeps_still g.S.Scheme g.L.Elector s h c.args.self.now _ k (build_asked c.in-Some.first.0) refl tt tt (c.in-Some-try_propose.ensures.keeps s h k.views))

pub returns-clause-answer : goal.returns-clause-answer
unfolding Keeps
returns-clause-answer g c = λ s h k.
    let made = c.in-Some-try_propose.ensures.answer s h k.views in
    rw c.new-2.ensures.context (
      rw c.new.ensures.view (c.in-Some.ensures s h k),
      record { epoch = c.new.ensures.epoch ∙ c.epoch.ensures s (build_asked c.in-Some.first.0 ∷ h) (c.in-Some-try_propose.ensures.keeps s h k.views); index = c.in-Some-try_propose.leader.idx; me = made.0.leads.1 ∙ made.1.0; key = made.1.1 },
    )

pub returns-clause-handoff : goal.returns-clause-handoff
unfolding Keeps
returns-clause-handoff g c = λ s h k.
    let test = c.is_handoff-is_handoff.ensures _ _ (at s h k.views) in
    let wanted = c.new-2.ensures.handoff in
    rw (c.new-2.ensures.context, c.new.ensures.view) (λ yes. test.0 (wanted.0 yes), λ is. wanted.1 (test.1 is))

pub returns-in_default-clause-keeps : goal.returns-in_default-clause-keeps
returns-in_default-clause-keeps g c = λ s h k. k

pub returns-in_default-clause-answer : goal.returns-in_default-clause-answer
returns-in_default-clause-answer g c = λ s h k. c.in_default.ensures s h k

pub returns-in_default-try_propose-clause-keeps : goal.returns-in_default-try_propose-clause-keeps
unfolding Keeps
returns-in_default-try_propose-clause-keeps g c = λ s h k. absurd (c.in_default-try_propose.ensures.answer s h k.views (may_propose s h c.in-Some.first.0 c.in-Some.first.1 c.in-Some.first.2 (c.in-Some.ensures s h k).due))

pub returns-in_default-try_propose-clause-answer : goal.returns-in_default-try_propose-clause-answer
unfolding Keeps
returns-in_default-try_propose-clause-answer g c = λ s h k. absurd (c.in_default-try_propose.ensures.answer s h k.views (may_propose s h c.in-Some.first.0 c.in-Some.first.1 c.in-Some.first.2 (c.in-Some.ensures s h k).due))
