use Rattle.std.proofs.Common.{◌≡◌, ◌∷◌, false, true, refl, subst, if◌then◌else◌}
use Rattle.std.specs.Prelude.{◌↔◌, IsTrue}
use Rattle.std.proofs.lemmas.Bool.{both_ways}
use Rattle.std.proofs.lemmas.Result.{IfOk-weaker}
use Rattle.types_core.specs.declared.context.Context.{Context}
use Rattle.types_core.specs.declared.proposal.Proposal.{Proposal}
use Rattle.voter_history.specs.Held.{Agrees, held}
use Rattle.voter_history.specs.Past.{has_nullified, offers}
use Rattle.voter_history.specs.History.{built, seen}
use Rattle.voter_views.specs.Views as above
use Rattle.voter_rules.specs.Building.{proposal_on}
use Rattle.simplex_state.specs.State.{Keeps}
use Rattle.simplex_state.proofs.Keeping.{keeps_owed_if}
use Rattle.simplex_state.proofs.Owing.{owed_more, owed_still, owed_there}
use Rattle.simplex_state.proofs.state.State.proposed.Goals as goal

made : {D P : Type 0} (p : Proposal D) (context : Context D P) (payload : D) → p.round ≡ context.round → p.parent ≡ context.parent.0 → p.payload ≡ payload → p ≡ proposal_on context payload
made p context payload round parent same = λ i. record { round = round i; parent = parent i; payload = same i }

pub returns-then-not-is_tracked-clause-keeps : goal.returns-then-not-is_tracked-clause-keeps
returns-then-not-is_tracked-clause-keeps g c = λ s h k. k

pub returns-then-not-is_tracked-clause-answer : goal.returns-then-not-is_tracked-clause-answer
unfolding Keeps
returns-then-not-is_tracked-clause-answer g c = λ s h k. (λ never. absurd (cc never), λ is. absurd (both_ways c.is_tracked.result c.if-not-is_tracked.true ((c.is_tracked.ensures s h k.views).1 is.0)))

pub returns-then-not-is_captured-clause-keeps : goal.returns-then-not-is_captured-clause-keeps
returns-then-not-is_captured-clause-keeps g c = λ s h k. k

pub returns-then-not-is_captured-clause-answer : goal.returns-then-not-is_captured-clause-answer
returns-then-not-is_captured-clause-answer g c = λ s h k. (λ never. absurd (cc (never)), λ is. absurd (both_ways c.is_captured.result c.if-not-is_captured.true ((c.is_captured.ensures s h k).1 is.1)))

pub returns-clause-keeps : goal.returns-clause-keeps
unfolding Keeps
returns-clause-keeps g c = IfOk-weaker c.proposed.result _ _
    (λ taken moved s h k.
    let same = made c.new-proposal.result c.args.context.now c.args.payload c.new-proposal.ensures.round c.new-proposal.ensures.parent c.new-proposal.ensures.payload in
    let point = built c.args.now (proposal_on c.args.context.now c.args.payload) c.args.context.now.parent.1 in
    let owed = owed_more s h false c.args.self.now.notarizes c.add.new.self c.in_ok-add.ensures.kept k.notarizes in
    keeps_owed_if g.S.Scheme g.L.Elector s h c.args.self.now _ k taken point c.wake.new.candidates c.add.new.self c.args.self.now.finalizes c.args.context.now.round.view refl c.in_ok-wake.ensures
    owed k.finalizes (owed_there s h false point c.args.context.now.round.view c.add.new.self refl c.in_ok-add.ensures.own owed) (owed_still s h true point c.args.self.now.finalizes refl k.finalizes)
    (subst (λ p. above.Keeps g.S.Scheme g.L.Elector s c.proposed.new.self (if taken then built c.args.now p c.args.context.now.parent.1 ∷ h else h)) same (moved s h k.views)))
    c.proposed.ensures.keeps

pub returns-clause-answer : goal.returns-clause-answer
unfolding Keeps
returns-clause-answer g c = IfOk-weaker c.proposed.result _ _
    (λ taken is s h k.
    let same = made c.new-proposal.result c.args.context.now c.args.payload c.new-proposal.ensures.round c.new-proposal.ensures.parent c.new-proposal.ensures.payload in
    let free = subst (λ p. IsTrue taken ↔ ((has_nullified (seen s h p.round.view) ≡ false) × Agrees (held (offers (seen s h p.round.view))) p)) same (is s h k.views) in
    (λ yes. let may = free.0 yes in ((c.is_tracked.ensures s h k.views).0 c.if-not-is_tracked.false, (c.is_captured.ensures s h k).0 c.if-not-is_captured.false, may.0, may.1), λ all. free.1 (all.2, all.3)))
    c.proposed.ensures.answer
