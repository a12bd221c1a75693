use Rattle.std.proofs.Common.{◌≡◌, ◌≢◌, ◌<◌, ◌≤◌, ◌-◌, ◌∷◌, [], ℕ, None, length, refl, sym, ◌∙◌, ap, subst}
use Rattle.std.specs.Vec.{vec_len}
use Rattle.std.proofs.lemmas.Bool.{eq-eqb, eqb-true}
use Rattle.std.proofs.lemmas.List.{nil_from_length}
use Rattle.std.proofs.lemmas.Map.Keys.{le_from_is_le}
use Rattle.std.proofs.lemmas.Result.{on_ok_weaker}
use Rattle.voter_history.specs.Past.{forwardable_proposal}
use Rattle.voter_history.specs.History.{seen}
use Rattle.simplex_member.specs.Deeds.{Relays, RelaysTo, relay_deeds}
use Rattle.simplex_member.specs.Layers.{current_of, voter_of}
use Rattle.node_outbox.specs.Handing.{hands_as, nothing_more}
use Rattle.node_core.proofs.Recipients.{above_from, handed_to, not_entered, nothing_held, some_handed}
use Rattle.node_core.proofs.node_state.Core.relay_at_entry.Goals as goal

-- no view was entered
pub returns-then-le-clause-acts : goal.returns-then-le-clause-acts
returns-then-le-clause-acts g c = λ f s h p same k was.
    let now : c.current_view-current.result ≡ current_of s (p ∷ h) = c.current_view-current.ensures s.voter (voter_of s (p ∷ h)) k.voter in
    let under : c.current_view-current.result ≤ c.args.was = le_from_is_le _ _ (sym c.if-le.ensures) in
    let low : current_of s (p ∷ h) ≤ current_of s h = subst (λ (n : ℕ). n ≤ current_of s h) now (subst (λ (n : ℕ). c.current_view-current.result ≤ n) was under) in
    hands_as f _ _ _ _ (not_entered g.S.Scheme f s h p low) (nothing_more f c.args.out.now.items)

-- of the view before nothing may be forwarded
pub returns-in_default-forwardable_proposal-clause-acts : goal.returns-in_default-forwardable_proposal-clause-acts
returns-in_default-forwardable_proposal-clause-acts g c = λ f s h p same k was.
    let now : c.current_view-current.result ≡ current_of s (p ∷ h) = c.current_view-current.ensures s.voter (voter_of s (p ∷ h)) k.voter in
    let above : c.args.was < c.current_view-current.result = above_from _ _ c.if-le.ensures in
    let high : current_of s h < current_of s (p ∷ h) = subst (λ (n : ℕ). current_of s h < n) now (subst (λ (n : ℕ). n < c.current_view-current.result) was above) in
    let at : c.in-Some.before ≡ current_of s (p ∷ h) - 1 = c.in-Some.ensures.before ∙ ap (λ (n : ℕ). n - 1) now in
    let held = c.in_default-forwardable_proposal.ensures s.voter (voter_of s (p ∷ h)) (c.views.ensures s.voter (voter_of s (p ∷ h)) k.voter) in
    hands_as f _ _ _ _ (nothing_held g.S.Scheme f s h p high (subst (λ (n : ℕ). None ≡ forwardable_proposal (seen s.voter (voter_of s (p ∷ h)) n)) at held)) (nothing_more f c.args.out.now.items)

-- nobody gets it
pub returns-then-is_empty-clause-acts : goal.returns-then-is_empty-clause-acts
returns-then-is_empty-clause-acts g c =
    let none : c.in-Ok.recipients.items ≡ [] = nil_from_length _ (sym c.in-Ok.recipients.ok.0 ∙ eqb-true (vec_len c.in-Ok.recipients) 0 (sym c.is_empty.ensures ∙ c.if-is_empty.true)) in
    λ f s h p same k was.
    let v = voter_of s (p ∷ h) in
    let q = c.in-Some-forwardable_proposal.proposal in
    let now : c.current_view-current.result ≡ current_of s (p ∷ h) = c.current_view-current.ensures s.voter v k.voter in
    let above : c.args.was < c.current_view-current.result = above_from _ _ c.if-le.ensures in
    let high : current_of s h < c.current_view-current.result = subst (λ (n : ℕ). n < c.current_view-current.result) was above in
    let is = handed_to g.S.Scheme f s h p q c.in-Ok.recipients.items c.current_view-current.result c.in-Some.before now high c.in-Some.ensures.before
    (c.in-Some-forwardable_proposal.ensures s.voter v (c.views.ensures s.voter v k.voter)) (c.in-Ok.ensures f s (p ∷ h) k same) in
    hands_as f _ _ _ _ (is ∙ ap (relay_deeds q) none) (nothing_more f c.args.out.now.items)

-- these get it
pub returns-clause-acts : goal.returns-clause-acts
returns-clause-acts g c =
    let some : c.in-Ok.recipients.items ≢ [] = λ e. absurd (cc (eq-eqb (vec_len c.in-Ok.recipients) 0 (c.in-Ok.recipients.ok.0 ∙ ap length e), c.is_empty.ensures, c.if-is_empty.false)) in
    on_ok_weaker c.hand_out.result (λ done f s h p same k was.
    let v = voter_of s (p ∷ h) in
    let q = c.in-Some-forwardable_proposal.proposal in
    let now : c.current_view-current.result ≡ current_of s (p ∷ h) = c.current_view-current.ensures s.voter v k.voter in
    let above : c.args.was < c.current_view-current.result = above_from _ _ c.if-le.ensures in
    let high : current_of s h < c.current_view-current.result = subst (λ (n : ℕ). n < c.current_view-current.result) was above in
    let is = handed_to g.S.Scheme f s h p q c.in-Ok.recipients.items c.current_view-current.result c.in-Some.before now high c.in-Some.ensures.before
    (c.in-Some-forwardable_proposal.ensures s.voter v (c.views.ensures s.voter v k.voter)) (c.in-Ok.ensures f s (p ∷ h) k same) in
    hands_as f _ _ _ _ (is ∙ some_handed q c.in-Ok.recipients.items some) (done f (Relays q.payload (RelaysTo q.round c.in-Ok.recipients.items)) (refl, (refl, refl)))) c.hand_out.ensures.done
