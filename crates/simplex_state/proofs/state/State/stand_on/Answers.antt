use Rattle.std.proofs.Common.{◌≡◌, ◌∷◌, inl, inr, true, false, Bool, subst, if◌then◌else◌}
use Rattle.std.proofs.lemmas.Bool.{cases_Bool}
use Rattle.voter_history.specs.History.{finalized}
use Rattle.simplex_state.specs.Floor.{Broadcasts}
use Rattle.simplex_state.specs.State.{Keeps}
use Rattle.simplex_state.proofs.Keeping.{both_of}
use Rattle.simplex_state.proofs.state.State.stand_on.Goals as goal

-- where a test is known, its side is taken
chosen : {X : Type 0} (Q : X → Type 0) (b known : Bool) (x y : X) → b ≡ known → Q (if b then x else y) → Q (if known then x else y)
chosen Q b known x y same q = subst (λ (c : Bool). Q (if c then x else y)) same q

pub returns : goal.returns
returns g c = both_of c.broadcast_finalization.result _ _ _
    (λ copy keeps answer s h k.
    let grown = finalized c.args.now c.args.finalization ∷ h in
    let moved = c.in_ok-_taken.ensures.keeps s h k in
    let first = c.in_ok-_taken.ensures.first s h k in
    record {
      taken = λ is.
          let stands = chosen (λ hs. Keeps g.S.Scheme g.L.Elector s c.add_finalization.new.self hs) c.in_ok-_taken._taken.0 true grown h (first.1 is) moved in
          subst (λ v. Broadcasts g.S.Scheme g.L.Elector s c.broadcast_finalization.new.self grown v copy) c.view-view.ensures (record { answer = answer s grown stands; keeps = keeps s grown stands });
      known = λ not.
          let again : c.in_ok-_taken._taken.0 ≡ false = elim (cases_Bool c.in_ok-_taken._taken.0) [ inl taken ↦ absurd (not (first.0 taken)) | inr known ↦ known ] in
          let stands = chosen (λ hs. Keeps g.S.Scheme g.L.Elector s c.add_finalization.new.self hs) c.in_ok-_taken._taken.0 false grown h again moved in
          subst (λ v. Broadcasts g.S.Scheme g.L.Elector s c.broadcast_finalization.new.self h v copy) c.view-view.ensures (record { answer = answer s h stands; keeps = keeps s h stands });
    })
    c.broadcast_finalization.ensures.keeps c.broadcast_finalization.ensures.answer
