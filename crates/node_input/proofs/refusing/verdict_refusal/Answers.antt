use Rattle.std.proofs.Common.{inl, inr, refl, sym, ◌∙◌}
use Rattle.std.proofs.lemmas.Bool.{false≢true}
use Rattle.simplex_member.specs.Asked.{IsJudged}
use Rattle.simplex_member.specs.Recorded.{kept_of}
use Rattle.simplex_member.specs.Setup.{owner_of}
use Rattle.node_input.proofs.refusing.verdict_refusal.Goals as goal

pub returns-then-is_judged-clause-first : goal.returns-then-is_judged-clause-first
returns-then-is_judged-clause-first g c = λ s h k ok.
    let told = c.is_judged.ensures (owner_of s) (kept_of s.voter.length h) (c.recorded.ensures (owner_of s) (kept_of s.voter.length h) k.ledger) in
    let judged = told.0 c.if-is_judged.true in
    inr (λ both. both.0 judged, inl (judged, refl))

pub returns-then-not-awaits-clause-first : goal.returns-then-not-awaits-clause-first
returns-then-not-awaits-clause-first g c = λ s h k ok.
    let told = c.is_judged.ensures (owner_of s) (kept_of s.voter.length h) (c.recorded.ensures (owner_of s) (kept_of s.voter.length h) k.ledger) in
    let unjudged : IsJudged s h c.args.view → ⊥ = λ judged. false≢true (sym c.if-is_judged.false ∙ told.1 judged) in
    inl ((unjudged, λ awaited. false≢true (sym c.if-not-awaits.true ∙ (c.awaits.ensures.awaited s h k.tables unjudged).1 awaited)), refl)

pub returns-clause-first : goal.returns-clause-first
returns-clause-first g c = λ s h k ok.
    let told = c.is_judged.ensures (owner_of s) (kept_of s.voter.length h) (c.recorded.ensures (owner_of s) (kept_of s.voter.length h) k.ledger) in
    let unjudged : IsJudged s h c.args.view → ⊥ = λ judged. false≢true (sym c.if-is_judged.false ∙ told.1 judged) in
    inr (λ both. both.1 ((c.awaits.ensures.awaited s h k.tables unjudged).0 c.if-not-awaits.false), inr (unjudged, refl))

pub returns-clause-may : goal.returns-clause-may
returns-clause-may g c = λ s h k.
    let told = c.is_judged.ensures (owner_of s) (kept_of s.voter.length h) (c.recorded.ensures (owner_of s) (kept_of s.voter.length h) k.ledger) in
    let unjudged : IsJudged s h c.args.view → ⊥ = λ judged. false≢true (sym c.if-is_judged.false ∙ told.1 judged) in
    (c.awaits.ensures.awaited s h k.tables unjudged).0 c.if-not-awaits.false
