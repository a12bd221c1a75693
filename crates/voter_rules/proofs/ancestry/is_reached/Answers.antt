use Rattle.std.proofs.Common.{inl, inr, ℕ, sym, subst}
use Rattle.std.proofs.lemmas.Bool.{iff_false}
use Rattle.voter_rules.specs.Ancestry.{InWindow}
use Rattle.voter_rules.proofs.Testing.{always}
use Rattle.voter_rules.proofs.ancestry.is_reached.Goals as goal

pub returns-then-is_in_window : goal.returns-then-is_in_window
returns-then-is_in_window g c = λ m k shown some.
    always (inl (subst (λ (u : ℕ). InWindow m k u) c.next.ensures ((c.is_in_window.ensures m k shown).0 c.if-is_in_window.true)))

pub returns : goal.returns
returns g c = λ m k shown some.
    let over = c.is_handoff_parent.ensures m k shown in (
      λ so. inr (over.0 so).1,
      λ either. elim either [
        | inl inside ↦ absurd (iff_false (c.is_in_window.ensures m k shown) c.if-is_in_window.false (subst (λ (u : ℕ). InWindow m k u) (sym c.next.ensures) inside))
        | inr handoff ↦ over.1 (some, handoff)
      ],
    )
