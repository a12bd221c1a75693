-- Whether a view is in the issuance window.
use Rattle.std.proofs.Common.{◌≡◌, ◌≢◌, ◌⊎◌, inl, inr, ℕ, sym, ◌∙◌, ap, subst}
use Rattle.std.proofs.lemmas.Option.{none-some}
use Rattle.std.specs.Prelude.{Option, Some, None, MatchOption}
use Rattle.types_core.specs.Positions.{IsTermStart}
use Rattle.types_terms.specs.Windows.{issuance_floor}
use Rattle.voter_history.specs.Known.{Known}
use Rattle.voter_rules.specs.Ancestry.{Member, InWindow, Optimistic, Supports, explicit}
use Rattle.voter_rules.specs.Knowing.{HasCertificateWithin}

-- which payload a view's proposal may stand on a parent with
module _ {D : Type 0} (m : Member) (k : Known D) (view parent : ℕ) where
  pub inside_supports : (o : Option D) → InWindow m k view → MatchOption o ((payload : D) → ¬ Optimistic m k parent payload) (λ payload. Optimistic m k parent payload)
      → MatchOption o ((payload : D) → ¬ Supports m k view parent payload) (λ payload. Supports m k view parent payload)
  inside_supports None inside none = λ payload supports. none payload (supports.inside inside)
  inside_supports (Some payload) inside there = record { inside = λ w. there; outside = λ outside. absurd (outside inside) }

  pub outside_supports : (o : Option D) → ¬ InWindow m k view → o ≡ explicit m k parent
      → MatchOption o ((payload : D) → ¬ Supports m k view parent payload) (λ payload. Supports m k view parent payload)
  outside_supports None outside is = λ payload supports. none-some payload (is ∙ supports.outside outside)
  outside_supports (Some payload) outside is = record { inside = λ inside. absurd (outside inside); outside = λ w. sym is }

-- over the numbers that this member has
module _ {D : Type 0} (m : Member) (k : Known D) (view length optimistic : ℕ) (terms : length ≡ m.length) (early : optimistic ≡ m.optimistic_views) where
  pub outside_by : (optimistic ≡ 0) ⊎ IsTermStart length view → ¬ InWindow m k view
  outside_by (inl none) w = w.optimism (sym early ∙ none)
  outside_by (inr starts) w = w.inside (subst (λ (n : ℕ). IsTermStart n view) terms starts)

  module _ (floor : ℕ) (is : floor ≡ issuance_floor optimistic view) where
    lowest : floor ≡ issuance_floor m.optimistic_views view
    lowest = is ∙ ap (λ (n : ℕ). issuance_floor n view) early

    pub inside_by : ¬ ((optimistic ≡ 0) ⊎ IsTermStart length view) → (floor ≡ 0) ⊎ HasCertificateWithin m k floor view → InWindow m k view
    inside_by possible anchor = record {
      optimism = λ none. possible (inl (early ∙ none));
      inside = λ starts. possible (inr (subst (λ (n : ℕ). IsTermStart n view) (sym terms) starts));
      anchor = subst (λ (u : ℕ). (u ≡ 0) ⊎ HasCertificateWithin m k u view) lowest anchor;
    }

    pub anchored : InWindow m k view → floor ≢ 0 → HasCertificateWithin m k floor view
    anchored w above = elim w.anchor [
      | inl bottom ↦ absurd (above (lowest ∙ bottom))
      | inr there ↦ subst (λ (u : ℕ). HasCertificateWithin m k u view) (sym lowest) there
    ]
