-- When a vote is due.
use Rattle.std.proofs.Common.{◌≡◌, true, false, ℕ, sym, ◌∙◌, ap, subst, ◌+◌, ◌-◌, ◌<◌, ◌≤◌, max, refl, arith}
use mathlib.Core.Bool.{true≢false}
use Rattle.std.proofs.lemmas.Bool.{false_from_ne_true}
use Rattle.std.proofs.lemmas.Option.{none-some, same_Some}
use Rattle.std.specs.Prelude.{not, Bool, Option, Some, None, IsSome, IsTrue, is_some, ◌↔◌, MatchOption}
use Rattle.std.specs.Option.{ForSome}
use Rattle.types_core.specs.declared.proposal.Proposal.{Proposal}
use Rattle.types_core.specs.Positions.{HasRoom, term_start}
use Rattle.types_terms.specs.Windows.{AdmitsOutbound}
use Rattle.voter_history.specs.Known.{Known}
use Rattle.voter_rules.specs.Ancestry.{Member, held_at, explicit, InWindow, Optimistic, IsRequired}
use Rattle.voter_rules.specs.Knowing.{HasGivenUpWithin}

module _ {D : Type 0} (m : Member) (k : Known D) where
  -- what is said of other numbers that are the same
  pub spoken_by : (view length optimistic current : ℕ) (answer : Bool) → length ≡ m.length → optimistic ≡ m.optimistic_views → current ≡ k.current
      → HasRoom length view → IsTrue answer ↔ AdmitsOutbound length optimistic current view → IsTrue answer ↔ (HasRoom m.length view × AdmitsOutbound m.length m.optimistic_views k.current view)
  spoken_by view length optimistic current answer terms early now room law = (
    λ so. (subst (λ (n : ℕ). HasRoom n view) terms room, there.0 so),
    λ spoken. there.1 spoken.1,
  )
    where
      there : IsTrue answer ↔ AdmitsOutbound m.length m.optimistic_views k.current view
      there = subst (λ (n : ℕ). IsTrue answer ↔ AdmitsOutbound m.length m.optimistic_views n view) now
          (subst (λ (n : ℕ). IsTrue answer ↔ AdmitsOutbound m.length n current view) early (subst (λ (n : ℕ). IsTrue answer ↔ AdmitsOutbound n optimistic current view) terms law))

  pub supported_by : (view before : ℕ) (o : Option D) → before ≡ view - 1 → InWindow m k view → MatchOption o ((payload : D) → ¬ Optimistic m k before payload) (λ payload. Optimistic m k before payload)
      → (is_some o ≡ true) ↔ (InWindow m k view → (payload : D) × Optimistic m k (view - 1) payload)
  supported_by view before None is inside none = (
    λ never. absurd (true≢false (sym never)),
    λ all. let one = all inside in absurd (none one.0 (subst (λ (u : ℕ). Optimistic m k u one.0) (sym is) one.1)),
  )
  supported_by view before (Some x) is inside one = (λ so w. (x, subst (λ (u : ℕ). Optimistic m k u x) is one), λ all. refl)

  pub healed_by : (view first : ℕ) (found : Bool) → first ≡ max (term_start m.length view) (k.last_finalized + 1) → IsTrue found ↔ HasGivenUpWithin m k first view
      → (not found ≡ true) ↔ ((u : ℕ) → term_start m.length view ≤ u → u < view → k.last_finalized < u → k.has_nullified u ≡ false)
  healed_by view first true is law = (
    λ never. absurd (true≢false (sym never)),
    λ all. let one = law.0 refl in absurd (true≢false (sym one.3 ∙ all one.0 (omega (arith, is, one.1)) one.2 (omega (arith, is, one.1)))),
  )
  healed_by view first false is law = (
    λ so u from below above. false_from_ne_true (k.has_nullified u) (λ given_up. true≢false (sym (law.1 (u, omega (arith, is, from, above), below, given_up)))),
    λ all. refl,
  )

  pub grounded_by : (view : ℕ) (p : Proposal D) (o : Option ℕ) (answer : Bool) → held_at m k view ≡ Some p
      → MatchOption o ((required : ℕ) → ¬ IsRequired m k view p.parent required) (λ required. IsRequired m k view p.parent required)
      → IsTrue answer ↔ ForSome o (λ u. IsSome (explicit m k u))
      → IsTrue answer ↔ ((q : Proposal D) (required : ℕ) → held_at m k view ≡ Some q → IsRequired m k view q.parent required → IsSome (explicit m k required))
  grounded_by view p None answer held none law = (
    λ so q required is asked.
        let parent : q.parent ≡ p.parent = ap (λ (x : Proposal D). x.parent) (same_Some q p (sym is ∙ held)) in
        absurd (none required (subst (λ (u : ℕ). IsRequired m k view u required) parent asked)),
    λ all. law.1 (λ u no. absurd (none-some u no)),
  )
  grounded_by view p (Some r) answer held found law = (
    λ so q required is asked.
        let same : r ≡ required = omega (arith, found.next, asked.next) in
        subst (λ (u : ℕ). IsSome (explicit m k u)) same (law.0 so r refl),
    λ all. law.1 (λ u is. subst (λ (v : ℕ). IsSome (explicit m k v)) (same_Some r u is) (all p r held found)),
  )
