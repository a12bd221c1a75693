-- Which parent is to be built on, and whether a binding stands.
use Rattle.std.proofs.Common.{◌≡◌, ◌≢◌, inl, inr, ℕ, sym, ◌∙◌, true, subst, ◌+◌, ◌<◌, arith}
use mathlib.Core.Bool.{true≢false}
use Rattle.std.proofs.lemmas.Bool.{cases_lt}
use Rattle.std.proofs.lemmas.Option.{none-some, same_Some}
use Rattle.std.specs.Prelude.{Bool, IsTrue, Option, Some, None, is_some, ◌↔◌, MatchOption, MatchResult}
use Rattle.std.specs.Option.{ForSome, ok_or}
use Rattle.types_core.specs.declared.proposal.Proposal.{Proposal}
use Rattle.types_core.specs.Positions.{IsTermStart}
use Rattle.voter_history.specs.Known.{Known}
use Rattle.voter_rules.specs.Ancestry.{Member, IsCovered, AreCoveredBetween, IsFirstUncovered, IsSpan, explicit, Optimistic, Supports, IsParent, IsHandoffParent, IsLastCertified, IsHandedOver, IsPreferred, LeadsBySchedule, Stands}
use Rattle.voter_rules.specs.Knowing.{Explains, IsHighest}
use Rattle.voter_rules.specs.declared.ancestry.ParentFault.TheVariants as fault
use Rattle.voter_rules.proofs.Single.{one_is_preferred, one_supports, why}

module _ {D : Type 0} (m : Member) (k : Known D) where
  -- the payload that the parent rule gives is the one that it allows
  pub given_allows : (view parent : ℕ) (given payload : D) (answer same : Bool) → answer ≡ same → IsTrue same ↔ (given ≡ payload) → IsParent m k view parent given
      → IsTrue answer ↔ IsParent m k view parent payload
  given_allows view parent given payload answer same is law rule = (
    λ yes. subst (λ (x : D). IsParent m k view parent x) (law.0 (sym is ∙ yes)) rule,
    λ other. is ∙ law.1 (one_supports m k view parent given payload rule.supports other.supports),
  )

  -- it gives what is supported, and where nothing is, that alone is missing
  pub parent_of : (view parent : ℕ) (o : Option D) → IsSpan m k view parent → MatchOption o ((payload : D) → ¬ Supports m k view parent payload) (λ payload. Supports m k view parent payload)
      → MatchResult (ok_or o fault.Missing) (λ payload. IsParent m k view parent payload) (λ why. Explains m k view parent why)
  parent_of view parent None span none = record { span = span; missing = none }
  parent_of view parent (Some payload) span supports = record { span = span; supports = supports }

  -- inside a term only the view before is built on
  pub no_predecessor : (view before : ℕ) → ¬ IsTermStart m.length view → view ≡ before + 1 → ((payload : D) → ¬ Supports m k view before payload)
      → (parent : ℕ) (payload : D) → ¬ IsPreferred m k view parent payload
  no_predecessor view before inside next none parent payload (inl p) =
      let same : parent ≡ before = omega (arith, next, p.next) in
      none payload (subst (λ (u : ℕ). Supports m k view u payload) same p.supports)
  no_predecessor view before inside next none parent payload (inr (inl l)) = inside l.starts
  no_predecessor view before inside next none parent payload (inr (inr o)) = inside o.starts

  -- only the highest explicit view below may be the parent at a term's start, where each view between is covered
  pub none_is_last : (view : ℕ) → ((u : ℕ) → u < view → explicit m k u ≡ None) → (parent : ℕ) (payload : D) → ¬ IsLastCertified m k view parent payload
  none_is_last view none parent payload l = none-some payload (sym (none parent l.below) ∙ l.there)

  pub uncovered_is_last : (view : ℕ) (u : ℕ) (x : D) → IsHighest m k view u x
      → (o : Option ℕ) → is_some o ≡ true → MatchOption o (AreCoveredBetween m k u view) (λ first. IsFirstUncovered m k u view first) → (parent : ℕ) (payload : D) → ¬ IsLastCertified m k view parent payload
  uncovered_is_last view u x last None there all parent payload l = true≢false (sym there)
  uncovered_is_last view u x last (Some w) there first parent payload l = elim (cases_lt parent u) [
    | inl under ↦ none-some x (sym (l.highest u under last.below) ∙ last.there)
    | inr from ↦ elim (cases_lt u parent) [
      | inl above ↦ none-some payload (sym (last.highest parent above l.below) ∙ l.there)
      | inr to ↦ first.bare (l.covered w (omega (arith, to, first.after)) first.before)
    ]
  ]

  -- where there is no such parent, the view that is handed over is built on
  pub over_is_preferred : (view : ℕ) → IsTermStart m.length view → (o : Option (ℕ × D)) → ((u : ℕ) (other : D) → ¬ IsLastCertified m k view u other)
      → MatchOption o ((parent : ℕ) (payload : D) → ¬ IsHandedOver m k view parent payload) (λ x. IsHandedOver m k view x.0 x.1)
      → MatchOption o ((parent : ℕ) (payload : D) → ¬ IsPreferred m k view parent payload) (λ x. IsPreferred m k view x.0 x.1)
  over_is_preferred view starts None no_other none = λ parent payload preferred. elim preferred [
    | inl p ↦ p.inside starts
    | inr rest ↦ elim rest [ inl l ↦ no_other parent payload l | inr over ↦ none parent payload over ]
  ]
  over_is_preferred view starts (Some x) no_other over = inr (inr over)

  -- the start is never handed over: what it supports it is explicit with
  start_is_explicit : (view : ℕ) (payload : D) → view ≡ 0 → Optimistic m k view payload → explicit m k view ≡ Some payload
  start_is_explicit view payload zero o = elim (why m k view payload o) [
    | inl start ↦ rw zero start.1
    | inr rest ↦ elim rest [ inl certified ↦ absurd (certified.0 zero) | inr voted ↦ absurd (voted.1 zero) ]
  ]

  start_is_kept : (view parent : ℕ) (payload : D) → parent ≡ 0 → ¬ IsHandedOver m k view parent payload
  start_is_kept view parent payload zero over = over.no_other parent payload (record {
    starts = over.starts;
    below = omega (arith, over.next);
    there = start_is_explicit parent payload zero over.there;
    highest = λ u after before. absurd (omega (arith, after, before, over.next));
    covered = λ u after before. absurd (omega (arith, after, before, over.next));
  })

  -- nor is a view that may not be handed off, or supports nothing
  pub not_over : (view before : ℕ) → view ≡ before + 1 → ¬ ((before ≢ 0) × IsHandoffParent m k before) → (parent : ℕ) (payload : D) → ¬ IsHandedOver m k view parent payload
  not_over view before next never parent payload over =
      let same : parent ≡ before = omega (arith, next, over.next) in
      elim (cases_lt 0 parent) [
        | inl some ↦ never (λ none. omega (arith, some, same, none), subst (λ (u : ℕ). IsHandoffParent m k u) same over.handoff)
        | inr none ↦ start_is_kept view parent payload (omega (arith, none)) over
      ]

  pub unsupported_over : (view before : ℕ) → view ≡ before + 1 → ((payload : D) → ¬ Optimistic m k before payload) → (parent : ℕ) (payload : D) → ¬ IsHandedOver m k view parent payload
  unsupported_over view before next none parent payload over =
      let same : parent ≡ before = omega (arith, next, over.next) in
      none payload (subst (λ (u : ℕ). Optimistic m k u payload) same over.there)

  -- a view may be handed off where the next one starts a term, a schedule names this member for that, and the view isn't covered
  pub ends_term : (view next : ℕ) → next ≡ view + 1 → IsHandoffParent m k view → IsTermStart m.length next
  ends_term view next is handoff = subst (λ (u : ℕ). IsTermStart m.length u) (sym is) handoff.ends

  pub handoff_by : (before view next : ℕ) → view ≡ before + 1 → next ≡ view + 1 → IsTermStart m.length next → LeadsBySchedule m next → (o : Option ℕ) (bare : Bool) → bare ≡ is_some o
      → MatchOption o (AreCoveredBetween m k before next) (λ first. IsFirstUncovered m k before next first) → IsTrue bare ↔ ((view ≢ 0) × IsHandoffParent m k view)
  handoff_by before view next at behind starts leads None bare none covered = (
    λ so. absurd (true≢false (sym so ∙ none)),
    λ both. absurd (both.1.bare (covered view (omega (arith, at)) (omega (arith, behind)))),
  )
  handoff_by before view next at behind starts leads (Some first) bare some uncovered = (
    λ so. (
      λ zero. omega (arith, at, zero),
      record {
        ends = subst (λ (u : ℕ). IsTermStart m.length u) behind starts;
        leads = subst (λ (u : ℕ). LeadsBySchedule m u) behind leads;
        bare = λ covered. let here : view ≡ first = omega (arith, at, behind, uncovered.after, uncovered.before) in uncovered.bare (subst (λ (u : ℕ). IsCovered m k u) here covered);
      },
    ),
    λ both. some,
  )

  -- what was found is all that is preferred
  pub found_prefers : (view parent : ℕ) (payload : D) (o : Option (ℕ × D)) → MatchOption o ((u : ℕ) (x : D) → ¬ IsPreferred m k view u x) (λ x. IsPreferred m k view x.0 x.1)
      → (o ≡ Some (parent, payload)) ↔ IsPreferred m k view parent payload
  found_prefers view parent payload None none = (λ is. absurd (none-some (parent, payload) is), λ preferred. absurd (none parent payload preferred))
  found_prefers view parent payload (Some (u, x)) found = (
    λ is. subst (λ (y : ℕ × D). IsPreferred m k view y.0 y.1) (same_Some (u, x) (parent, payload) is) found,
    λ preferred.
        let one = one_is_preferred m k view u parent x payload found preferred in
        λ i. Some (one.0 i, one.1 i),
  )

  -- a binding that is there is the one that has to stand
  pub steady_of : (view : ℕ) (b : Proposal D × D) → k.binding view ≡ Some b → Stands m k view b ↔ ForSome (k.binding view) (Stands m k view)
  steady_of view b is = (λ stands other there. subst (λ (y : Proposal D × D). Stands m k view y) (same_Some b other (sym is ∙ there)) stands, λ steady. steady b is)
