-- What a view supports, and what it is built on, is one thing.
use Rattle.std.proofs.Common.{◌≡◌, ◌≢◌, ◌⊎◌, inl, inr, true, false, ℕ, zero, suc, sym, ◌∙◌, ap, subst, refl, ◌+◌, ◌-◌, ◌<◌, ◌≤◌, arith}
use mathlib.Core.Bool.{true≢false}
use Rattle.std.proofs.lemmas.Bool.{cases_lt}
use Rattle.std.proofs.lemmas.Bool.Decides.{nat_tests}
use Rattle.std.proofs.lemmas.Option.{none-some, same_Some}
use Rattle.std.specs.Prelude.{◌==◌, Bool, Some}
use Rattle.std.specs.Option.{ForSome}
use Rattle.types_core.specs.declared.proposal.Proposal.{Proposal}
use Rattle.types_core.specs.Positions.{term_start}
use Rattle.types_terms.specs.Windows.{issuance_floor}
use Rattle.voter_history.specs.Known.{Known}
use Rattle.voter_rules.specs.Ancestry.{Member, has_certificate, certificate_payload, explicit, InWindow, HasFailed, IsVotedFor, Optimistic, at_start, by_certificate, by_own_vote, Supports, IsLastCertified, IsPreferred}

-- a test is passed or not
either : (b : Bool) → (b ≡ true) ⊎ (b ≡ false)
either true = inl refl
either false = inr refl

-- one of so many numbers from this one on passes, or none does
search_from : (test : ℕ → Bool) (low n : ℕ) → ((u : ℕ) × (low ≤ u) × (u < low + n) × (test u ≡ true)) ⊎ ((u : ℕ) → low ≤ u → u < low + n → test u ≡ false)
search_from test low zero = inr (λ u above below. absurd (omega (arith, above, below)))
search_from test low (suc n) = with_last (either (test (low + n))) (search_from test low n)
  where
    with_last : (test (low + n) ≡ true) ⊎ (test (low + n) ≡ false)
        → ((u : ℕ) × (low ≤ u) × (u < low + n) × (test u ≡ true)) ⊎ ((u : ℕ) → low ≤ u → u < low + n → test u ≡ false)
        → ((u : ℕ) × (low ≤ u) × (u < low + suc n) × (test u ≡ true)) ⊎ ((u : ℕ) → low ≤ u → u < low + suc n → test u ≡ false)
    with_last (inl passes) rest = inl (low + n, omega arith, omega arith, passes)
    with_last (inr fails) (inl found) = inl (found.0, found.1, omega (arith, found.2), found.3)
    with_last (inr fails) (inr none) = inr (λ u above below. beside u above below (cases_lt u (low + n)))
      where
        beside : (u : ℕ) → low ≤ u → u < low + suc n → (u < low + n) ⊎ (low + n ≤ u) → test u ≡ false
        beside u above below (inl before) = none u above before
        beside u above below (inr last) = let at : u ≡ low + n = omega (arith, below, last) in rw at fails

module _ {D : Type 0} (m : Member) (k : Known D) where
  -- a view is in the issuance window or not
  pub window_or_not : (view : ℕ) → InWindow m k view ⊎ ¬ InWindow m k view
  window_or_not view = by (either (m.optimistic_views == 0)) (either (view == term_start m.length view)) (either (floor == 0)) (search_from (has_certificate m k) floor (view - floor))
    where
      floor : ℕ
      floor = issuance_floor m.optimistic_views view

      by : ((m.optimistic_views == 0) ≡ true) ⊎ ((m.optimistic_views == 0) ≡ false)
          → ((view == term_start m.length view) ≡ true) ⊎ ((view == term_start m.length view) ≡ false)
          → ((floor == 0) ≡ true) ⊎ ((floor == 0) ≡ false)
          → ((u : ℕ) × (floor ≤ u) × (u < floor + (view - floor)) × (has_certificate m k u ≡ true)) ⊎ ((u : ℕ) → floor ≤ u → u < floor + (view - floor) → has_certificate m k u ≡ false)
          → InWindow m k view ⊎ ¬ InWindow m k view
      by (inl none) starts bottom found = inr (λ w. w.optimism (grind (arith, nat_tests, none)))
      by (inr some) (inl starts) bottom found = inr (λ w. w.inside (grind (arith, nat_tests, starts)))
      by (inr some) (inr inside) (inl bottom) found = inl (record { optimism = grind (arith, nat_tests, some); inside = grind (arith, nat_tests, inside); anchor = inl (grind (arith, nat_tests, bottom)) })
      by (inr some) (inr inside) (inr above) (inl found) =
          inl (record { optimism = grind (arith, nat_tests, some); inside = grind (arith, nat_tests, inside); anchor = inr (found.0, found.1, omega (arith, found.2), found.3) })
      by (inr some) (inr inside) (inr above) (inr none) = inr (λ w. no_anchor w.anchor)
        where
          no_anchor : (floor ≡ 0) ⊎ ((u : ℕ) × (floor ≤ u) × (u < view) × (has_certificate m k u ≡ true)) → ⊥
          no_anchor (inl bottom) = grind (arith, nat_tests, above, bottom)
          no_anchor (inr anchor) = true≢false (sym anchor.3 ∙ none anchor.0 anchor.1 (omega (arith, anchor.1, anchor.2)))

  -- why a payload is supported
  abbrev pub Why : ℕ → D → Type 0
  Why view a = ((view ≡ 0) × (k.genesis ≡ Some a))
      ⊎ (((view ≢ 0) × (has_certificate m k view ≡ true) × (certificate_payload m k view ≡ Some a) × ¬ HasFailed m k view)
      ⊎ ((p : Proposal D) × (view ≢ 0) × IsVotedFor m k view p × (p.payload ≡ a) × ((x : D) × Optimistic m k p.parent x × ForSome (k.binding view) (λ b. b.1 ≡ x))))

  pub why : (view : ℕ) (a : D) → Optimistic m k view a → Why view a
  why view a o = elim o as (λ view a o. Why view a) [
    | at_start start ↦ inl (refl, start)
    | by_certificate some direct sound payload ↦ inr (inl (some, direct, payload, sound))
    | by_own_vote {p = p} {payload = x} some voted below bound ↦ inr (inr (p, some, voted, refl, (x, below, bound)))
  ]

  -- only one payload is
  pub one_is_supported : (view : ℕ) (a b : D) → Optimistic m k view a → Optimistic m k view b → a ≡ b
  one_is_supported view a b one other = same (why view a one) (why view b other)
    where
      same : Why view a → Why view b → a ≡ b
      same (inl x) (inl y) = same_Some a b (sym x.1 ∙ y.1)
      same (inl x) (inr (inl y)) = absurd (y.0 x.0)
      same (inl x) (inr (inr y)) = absurd (y.1 x.0)
      same (inr (inl x)) (inl y) = absurd (x.0 y.0)
      same (inr (inr x)) (inl y) = absurd (x.1 y.0)
      same (inr (inl x)) (inr (inl y)) = same_Some a b (sym x.2 ∙ y.2)
      same (inr (inl x)) (inr (inr y)) = absurd (true≢false (sym x.1 ∙ y.2.undecided))
      same (inr (inr x)) (inr (inl y)) = absurd (true≢false (sym y.1 ∙ x.2.undecided))
      same (inr (inr x)) (inr (inr y)) = sym x.3 ∙ (ap (λ (p : Proposal D). p.payload) (same_Some x.0 y.0 (sym x.2.held ∙ y.2.held)) ∙ y.3)

  pub one_supports : (view parent : ℕ) (a b : D) → Supports m k view parent a → Supports m k view parent b → a ≡ b
  one_supports view parent a b one other = by (window_or_not view)
    where
      by : InWindow m k view ⊎ ¬ InWindow m k view → a ≡ b
      by (inl inside) = one_is_supported parent a b (one.inside inside) (other.inside inside)
      by (inr outside) = same_Some a b (sym (one.outside outside) ∙ other.outside outside)

  -- only one explicit view is the highest
  one_is_last : (view u w : ℕ) (a b : D) → IsLastCertified m k view u a → IsLastCertified m k view w b → (u ≡ w) × (a ≡ b)
  one_is_last view u w a b one other = by (cases_lt u w) (cases_lt w u)
    where
      by : (u < w) ⊎ (w ≤ u) → (w < u) ⊎ (u ≤ w) → (u ≡ w) × (a ≡ b)
      by (inl below) rest = absurd (none-some b (sym (one.highest w below other.below) ∙ other.there))
      by (inr above) (inl below) = absurd (none-some a (sym (other.highest u below one.below) ∙ one.there))
      by (inr above) (inr below) =
          let same : u ≡ w = omega (arith, above, below) in
          (same, same_Some a b (sym (subst (λ (v : ℕ). explicit m k v ≡ Some a) same one.there) ∙ other.there))

  -- only one parent is to be built on
  pub one_is_preferred : (view u w : ℕ) (a b : D) → IsPreferred m k view u a → IsPreferred m k view w b → (u ≡ w) × (a ≡ b)
  one_is_preferred view u w a b (inl one) (inl other) =
      let same : u ≡ w = omega (arith, one.next, other.next) in
      (same, one_supports view w a b (subst (λ (v : ℕ). Supports m k view v a) same one.supports) other.supports)
  one_is_preferred view u w a b (inl one) (inr (inl other)) = absurd (one.inside other.starts)
  one_is_preferred view u w a b (inl one) (inr (inr other)) = absurd (one.inside other.starts)
  one_is_preferred view u w a b (inr (inl one)) (inl other) = absurd (other.inside one.starts)
  one_is_preferred view u w a b (inr (inr one)) (inl other) = absurd (other.inside one.starts)
  one_is_preferred view u w a b (inr (inl one)) (inr (inl other)) = one_is_last view u w a b one other
  one_is_preferred view u w a b (inr (inl one)) (inr (inr other)) = absurd (other.no_other u a one)
  one_is_preferred view u w a b (inr (inr one)) (inr (inl other)) = absurd (one.no_other w b other)
  one_is_preferred view u w a b (inr (inr one)) (inr (inr other)) =
      let same : u ≡ w = omega (arith, one.next, other.next) in
      (same, one_is_supported w a b (subst (λ (v : ℕ). Optimistic m k v a) same one.there) other.there)
