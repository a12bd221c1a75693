-- The issuance window is the same for leaders and for all that is due.
use Rattle.std.proofs.Common.{◌≡◌, ◌⊎◌, inl, inr, true, ℕ, zero, suc, List, sym, ◌∙◌, subst, refl, ◌+◌, ◌-◌, ◌<◌, ◌≤◌, arith}
use mathlib.Core.Bool.{true≢false}
use Rattle.std.proofs.lemmas.Bool.{and_from, and_parts, or_left, or_right, or_cases, cases_eq}
use Rattle.std.proofs.lemmas.Bool.Decides.{nat_tests}
use Rattle.std.specs.Prelude.{◌||◌, ◌&&◌, ◌==◌, not, Bool, Option, Some, None, is_some, option_map}
use Rattle.types_core.specs.Positions.{term_start}
use Rattle.types_terms.specs.Windows.{issuance_floor}
use Rattle.messages_certificates.specs.ProposalCertificate.{Notarization, Finalization}
use Rattle.voter_history.specs.Past as past
use Rattle.voter_history.specs.Pasts.{is_direct}
use Rattle.voter_history.specs.History.{Setup, Point, seen}
use Rattle.voter_history.specs.Leaders.{any_from}
use Rattle.voter_history.specs.Leaders.{has_anchor, is_in_window}
use Rattle.voter_history.specs.Known.{known}
use Rattle.voter_rules.specs.Ancestry.{member, has_certificate, InWindow}
use Rattle.voter_laws.specs.Matching.{WindowsAgree}

-- one of so many numbers passes, exactly where the test says so
any_found : (test : ℕ → Bool) (low n : ℕ) → any_from test low n ≡ true → (u : ℕ) × (low ≤ u) × (u < low + n) × (test u ≡ true)
any_found test low zero passes = absurd (true≢false (sym passes))
any_found test low (suc n) passes = by (or_cases (test (low + n)) (any_from test low n) passes) (any_found test low n)
  where
    by : (test (low + n) ≡ true) ⊎ (any_from test low n ≡ true) → (any_from test low n ≡ true → (u : ℕ) × (low ≤ u) × (u < low + n) × (test u ≡ true))
        → (u : ℕ) × (low ≤ u) × (u < low + suc n) × (test u ≡ true)
    by (inl last) before = (low + n, omega arith, omega arith, last)
    by (inr rest) before = let f = before rest in (f.0, f.1, omega (arith, f.2), f.3)

found_any : (test : ℕ → Bool) (low n u : ℕ) → low ≤ u → u < low + n → test u ≡ true → any_from test low n ≡ true
found_any test low zero u from below passes = absurd (omega (arith, from, below))
found_any test low (suc n) u from below passes = by (cases_eq u (low + n)) (found_any test low n u from)
  where
    by : (u ≡ low + n) ⊎ (u ≡ low + n → ⊥) → (u < low + n → test u ≡ true → any_from test low n ≡ true) → (test (low + n) || any_from test low n) ≡ true
    by (inl last) before = or_left (test (low + n)) (any_from test low n) (subst (λ (v : ℕ). test v ≡ true) last passes)
    by (inr apart) before = or_right (test (low + n)) (any_from test low n) (before (omega (arith, below, apart)) passes)

mapped_is_some : {A B : Type 0} (f : A → B) (o : Option A) → is_some (option_map f o) ≡ is_some o
mapped_is_some f None = refl
mapped_is_some f (Some x) = refl

module _ {S D P G C : Type 0} where
  -- a certificate that is known is one that was seen
  same_direct : (s : Setup S C) (h : List (Point S D P G C)) (view : ℕ) → has_certificate (member s) (known s h) view ≡ is_direct (seen s h view)
  same_direct s h view =
      rw (
        mapped_is_some (λ (c : Notarization S D P G C). c.proposal) (past.notarization (seen s h view)),
        mapped_is_some (λ (c : Finalization S D P G C). c.proposal) (past.finalization (seen s h view)),
      ) refl

  pub windows_agree : WindowsAgree S D P G C
  windows_agree s h view = (there, back)
    where
      reaches : (issuance_floor s.optimistic_views view ≡ 0) ⊎ ((u : ℕ) × (issuance_floor s.optimistic_views view ≤ u) × (u < view) × (has_certificate (member s) (known s h) u ≡ true))
          → ((issuance_floor s.optimistic_views view == 0) || has_anchor s h view) ≡ true
      reaches (inl bottom) = or_left (issuance_floor s.optimistic_views view == 0) (has_anchor s h view) (grind (arith, nat_tests, bottom))
      reaches (inr (u, from, below, direct)) =
          or_right (issuance_floor s.optimistic_views view == 0) (has_anchor s h view)
          (found_any (λ v. is_direct (seen s h v)) (issuance_floor s.optimistic_views view) (view - issuance_floor s.optimistic_views view) u from (omega (arith, from, below))
          (sym (same_direct s h u) ∙ direct))

      there : InWindow (member s) (known s h) view → is_in_window s h view ≡ true
      there w =
          let some : not (s.optimistic_views == 0) ≡ true = grind (arith, nat_tests, w.optimism) in
          let inside : not (view == term_start s.length view) ≡ true = grind (arith, nat_tests, w.inside) in
          and_from (not (s.optimistic_views == 0) && not (view == term_start s.length view)) _
          (and_from (not (s.optimistic_views == 0)) (not (view == term_start s.length view)) some inside) (reaches w.anchor)

      back : is_in_window s h view ≡ true → InWindow (member s) (known s h) view
      back passes =
          let both = and_parts (not (s.optimistic_views == 0) && not (view == term_start s.length view)) _ passes in
          let front = and_parts (not (s.optimistic_views == 0)) (not (view == term_start s.length view)) both.0 in
          record {
            optimism = grind (arith, nat_tests, front.0);
            inside = grind (arith, nat_tests, front.1);
            anchor = reached (or_cases (issuance_floor s.optimistic_views view == 0) (has_anchor s h view) both.1);
          }
        where
          reached : ((issuance_floor s.optimistic_views view == 0) ≡ true) ⊎ (has_anchor s h view ≡ true)
              → (issuance_floor s.optimistic_views view ≡ 0) ⊎ ((u : ℕ) × (issuance_floor s.optimistic_views view ≤ u) × (u < view) × (has_certificate (member s) (known s h) u ≡ true))
          reached (inl bottom) = inl (grind (arith, nat_tests, bottom))
          reached (inr anchor) =
              let f = any_found (λ v. is_direct (seen s h v)) (issuance_floor s.optimistic_views view) (view - issuance_floor s.optimistic_views view) anchor in
              inr (f.0, f.1, omega (arith, f.1, f.2), same_direct s h f.0 ∙ f.3)
