-- The first of many views that was entered, and whether there is another parent to build on.
use Rattle.std.proofs.Common.{◌≡◌, ◌<◌, ◌≤◌, ◌+◌, ℕ, zero, suc, Bool, true, false, ◌⊎◌, inl, inr, refl, ⊎_elim, arith}
use Rattle.std.specs.Prelude.{◌↔◌, List, [], Option, Some, None, IsTrue, is_some, MatchOption}
use Rattle.std.proofs.lemmas.Bool.{both_ways, cases_lt}
use Rattle.voter_history.specs.Past as past
use Rattle.voter_history.specs.Past.{Item}
use Rattle.voter_rounds.specs.Rounds.{AreUntracked}
use Rattle.voter_history.specs.Known.{Known}
use Rattle.voter_rules.specs.Ancestry.{Member, IsPreferred}
use Rattle.voter_rules.specs.GivingUp.{first_from}
use Rattle.voter_rules.specs.Requests.{IsCaptured, IsSuperseded}

-- one of two facts holds exactly where the test of the first says so, or else that of the second
pub first_holds : (b : Bool) (P Q : Type 0) → IsTrue b ↔ P → b ≡ true → IsTrue true ↔ (P ⊎ Q)
first_holds b P Q first on = (λ yes. inl (first.0 on), λ is. refl)

pub second_holds : (b c : Bool) (P Q : Type 0) → IsTrue b ↔ P → b ≡ false → IsTrue c ↔ Q → IsTrue c ↔ (P ⊎ Q)
second_holds b c P Q first off second = (λ yes. inr (second.0 yes), ⊎_elim (λ p. absurd (both_ways b off (first.1 p))) (λ q. second.1 q))

-- there is another parent to build on exactly where one is found
pub another_preferred : {D : Type 0} (m : Member) (k : Known D) (view parent : ℕ) (payload : D) (o : Option (ℕ × D)) (b : Bool) → b ≡ is_some o → ¬ IsCaptured m k view parent payload
    → MatchOption o ((u : ℕ) (x : D) → ¬ IsPreferred m k view u x) (λ x. IsPreferred m k view x.0 x.1) → IsTrue b ↔ IsSuperseded m k view parent payload
another_preferred m k view parent payload None b test fallen none = (λ never. absurd (cc (test, never)), λ is. absurd (none is.other.0 is.other.1 is.other.2))
another_preferred m k view parent payload (Some x) b test fallen there = (λ yes. record { fallen = fallen; other = (x.0, x.1, there) }, λ is. test)

module _ (test : ℕ → Bool) where
  -- none of so many passes
  pub first_from-none : (low n : ℕ) → ((u : ℕ) → low ≤ u → u < low + n → test u ≡ false) → first_from test low n ≡ None
  first_from-none low zero bare = refl
  first_from-none low (suc n) bare = rw (bare low (omega arith) (omega arith)) (first_from-none (low + 1) n (λ u from below. bare u (omega (arith, from)) (omega (arith, below))))

  -- this one is the first that passes
  pub first_from-is : (low n u : ℕ) → low ≤ u → u < low + n → test u ≡ true → ((w : ℕ) → low ≤ w → w < u → test w ≡ false) → first_from test low n ≡ Some u
  first_from-is low zero u from below passes bare = absurd (omega (arith, from, below))
  first_from-is low (suc n) u from below passes bare = ⊎_elim
      (λ before. rw (bare low (omega arith) before) (first_from-is (low + 1) n u (omega (arith, before)) (omega (arith, below)) passes (λ w above under. bare w (omega (arith, above)) under)))
      (λ behind. let e : u ≡ low = omega (arith, behind, from) in rw (← e, passes) refl)
      (cases_lt low u)

module _ {S D P G C : Type 0} (led : ℕ → Option ℕ) (t : ℕ → List (Item S D P G C)) where
  abbrev entered : ℕ → Bool
  entered u = is_some (past.entered_at (t u))

  -- a view to which nothing happened was not entered
  unentered : (u : ℕ) → t u ≡ [] → entered u ≡ false
  unentered u none = rw none refl

  -- none of the views was entered, up to the first tracked one
  pub unentered_up : (low next first : ℕ) → ((u : ℕ) → low ≤ u → u < next → entered u ≡ false) → AreUntracked led t next first → (u : ℕ) → low ≤ u → u < first → entered u ≡ false
  unentered_up low next first bare untracked u from below = ⊎_elim
      (λ before. bare u from before)
      (λ behind. unentered u (untracked u behind below).0)
      (cases_lt u next)

  -- nor was the first tracked one
  pub unentered_through : (low next first : ℕ) → ((u : ℕ) → low ≤ u → u < next → entered u ≡ false) → AreUntracked led t next first → entered first ≡ false
      → (u : ℕ) → low ≤ u → u < first + 1 → entered u ≡ false
  unentered_through low next first bare untracked here u from below = ⊎_elim
      (λ before. unentered_up low next first bare untracked u from before)
      (λ behind. let e : u ≡ first = omega (arith, behind, below) in rw e here)
      (cases_lt u first)
