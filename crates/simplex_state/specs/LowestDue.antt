-- The lowest views of which votes are due, and where to look for them.
use Rattle.std.specs.Prelude.{◌≡◌, ◌<◌, ◌^◌, ℕ, Bool, true, false, IsTrue, List, Some}
use Rattle.messages_certificates.specs.declared.artifact.Artifact.{Artifact}
use Rattle.messages_certificates.specs.declared.artifact.Artifact.TheVariants as artifact
use Rattle.voter_history.specs.Held.{IsConfirmed}
use Rattle.voter_history.specs.Past as past
use Rattle.voter_history.specs.Past.{Item}
use Rattle.voter_history.specs.Known.{Known}
use Rattle.voter_rules.specs.Ancestry.{Member}
use Rattle.voter_rules.specs.VotesDue.{NotarizeIsDue, FinalizeIsDue}
use Rattle.simplex_state.specs.declared.owed.Owed.{Owed}
use Rattle.simplex_state.specs.OwedViews.{Has}

module _ {D : Type 0} (m : Member) (k : Known D) where
  -- the lowest view of which a notarize is due; and that none is of any
  pub record IsFirstNotarize (view : ℕ) : Type 0 where
    pub due : NotarizeIsDue m k view
    pub lowest : (u : ℕ) → u < view → ¬ NotarizeIsDue m k u

  abbrev pub NoNotarizeIsDue : Type 0
  NoNotarizeIsDue = (view : ℕ) → ¬ NotarizeIsDue m k view

  -- the lowest view of which a finalize is due; and that none is of any
  pub record IsFirstFinalize (view : ℕ) : Type 0 where
    pub due : FinalizeIsDue m k view
    pub lowest : (u : ℕ) → u < view → ¬ FinalizeIsDue m k u

  abbrev pub NoFinalizeIsDue : Type 0
  NoFinalizeIsDue = (view : ℕ) → ¬ FinalizeIsDue m k view

module _ {S D P G C : Type 0} where
  -- an artifact is a true verdict
  abbrev pub IsTrueVerdict : Artifact S D P G C → Type 0
  IsTrueVerdict (artifact.Certification round ok) = IsTrue ok
  IsTrueVerdict x = ⊥

  -- by what happened to it, a view may owe a notarize: its proposal was found good, and neither notarize nor nullify was voted
  pub record MayOweNotarize (x : List (Item S D P G C)) : Type 0 where
    pub first : past.has_notarized x ≡ false
    pub not_given_up : past.has_nullified x ≡ false
    pub found : IsConfirmed (past.offers x)

  -- and so a finalize: its verdict is true, and neither nullify nor finalize was voted
  pub record MayOweFinalize (x : List (Item S D P G C)) : Type 0 where
    pub undecided : past.is_undecided x ≡ true
    pub certified : past.verdict x ≡ Some true

  -- the one, or the other
  abbrev pub MayOwe : Bool → List (Item S D P G C) → Type 0
  MayOwe false x = MayOweNotarize x
  MayOwe true x = MayOweFinalize x

  -- each view that may owe such a vote is among these
  pub record AreOwed (is_finalize : Bool) (t : ℕ → List (Item S D P G C)) (owed : Owed) : Type 0 where
    pub all : (view : ℕ) → view < 2 ^ 64 → MayOwe is_finalize (t view) → Has owed view
