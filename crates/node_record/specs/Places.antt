-- Where in a record the certificates of a view stand.
use Rattle.std.specs.Prelude.{◌≡◌, ℕ, List, ◌∷◌, ◌++◌, length, Option, Some, None, MatchOption, slice_get}
use Rattle.std.specs.BTreeMap.{BTreeMap}
use Rattle.std.specs.declared.cmp.Reverse.{Reverse}
use Rattle.types_core.specs.LatestFirst.{stored}
use Rattle.messages_certificates.specs.declared.artifact.Artifact.{Artifact}
use Rattle.messages_certificates.specs.declared.artifact.Artifact.TheVariants as artifact
use Rattle.messages_certificates.specs.declared.nullify.Nullify.{Nullify}
use Rattle.messages_certificates.specs.ProposalCertificate.{Notarization, Finalization}
use Rattle.simplex_member.specs.Recorded.{finalization_in, notarization_in}
use Rattle.node_record.specs.declared.places.Places.{Places}

-- this element of a list stands behind so many
pub record StandsBehind {A : Type 0} (xs : List A) (place : ℕ) (x : A) : Type 0 where
  pub before : List A
  pub after : List A
  pub is : xs ≡ before ++ x ∷ after
  pub place_is : place ≡ length before

-- the element behind so many, where a number is named
abbrev pub at_place : {A : Type 0} → List A → Option ℕ → Option A
at_place xs None = None
at_place xs (Some place) = slice_get xs place

module _ {A X : Type 0} (found : List A → ℕ → Option X) (wrap : X → A) where
  -- what is found of a view in a list is the element behind so many
  abbrev pub IsFoundAt : List A → ℕ → ℕ → Type 0
  IsFoundAt xs view place = (c : X) × (found xs view ≡ Some c) × StandsBehind xs place (wrap c)

  -- of each view it is known behind how many elements that stands which is found of it, or that none is
  abbrev pub KnowsPlaces : BTreeMap (Reverse ℕ) ℕ → List A → Type 0
  KnowsPlaces places xs = (view : ℕ) → MatchOption (stored places view) (found xs view ≡ None) (IsFoundAt xs view)

module _ {S D P G C : Type 0} where
  -- the notarization that an artifact is
  abbrev pub as_notarization : Artifact S D P G C → Option (Notarization S D P G C)
  as_notarization (artifact.Notarization c) = Some c
  as_notarization x = None

  -- the finalization that it is
  abbrev pub as_finalization : Artifact S D P G C → Option (Finalization S D P G C)
  as_finalization (artifact.Finalization c) = Some c
  as_finalization x = None

  -- the own nullify that it is
  abbrev pub as_nullify : Artifact S D P G C → Option (Nullify S D P G C)
  as_nullify (artifact.Nullify v) = Some v
  as_nullify x = None

  -- of each view it is known where in a record its notarization stands, and where its finalization
  pub record KeepsPlaces (places : Places) (xs : List (Artifact S D P G C)) : Type 0 where
    pub notarizations : KnowsPlaces notarization_in artifact.Notarization places.notarizations xs
    pub finalizations : KnowsPlaces finalization_in artifact.Finalization places.finalizations xs
