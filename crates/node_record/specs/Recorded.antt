-- What a member has recorded.
use Rattle.std.specs.Prelude.{◌≡◌, ◌<◌, ℕ, List, ◌∷◌, ◌++◌, Contains, vec_capacity, vec_len}
use Rattle.types_core.specs.Subject.{Statement}
use Rattle.messages_certificates.specs.declared.artifact.Artifact.{Artifact}
use Rattle.messages_certificates.specs.declared.artifact.Artifact.TheVariants as artifact
use Rattle.messages_certificates.specs.declared.nullify.Nullify.{Nullify}
use Rattle.simplex_record.specs.declared.owner.Owner.{Owner}
use Rattle.simplex_record.specs.Record.{Entry, entries, entry, HasTaken}
use Rattle.simplex_record.specs.Rules.{AreAlike, MayFollow}
use Rattle.simplex_record.specs.CheckerState as kept
use Rattle.node_record.specs.declared.recorded.Recorded.{Recorded}
use Rattle.node_record.specs.Places.{KeepsPlaces}

-- a certificate of the statement's kind and view is recorded
abbrev pub HasLike : {D : Type 0} → List (Entry D) → Statement D → Type 0
HasLike {D} before s = (t : Statement D) × AreAlike s t × HasTaken before t

module _ {S D P G C : Type 0} where
  -- no own nullify is recorded
  abbrev pub HasNoNullify : List (Artifact S D P G C) → Type 0
  HasNoNullify xs = (v : Nullify S D P G C) → Contains xs (artifact.Nullify v) → ⊥

  -- this own nullify is recorded, and none behind it
  pub record IsLastNullifyOf (xs : List (Artifact S D P G C)) (v : Nullify S D P G C) : Type 0 where
    pub before : List (Artifact S D P G C)
    pub after : List (Artifact S D P G C)
    pub is : xs ≡ before ++ artifact.Nullify v ∷ after
    pub last : HasNoNullify after

  -- each of these artifacts may stand behind those before it, by all rules but that it verifies
  abbrev pub EachMayFollow : ℕ → List (Artifact S D P G C) → Type 0
  EachMayFollow views xs = (before after : List (Artifact S D P G C)) (x : Artifact S D P G C) → xs ≡ before ++ x ∷ after → MayFollow views (entries before) (entry x)

  -- this owner has recorded these artifacts, the oldest first
  pub record HoldsRecord (owner : Owner) (recorded : Recorded S D P G C) (xs : List (Artifact S D P G C)) : Type 0 where
    pub length_is : recorded.term_length ≡ owner.term_length
    pub artifacts_are : recorded.artifacts.items ≡ xs
    pub standing : kept.Keeps owner.term_length recorded.standing (entries xs)
    pub places : KeepsPlaces recorded.places xs

  -- room was made for one artifact more: it takes no memory for its place
  abbrev pub IsReserved : Recorded S D P G C → Type 0
  IsReserved recorded = vec_len recorded.artifacts < vec_capacity recorded.artifacts

  -- what holds of each owner and each list of artifacts that are recorded so
  abbrev pub AtEach : Recorded S D P G C → (Owner → List (Artifact S D P G C) → Type 0) → Type 0
  AtEach recorded Q = (owner : Owner) (xs : List (Artifact S D P G C)) → HoldsRecord owner recorded xs → Q owner xs
