-- What is kept of the votes that were counted.
use Rattle.std.specs.Prelude.{◌≡◌, ℕ, IsTrue, List, [], ◌∷◌, map, slice_get, if◌then◌else◌, MatchOption, Option, Some}
use Rattle.std.specs.List.{zip}
use Rattle.std.specs.Ordering.{is_eq, ordering_then, nat_cmp}
use Rattle.std.specs.Map.{lookup}
use Rattle.std.specs.BTreeSet.{BTreeSet, IsOrdered, contains}
use Rattle.std.specs.declared.cmp.Ordering.{Ordering}
use Rattle.simplex_rules.specs.declared.cast.Suspect.{Suspect}

-- suspects by epoch, view and signer
abbrev pub suspect_cmp : Suspect → Suspect → Ordering
suspect_cmp x y = ordering_then (ordering_then (nat_cmp x.round.epoch y.round.epoch) (nat_cmp x.round.view y.round.view)) (nat_cmp x.signer y.signer)

-- these suspects as a set
abbrev pub set_of : List Suspect → BTreeSet Suspect
set_of suspects = record { keys = suspects }

-- the suspects of the set stand in order, and this one at the place
abbrev pub StandsAt : BTreeSet Suspect → ℕ → Suspect → Type 0
StandsAt suspects place q = IsOrdered suspect_cmp suspects × (slice_get suspects.keys place ≡ Some q)

-- what is kept of a suspect of the set, where something is kept of each by its place
abbrev pub kept_of : {Y : Type 0} → BTreeSet Suspect → List Y → Suspect → Option Y
kept_of suspects kept q = lookup (λ k. is_eq (suspect_cmp q k)) (zip suspects.keys kept)

module _ {X : Type 0} where
  -- of what was counted, a suspect's
  abbrev pub casts_of : Suspect → List (Suspect × X) → List X
  casts_of q [] = []
  casts_of q (p ∷ ps) = if is_eq (suspect_cmp p.0 q) then p.1 ∷ casts_of q ps else casts_of q ps

module _ {X Y : Type 0} where
  -- of each suspect in the set this keeps what there is to keep, and of no other
  abbrev pub Tallies : BTreeSet Suspect → (Suspect → List X → Y → Type 0) → List (Suspect × X) → List Y → Type 0
  Tallies contested Keeps counted kept = (q : Suspect) → MatchOption (kept_of contested kept q)
      (IsTrue (contains suspect_cmp contested q) → casts_of q counted ≡ [])
      (λ y. IsTrue (contains suspect_cmp contested q) × Keeps q (casts_of q counted) y)

-- by the places of the suspects in the set this keeps what there is to keep of these votes, each counted in its suspect's name
pub record Holds {V X Y : Type 0} (parts : V → Suspect × X) (contested : BTreeSet Suspect) (Keeps : Suspect → List X → Y → Type 0) (votes : List V) (kept : List Y) : Type 0 where
  pub counted : List (Suspect × X)
  pub all_counted : counted ≡ map parts votes
  pub tallies : Tallies contested Keeps counted kept
