-- What is kept of one signer's votes of one round.
use Rattle.std.specs.Prelude.{◌≡◌, ◌<◌, ◌⊎◌, ⊤, List, [], ◌∷◌, ◌++◌, Contains, Option, Some, None}
use Rattle.std.specs.declared.cmp.Ordering.{Ordering}
use Rattle.std.specs.declared.cmp.Ordering.TheVariants.{Less}
use Rattle.simplex_rules.specs.declared.cast.Choice.{Choice}
use Rattle.simplex_rules.specs.declared.cast.Cast.{Cast}
use Rattle.simplex_rules.specs.declared.cast.Kept.{Kept}
use Rattle.simplex_rules.specs.declared.cast.Kept.TheVariants.{Nothing, Claim, One, Two}
use Rattle.simplex_rules.specs.declared.cast.Place.{Place}
use Rattle.simplex_rules.specs.declared.cast.Place.TheVariants.{First, Second}

-- the lesser of two choices: by parent, then payload
abbrev pub IsLower : {D : Type 0} → (D → D → Ordering) → Choice D → Choice D → Type 0
IsLower cmp p q = (p.parent < q.parent) ⊎ ((p.parent ≡ q.parent) × (cmp p.payload q.payload ≡ Less))

module _ {X : Type 0} (P : X → Type 0) where
  -- the first of these that is so
  pub record IsFirst (xs : List X) (x : X) : Type 0 where
    pub before : List X
    pub after : List X
    pub whole : xs ≡ before ++ x ∷ after
    pub is_so : P x
    pub first : (y : X) → Contains before y → P y → ⊥

  -- none of these is so
  abbrev pub AreNone : List X → Type 0
  AreNone xs = (x : X) → Contains xs x → P x → ⊥

-- votes of a signer in a round, of which these verify
module _ {D G : Type 0} (Verifies : Cast D G → Type 0) where
  -- it verifies, and is for this choice
  abbrev pub IsFor : Choice D → Cast D G → Type 0
  IsFor choice c = Verifies c × (c.choice ≡ choice)

  -- all that verify are for one choice, and this is their first
  abbrev pub HasOne : List (Cast D G) → Cast D G → Type 0
  HasOne casts a = IsFirst (IsFor a.choice) casts a × ((c : Cast D G) → Contains casts c → Verifies c → c.choice ≡ a.choice)

  -- these are the first of those that verify for their least two choices
  abbrev pub HasTwo : (D → D → Ordering) → List (Cast D G) → Cast D G → Cast D G → Type 0
  HasTwo cmp casts a b = IsFirst (IsFor a.choice) casts a × IsFirst (IsFor b.choice) casts b × IsLower cmp a.choice b.choice
      × ((c : Cast D G) → Contains casts c → Verifies c → (c.choice ≡ a.choice) ⊎ ((c.choice ≡ b.choice) ⊎ IsLower cmp b.choice c.choice))

  -- this one stands for all: if it verifies, all that do are for its choice and it is their first, and if not, none does
  abbrev pub StandsForAll : List (Cast D G) → Cast D G → Type 0
  StandsForAll casts a = (Verifies a → HasOne casts a) × ((Verifies a → ⊥) → AreNone Verifies casts)

  -- what is kept of these votes, in the order in which they were read
  abbrev pub Summarizes : (D → D → Ordering) → List (Cast D G) → Kept D G → Type 0
  Summarizes cmp casts Nothing = casts ≡ []
  Summarizes cmp casts (Claim a) = StandsForAll casts a
  Summarizes cmp casts (One a) = HasOne casts a
  Summarizes cmp casts (Two a b) = HasTwo cmp casts a b

module _ {D G : Type 0} where
  -- what is kept was verified
  abbrev pub IsSettled : Kept D G → Type 0
  IsSettled Nothing = ⊥
  IsSettled (Claim a) = ⊥
  IsSettled (One a) = ⊤
  IsSettled (Two a b) = ⊤

  -- the first and the last of the verified votes that are kept
  abbrev pub ends_of : Kept D G → Option (Cast D G × Cast D G)
  ends_of Nothing = None
  ends_of (Claim a) = None
  ends_of (One a) = Some (a, a)
  ends_of (Two a b) = Some (a, b)

  -- where one more vote for this choice stands among those that are kept, if it is kept
  abbrev pub IsPlacedAt : (D → D → Ordering) → Kept D G → Choice D → Option Place → Type 0
  IsPlacedAt cmp Nothing choice place = ⊥
  IsPlacedAt cmp (Claim a) choice place = ⊥
  IsPlacedAt cmp (One a) choice None = choice ≡ a.choice
  IsPlacedAt cmp (One a) choice (Some First) = IsLower cmp choice a.choice
  IsPlacedAt cmp (One a) choice (Some Second) = IsLower cmp a.choice choice
  IsPlacedAt cmp (Two a b) choice None = (choice ≡ a.choice) ⊎ ((choice ≡ b.choice) ⊎ IsLower cmp b.choice choice)
  IsPlacedAt cmp (Two a b) choice (Some First) = IsLower cmp choice a.choice
  IsPlacedAt cmp (Two a b) choice (Some Second) = IsLower cmp a.choice choice × IsLower cmp choice b.choice
