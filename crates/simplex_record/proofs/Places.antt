-- Where elements stand in a list.
use Rattle.std.proofs.Common.{◌≡◌, ◌⊎◌, inl, inr, ⊎_elim, List, [], ◌∷◌, ◌++◌, get_or, drop, map, refl, sym, ap, subst, arith}
use Rattle.std.specs.List.{Contains}
use Rattle.types_quorum.specs.Counting.{Contains-cases, Contains-head, Contains-rest}

module _ {X : Type 0} where
  -- two places of a list are one, or one stands before the other
  pub two_places : (before after before' after' : List X) (x y : X) → before ++ x ∷ after ≡ before' ++ y ∷ after' → (x ≡ y) ⊎ (Contains before y ⊎ Contains before' x)
  two_places [] after [] after' x y same = inl (ap (λ (l : List X). get_or l 0 x) same)
  two_places [] after (b ∷ before') after' x y same =
      let first : b ≡ x = sym (ap (λ (l : List X). get_or l 0 x) same) in
      inr (inr (subst (λ (z : X). Contains (b ∷ before') z) first (Contains-head b before')))
  two_places (b ∷ before) after [] after' x y same =
      let first : b ≡ y = ap (λ (l : List X). get_or l 0 x) same in
      inr (inl (subst (λ (z : X). Contains (b ∷ before) z) first (Contains-head b before)))
  two_places (b ∷ before) after (b' ∷ before') after' x y same =
      ⊎_elim (λ one. inl one)
      (λ apart. inr (⊎_elim (λ here. inl (Contains-rest b before y here)) (λ there. inr (Contains-rest b' before' x there)) apart))
      (two_places before after before' after' x y (ap (λ (l : List X). drop 1 l) same))

module _ {X : Type 0} where
  -- where f gives y of an element, that stands somewhere in the list
  pub record Stands {Y : Type 0} (f : X → Y) (xs : List X) (y : Y) : Type 0 where
    pub before : List X
    pub x : X
    pub after : List X
    pub is : xs ≡ before ++ x ∷ after
    pub gives : f x ≡ y

  pub stands : {Y : Type 0} (f : X → Y) (xs : List X) (y : Y) → Contains (map f xs) y → Stands f xs y
  stands f [] y here = absurd (omega (arith, here.1))
  stands f (x ∷ xs) y here = elim (Contains-cases (f x) (map f xs) y here) [
    | inl first ↦ record { before = []; x = x; after = xs; is = refl; gives = first }
    | inr later ↦
        let s = stands f xs y later in
        record { before = x ∷ s.before; x = s.x; after = s.after; is = ap (λ (l : List X). x ∷ l) s.is; gives = s.gives }
  ]

  -- what f gives of an earlier element is among what it gives of all
  pub Contains-earlier : {Y : Type 0} (f : X → Y) (before rest : List X) (y : Y) → Contains (map f before) y → Contains (map f (before ++ rest)) y
  Contains-earlier f [] rest y here = absurd (omega (arith, here.1))
  Contains-earlier f (x ∷ before) rest y here = elim (Contains-cases (f x) (map f before) y here) [
    | inl first ↦ subst (λ (z : _). Contains (map f (x ∷ before ++ rest)) z) first (Contains-head (f x) (map f (before ++ rest)))
    | inr later ↦ Contains-rest (f x) (map f (before ++ rest)) y (Contains-earlier f before rest y later)
  ]

  -- what f gives of an element is among what it gives of all
  pub Contains-mapped : {Y : Type 0} (f : X → Y) (xs : List X) (x : X) → Contains xs x → Contains (map f xs) (f x)
  Contains-mapped f [] x here = absurd (omega (arith, here.1))
  Contains-mapped f (z ∷ xs) x here = elim (Contains-cases z xs x here) [
    | inl first ↦ subst (λ (w : X). Contains (map f (z ∷ xs)) (f w)) first (Contains-head (f z) (map f xs))
    | inr later ↦ Contains-rest (f z) (map f xs) (f x) (Contains-mapped f xs x later)
  ]

  -- what stands at a place is an element
  pub Contains-place : (before after : List X) (x : X) → Contains (before ++ x ∷ after) x
  Contains-place [] after x = Contains-head x after
  Contains-place (b ∷ before) after x = Contains-rest b (before ++ x ∷ after) x (Contains-place before after x)
