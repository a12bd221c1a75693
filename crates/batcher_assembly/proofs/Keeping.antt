-- The elements so far that are not listed.
use Rattle.std.proofs.Common.{◌≡◌, ◌<◌, ◌+◌, ◌++◌, ◌∷◌, [], ℕ, Bool, true, false, not, List, length, take, filter, get_or, refl, append_assoc, append-nil}
use Rattle.std.proofs.lemmas.List.Elements.{filter_more}

module _ {X : Type 0} (listed : X → Bool) (xs : List X) (i : ℕ) (x : X) (sure old : List X) (found : Bool) where
  -- one more that is not listed is kept, behind those before it
  pub kept-more : i < length xs → x ≡ get_or xs i x → old ≡ sure ++ filter (λ y. not (listed y)) (take i xs) → found ≡ listed x → found ≡ false → old ++ x ∷ [] ≡ sure ++ filter (λ y. not (listed y)) (take (i + 1) xs)
  kept-more l at before is out = rw (before, filter_more (λ y. not (listed y)) xs i x l, ← at, ← is, out) (append_assoc sure (filter (λ y. not (listed y)) (take i xs)) (x ∷ []))

  -- one more that is listed changes nothing
  pub left-more : i < length xs → x ≡ get_or xs i x → old ≡ sure ++ filter (λ y. not (listed y)) (take i xs) → found ≡ listed x → found ≡ true → old ≡ sure ++ filter (λ y. not (listed y)) (take (i + 1) xs)
  left-more l at before is out = rw (before, filter_more (λ y. not (listed y)) xs i x l, ← at, ← is, out, append-nil (filter (λ y. not (listed y)) (take i xs))) refl
