-- A map from signers to the items that they signed, and which items it keeps of those that were inserted.
use Rattle.std.specs.Prelude.{◌≡◌, ℕ, ◌==◌, List, Option, None, find, map, nat_lt, if◌then◌else◌, refl}
use Rattle.std.specs.Coded.{Coded, code_by, coded×, coded_ℕ}
use Rattle.std.specs.FinMap as finite
use Rattle.std.specs.List.Sorted.{IsStrictlyIncreasing}
use Rattle.std.specs.Ordering.{nat_cmp}

-- how many participants there are, and the item that each signer has
pub record SignerMap (T : Type 0) : Type 0 where
  pub participants : ℕ
  pub items : finite.FinMap nat_cmp T

-- a map is stored as the pair of its fields
abbrev pub signer_map_code : {T : Type 0} → Coded T → Coded (SignerMap T)
signer_map_code {T} code =
    code_by
    (ℕ × finite.FinMap nat_cmp T)
    (coded× coded_ℕ (finite.code coded_ℕ code))
    (λ m. (m.participants, m.items))
    (λ p. record { participants = p.0; items = p.1 })
    (λ _. refl)

module _ {T : Type 0} where
  -- the item that the signer has
  abbrev pub item_of : SignerMap T → ℕ → Option T
  item_of m signer = finite.get m.items signer

  -- the items, by rising signer
  abbrev pub items_of : SignerMap T → List T
  items_of m = finite.values m.items

  -- how many signers have an item
  abbrev pub item_count : SignerMap T → ℕ
  item_count m = finite.len m.items

  module _ (signer_of : T → ℕ) where
    -- each item's signer is below that of the next
    abbrev pub RisesBySigner : List T → Type 0
    RisesBySigner items = IsStrictlyIncreasing (map signer_of items)

    -- the first of the items that the signer signed, and none past the participants
    abbrev pub first_item : ℕ → List T → ℕ → Option T
    first_item participants inserted signer =
        if nat_lt signer participants then find (λ item. signer_of item == signer) inserted else None

    -- each signer below the participants has the first of these items that it signed
    abbrev pub HoldsFirstItems : SignerMap T → List T → Type 0
    HoldsFirstItems m inserted = (signer : ℕ) → item_of m signer ≡ first_item m.participants inserted signer
