-- Which items a map keeps, as one more is inserted.
use Rattle.std.proofs.Common.{◌≡◌, ◌≢◌, ◌⊎◌, ℕ, ◌<◌, ◌≤◌, Bool, true, false, cond, eqb, List, [], ◌∷◌, ◌++◌, Option, Some, None, IsSome, IsNone, IsTrue, is_some, nat_lt, ◌↔◌, refl, sym, ap, ◌∙◌, inl, inr, arith}
use Rattle.std.proofs.lemmas.Bool.{cases_eq, lt-ltb, eq-eqb}
use Rattle.std.proofs.lemmas.Bool.Decides.{nat_tests}
use Rattle.std.proofs.lemmas.List.Folds.{find-append}
use Rattle.std.specs.Cmp.{unsigned_tied}
use Rattle.std.proofs.lemmas.Cmp.{nat_cmp_total}
use Rattle.std.specs.FinMap as finite
use Rattle.std.specs.List.{find}
use Rattle.std.specs.Option.{option_or}
use Rattle.std.specs.Ordering.{nat_cmp}
use Rattle.simplex_messages.specs.AttributableMap.{SignerMap, item_of, first_item, HoldsFirstItems}

-- a value that is not there
pub no_item : {T : Type 0} (o : Option T) → is_some o ≡ false → o ≡ None
no_item None none = refl
no_item (Some x) none = cc

-- a choice with nothing is the other
or_nothing : {T : Type 0} (o p : Option T) → p ≡ None → o ≡ option_or o p
or_nothing None p nothing = sym nothing
or_nothing (Some x) p nothing = refl

-- a choice whose first is there is the first
or_another : {T : Type 0} (o p : Option T) → IsSome o → o ≡ option_or o p
or_another None p there = cc
or_another (Some x) p there = refl

-- where the first is not there, the second is chosen
first_of_two : {T : Type 0} (b : Bool) (x : T) (o p : Option T) → b ≡ true → o ≡ None → p ≡ Some x → cond b (Some x) o ≡ option_or o p
first_of_two b x o p holds vacant own = rw (holds, vacant, own) refl

-- and a test that fails leaves the first
other_of_two : {T : Type 0} (b : Bool) (x : T) (o p : Option T) → b ≡ false → p ≡ None → cond b (Some x) o ≡ option_or o p
other_of_two b x o p fails nothing = rw fails (or_nothing o p nothing)

module _ {T : Type 0} (signer_of : T → ℕ) where
  -- the first items of a longer list are those of its front, and where that has none those of its back
  first_item-append : (participants : ℕ) (front back : List T) (signer : ℕ) → first_item signer_of participants (front ++ back) signer ≡ option_or (first_item signer_of participants front signer) (first_item signer_of participants back signer)
  first_item-append participants front back signer =
      elim (nat_lt signer participants) as (λ b. cond b (find (λ x. eqb (signer_of x) signer) (front ++ back)) None ≡ option_or (cond b (find (λ x. eqb (signer_of x) signer) front) None) (cond b (find (λ x. eqb (signer_of x) signer) back) None)) [
        | true ↦ find-append (λ x. eqb (signer_of x) signer) front back
        | false ↦ refl
      ]

  -- one item is its own signer's first
  first_item-own : (participants : ℕ) (item : T) → signer_of item < participants → first_item signer_of participants (item ∷ []) (signer_of item) ≡ Some item
  first_item-own participants item below = rw (lt-ltb (signer_of item) participants below, eq-eqb (signer_of item) (signer_of item) refl) refl

  -- and no other signer's
  first_item-other : (participants : ℕ) (item : T) (signer : ℕ) → signer ≢ signer_of item → first_item signer_of participants (item ∷ []) signer ≡ None
  first_item-other participants item signer other = grind (arith, nat_tests)

  -- nobody past the participants has a first item
  first_item-past : (participants : ℕ) (items : List T) (signer : ℕ) → participants ≤ signer → first_item signer_of participants items signer ≡ None
  first_item-past participants items signer past = grind (arith, nat_tests)

  -- a map without items holds the first of no items
  pub HoldsFirstItems-empty : (m : SignerMap T) → m.items ≡ finite.empty → HoldsFirstItems signer_of m []
  HoldsFirstItems-empty m empty signer =
      let none : first_item signer_of m.participants [] signer ≡ None = elim (nat_lt signer m.participants) as (λ b. cond b (find (λ x. eqb (signer_of x) signer) []) None ≡ None) [ true ↦ refl | false ↦ refl ] in
      rw (empty, finite.get-empty {X = T} nat_cmp signer) (sym none)

  -- a map that takes the item in holds the first items of the longer list
  pub HoldsFirstItems-insert : (old new : SignerMap T) (item : T) (inserted : List T)
      → new.participants ≡ old.participants → signer_of item < old.participants → item_of old (signer_of item) ≡ None
      → new.items ≡ finite.insert old.items (signer_of item) item
      → HoldsFirstItems signer_of old inserted → HoldsFirstItems signer_of new (inserted ++ item ∷ [])
  HoldsFirstItems-insert old new item inserted as_many below vacant grown holds signer =
      let shown : item_of new signer ≡ cond (eqb signer (signer_of item)) (Some item) (item_of old signer) =
      rw grown (finite.get-insert nat_cmp_total old.items (signer_of item) item signer ∙ ap (λ b. cond b (Some item) (item_of old signer)) (unsigned_tied signer (signer_of item))) in
      let longer = first_item-append old.participants inserted (item ∷ []) signer in
      let one = first_item signer_of old.participants (item ∷ []) in
      rw (as_many, longer, ← holds signer) (shown ∙ elim (cases_eq signer (signer_of item)) [
        | inl own ↦ first_of_two _ item (item_of old signer) (one signer) (eq-eqb signer (signer_of item) own) (ap (item_of old) own ∙ vacant) (ap one own ∙ first_item-own old.participants item below)
        | inr other ↦
            let apart : eqb signer (signer_of item) ≡ false = grind (arith, nat_tests) in
            other_of_two _ item (item_of old signer) (one signer) apart (first_item-other old.participants item signer other)
      ])

  -- a map that refuses the item holds the first items of the longer list as it is
  pub HoldsFirstItems-refused : (m : SignerMap T) (item : T) (inserted : List T)
      → (m.participants ≤ signer_of item) ⊎ IsSome (item_of m (signer_of item))
      → HoldsFirstItems signer_of m inserted → HoldsFirstItems signer_of m (inserted ++ item ∷ [])
  HoldsFirstItems-refused m item inserted reason holds signer =
      let longer = first_item-append m.participants inserted (item ∷ []) signer in
      let one = first_item signer_of m.participants (item ∷ []) in
      rw (longer, ← holds signer) (elim (cases_eq signer (signer_of item)) [
        | inl own ↦ elim reason [
          | inl past ↦ or_nothing (item_of m signer) (one signer) (ap one own ∙ first_item-past m.participants (item ∷ []) (signer_of item) past)
          | inr there ↦ or_another (item_of m signer) (one signer) (ap (λ n. is_some (item_of m n)) own ∙ there)
        ]
        | inr other ↦ or_nothing (item_of m signer) (one signer) (first_item-other m.participants item signer other)
      ])

  -- the map refuses an item exactly where its signer is no participant or has an item
  pub refuses : (m : SignerMap T) (item : T) → (m.participants ≤ signer_of item) ⊎ IsSome (item_of m (signer_of item)) → IsTrue false ↔ ((signer_of item < m.participants) × IsNone (item_of m (signer_of item)))
  refuses m item reason = (
    λ taken. cc,
    λ first. elim reason [ inl past ↦ absurd (omega (arith, first.0)) | inr there ↦ let none = first.1 in cc ],
  )

  -- and takes another in
  pub takes : (m : SignerMap T) (item : T) → signer_of item < m.participants → item_of m (signer_of item) ≡ None → IsTrue true ↔ ((signer_of item < m.participants) × IsNone (item_of m (signer_of item)))
  takes m item below vacant = (λ taken. (below, ap is_some vacant), λ first. refl)

  -- a map that takes an item in is another
  pub takes_changes : (old new : SignerMap T) (item : T) → item_of old (signer_of item) ≡ None → new.items ≡ finite.insert old.items (signer_of item) item → IsTrue true ↔ (new ≢ old)
  takes_changes old new item vacant grown =
      let there : item_of new (signer_of item) ≡ Some item =
      ap (λ items. finite.get items (signer_of item)) grown
      ∙ finite.get-insert nat_cmp_total old.items (signer_of item) item (signer_of item)
      ∙ ap (λ b. cond b (Some item) (item_of old (signer_of item))) (unsigned_tied (signer_of item) (signer_of item) ∙ eq-eqb (signer_of item) (signer_of item) refl) in
      (λ taken same. let alike : item_of new (signer_of item) ≡ item_of old (signer_of item) = ap (λ m. item_of m (signer_of item)) same in cc, λ other. refl)
