-- What slots stand for.
use Rattle.std.proofs.Common.{◌≡◌, ◌≢◌, ℕ, zero, suc, ◌+◌, ◌<◌, ◌≤◌, Bool, true, false, cond, eqb, ltb, ◌&&◌, T, List, [], ◌∷◌, length, map, get_or, set, Bor, Option, Some, None, is_some, refl, sym, ap, ◌∙◌, inl, inr, arith, IfSome, option_copied, All}
use Rattle.std.proofs.lemmas.Bool.{cases_eq, cases_lt, lt-ltb, eq-eqb}
use Rattle.std.proofs.lemmas.Bool.Decides.{nat_tests}
use Rattle.std.proofs.lemmas.List.{get_or-set_same, get_or-set_other, get_or_past, length-set}
use Rattle.std.proofs.lemmas.List.Elements.{All-cons}
use Rattle.std.specs.Cmp.{unsigned_tied}
use Rattle.std.proofs.lemmas.Cmp.{nat_cmp_total}
use Rattle.std.specs.FinMap as finite
use Rattle.std.specs.FinMap.Entries.{find, below_all, is_sorted}
use Rattle.std.specs.List as list
use Rattle.std.specs.List.Sorted.{IsStrictlyIncreasing}
use Rattle.std.specs.Ordering.{nat_cmp, eq_by_cmp}
use Rattle.simplex_messages.specs.AttributableMap.{SignerMap, item_of, items_of, item_count, RisesBySigner, HoldsFirstItems}
use Rattle.simplex_messages.proofs.FirstItems.{no_item}
use Rattle.simplex_messages.specs.Slots.{entries_from, items_in, map_of, IsSound}

both : (a b : Bool) → T a → T b → T (a && b)
both true b p q = q
both false b p q = absurd p

apart_tests : (a b : ℕ) → a ≢ b → eqb a b ≡ false
apart_tests a b apart = grind (arith, nat_tests)

from_zero : (n : ℕ) → n ≡ 0 + n
from_zero n = omega arith

module _ {X : Type 0} where
  -- the places rise
  below-entries_from : (key place : ℕ) (slots : List (Option X)) → key < place → T (below_all nat_cmp key (entries_from place slots))
  below-entries_from key place [] h = tt
  below-entries_from key place (None ∷ slots) h = below-entries_from key (place + 1) slots (omega arith)
  below-entries_from key place (Some x ∷ slots) h = rw (lt-ltb key place h) (below-entries_from key (place + 1) slots (omega arith))

  sorted-entries_from : (place : ℕ) (slots : List (Option X)) → T (is_sorted nat_cmp (entries_from place slots))
  sorted-entries_from place [] = tt
  sorted-entries_from place (None ∷ slots) = sorted-entries_from (place + 1) slots
  sorted-entries_from place (Some x ∷ slots) = both _ _ (below-entries_from place (place + 1) slots (omega arith)) (sorted-entries_from (place + 1) slots)

  -- no place before the first is found
  find-before : (key place : ℕ) (slots : List (Option X)) → key < place → find nat_cmp key (entries_from place slots) ≡ None
  find-before key place [] h = refl
  find-before key place (None ∷ slots) h = find-before key (place + 1) slots (omega arith)
  find-before key place (Some x ∷ slots) h =
      let apart : eqb key place ≡ false = grind (arith, nat_tests) in
      rw (unsigned_tied key place, apart) (find-before key (place + 1) slots (omega arith))

  -- what is found at a place is in its slot
  find-entries_from : (place at : ℕ) (slots : List (Option X)) → find nat_cmp (place + at) (entries_from place slots) ≡ get_or slots at None
  find-entries_from place at [] = refl
  find-entries_from place zero (None ∷ slots) = find-before (place + 0) (place + 1) slots (omega arith)
  find-entries_from place (suc at) (None ∷ slots) =
      let shift : place + suc at ≡ (place + 1) + at = omega arith in
      rw shift (find-entries_from (place + 1) at slots)
  find-entries_from place zero (Some x ∷ slots) =
      let here : eqb (place + 0) place ≡ true = eq-eqb _ _ (omega arith) in
      rw (unsigned_tied (place + 0) place, here) refl
  find-entries_from place (suc at) (Some x ∷ slots) =
      let apart : eqb (place + suc at) place ≡ false = grind (arith, nat_tests) in
      let tied : eq_by_cmp nat_cmp (place + suc at) place ≡ false = unsigned_tied (place + suc at) place ∙ apart in
      let shift : place + suc at ≡ (place + 1) + at = omega arith in
      ap (λ b. cond b (Some x) (find nat_cmp (place + suc at) (entries_from (place + 1) slots))) tied
      ∙ ap (λ n. find nat_cmp n (entries_from (place + 1) slots)) shift
      ∙ find-entries_from (place + 1) at slots

  values-entries_from : (place : ℕ) (slots : List (Option X)) → map (λ e. e.1) (entries_from place slots) ≡ items_in slots
  values-entries_from place [] = refl
  values-entries_from place (None ∷ slots) = values-entries_from (place + 1) slots
  values-entries_from place (Some x ∷ slots) = ap (λ xs. x ∷ xs) (values-entries_from (place + 1) slots)

  length-entries_from : (place : ℕ) (slots : List (Option X)) → length (entries_from place slots) ≡ length (items_in slots)
  length-entries_from place [] = refl
  length-entries_from place (None ∷ slots) = length-entries_from (place + 1) slots
  length-entries_from place (Some x ∷ slots) = ap suc (length-entries_from (place + 1) slots)

  entries-map_of : (slots : List (Option X)) → finite.entries (map_of slots).items ≡ entries_from 0 slots
  unfolding map_of
  entries-map_of slots = finite.entries-from_sorted nat_cmp (entries_from 0 slots) (sorted-entries_from 0 slots)

  pub participants-map_of : (slots : List (Option X)) → (map_of slots).participants ≡ length slots
  unfolding map_of
  participants-map_of slots = refl

  -- a signer's item is in its slot
  pub item_of-map_of : (slots : List (Option X)) (signer : ℕ) → item_of (map_of slots) signer ≡ get_or slots signer None
  item_of-map_of slots signer =
      finite.get-entries (map_of slots).items signer ∙ ap (find nat_cmp signer) (entries-map_of slots)
      ∙ (let shift : signer ≡ 0 + signer = omega arith in ap (λ n. find nat_cmp n (entries_from 0 slots)) shift)
      ∙ find-entries_from 0 signer slots

  pub items_of-map_of : (slots : List (Option X)) → items_of (map_of slots) ≡ items_in slots
  items_of-map_of slots = ap (map (λ e. e.1)) (entries-map_of slots) ∙ values-entries_from 0 slots

  pub item_count-map_of : (slots : List (Option X)) → item_count (map_of slots) ≡ length (items_in slots)
  item_count-map_of slots = finite.len-entries (map_of slots).items ∙ ap length (entries-map_of slots) ∙ length-entries_from 0 slots

  -- slots without items stand for the empty map
  pub items-vacant : (slots : List (Option X)) → items_in slots ≡ [] → (map_of slots).items ≡ finite.empty
  items-vacant slots vacant = finite.empty_of_len (map_of slots).items (item_count-map_of slots ∙ ap length vacant)

  -- to fill a slot is to insert the item
  pub items-set : (slots : List (Option X)) (place : ℕ) (x : X) → place < length slots → (map_of (set slots place (Some x))).items ≡ finite.insert (map_of slots).items place x
  items-set slots place x within =
      finite.same_map nat_cmp_total finite.nat_cmp-IsAntisymmetric _ _ (λ signer.
      item_of-map_of (set slots place (Some x)) signer
      ∙ filled signer
      ∙ sym (finite.get-insert nat_cmp_total (map_of slots).items place x signer ∙ rw (unsigned_tied signer place) (ap (cond (eqb signer place) (Some x)) (item_of-map_of slots signer))))
    where
      filled : (signer : ℕ) → get_or (set slots place (Some x)) signer None ≡ cond (eqb signer place) (Some x) (get_or slots signer None)
      filled signer = elim (cases_eq signer place) [
        | inl same ↦ rw (same, eq-eqb place place refl) (get_or-set_same slots place (Some x) None within)
        | inr other ↦ let apart : eqb signer place ≡ false = grind (arith, nat_tests) in
            rw apart (get_or-set_other slots place signer (Some x) None other)
      ]

  -- a slot that is filled counts one more
  pub length-items_in-set : (slots : List (Option X)) (place : ℕ) (x : X) → place < length slots → get_or slots place None ≡ None → length (items_in (set slots place (Some x))) ≡ length (items_in slots) + 1
  length-items_in-set [] place x within vacant = absurd (omega arith)
  length-items_in-set (None ∷ slots) zero x within vacant = omega arith
  length-items_in-set (Some y ∷ slots) zero x within vacant = cc
  length-items_in-set (None ∷ slots) (suc place) x within vacant = length-items_in-set slots place x (omega arith) vacant
  length-items_in-set (Some y ∷ slots) (suc place) x within vacant = omega (arith, length-items_in-set slots place x (omega arith) vacant)

  -- there are no more items than slots
  pub length-items_in : (slots : List (Option X)) → length (items_in slots) ≤ length slots
  length-items_in [] = omega arith
  length-items_in (None ∷ slots) = omega (arith, length-items_in slots)
  length-items_in (Some x ∷ slots) = omega (arith, length-items_in slots)

  -- slots without items have none at any place
  pub get_or-vacant : (slots : List (Option X)) (place : ℕ) → items_in slots ≡ [] → get_or slots place None ≡ None
  get_or-vacant [] place vacant = refl
  get_or-vacant (None ∷ slots) zero vacant = refl
  get_or-vacant (None ∷ slots) (suc place) vacant = get_or-vacant slots place vacant
  get_or-vacant (Some x ∷ slots) place vacant = cc

  module _ (signer_of : X → ℕ) where
    -- from this place on, each item stands in its signer's slot
    keys-entries_from : (place : ℕ) (slots : List (Option X)) → ((at : ℕ) (x : X) → get_or slots at None ≡ Some x → signer_of x ≡ place + at) → map signer_of (items_in slots) ≡ map (λ e. e.0) (entries_from place slots)
    keys-entries_from place [] signed = refl
    keys-entries_from place (None ∷ slots) signed = keys-entries_from (place + 1) slots (λ at x there. omega (arith, signed (suc at) x there))
    keys-entries_from place (Some x ∷ slots) signed =
        let first : signer_of x ≡ place = omega (arith, signed 0 x refl) in
        let later = keys-entries_from (place + 1) slots (λ at y there. omega (arith, signed (suc at) y there)) in
        rw (first, later) refl

  -- each place is at least the first
  lower : (place : ℕ) (slots : List (Option X)) (k : ℕ) → k < length (map (λ e. e.0) (entries_from place slots)) → place ≤ get_or (map (λ e. e.0) (entries_from place slots)) k 0
  lower place [] k within = absurd (omega arith)
  lower place (None ∷ slots) k within = omega (arith, lower (place + 1) slots k within)
  lower place (Some x ∷ slots) zero within = omega arith
  lower place (Some x ∷ slots) (suc k) within = omega (arith, lower (place + 1) slots k (omega arith))

  rises-entries_from : (place : ℕ) (slots : List (Option X)) → IsStrictlyIncreasing (map (λ e. e.0) (entries_from place slots))
  rises-entries_from place [] k within = absurd (omega arith)
  rises-entries_from place (None ∷ slots) k within = rises-entries_from (place + 1) slots k within
  rises-entries_from place (Some x ∷ slots) zero within = omega (arith, lower (place + 1) slots 0 (omega arith))
  rises-entries_from place (Some x ∷ slots) (suc k) within =
      let shift : suc k + 1 ≡ suc (k + 1) = omega arith in
      rw shift (rises-entries_from (place + 1) slots k (omega arith))

  -- the items rise by their signers
  pub RisesBySigner-items_in : (signer_of : X → ℕ) (slots : List (Option X)) → ((place : ℕ) (x : X) → get_or slots place None ≡ Some x → signer_of x ≡ place) → RisesBySigner signer_of (items_in slots)
  RisesBySigner-items_in signer_of slots signed =
      rw (keys-entries_from signer_of 0 slots (λ at x there. omega (arith, signed at x there))) (rises-entries_from 0 slots)

  -- an item that is there has a slot
  filled_below : (slots : List (Option X)) (place : ℕ) (x : X) → get_or slots place None ≡ Some x → place < length slots
  filled_below slots place x there = elim (cases_lt place (length slots)) [
    | inl below ↦ below
    | inr past ↦ let none : get_or slots place None ≡ None = get_or_past slots place None past in cc
  ]

  -- the item that is shown of a slot is its signer's
  pub IfSome-signed : (signer_of : X → ℕ) (slots : List (Option X)) (signer : ℕ) (shown : Option (Bor X)) → option_copied shown ≡ get_or slots signer None → ((place : ℕ) (x : X) → get_or slots place None ≡ Some x → signer_of x ≡ place) → IfSome shown (λ item. signer_of item.now ≡ signer)
  IfSome-signed signer_of slots signer None is signed = tt
  IfSome-signed signer_of slots signer (Some item) is signed = signed signer item.now (sym is)

  -- and it is shown of a slot that is there
  pub IfSome-below : (slots : List (Option X)) (signer : ℕ) (shown : Option (Bor X)) → option_copied shown ≡ get_or slots signer None → IfSome shown (λ item. signer < length slots)
  IfSome-below slots signer None is = tt
  IfSome-below slots signer (Some item) is = filled_below slots signer item.now (sym is)

  module _ (signer_of : X → ℕ) where
    -- a signer that no slot's item has is not found
    find-nobody : (signer : ℕ) (slots : List (Option X)) → ((at : ℕ) (x : X) → get_or slots at None ≡ Some x → signer_of x ≢ signer) → list.find (λ x. eqb (signer_of x) signer) (items_in slots) ≡ None
    find-nobody signer [] others = refl
    find-nobody signer (None ∷ slots) others = find-nobody signer slots (λ at x there. others (suc at) x there)
    find-nobody signer (Some x ∷ slots) others =
        let apart : eqb (signer_of x) signer ≡ false = apart_tests (signer_of x) signer (others 0 x refl) in
        rw apart (find-nobody signer slots (λ at y there. others (suc at) y there))

    -- where each item stands in its signer's slot, a signer's item is found among the items
    find-items_in : (place at : ℕ) (slots : List (Option X)) → ((k : ℕ) (x : X) → get_or slots k None ≡ Some x → signer_of x ≡ place + k) → list.find (λ x. eqb (signer_of x) (place + at)) (items_in slots) ≡ get_or slots at None
    find-items_in place at [] signed = refl
    find-items_in place zero (None ∷ slots) signed = find-nobody (place + 0) slots (λ k x there same. absurd (omega (arith, signed (suc k) x there)))
    find-items_in place (suc at) (None ∷ slots) signed =
        let shift : place + suc at ≡ (place + 1) + at = omega arith in
        ap (λ n. list.find (λ x. eqb (signer_of x) n) (items_in slots)) shift ∙ find-items_in (place + 1) at slots (λ k x there. omega (arith, signed (suc k) x there))
    find-items_in place zero (Some x ∷ slots) signed =
        let here : eqb (signer_of x) (place + 0) ≡ true = eq-eqb _ _ (signed 0 x refl) in
        rw here refl
    find-items_in place (suc at) (Some x ∷ slots) signed =
        let first = signed 0 x refl in
        let apart : eqb (signer_of x) (place + suc at) ≡ false = apart_tests _ _ (λ same. absurd (omega arith)) in
        let shift : place + suc at ≡ (place + 1) + at = omega arith in
        ap (λ b. cond b (Some x) (list.find (λ y. eqb (signer_of y) (place + suc at)) (items_in slots))) apart
        ∙ ap (λ n. list.find (λ y. eqb (signer_of y) n) (items_in slots)) shift
        ∙ find-items_in (place + 1) at slots (λ k y there. omega (arith, signed (suc k) y there))

  -- the map holds the first of its own items
  pub HoldsFirstItems-items_in : (signer_of : X → ℕ) (slots : List (Option X)) → ((place : ℕ) (x : X) → get_or slots place None ≡ Some x → signer_of x ≡ place) → HoldsFirstItems signer_of (map_of slots) (items_in slots)
  HoldsFirstItems-items_in signer_of slots signed signer =
      rw (item_of-map_of slots signer, participants-map_of slots) (elim (cases_lt signer (length slots)) [
        | inl below ↦ rw (lt-ltb signer (length slots) below) (sym (ap (λ n. list.find (λ x. eqb (signer_of x) n) (items_in slots)) (from_zero signer) ∙ find-items_in signer_of 0 signer slots (λ k x there. omega (arith, signed k x there))))
        | inr past ↦
            let none : get_or slots signer None ≡ None = get_or_past slots signer None past in
            let above : ltb signer (length slots) ≡ false = grind (arith, nat_tests) in
            rw (none, above) refl
      ])

  -- what holds of what each slot has holds of each item
  pub All-items_in : (P : X → Type 0) (slots : List (Option X)) → ((place : ℕ) (x : X) → get_or slots place None ≡ Some x → P x) → All P (items_in slots)
  All-items_in P [] holds = λ k d within. absurd (omega arith)
  All-items_in P (None ∷ slots) holds = All-items_in P slots (λ place x there. holds (suc place) x there)
  All-items_in P (Some x ∷ slots) holds = All-cons P x (items_in slots) (holds 0 x refl) (All-items_in P slots (λ place y there. holds (suc place) y there))

  -- slots without items are sound
  pub IsSound-vacant : (signer_of : X → ℕ) (slots : List (Option X)) → items_in slots ≡ [] → IsSound signer_of slots 0
  IsSound-vacant signer_of slots vacant = record {
    signed = λ place x there. let none = get_or-vacant slots place vacant in cc;
    counted = sym (ap length vacant);
  }

  -- slots stay sound as an item goes into its signer's empty slot
  pub IsSound-set : (signer_of : X → ℕ) (slots : List (Option X)) (count : ℕ) (x : X) → signer_of x < length slots → get_or slots (signer_of x) None ≡ None → IsSound signer_of slots count → IsSound signer_of (set slots (signer_of x) (Some x)) (count + 1)
  IsSound-set signer_of slots count x within vacant sound = record {
    signed = λ place y there. elim (cases_eq place (signer_of x)) [
      | inl same ↦
          let put : get_or (set slots (signer_of x) (Some x)) place None ≡ Some x = rw same (get_or-set_same slots (signer_of x) (Some x) None within) in
          let one : x ≡ y = cc in
          sym (ap signer_of one) ∙ sym same
      | inr other ↦
          let kept : get_or (set slots (signer_of x) (Some x)) place None ≡ get_or slots place None = get_or-set_other slots (signer_of x) place (Some x) None other in
          sound.signed place y (sym kept ∙ there)
    ];
    counted = rw sound.counted (sym (length-items_in-set slots (signer_of x) x within vacant));
  }

  -- what is read of a slot that is there does not hang on what would be read past the end
  get_or-default : (slots : List (Option X)) (place : ℕ) (d : Option X) → place < length slots → get_or slots place d ≡ get_or slots place None
  get_or-default [] place d within = absurd (omega arith)
  get_or-default (slot ∷ slots) zero d within = refl
  get_or-default (slot ∷ slots) (suc place) d within = get_or-default slots place d (omega arith)

  -- a slot in which nothing is read is empty
  pub vacant_slot : (slots : List (Option X)) (place : ℕ) (slot : Option X) → place < length slots → slot ≡ get_or slots place slot → is_some slot ≡ false → get_or slots place None ≡ None
  vacant_slot slots place slot within read none = sym (get_or-default slots place slot within) ∙ sym read ∙ no_item slot none

  -- with an item to come into an empty slot, there are fewer items than slots
  pub room_for_one : (slots : List (Option X)) (place : ℕ) → place < length slots → get_or slots place None ≡ None → length (items_in slots) < length slots
  room_for_one [] place within vacant = absurd (omega arith)
  room_for_one (None ∷ slots) place within vacant = omega (arith, length-items_in slots)
  room_for_one (Some x ∷ slots) zero within vacant = cc
  room_for_one (Some x ∷ slots) (suc place) within vacant = omega (arith, room_for_one slots place (omega arith) vacant)

  module _ (slots : List (Option X)) (m : SignerMap X) (seen : map_of slots ≡ m) where
    -- a place past the slots is a signer past the participants
    pub past-participants : (place : ℕ) → length slots ≤ place → m.participants ≤ place
    past-participants place past = rw (← seen, participants-map_of slots) past

    pub below-participants : (place : ℕ) → place < length slots → place < m.participants
    below-participants place within = rw (← seen, participants-map_of slots) within

    -- what is read of a slot is its signer's item
    pub item_of-read : (place : ℕ) (slot : Option X) → place < length slots → slot ≡ get_or slots place slot → item_of m place ≡ slot
    item_of-read place slot within read = rw (← seen, item_of-map_of slots place) (sym (get_or-default slots place slot within) ∙ sym read)

    pub item_of-vacant : (place : ℕ) → get_or slots place None ≡ None → item_of m place ≡ None
    item_of-vacant place vacant = rw (← seen, item_of-map_of slots place) vacant

    -- to fill a slot is to insert the item, and keeps how many participants there are
    pub items-filled : (place : ℕ) (x : X) → place < length slots → (map_of (set slots place (Some x))).items ≡ finite.insert m.items place x
    items-filled place x within = items-set slots place x within ∙ ap (λ seen_map. finite.insert seen_map.items place x) seen

    pub participants-filled : (place : ℕ) (x : X) → (map_of (set slots place (Some x))).participants ≡ m.participants
    participants-filled place x = participants-map_of (set slots place (Some x)) ∙ length-set slots place (Some x) ∙ sym (participants-map_of slots) ∙ ap (λ seen_map. seen_map.participants) seen

    -- each item is found under its signer, which is a participant
    pub All-found : (signer_of : X → ℕ) → ((place : ℕ) (x : X) → get_or slots place None ≡ Some x → signer_of x ≡ place) → All (λ x. item_of m (signer_of x) ≡ Some x) (items_in slots)
    All-found signer_of signed = All-items_in (λ x. item_of m (signer_of x) ≡ Some x) slots (λ place x there. rw (signed place x there, ← seen, item_of-map_of slots place) there)

    pub All-participants : (signer_of : X → ℕ) → ((place : ℕ) (x : X) → get_or slots place None ≡ Some x → signer_of x ≡ place) → All (λ x. signer_of x < m.participants) (items_in slots)
    All-participants signer_of signed = All-items_in (λ x. signer_of x < m.participants) slots (λ place x there. rw (signed place x there) (below-participants place (filled_below slots place x there)))
