-- What stands behind a gate is cut off, and the gate is closed.
use Rattle.std.proofs.Common.{◌≡◌, inl, inr, ℕ, ◌+◌, ◌-◌, ◌<◌, ◌≤◌, List, [], ◌∷◌, ◌++◌, length, get_or, take, refl, ◌∙◌, ap, subst, arith, length-append}
use Rattle.journal_single.specs.Disk.{Call, Wrote, CutTo, Synced, MayLeave, LeavesOnly, IsOverwritten}
use Rattle.journal_single.specs.Record.{IsFixed}
use Rattle.journal_single.specs.Lists.{kept_take, one_byte, take_past, held_byte}
use Rattle.journal_single.specs.Moments.{started, goes_on}
use Rattle.journal_single.specs.Images.{only_synced, fixed_only}
use Rattle.simplex_journal.specs.Steps.{IsClosed, IsBeingClosed}
use Rattle.simplex_journal.proofs.Begun.{fixed_by}

first_byte : (xs : List ℕ) → 0 < length xs → take 1 xs ≡ get_or xs 0 0 ∷ []
first_byte [] some = absurd (omega (arith, some))
first_byte (x ∷ xs) some = refl

all_of : (xs : List ℕ) → xs ≡ take (length xs) xs
all_of [] = refl
all_of (x ∷ xs) = ap (λ (l : List ℕ). x ∷ l) (all_of xs)

module _ {seen0 : List ℕ} {gate : ℕ} (base end : List ℕ) (split : seen0 ≡ base ++ end) (gate_is : gate ≡ length base) (some : gate < length seen0) where
  end_some : 0 < length end
  end_some = omega (arith, some, gate_is, ap length split, length-append base end)

  cut_at : (seen1 : List ℕ) → seen1 ≡ take (gate + 1) seen0 → seen1 ≡ base ++ take 1 end
  cut_at seen1 cut = cut ∙ ap (λ (l : List ℕ). take (gate + 1) l) split ∙ take_past base end (gate + 1) 1 (omega (arith, gate_is))

  cut_to_gate : (seen1 : List ℕ) → seen1 ≡ take (gate + 1) seen0 → seen1 ≡ base ++ get_or end 0 0 ∷ []
  cut_to_gate seen1 cut = cut_at seen1 cut ∙ ap (λ (l : List ℕ). base ++ l) (first_byte end end_some)

  is_shut : (seen1 seen3 : List ℕ) → seen1 ≡ take (gate + 1) seen0 → IsOverwritten seen1 gate (0 ∷ []) seen3 → seen3 ≡ base ++ 0 ∷ []
  is_shut seen1 seen3 cut holds = held_byte base (get_or end 0 0) 0 [] seen3 gate gate_is (subst (λ (l : List ℕ). IsOverwritten l gate (0 ∷ []) seen3) (cut_to_gate seen1 cut) holds)

  pub closed : (seen1 seen3 seen4 : List ℕ) (calls3 calls4 : List Call) → seen1 ≡ take (gate + 1) seen0 → IsOverwritten seen1 gate (0 ∷ []) seen3 → calls4 ≡ Synced seen3 ∷ calls3 → seen4 ≡ seen3 → IsClosed base seen4 calls4 gate
  closed seen1 seen3 seen4 calls3 calls4 cut holds is same = record { gate_is = gate_is; seen_is = same ∙ is_shut seen1 seen3 cut holds; fixed = fixed_by seen3 seen4 calls3 calls4 is same }

  module _ {calls0 : List Call} (x : IsFixed seen0 calls0) where
    pub close_begun : LeavesOnly calls0 calls0 (IsBeingClosed base end)
    close_begun = started calls0 (IsBeingClosed base end) (λ image left.
        let whole : base ++ end ≡ base ++ take (length end) end = ap (λ (l : List ℕ). base ++ l) (all_of end) in
        inl (length end, subst (λ (l : List ℕ). 0 < length l) (all_of end) end_some, fixed_only x image left ∙ split ∙ whole))

    pub cutting : (calls1 : List Call) → calls1 ≡ CutTo (gate + 1) ∷ calls0 → LeavesOnly calls0 calls1 (IsBeingClosed base end)
    cutting calls1 is = goes_on close_begun (CutTo (gate + 1)) is (λ image left.
        let here : MayLeave (CutTo (gate + 1) ∷ Synced seen0 ∷ x.earlier) image = subst (λ (l : List Call). MayLeave (CutTo (gate + 1) ∷ l) image) x.is left in
        let long : length base + 1 ≤ length image = omega (arith, here.no_shorter, some, gate_is) in
        let n = length image - length base in
        let front : image ≡ take (length image) seen0 = kept_take seen0 image here.no_longer (λ i lt. here.others_stay i (omega (arith, lt, here.no_longer)) lt tt) in
        let whole : image ≡ base ++ take n end = front ∙ ap (λ (l : List ℕ). take (length image) l) split ∙ take_past base end (length image) n (omega (arith, long)) in
        inl (n, omega (arith, long, ap length whole, length-append base (take n end)), whole))

    module _ (seen1 : List ℕ) (calls1 calls2 : List Call) (cut : seen1 ≡ take (gate + 1) seen0) (is1 : calls1 ≡ CutTo (gate + 1) ∷ calls0) (is2 : calls2 ≡ Synced seen1 ∷ calls1) where
      at_gate : calls2 ≡ Synced (base ++ get_or end 0 0 ∷ []) ∷ calls1
      at_gate = is2 ∙ ap (λ (l : List ℕ). Synced l ∷ calls1) (cut_to_gate seen1 cut)

      pub cut_synced : LeavesOnly calls0 calls2 (IsBeingClosed base end)
      cut_synced = goes_on (cutting calls1 is1) (Synced seen1) is2 (λ image left. inr (get_or end 0 0, only_synced seen1 calls1 image left ∙ cut_to_gate seen1 cut))

      pub shutting : (calls3 : List Call) → calls3 ≡ Wrote gate 1 ∷ calls2 → LeavesOnly calls0 calls3 (IsBeingClosed base end)
      shutting calls3 is3 = goes_on cut_synced (Wrote gate 1) is3 (λ image left.
          let here : MayLeave (Wrote gate 1 ∷ Synced (base ++ get_or end 0 0 ∷ []) ∷ calls1) image = subst (λ (l : List Call). MayLeave (Wrote gate 1 ∷ l) image) at_gate left in
          let long : length (base ++ get_or end 0 0 ∷ []) ≡ length base + 1 = length-append base (get_or end 0 0 ∷ []) in
          let same : length image ≡ length (base ++ get_or end 0 0 ∷ []) = omega (arith, here.no_shorter, here.no_longer, long, gate_is) in
          let one = one_byte base (get_or end 0 0) [] image same (λ i lt ne. here.others_stay i (omega (arith, lt, same)) lt (inl (omega (arith, lt, same, long, ne, gate_is)), tt)) in
          inr (one.byte, one.is))

      module _ (seen3 : List ℕ) (calls3 calls4 : List Call) (holds3 : IsOverwritten seen1 gate (0 ∷ []) seen3) (is3 : calls3 ≡ Wrote gate 1 ∷ calls2) (is4 : calls4 ≡ Synced seen3 ∷ calls3) where
        pub shut : LeavesOnly calls0 calls4 (IsBeingClosed base end)
        shut = goes_on (shutting calls3 is3) (Synced seen3) is4 (λ image left. inr (0, only_synced seen3 calls3 image left ∙ is_shut seen1 seen3 cut holds3))
