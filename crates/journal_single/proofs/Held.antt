-- What a disk in memory holds is what its calls tell, and one of what a crash may leave.
use Rattle.std.proofs.Common.{Bool, true, false, cond, ◌≡◌, ◌⊎◌, inl, inr, ⊎_elim, ◌-◌, ℕ, zero, suc, ◌+◌, ◌<◌, ◌≤◌, min, List, [], ◌∷◌, ◌++◌, length, get_or, take, drop, refl, sym, ◌∙◌, ap, subst, arith, append_assoc, length-append, length-take, length-drop}
use Rattle.std.proofs.lemmas.List.{get_or_past}
use Rattle.std.proofs.lemmas.List.Sums.{fold-append}
use Rattle.journal_single.specs.Disk.{Call, Wrote, CutTo, Synced, MayLeave, IsOverwritten}
use Rattle.journal_single.specs.MemoryDisk.{Contents, empty, written, made_by, told}
use Rattle.journal_single.specs.declared.memory_disk.Held.{Held}
use Rattle.journal_single.specs.declared.memory_disk.Made.{Made}

-- what was synced is left
pub left_synced : (calls : List Call) (bytes : List ℕ) → MayLeave (Synced bytes ∷ calls) bytes
left_synced calls bytes = record { no_shorter = omega arith; no_longer = omega arith; others_stay = λ i lt lt2 u. refl }

-- behind what was written all is as it was
behind_other : (bytes seen : List ℕ) (i : ℕ) → length bytes ≤ i → get_or (bytes ++ drop (length bytes) seen) i 0 ≡ get_or seen i 0
behind_other [] seen i le = refl
behind_other (b ∷ bytes) [] i le = get_or_past ((b ∷ bytes) ++ []) i 0 (omega (arith, le, length-append (b ∷ bytes) [])) ∙ sym (get_or_past [] i 0 (omega arith))
behind_other (b ∷ bytes) (s ∷ seen) zero le = absurd (omega (arith, le))
behind_other (b ∷ bytes) (s ∷ seen) (suc i) le = behind_other bytes seen i (omega (arith, le))

-- beside what was written all is as it was
held_other : (at m : ℕ) (seen bytes : List ℕ) (i : ℕ) → m ≡ at + length bytes → at ≤ length seen → (i < at) ⊎ (m ≤ i) → get_or (take at seen ++ (bytes ++ drop m seen)) i 0 ≡ get_or seen i 0
held_other zero m seen bytes i is le (inl lt) = absurd (omega (arith, lt))
held_other zero m seen bytes i is le (inr ge) = let same : m ≡ length bytes = omega (arith, is) in ap (λ (k : ℕ). get_or (bytes ++ drop k seen) i 0) same ∙ behind_other bytes seen i (omega (arith, is, ge))
held_other (suc at) m [] bytes i is le beside = absurd (omega (arith, le))
held_other (suc at) zero (s ∷ seen) bytes i is le beside = absurd (omega (arith, is))
held_other (suc at) (suc m) (s ∷ seen) bytes zero is le beside = refl
held_other (suc at) (suc m) (s ∷ seen) bytes (suc i) is le (inl lt) = held_other at m seen bytes i (omega (arith, is)) (omega (arith, le)) (inl (omega (arith, lt)))
held_other (suc at) (suc m) (s ∷ seen) bytes (suc i) is le (inr ge) = held_other at m seen bytes i (omega (arith, is)) (omega (arith, le)) (inr (omega (arith, ge)))

-- what a write makes of what may be left may be left after it
pub left_written : (calls : List Call) (seen bytes new : List ℕ) (at n : ℕ) → MayLeave calls seen → at ≤ length seen → n ≡ length bytes → IsOverwritten seen at bytes new → MayLeave (Wrote at n ∷ calls) new
left_written calls seen bytes new at n left le is holds =
    let whole : new ≡ take at seen ++ (bytes ++ drop (at + length bytes) seen) = holds ∙ append_assoc (take at seen) bytes (drop (at + length bytes) seen) in
    let long : length new ≡ length (take at seen) + (length bytes + length (drop (at + length bytes) seen)) = ap length whole ∙ length-append (take at seen) (bytes ++ drop (at + length bytes) seen) ∙ ap (λ (k : ℕ). length (take at seen) + k) (length-append bytes (drop (at + length bytes) seen)) in
    let front : length (take at seen) ≡ min at (length seen) = length-take at seen in
    let back : length (drop (at + length bytes) seen) ≡ length seen - (at + length bytes) = length-drop (at + length bytes) seen in
    record {
      no_shorter = omega (arith, left.no_shorter, long, front, back, le);
      no_longer = omega (arith, left.no_longer, long, front, back, le, is);
      others_stay = λ i lt lt2 u.
          let beside : (i < at) ⊎ (at + length bytes ≤ i) = subst (λ (k : ℕ). (i < at) ⊎ (at + k ≤ i)) is u.0 in
          let was : get_or new i 0 ≡ get_or seen i 0 = ap (λ (l : List ℕ). get_or l i 0) whole ∙ held_other at (at + length bytes) seen bytes i refl le beside in
          was ∙ left.others_stay i lt (⊎_elim (λ before. omega (arith, before, le)) (λ after. omega (arith, after, lt2, long, front, back, le)) beside) u.1;
    }

-- and what a cut makes of it
pub left_cut : (calls : List Call) (seen new : List ℕ) (n : ℕ) → MayLeave calls seen → n ≤ length seen → new ≡ take n seen → MayLeave (CutTo n ∷ calls) new
left_cut calls seen new n left le is =
    let long : length new ≡ min n (length seen) = ap length is ∙ length-take n seen in
    record {
      no_shorter = omega (arith, left.no_shorter, long, le);
      no_longer = omega (arith, left.no_longer, long, le);
      others_stay = λ i lt lt2 u.
          ap (λ (l : List ℕ). get_or l i 0) is ∙ taken n seen i (omega (arith, lt2, long, le)) ∙ left.others_stay i lt (omega (arith, lt2, long, le)) u;
    }
  where
    taken : (n : ℕ) (xs : List ℕ) (i : ℕ) → i < n → get_or (take n xs) i 0 ≡ get_or xs i 0
    taken zero xs i lt = absurd (omega (arith, lt))
    taken (suc n) [] i lt = refl
    taken (suc n) (x ∷ xs) zero lt = refl
    taken (suc n) (x ∷ xs) (suc i) lt = taken n xs i (omega (arith, lt))

-- what is told of a disk is what it holds, and a crash may leave it
pub record IsHeld (was : Contents) (bytes : List ℕ) : Type 0 where
  pub is_told : was.bytes ≡ bytes
  pub is_left : MayLeave was.calls bytes

-- so it is of every disk
pub is_held : (held : Held) → IsHeld (told held.calls.items) held.bytes.items
is_held held = record { is_told = held.is_told; is_left = held.is_left }

-- a write is told
pub held_written : (was : Contents) (old kept bytes new : List ℕ) (at : ℕ) → IsHeld was old → at ≤ length old → kept ≡ bytes → IsOverwritten old at bytes new → IsHeld (written was at kept) new
held_written was old kept bytes new at held le is holds =
    let over : IsOverwritten old at kept new = subst (λ (l : List ℕ). IsOverwritten old at l new) (sym is) holds in
    record {
      is_told = ap (λ (l : List ℕ). take at l ++ kept ++ drop (at + length kept) l) held.is_told ∙ sym over;
      is_left = left_written was.calls old kept new at (length kept) held.is_left le refl over;
    }

-- a cut is told
pub held_cut : (was : Contents) (old new : List ℕ) (n : ℕ) → IsHeld was old → n ≤ length old → new ≡ take n old → IsHeld (record { bytes = take n was.bytes; calls = CutTo n ∷ was.calls }) new
held_cut was old new n held le is = record {
  is_told = ap (take n) held.is_told ∙ sym is;
  is_left = left_cut was.calls old new n held.is_left le is;
}

-- a sync is told
pub held_synced : (was : Contents) (bytes : List ℕ) → IsHeld was bytes → IsHeld (record { bytes = was.bytes; calls = Synced was.bytes ∷ was.calls }) bytes
held_synced was bytes held = record {
  is_told = held.is_told;
  is_left = subst (λ (l : List ℕ). MayLeave (Synced l ∷ was.calls) bytes) (sym held.is_told) (left_synced was.calls bytes);
}

-- what a disk began with is told
pub held_begun : (first bytes : List ℕ) → first ≡ bytes → IsHeld (record { bytes = first; calls = Synced first ∷ [] }) bytes
held_begun first bytes is = record {
  is_told = is;
  is_left = subst (λ (l : List ℕ). MayLeave (Synced l ∷ []) bytes) (sym is) (left_synced [] bytes);
}

-- one more call was kept
told-push : (kept more : List Made) (m : Made) → more ≡ kept ++ m ∷ [] → told more ≡ made_by (told kept) m
told-push kept more m is = ap told is ∙ fold-append made_by empty kept (m ∷ [])

-- what is held after one more call
pub held-push : (kept more : List Made) (m : Made) (bytes : List ℕ) → more ≡ kept ++ m ∷ [] → IsHeld (made_by (told kept) m) bytes → IsHeld (told more) bytes
held-push kept more m bytes is held = subst (λ (t : Contents). IsHeld t bytes) (sym (told-push kept more m is)) held

-- the calls after one more
pub calls-push : (kept more : List Made) (m : Made) → more ≡ kept ++ m ∷ [] → (told more).calls ≡ (made_by (told kept) m).calls
calls-push kept more m is = ap (λ (t : Contents). t.calls) (told-push kept more m is)

-- what is held whether or not one more call was kept
pub held_either : (ok : Bool) (kept more : List Made) (m : Made) (bytes : List ℕ) → more ≡ cond ok (kept ++ m ∷ []) kept → IsHeld (made_by (told kept) m) bytes → IsHeld (told kept) bytes → IsHeld (told more) bytes
held_either true kept more m bytes is after before = held-push kept more m bytes is after
held_either false kept more m bytes is after before = subst (λ (l : List Made). IsHeld (told l) bytes) (sym is) before
