-- Bytes are put behind a closed gate, and marked.
use Rattle.std.proofs.Common.{◌≡◌, ◌≢◌, ◌⊎◌, inl, inr, ℕ, ◌+◌, ◌<◌, ◌≤◌, List, [], ◌∷◌, ◌++◌, length, drop, ◌∙◌, ap, subst, arith, append_assoc, length-append}
use Rattle.journal_single.specs.Disk.{Call, Wrote, Synced, MayLeave, LeavesOnly, IsOverwritten}
use Rattle.journal_single.specs.Record.{IsFixed}
use Rattle.journal_single.specs.Lists.{kept_front, one_byte, held_behind, held_byte}
use Rattle.journal_single.specs.Moments.{started, goes_on}
use Rattle.journal_single.specs.Images.{only_synced, fixed_only}
use Rattle.simplex_journal.specs.Steps.{IsClosed, IsBeingMarked}
use Rattle.simplex_journal.proofs.Begun.{fixed_by}

module _ {seen0 : List ℕ} {calls0 : List Call} {gate : ℕ} (base bytes : List ℕ) (r : IsClosed base seen0 calls0 gate) where
  at_rest : calls0 ≡ Synced (base ++ 0 ∷ []) ∷ r.fixed.earlier
  at_rest = r.fixed.is ∙ ap (λ (l : List ℕ). Synced l ∷ r.fixed.earlier) r.seen_is

  pub gate_within : gate + 1 ≤ length seen0
  gate_within = omega (arith, r.gate_is, ap length r.seen_is, length-append base (0 ∷ []))

  pub mark_begun : LeavesOnly calls0 calls0 (IsBeingMarked base bytes)
  mark_begun = started calls0 (IsBeingMarked base bytes) (λ image left. inl ([], fixed_only r.fixed image left ∙ r.seen_is))

  pub putting : (calls1 : List Call) → calls1 ≡ Wrote (gate + 1) (length bytes) ∷ calls0 → LeavesOnly calls0 calls1 (IsBeingMarked base bytes)
  putting calls1 is = goes_on mark_begun (Wrote (gate + 1) (length bytes)) is (λ image left.
      let here : MayLeave (Wrote (gate + 1) (length bytes) ∷ Synced (base ++ 0 ∷ []) ∷ r.fixed.earlier) image = subst (λ (l : List Call). MayLeave (Wrote (gate + 1) (length bytes) ∷ l) image) at_rest left in
      let long : length (base ++ 0 ∷ []) ≡ length base + 1 = length-append base (0 ∷ []) in
      let whole : image ≡ (base ++ 0 ∷ []) ++ drop (length (base ++ 0 ∷ [])) image =
      kept_front (base ++ 0 ∷ []) image here.no_shorter (λ i lt. here.others_stay i lt (omega (arith, lt, here.no_shorter)) (inl (omega (arith, lt, long, r.gate_is)), tt)) in
      let behind = drop (length (base ++ 0 ∷ [])) image in
      inl (behind, whole ∙ append_assoc base (0 ∷ []) behind))

  put_there : (seen1 : List ℕ) → IsOverwritten seen0 (gate + 1) bytes seen1 → seen1 ≡ base ++ 0 ∷ bytes
  put_there seen1 holds =
      held_behind (base ++ 0 ∷ []) bytes seen1 (gate + 1) (omega (arith, r.gate_is, length-append base (0 ∷ [])))
      (subst (λ (l : List ℕ). IsOverwritten l (gate + 1) bytes seen1) r.seen_is holds)
      ∙ append_assoc base (0 ∷ []) bytes

  pub mark_within : (seen1 : List ℕ) → IsOverwritten seen0 (gate + 1) bytes seen1 → gate ≤ length seen1
  mark_within seen1 holds = omega (arith, r.gate_is, ap length (put_there seen1 holds), length-append base (0 ∷ bytes))

  module _ (seen1 : List ℕ) (calls1 calls2 : List Call) (holds1 : IsOverwritten seen0 (gate + 1) bytes seen1) (is1 : calls1 ≡ Wrote (gate + 1) (length bytes) ∷ calls0) (is2 : calls2 ≡ Synced seen1 ∷ calls1) where
    at_put : calls2 ≡ Synced (base ++ 0 ∷ bytes) ∷ calls1
    at_put = is2 ∙ ap (λ (l : List ℕ). Synced l ∷ calls1) (put_there seen1 holds1)

    pub put_synced : LeavesOnly calls0 calls2 (IsBeingMarked base bytes)
    put_synced = goes_on (putting calls1 is1) (Synced seen1) is2 (λ image left. inl (bytes, only_synced seen1 calls1 image left ∙ put_there seen1 holds1))

    pub marking : (calls3 : List Call) → calls3 ≡ Wrote gate 1 ∷ calls2 → LeavesOnly calls0 calls3 (IsBeingMarked base bytes)
    marking calls3 is3 = goes_on put_synced (Wrote gate 1) is3 (λ image left.
        let here : MayLeave (Wrote gate 1 ∷ Synced (base ++ 0 ∷ bytes) ∷ calls1) image = subst (λ (l : List Call). MayLeave (Wrote gate 1 ∷ l) image) at_put left in
        let long : length (base ++ 0 ∷ bytes) ≡ length base + length (0 ∷ bytes) = length-append base (0 ∷ bytes) in
        let same : length image ≡ length (base ++ 0 ∷ bytes) = omega (arith, here.no_shorter, here.no_longer, long, r.gate_is) in
        let one = one_byte base 0 bytes image same (λ i lt ne. here.others_stay i (omega (arith, lt, same)) lt (beside i gate (λ e. ne (e ∙ r.gate_is)), tt)) in
        inr (one.byte, one.is))
      where
        beside : (i n : ℕ) → i ≢ n → (i < n) ⊎ (n + 1 ≤ i)
        beside i n ne = grind arith

    module _ (mark : ℕ) (seen3 : List ℕ) (calls3 calls4 : List Call) (holds3 : IsOverwritten seen1 gate (mark ∷ []) seen3) (is3 : calls3 ≡ Wrote gate 1 ∷ calls2) (is4 : calls4 ≡ Synced seen3 ∷ calls3) where
      is_marked : seen3 ≡ base ++ mark ∷ bytes
      is_marked = held_byte base 0 mark bytes seen3 gate r.gate_is (subst (λ (l : List ℕ). IsOverwritten l gate (mark ∷ []) seen3) (put_there seen1 holds1) holds3)

      pub marked : LeavesOnly calls0 calls4 (IsBeingMarked base bytes)
      marked = goes_on (marking calls3 is3) (Synced seen3) is4 (λ image left. inr (mark, only_synced seen3 calls3 image left ∙ is_marked))

      pub mark_rests : (seen4 : List ℕ) → seen4 ≡ seen3 → (seen4 ≡ base ++ mark ∷ bytes) × IsFixed seen4 calls4
      mark_rests seen4 same = (same ∙ is_marked, fixed_by seen3 seen4 calls3 calls4 is4 same)
