-- The stages of an append, each from what its calls have ensured.
use Rattle.std.proofs.Common.{◌≡◌, inl, inr, ℕ, ◌+◌, ◌≤◌, List, [], ◌∷◌, ◌++◌, length, sym, ◌∙◌, ap, subst, arith, append_assoc, length-append}
use Rattle.journal_single.specs.Disk.{Call, Wrote, Synced, MayLeave, LeavesOnly, IsOverwritten}
use Rattle.journal_single.specs.Record.{AreEntries, Reads, IsWithOrWithout, Spells, IsAtRest}
use Rattle.journal_single.specs.Moments.{started, goes_on, weaker}
use Rattle.journal_single.specs.Lists.{held_behind, held_byte}
use Rattle.journal_single.specs.Images.{reads_rest, entries_push, behind_gate, gate_opens, only_synced}

-- the closed gate is still within, whatever was written behind it
pub within : {seen0 : List ℕ} (seen1 entry : List ℕ) {calls0 : List Call} {gate : ℕ} {bodies : List (List ℕ)} (r : IsAtRest [] seen0 calls0 gate bodies) → IsOverwritten seen0 (gate + 1) entry seen1 → gate ≤ length seen1
within {seen0} seen1 entry {calls0} {gate} {bodies} r holds =
    let whole = held_behind (r.front ++ 0 ∷ []) entry seen1 (gate + 1) (omega (arith, r.gate_is, length-append r.front (0 ∷ [])))
    (subst (λ (l : List ℕ). IsOverwritten l (gate + 1) entry seen1) r.seen_is holds) in
    omega (arith, r.gate_is, ap length whole, length-append r.front (0 ∷ []), length-append (r.front ++ 0 ∷ []) entry)

module _ {seen0 : List ℕ} {calls0 : List Call} {gate : ℕ} {bodies : List (List ℕ)} {entry body : List ℕ} (r : IsAtRest [] seen0 calls0 gate bodies) (s : Spells entry body) where
  abbrev Old : List ℕ → Type 0
  Old image = Reads image bodies

  abbrev Either : List ℕ → Type 0
  Either image = IsWithOrWithout bodies body image

  begun : LeavesOnly calls0 calls0 Old
  begun = started calls0 Old (λ image left.
      subst Old (sym (only_synced (r.front ++ 0 ∷ []) r.earlier image (subst (λ (l : List Call). MayLeave l image) r.calls_is left)))
      (reads_rest r.front [] bodies r.entries))

  behind : (calls1 : List Call) → calls1 ≡ Wrote (gate + 1) (length entry) ∷ calls0 → LeavesOnly calls0 calls1 Old
  behind calls1 is = goes_on begun (Wrote (gate + 1) (length entry)) is (λ image left.
      behind_gate r.front bodies r.earlier (length entry) image r.entries
      (subst (λ (l : List Call). MayLeave (Wrote (length r.front + 1) (length entry) ∷ l) image) r.calls_is
      (subst (λ (n : ℕ). MayLeave (Wrote (n + 1) (length entry) ∷ calls0) image) r.gate_is left)))

  pub wrote : (calls1 : List Call) → calls1 ≡ Wrote (gate + 1) (length entry) ∷ calls0 → LeavesOnly calls0 calls1 Either
  wrote calls1 is = weaker Either (behind calls1 is) (λ image old. inl old)

  pub begun_either : LeavesOnly calls0 calls0 Either
  begun_either = weaker Either begun (λ image old. inl old)

  pub staged : (seen1 : List ℕ) → IsOverwritten seen0 (gate + 1) entry seen1 → seen1 ≡ r.front ++ 0 ∷ entry
  staged seen1 holds =
      held_behind (r.front ++ 0 ∷ []) entry seen1 (gate + 1) (omega (arith, r.gate_is, length-append r.front (0 ∷ [])))
      (subst (λ (l : List ℕ). IsOverwritten l (gate + 1) entry seen1) r.seen_is holds)
      ∙ append_assoc r.front (0 ∷ []) entry

  module _ (seen1 : List ℕ) (calls1 calls2 : List Call) (holds1 : IsOverwritten seen0 (gate + 1) entry seen1)
      (is1 : calls1 ≡ Wrote (gate + 1) (length entry) ∷ calls0) (is2 : calls2 ≡ Synced seen1 ∷ calls1) where
    is_staged : calls2 ≡ Synced (r.front ++ 0 ∷ entry) ∷ calls1
    is_staged = is2 ∙ ap (λ (l : List ℕ). Synced l ∷ calls1) (staged seen1 holds1)

    pub synced : LeavesOnly calls0 calls2 Either
    synced = goes_on (wrote calls1 is1) (Synced (r.front ++ 0 ∷ entry)) is_staged (λ image left.
        inl (subst Old (sym (only_synced (r.front ++ 0 ∷ entry) calls1 image left)) (reads_rest r.front entry bodies r.entries)))

    pub opening : (calls3 : List Call) → calls3 ≡ Wrote gate 1 ∷ calls2 → LeavesOnly calls0 calls3 Either
    opening calls3 is3 = goes_on synced (Wrote gate 1) is3 (λ image left.
        gate_opens r.front bodies calls1 s.a s.b s.c s.d body entry image r.entries s.long s.split
        (subst (λ (l : List Call). MayLeave (Wrote (length r.front) 1 ∷ l) image) is_staged
        (subst (λ (n : ℕ). MayLeave (Wrote n 1 ∷ calls2) image) r.gate_is left)))

    module _ (seen3 : List ℕ) (calls3 calls4 : List Call) (holds3 : IsOverwritten seen1 gate (1 ∷ []) seen3)
        (is3 : calls3 ≡ Wrote gate 1 ∷ calls2) (is4 : calls4 ≡ Synced seen3 ∷ calls3) where
      is_open : seen3 ≡ (r.front ++ 1 ∷ s.a ∷ s.b ∷ s.c ∷ s.d ∷ body) ++ 0 ∷ []
      is_open =
          held_byte r.front 0 1 entry seen3 gate r.gate_is (subst (λ (l : List ℕ). IsOverwritten l gate (1 ∷ []) seen3) (staged seen1 holds1) holds3)
          ∙ ap (λ (l : List ℕ). r.front ++ 1 ∷ l) s.split
          ∙ sym (append_assoc r.front (1 ∷ s.a ∷ s.b ∷ s.c ∷ s.d ∷ body) (0 ∷ []))

      entries4 : AreEntries (r.front ++ 1 ∷ s.a ∷ s.b ∷ s.c ∷ s.d ∷ body) (bodies ++ body ∷ [])
      entries4 = entries_push r.front bodies s.a s.b s.c s.d body r.entries s.long

      pub rests : (seen4 : List ℕ) → seen4 ≡ seen3 → IsAtRest [] seen4 calls4 (gate + 5 + length body) (bodies ++ body ∷ [])
      rests seen4 same = record {
        front = r.front ++ 1 ∷ s.a ∷ s.b ∷ s.c ∷ s.d ∷ body;
        entries = entries4;
        gate_is = omega (arith, r.gate_is, length-append r.front (1 ∷ s.a ∷ s.b ∷ s.c ∷ s.d ∷ body));
        seen_is = same ∙ is_open;
        earlier = calls3;
        calls_is = is4 ∙ ap (λ (l : List ℕ). Synced l ∷ calls3) is_open;
      }

      pub ended : LeavesOnly calls0 calls4 Either
      ended = goes_on (opening calls3 is3) (Synced seen3) is4 (λ image left.
          inr (subst (λ (l : List ℕ). Reads l (bodies ++ body ∷ [])) (sym (only_synced seen3 calls3 image left ∙ is_open))
          (reads_rest (r.front ++ 1 ∷ s.a ∷ s.b ∷ s.c ∷ s.d ∷ body) [] (bodies ++ body ∷ []) entries4)))
