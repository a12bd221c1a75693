-- The stages of an opening's repair.
use Rattle.std.proofs.Common.{◌≡◌, inl, ℕ, ◌+◌, ◌<◌, ◌≤◌, List, [], ◌∷◌, ◌++◌, length, get_or, take, refl, sym, ◌∙◌, ap, subst, arith, length-append}
use Rattle.journal_single.specs.Disk.{Call, Wrote, CutTo, Synced, MayLeave, LeavesOnly, IsOverwritten}
use Rattle.journal_single.specs.Record.{Reads, IsAtRest, IsFound, IsFixed}
use Rattle.journal_single.specs.Lists.{take_past, held_byte}
use Rattle.journal_single.specs.Moments.{started, goes_on}
use Rattle.journal_single.specs.LookingLaws.{reads_found}
use Rattle.journal_single.specs.Images.{end_short, reads_front, reads_rest, cut_behind, gate_closes, first_gate, only_synced, fixed_only}

first_byte : (xs : List ℕ) → 0 < length xs → take 1 xs ≡ get_or xs 0 0 ∷ []
first_byte [] some = absurd (omega (arith, some))
first_byte (x ∷ xs) some = refl

pub cut_found : {seen0 : List ℕ} (seen1 : List ℕ) {gate : ℕ} {bodies : List (List ℕ)} (f : IsFound [] seen0 gate bodies) → gate < length seen0 → seen1 ≡ take (gate + 1) seen0 → seen1 ≡ f.left.front ++ get_or f.rest 0 0 ∷ []
cut_found {seen0} seen1 {gate} {bodies} f some is =
    is ∙ ap (λ (l : List ℕ). take (gate + 1) l) f.left.split ∙ take_past f.left.front f.rest (gate + 1) 1 (omega (arith, f.gate_is))
    ∙ ap (λ (l : List ℕ). f.left.front ++ l) (first_byte f.rest (omega (arith, some, f.gate_is, ap length f.left.split, length-append f.left.front f.rest)))

pub gate_within : {seen0 : List ℕ} (seen1 : List ℕ) {gate : ℕ} {bodies : List (List ℕ)} (f : IsFound [] seen0 gate bodies) → gate < length seen0 → seen1 ≡ take (gate + 1) seen0 → gate ≤ length seen1
gate_within {seen0} seen1 {gate} {bodies} f some is = omega (arith, f.gate_is, ap length (cut_found seen1 f some is), length-append f.left.front (get_or f.rest 0 0 ∷ []))

module _ {seen0 : List ℕ} {calls0 : List Call} {gate : ℕ} {bodies : List (List ℕ)} (x : IsFixed seen0 calls0) (f : IsFound [] seen0 gate bodies) (some : gate < length seen0) where
  abbrev Same : List ℕ → Type 0
  Same image = Reads image bodies

  pub begun : LeavesOnly calls0 calls0 Same
  begun = started calls0 Same (λ image left. subst Same (sym (fixed_only x image left)) (reads_found f))

  at_split : calls0 ≡ Synced (f.left.front ++ f.rest) ∷ x.earlier
  at_split = x.is ∙ ap (λ (l : List ℕ). Synced l ∷ x.earlier) f.left.split

  behind_some : 0 < length f.rest
  behind_some = omega (arith, some, f.gate_is, ap length f.left.split, length-append f.left.front f.rest)

  pub cutting : (calls1 : List Call) → calls1 ≡ CutTo (gate + 1) ∷ calls0 → LeavesOnly calls0 calls1 Same
  cutting calls1 is = goes_on begun (CutTo (gate + 1)) is (λ image left.
      cut_behind f.left.front f.rest bodies x.earlier image f.left.entries f.ended
      (subst (λ (l : List Call). MayLeave (CutTo (length f.left.front + 1) ∷ l) image) at_split
      (subst (λ (n : ℕ). MayLeave (CutTo (n + 1) ∷ calls0) image) f.gate_is left))
      behind_some)

  module _ (seen1 : List ℕ) (calls1 calls2 : List Call) (cut1 : seen1 ≡ take (gate + 1) seen0)
      (is1 : calls1 ≡ CutTo (gate + 1) ∷ calls0) (is2 : calls2 ≡ Synced seen1 ∷ calls1) where
    at_gate : calls2 ≡ Synced (f.left.front ++ get_or f.rest 0 0 ∷ []) ∷ calls1
    at_gate = is2 ∙ ap (λ (l : List ℕ). Synced l ∷ calls1) (cut_found seen1 f some cut1)

    pub synced : LeavesOnly calls0 calls2 Same
    synced = goes_on (cutting calls1 is1) (Synced seen1) is2 (λ image left.
        subst Same (sym (only_synced seen1 calls1 image left ∙ cut_found seen1 f some cut1))
        (reads_front f.left.front (get_or f.rest 0 0 ∷ []) bodies f.left.entries (end_short (get_or f.rest 0 0 ∷ []) (omega arith)) (omega arith)))

    pub closing : (calls3 : List Call) → calls3 ≡ Wrote gate 1 ∷ calls2 → LeavesOnly calls0 calls3 Same
    closing calls3 is3 = goes_on synced (Wrote gate 1) is3 (λ image left.
        gate_closes f.left.front (get_or f.rest 0 0) bodies calls1 image f.left.entries
        (subst (λ (l : List Call). MayLeave (Wrote (length f.left.front) 1 ∷ l) image) at_gate
        (subst (λ (n : ℕ). MayLeave (Wrote n 1 ∷ calls2) image) f.gate_is left)))

    module _ (seen3 : List ℕ) (calls3 calls4 : List Call) (holds3 : IsOverwritten seen1 gate (0 ∷ []) seen3)
        (is3 : calls3 ≡ Wrote gate 1 ∷ calls2) (is4 : calls4 ≡ Synced seen3 ∷ calls3) where
      is_shut : seen3 ≡ f.left.front ++ 0 ∷ []
      is_shut = held_byte f.left.front (get_or f.rest 0 0) 0 [] seen3 gate f.gate_is (subst (λ (l : List ℕ). IsOverwritten l gate (0 ∷ []) seen3) (cut_found seen1 f some cut1) holds3)

      pub closed : LeavesOnly calls0 calls4 Same
      closed = goes_on (closing calls3 is3) (Synced seen3) is4 (λ image left.
          subst Same (sym (only_synced seen3 calls3 image left ∙ is_shut)) (reads_rest f.left.front [] bodies f.left.entries))

      pub rests : (seen4 : List ℕ) → seen4 ≡ seen3 → IsAtRest [] seen4 calls4 gate bodies
      rests seen4 same = record {
        front = f.left.front;
        entries = f.left.entries;
        gate_is = f.gate_is;
        seen_is = same ∙ is_shut;
        earlier = calls3;
        calls_is = is4 ∙ ap (λ (l : List ℕ). Synced l ∷ calls3) is_shut;
      }

-- on an empty disk
reads_nothing : (image : List ℕ) → length image ≤ 1 → Reads image []
reads_nothing image short = record { front = []; end = image; split = refl; entries = refl; ended = end_short image (omega (arith, short)); gate = inl refl }

first_shut : (seen0 seen1 : List ℕ) → seen0 ≡ [] → IsOverwritten seen0 0 (0 ∷ []) seen1 → seen1 ≡ 0 ∷ []
first_shut seen0 seen1 none holds = subst (λ (l : List ℕ). IsOverwritten l 0 (0 ∷ []) seen1) none holds

pub first_rests : (seen0 seen1 seen2 : List ℕ) (calls1 calls2 : List Call) → seen0 ≡ [] → IsOverwritten seen0 0 (0 ∷ []) seen1 → calls2 ≡ Synced seen1 ∷ calls1 → seen2 ≡ seen1 → IsAtRest [] seen2 calls2 0 []
first_rests seen0 seen1 seen2 calls1 calls2 none holds is same = record {
  front = [];
  entries = refl;
  gate_is = refl;
  seen_is = same ∙ first_shut seen0 seen1 none holds;
  earlier = calls1;
  calls_is = is ∙ ap (λ (l : List ℕ). Synced l ∷ calls1) (first_shut seen0 seen1 none holds);
}

pub first_writing : {seen0 : List ℕ} {calls0 : List Call} (calls1 : List Call) → IsFixed seen0 calls0 → seen0 ≡ [] → calls1 ≡ Wrote 0 1 ∷ calls0 → LeavesOnly calls0 calls1 (λ image. Reads image [])
first_writing {seen0} {calls0} calls1 x none is =
    let at_none : calls0 ≡ Synced [] ∷ x.earlier = x.is ∙ ap (λ (l : List ℕ). Synced l ∷ x.earlier) none in
    goes_on (started calls0 (λ image. Reads image []) (λ image left. reads_nothing image (omega (arith, ap length (fixed_only x image left), ap length none)))) (Wrote 0 1) is
    (λ image left. first_gate x.earlier image (subst (λ (l : List Call). MayLeave (Wrote 0 1 ∷ l) image) at_none left))

pub first_written : {seen0 : List ℕ} {calls0 : List Call} (seen1 : List ℕ) (calls1 calls2 : List Call) → IsFixed seen0 calls0 → seen0 ≡ [] → IsOverwritten seen0 0 (0 ∷ []) seen1 → calls1 ≡ Wrote 0 1 ∷ calls0 → calls2 ≡ Synced seen1 ∷ calls1 → LeavesOnly calls0 calls2 (λ image. Reads image [])
first_written {seen0} {calls0} seen1 calls1 calls2 x none holds is1 is2 =
    goes_on (first_writing calls1 x none is1) (Synced seen1) is2 (λ image left.
    reads_nothing image (omega (arith, ap length (only_synced seen1 calls1 image left), ap length (first_shut seen0 seen1 none holds))))

pub first_begun : {seen0 : List ℕ} {calls0 : List Call} → IsFixed seen0 calls0 → seen0 ≡ [] → LeavesOnly calls0 calls0 (λ image. Reads image [])
first_begun {seen0} {calls0} x none = started calls0 (λ image. Reads image []) (λ image left. reads_nothing image (omega (arith, ap length (fixed_only x image left), ap length none)))
