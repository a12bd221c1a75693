-- What a crash leaves of a record.
use Rattle.std.proofs.Common.{◌≡◌, ◌≢◌, ◌⊎◌, inl, inr, ℕ, ◌+◌, ◌-◌, ◌<◌, ◌≤◌, List, [], ◌∷◌, ◌++◌, length, get_or, take, drop, refl, sym, ◌∙◌, ap, subst, arith, append_assoc, length-append, take-append-drop}
use Rattle.std.proofs.lemmas.Bool.{cases_eq}
use Rattle.std.proofs.lemmas.List.{append-nil}
use Rattle.journal_single.specs.Disk.{Call, Wrote, CutTo, Synced, MayLeave, LeavesOnly}
use Rattle.journal_single.specs.Record.{size, IsEnd, AreEntries, Reads, IsWithOrWithout, IsFixed}
use Rattle.journal_single.specs.Moments.{started, goes_on}
use Rattle.journal_single.specs.Lists.{kept_front, kept_take, one_byte, take_past}

-- the front of an end is an end
pub end_take : (n : ℕ) (end : List ℕ) → IsEnd end → IsEnd (take n end)
end_take n end ended body after entry = ended body (after ++ drop n end) (record {
  a = entry.a;
  b = entry.b;
  c = entry.c;
  d = entry.d;
  split = sym (take-append-drop n end) ∙ ap (λ (l : List ℕ). l ++ drop n end) entry.split ∙ ap (λ (l : List ℕ). 1 ∷ entry.a ∷ entry.b ∷ entry.c ∷ entry.d ∷ l) (append_assoc body after (drop n end));
  long = entry.long;
  gate = omega (arith, entry.gate, length-append after (drop n end));
})

pub end_shut : (gate : ℕ) (rest : List ℕ) → gate ≢ 1 → IsEnd (gate ∷ rest)
end_shut gate rest shut body after entry = shut (ap (λ (l : List ℕ). get_or l 0 0) entry.split)

pub end_short : (end : List ℕ) → length end ≤ 5 → IsEnd end
end_short end short body after entry = absurd (omega (arith, short, ap length entry.split, length-append body after, entry.gate))

pub reads_front : (front end : List ℕ) (bodies : List (List ℕ)) → AreEntries front bodies → IsEnd end → 0 < length end → Reads (front ++ end) bodies
reads_front front end bodies entries ended gate = record { front = front; end = end; split = refl; entries = entries; ended = ended; gate = inr gate }

-- one entry more
pub entries_push : (front : List ℕ) (bodies : List (List ℕ)) (a b c d : ℕ) (body : List ℕ) → AreEntries front bodies → length body ≡ size a b c d → AreEntries (front ++ 1 ∷ a ∷ b ∷ c ∷ d ∷ body) (bodies ++ body ∷ [])
entries_push front [] a b c d body is long = (a, b, c, d, [], ap (λ (l : List ℕ). l ++ 1 ∷ a ∷ b ∷ c ∷ d ∷ body) is ∙ ap (λ (l : List ℕ). 1 ∷ a ∷ b ∷ c ∷ d ∷ l) (sym (append-nil body)), long, refl)
entries_push front (first ∷ bodies) a b c d body is long =
    let more = 1 ∷ a ∷ b ∷ c ∷ d ∷ body in (
      is.0,
      is.1,
      is.2,
      is.3,
      is.4 ++ more,
      ap (λ (l : List ℕ). l ++ more) is.5 ∙ ap (λ (l : List ℕ). 1 ∷ is.0 ∷ is.1 ∷ is.2 ∷ is.3 ∷ l) (append_assoc first is.4 more),
      is.6,
      entries_push is.4 bodies a b c d body is.7 long,
    )

-- the first write of an append: behind the closed gate
pub behind_gate : (front : List ℕ) (bodies : List (List ℕ)) (calls : List Call) (n : ℕ) (image : List ℕ) → AreEntries front bodies
    → MayLeave (Wrote (length front + 1) n ∷ Synced (front ++ 0 ∷ []) ∷ calls) image → Reads image bodies
behind_gate front bodies calls n image entries left =
    let size_is : length (front ++ 0 ∷ []) ≡ length front + 1 = length-append front (0 ∷ []) in
    let is : image ≡ (front ++ 0 ∷ []) ++ drop (length (front ++ 0 ∷ [])) image =
    kept_front (front ++ 0 ∷ []) image left.no_shorter (λ i lt. left.others_stay i lt (omega (arith, lt, left.no_shorter)) (inl (omega (arith, lt, size_is)), tt)) in
    let behind = drop (length (front ++ 0 ∷ [])) image in
    subst (λ (l : List ℕ). Reads l bodies) (sym (is ∙ append_assoc front (0 ∷ []) behind))
    (reads_front front (0 ∷ behind) bodies entries (end_shut 0 behind (λ e. absurd (omega (arith, e)))) (omega arith))

-- the second: the gate
pub gate_opens : (front : List ℕ) (bodies : List (List ℕ)) (calls : List Call) (a b c d : ℕ) (body tail image : List ℕ) → AreEntries front bodies → length body ≡ size a b c d → tail ≡ a ∷ b ∷ c ∷ d ∷ body ++ 0 ∷ []
    → MayLeave (Wrote (length front) 1 ∷ Synced (front ++ 0 ∷ tail) ∷ calls) image → IsWithOrWithout bodies body image
gate_opens front bodies calls a b c d body tail image entries long tail_is left =
    let base_is : length (front ++ 0 ∷ tail) ≡ length front + length (0 ∷ tail) = length-append front (0 ∷ tail) in
    let same : length image ≡ length (front ++ 0 ∷ tail) = omega (arith, left.no_shorter, left.no_longer, base_is) in
    let one = one_byte front 0 tail image same (λ i lt ne. left.others_stay i (omega (arith, lt, same)) lt (beside i (length front) ne, tt)) in
    elim (cases_eq one.byte 1) [
      | inl is_open ↦
          let whole : image ≡ (front ++ 1 ∷ a ∷ b ∷ c ∷ d ∷ body) ++ 0 ∷ [] =
          one.is ∙ ap (λ (x : ℕ). front ++ x ∷ tail) is_open ∙ ap (λ (l : List ℕ). front ++ 1 ∷ l) tail_is ∙ sym (append_assoc front (1 ∷ a ∷ b ∷ c ∷ d ∷ body) (0 ∷ [])) in
          inr (subst (λ (l : List ℕ). Reads l (bodies ++ body ∷ [])) (sym whole)
          (reads_front (front ++ 1 ∷ a ∷ b ∷ c ∷ d ∷ body) (0 ∷ []) (bodies ++ body ∷ []) (entries_push front bodies a b c d body entries long) (end_short (0 ∷ []) (omega arith)) (omega arith)))
      | inr shut ↦
          inl (subst (λ (l : List ℕ). Reads l bodies) (sym one.is) (reads_front front (one.byte ∷ tail) bodies entries (end_shut one.byte tail shut) (omega arith)))
    ]
  where
    beside : (i n : ℕ) → i ≢ n → (i < n) ⊎ (n + 1 ≤ i)
    beside i n ne = grind arith

-- an opening cuts behind the last gate
pub cut_behind : (front end : List ℕ) (bodies : List (List ℕ)) (calls : List Call) (image : List ℕ) → AreEntries front bodies → IsEnd end
    → MayLeave (CutTo (length front + 1) ∷ Synced (front ++ end) ∷ calls) image → 0 < length end → Reads image bodies
cut_behind front end bodies calls image entries ended left gate =
    let base_is : length (front ++ end) ≡ length front + length end = length-append front end in
    let long : length front + 1 ≤ length image = omega (arith, left.no_shorter, base_is, gate) in
    let n = length image - length front in
    let is : image ≡ take (length image) (front ++ end) = kept_take (front ++ end) image left.no_longer (λ i lt. left.others_stay i (omega (arith, lt, left.no_longer)) lt tt) in
    let whole : image ≡ front ++ take n end = is ∙ take_past front end (length image) n (omega (arith, long)) in
    let some : 0 < length (take n end) = omega (arith, long, ap length whole, length-append front (take n end)) in
    subst (λ (l : List ℕ). Reads l bodies) (sym whole) (reads_front front (take n end) bodies entries (end_take n end ended) some)

-- and closes it
pub gate_closes : (front : List ℕ) (g : ℕ) (bodies : List (List ℕ)) (calls : List Call) (image : List ℕ) → AreEntries front bodies
    → MayLeave (Wrote (length front) 1 ∷ Synced (front ++ g ∷ []) ∷ calls) image → Reads image bodies
gate_closes front g bodies calls image entries left =
    let base_is : length (front ++ g ∷ []) ≡ length front + 1 = length-append front (g ∷ []) in
    let same : length image ≡ length (front ++ g ∷ []) = omega (arith, left.no_shorter, left.no_longer, base_is) in
    let one = one_byte front g [] image same (λ i lt ne. left.others_stay i (omega (arith, lt, same)) lt (inl (omega (arith, lt, same, base_is, ne)), tt)) in
    subst (λ (l : List ℕ). Reads l bodies) (sym one.is) (reads_front front (one.byte ∷ []) bodies entries (end_short (one.byte ∷ []) (omega arith)) (omega arith))

-- on an empty disk the gate is the first byte
pub first_gate : (calls : List Call) (image : List ℕ) → MayLeave (Wrote 0 1 ∷ Synced [] ∷ calls) image → Reads image []
first_gate calls image left = record { front = []; end = image; split = refl; entries = refl; ended = end_short image (omega (arith, left.no_longer)); gate = inl refl }

-- after a sync that succeeded there is nothing else
pub only_synced : (bytes : List ℕ) (calls : List Call) (image : List ℕ) → MayLeave (Synced bytes ∷ calls) image → image ≡ bytes
only_synced bytes calls image left =
    let same : length image ≡ length bytes = omega (arith, left.no_shorter, left.no_longer) in
    kept_take bytes image left.no_longer (λ i lt. left.others_stay i (omega (arith, lt, same)) lt tt) ∙ ap (λ (n : ℕ). take n bytes) same ∙ all bytes
  where
    all : (xs : List ℕ) → take (length xs) xs ≡ xs
    all [] = refl
    all (x ∷ xs) = ap (λ (l : List ℕ). x ∷ l) (all xs)

-- a record whose last gate is closed, whatever stands behind it
pub reads_rest : (front tail : List ℕ) (bodies : List (List ℕ)) → AreEntries front bodies → Reads (front ++ 0 ∷ tail) bodies
reads_rest front tail bodies entries = reads_front front (0 ∷ tail) bodies entries (end_shut 0 tail (λ e. absurd (omega (arith, e)))) (omega arith)

-- of a disk that is fixed nothing else is left
pub fixed_only : {seen : List ℕ} {calls : List Call} → IsFixed seen calls → (image : List ℕ) → MayLeave calls image → image ≡ seen
fixed_only {seen} {calls} x image left = only_synced seen x.earlier image (subst (λ (l : List Call). MayLeave l image) x.is left)

-- a sync that succeeded fixes one of what a crash might have left
pub fixes : (calls0 calls1 : List Call) (seen0 : List ℕ) → MayLeave calls0 seen0 → calls1 ≡ Synced seen0 ∷ calls0 → LeavesOnly calls0 calls1 (MayLeave calls0)
fixes calls0 calls1 seen0 here is = goes_on (started calls0 (MayLeave calls0) (λ image left. left)) (Synced seen0) is
    (λ image left. subst (MayLeave calls0) (sym (only_synced seen0 calls0 image left)) here)
