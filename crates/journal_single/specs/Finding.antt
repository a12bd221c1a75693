-- Reading entries.
use Rattle.std.proofs.Common.{◌≡◌, ◌≢◌, inl, inr, ℕ, ◌+◌, ◌-◌, ◌<◌, ◌≤◌, List, [], ◌∷◌, ◌++◌, length, get_or, take, drop, refl, sym, ◌∙◌, ap, subst, arith, append_assoc, length-append, length-take, length-drop, take-append-drop, map}
use Rattle.std.specs.List.{All}
use Rattle.std.proofs.lemmas.List.{map-append}
use Rattle.types_codec.specs.Codec.{SpellsNone}
use Rattle.journal_single.specs.Record.{size, HasEntry, IsEnd, IsLeft, IsFound, IsForeign}
use Rattle.journal_single.specs.Images.{entries_push}

pub end_first : (bytes : List ℕ) → get_or bytes 0 0 ≢ 1 → IsEnd bytes
end_first bytes shut body after entry = shut (ap (λ (l : List ℕ). get_or l 0 0) entry.split)

pub end_long : (bytes : List ℕ) → length bytes ≤ 5 + size (get_or bytes 1 0) (get_or bytes 2 0) (get_or bytes 3 0) (get_or bytes 4 0) → IsEnd bytes
end_long bytes long body after entry =
    let a : get_or bytes 1 0 ≡ entry.a = ap (λ (l : List ℕ). get_or l 1 0) entry.split in
    let b : get_or bytes 2 0 ≡ entry.b = ap (λ (l : List ℕ). get_or l 2 0) entry.split in
    let c : get_or bytes 3 0 ≡ entry.c = ap (λ (l : List ℕ). get_or l 3 0) entry.split in
    let d : get_or bytes 4 0 ≡ entry.d = ap (λ (l : List ℕ). get_or l 4 0) entry.split in
    absurd (omega (arith, long, a, b, c, d, entry.long, ap length entry.split, length-append body after, entry.gate))

five : (bytes : List ℕ) → 5 ≤ length bytes → bytes ≡ get_or bytes 0 0 ∷ get_or bytes 1 0 ∷ get_or bytes 2 0 ∷ get_or bytes 3 0 ∷ get_or bytes 4 0 ∷ drop 5 bytes
five [] long = absurd (omega (arith, long))
five (a ∷ []) long = absurd (omega (arith, long))
five (a ∷ b ∷ []) long = absurd (omega (arith, long))
five (a ∷ b ∷ c ∷ []) long = absurd (omega (arith, long))
five (a ∷ b ∷ c ∷ d ∷ []) long = absurd (omega (arith, long))
five (a ∷ b ∷ c ∷ d ∷ e ∷ bytes) long = refl

pub entry_here : (bytes : List ℕ) (n : ℕ) → get_or bytes 0 0 ≡ 1 → n ≡ size (get_or bytes 1 0) (get_or bytes 2 0) (get_or bytes 3 0) (get_or bytes 4 0) → 5 + n < length bytes → HasEntry bytes (take n (drop 5 bytes)) (drop n (drop 5 bytes))
entry_here bytes n is_open is within = record {
  a = get_or bytes 1 0;
  b = get_or bytes 2 0;
  c = get_or bytes 3 0;
  d = get_or bytes 4 0;
  split = five bytes (omega (arith, within))
      ∙ ap (λ (x : ℕ). x ∷ get_or bytes 1 0 ∷ get_or bytes 2 0 ∷ get_or bytes 3 0 ∷ get_or bytes 4 0 ∷ drop 5 bytes) is_open
      ∙ ap (λ (l : List ℕ). 1 ∷ get_or bytes 1 0 ∷ get_or bytes 2 0 ∷ get_or bytes 3 0 ∷ get_or bytes 4 0 ∷ l) (sym (take-append-drop n (drop 5 bytes)));
  long = omega (arith, length-take n (drop 5 bytes), length-drop 5 bytes, within, is);
  gate = omega (arith, length-drop n (drop 5 bytes), length-drop 5 bytes, within);
}

pub left_first : (bytes : List ℕ) → IsLeft [] bytes bytes []
left_first bytes = record { front = []; split = refl; entries = refl; gate = inl refl }

-- one more message has been read
pub left_next : {M : Type 0} (spelling : M → List ℕ) (bytes rest body after : List ℕ) (messages : List M) (m : M) → IsLeft [] bytes rest (map spelling messages) → HasEntry rest body after → body ≡ spelling m → IsLeft [] bytes after (map spelling (messages ++ m ∷ []))
left_next spelling bytes rest body after messages m left entry is =
    let pushed : map spelling messages ++ body ∷ [] ≡ map spelling (messages ++ m ∷ []) = ap (λ (l : List ℕ). map spelling messages ++ l ∷ []) is ∙ sym (map-append spelling messages (m ∷ [])) in
    subst (λ (l : List (List ℕ)). IsLeft [] bytes after l) pushed
    (record {
      front = left.front ++ 1 ∷ entry.a ∷ entry.b ∷ entry.c ∷ entry.d ∷ body;
      split = left.split ∙ ap (λ (l : List ℕ). left.front ++ l) entry.split ∙ sym (append_assoc left.front (1 ∷ entry.a ∷ entry.b ∷ entry.c ∷ entry.d ∷ body) after);
      entries = entries_push left.front (map spelling messages) entry.a entry.b entry.c entry.d body left.entries entry.long;
      gate = inr entry.gate;
    })

-- where what begins here is no message's, the place is foreign
pub foreign_at : {M : Type 0} (Fits : M → Type 0) (spelling : M → List ℕ) (bytes rest body after : List ℕ) (place : ℕ) (messages : List M) → All Fits messages → IsLeft [] bytes rest (map spelling messages) → HasEntry rest body after → SpellsNone Fits spelling body
    → place ≡ length bytes - length rest → IsForeign [] Fits spelling bytes place
foreign_at Fits spelling bytes rest body after place messages fitting left entry none is = record {
  messages = messages;
  fitting = fitting;
  rest = rest;
  left = left;
  body = body;
  after = after;
  entry = entry;
  none = none;
  place_is = omega (arith, is, ap length left.split, length-append left.front rest);
}

pub found_at : (bytes rest : List ℕ) (gate : ℕ) (bodies : List (List ℕ)) → IsLeft [] bytes rest bodies → IsEnd rest → gate ≡ length bytes - length rest → IsFound [] bytes gate bodies
found_at bytes rest gate bodies left ended is = record { rest = rest; left = left; ended = ended; gate_is = omega (arith, is, ap length left.split, length-append left.front rest) }
