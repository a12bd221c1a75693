-- Lemmas: a disk reads as one list of bodies alone, and as one list of messages.
use Rattle.std.proofs.Common.{◌≡◌, inr, ⊎_elim, ℕ, ◌<◌, List, [], ◌∷◌, ◌++◌, length, get_or, take, drop, map, refl, sym, ◌∙◌, ap, subst, arith, append_assoc, length-append, take_at, drop_at}
use Rattle.std.specs.Prelude.{All, Result}
use Rattle.std.proofs.lemmas.List.Elements.{All-head, All-tail}
use Rattle.types_codec.specs.declared.codec.CodecError.{CodecError}
use Rattle.types_codec.specs.Codec.{IsCodec, spelling-one}
use Rattle.journal_single.specs.Record.{HasEntry, IsEnd, Reads}

-- the bytes begin with the entry of this body, and what stands behind it reads as the others
pub record Next (bytes body : List ℕ) (bodies : List (List ℕ)) : Type 0 where
  pub after : List ℕ
  pub entry : HasEntry bytes body after
  pub more : Reads after bodies

-- so it is where they read as all
pub next_of : (bytes body : List ℕ) (bodies : List (List ℕ)) → Reads bytes (body ∷ bodies) → Next bytes body bodies
next_of bytes body bodies r =
    let e = r.entries in
    let some : 0 < length r.end = ⊎_elim (λ none. absurd (omega (arith, ap length none))) (λ some. some) r.gate in
    record {
      after = e.4 ++ r.end;
      entry = record {
        a = e.0;
        b = e.1;
        c = e.2;
        d = e.3;
        split = r.split ∙ ap (λ (l : List ℕ). l ++ r.end) e.5 ∙ ap (λ (l : List ℕ). 1 ∷ e.0 ∷ e.1 ∷ e.2 ∷ e.3 ∷ l) (append_assoc body e.4 r.end);
        long = e.6;
        gate = omega (arith, some, length-append e.4 r.end);
      };
      more = record { front = e.4; end = r.end; split = refl; entries = e.7; ended = r.ended; gate = inr some };
    }

-- a disk reads as one list of bodies
pub unique : (xs ys : List (List ℕ)) (bytes : List ℕ) → Reads bytes xs → Reads bytes ys → xs ≡ ys
unique [] [] bytes r s = refl
unique [] (y ∷ ys) bytes r s =
    let next = next_of bytes y ys s in
    let whole : bytes ≡ r.end = r.split ∙ ap (λ (l : List ℕ). l ++ r.end) r.entries in
    absurd (subst IsEnd (sym whole) r.ended y next.after next.entry)
unique (x ∷ xs) [] bytes r s =
    let next = next_of bytes x xs r in
    let whole : bytes ≡ s.end = s.split ∙ ap (λ (l : List ℕ). l ++ s.end) s.entries in
    absurd (subst IsEnd (sym whole) s.ended x next.after next.entry)
unique (x ∷ xs) (y ∷ ys) bytes r s =
    let p = next_of bytes x xs r in
    let q = next_of bytes y ys s in
    let same = sym p.entry.split ∙ q.entry.split in
    let a : p.entry.a ≡ q.entry.a = ap (λ (l : List ℕ). get_or l 1 0) same in
    let b : p.entry.b ≡ q.entry.b = ap (λ (l : List ℕ). get_or l 2 0) same in
    let c : p.entry.c ≡ q.entry.c = ap (λ (l : List ℕ). get_or l 3 0) same in
    let d : p.entry.d ≡ q.entry.d = ap (λ (l : List ℕ). get_or l 4 0) same in
    let long : length x ≡ length y = omega (arith, a, b, c, d, p.entry.long, q.entry.long) in
    let rests : x ++ p.after ≡ y ++ q.after = ap (λ (l : List ℕ). drop 5 l) same in
    let body : x ≡ y = sym (take_at x p.after (length x) refl) ∙ ap (λ (l : List ℕ). take (length x) l) rests ∙ take_at y q.after (length x) (sym long) in
    let after : p.after ≡ q.after = sym (drop_at x p.after (length x) refl) ∙ ap (λ (l : List ℕ). drop (length x) l) rests ∙ drop_at y q.after (length x) (sym long) in
    let more : xs ≡ ys = unique xs ys q.after (subst (λ (l : List ℕ). Reads l xs) after p.more) q.more in
    λ i. body i ∷ more i

-- messages of the same spellings are the same
pub spellings-one : {M : Type 0} {Fits : M → Type 0} {spelling : M → List ℕ} {reading : List ℕ → Result (M × List ℕ) CodecError} → IsCodec Fits spelling reading
    → (xs ys : List M) → All Fits xs → All Fits ys → map spelling xs ≡ map spelling ys → xs ≡ ys
spellings-one codec [] [] fits_xs fits_ys same = refl
spellings-one codec [] (y ∷ ys) fits_xs fits_ys same = absurd cc
spellings-one codec (x ∷ xs) [] fits_xs fits_ys same = absurd cc
spellings-one {M} {Fits} {spelling} codec (x ∷ xs) (y ∷ ys) fits_xs fits_ys same =
    let heads : spelling x ≡ spelling y = cc in
    let tails : map spelling xs ≡ map spelling ys = cc in
    let head : x ≡ y = spelling-one codec x y (All-head Fits x xs fits_xs) (All-head Fits y ys fits_ys) heads in
    let tail : xs ≡ ys = spellings-one codec xs ys (All-tail Fits x xs fits_xs) (All-tail Fits y ys fits_ys) tails in
    cc

-- an image reads as one list of messages, each of which has one spelling
pub messages-one : {M : Type 0} {Fits : M → Type 0} {spelling : M → List ℕ} {reading : List ℕ → Result (M × List ℕ) CodecError} → IsCodec Fits spelling reading
    → (xs ys : List M) → All Fits xs → All Fits ys → (image : List ℕ) → Reads image (map spelling xs) → Reads image (map spelling ys) → xs ≡ ys
messages-one {M} {Fits} {spelling} codec xs ys fits_xs fits_ys image r s = spellings-one codec xs ys fits_xs fits_ys (unique (map spelling xs) (map spelling ys) image r s)
