-- What a refusal tells of a disk.
use Rattle.std.proofs.Common.{◌≡◌, inr, ℕ, ◌<◌, ◌≤◌, List, [], ◌∷◌, ◌++◌, length, map, refl, sym, ◌∙◌, ap, subst, arith, append_assoc, length-append}
use Rattle.std.specs.Prelude.{All}
use Rattle.std.proofs.lemmas.List.Elements.{All-head, All-tail, All-weaker}
use Rattle.types_codec.specs.Codec.{SpellsNone}
use Rattle.journal_single.specs.Record.{HasEntry, AreEntries, Reads, IsLeft, FitsBelow, IsForeign, end_of}
use Rattle.journal_single.specs.Finding.{left_first}
use Rattle.journal_single.specs.OneReading.{next_of, unique}
use Rattle.journal_single.specs.Total.{reads_any, reads_next}

-- entries are as long as their end says
pub entries_long : (front : List ℕ) (bodies : List (List ℕ)) → AreEntries front bodies → length front ≡ end_of bodies
entries_long front [] entries = ap length entries
entries_long front (body ∷ bodies) entries = omega (arith, ap length entries.5, length-append body entries.4, entries_long entries.4 bodies entries.7)

-- what stands behind entries is read behind them
reads_behind : (bytes front rest : List ℕ) (first bodies : List (List ℕ)) → bytes ≡ front ++ rest → AreEntries front first → 0 < length rest → Reads rest bodies → Reads bytes (first ++ bodies)
reads_behind bytes front rest [] bodies is entries some reads = subst (λ (l : List ℕ). Reads l bodies) (sym (is ∙ ap (λ (l : List ℕ). l ++ rest) entries)) reads
reads_behind bytes front rest (body ∷ first) bodies is entries some reads =
    reads_next bytes body (entries.4 ++ rest) (first ++ bodies)
    (record {
      a = entries.0;
      b = entries.1;
      c = entries.2;
      d = entries.3;
      split = is ∙ ap (λ (l : List ℕ). l ++ rest) entries.5 ∙ ap (λ (l : List ℕ). 1 ∷ entries.0 ∷ entries.1 ∷ entries.2 ∷ entries.3 ∷ l) (append_assoc body entries.4 rest);
      long = entries.6;
      gate = omega (arith, some, length-append entries.4 rest);
    })
    (reads_behind (entries.4 ++ rest) entries.4 rest first bodies refl entries.7 some reads)

-- the entries in front of others
record IsCut (bytes : List ℕ) (first : List (List ℕ)) (body : List ℕ) : Type 0 where
  pub rest : List ℕ
  pub left : IsLeft [] bytes rest first
  pub after : List ℕ
  pub entry : HasEntry rest body after

cut_at : (bytes : List ℕ) (first : List (List ℕ)) (body : List ℕ) (more : List (List ℕ)) → Reads bytes (first ++ body ∷ more) → IsCut bytes first body
cut_at bytes [] body more reads = let next = next_of bytes body more reads in record { rest = bytes; left = left_first bytes; after = next.after; entry = next.entry }
cut_at bytes (ahead ∷ first) body more reads =
    let next = next_of bytes ahead (first ++ body ∷ more) reads in
    let here = next.entry in
    let cut = cut_at next.after first body more next.more in
    let rest_some : 0 < length cut.rest = omega (arith, ap length cut.entry.split) in
    record {
      rest = cut.rest;
      left = record {
        front = 1 ∷ here.a ∷ here.b ∷ here.c ∷ here.d ∷ ahead ++ cut.left.front;
        split = here.split ∙ ap (λ (l : List ℕ). 1 ∷ here.a ∷ here.b ∷ here.c ∷ here.d ∷ ahead ++ l) cut.left.split
            ∙ ap (λ (l : List ℕ). 1 ∷ here.a ∷ here.b ∷ here.c ∷ here.d ∷ l) (sym (append_assoc ahead cut.left.front cut.rest));
        entries = (here.a, here.b, here.c, here.d, cut.left.front, refl, here.long, cut.left.entries);
        gate = inr rest_some;
      };
      after = cut.after;
      entry = cut.entry;
    }

module _ {M : Type 0} {Fits : M → Type 0} {spelling : M → List ℕ} where
  -- what a disk with a foreign entry reads as: messages, that entry's body, and more
  pub foreign_reads : (bytes : List ℕ) (place : ℕ) (f : IsForeign [] Fits spelling bytes place) → (more : List (List ℕ)) × Reads bytes (map spelling f.messages ++ f.body ∷ more)
  foreign_reads bytes place f =
      let behind = reads_any f.after in
      let some : 0 < length f.rest = omega (arith, ap length f.entry.split) in
      (behind.0, reads_behind bytes f.left.front f.rest (map spelling f.messages) (f.body ∷ behind.0) f.left.split f.left.entries some (reads_next f.rest f.body f.after behind.0 f.entry behind.1))

  -- a foreign entry is there in all that reads the same
  pub foreign_again : (image before : List ℕ) (bodies : List (List ℕ)) (place : ℕ) → Reads image bodies → Reads before bodies → IsForeign [] Fits spelling image place → IsForeign [] Fits spelling before place
  foreign_again image before bodies place reads reads_before f =
      let told = foreign_reads image place f in
      let same : bodies ≡ map spelling f.messages ++ f.body ∷ told.0 = unique bodies _ image reads told.1 in
      let cut = cut_at before (map spelling f.messages) f.body told.0 (subst (Reads before) same reads_before) in
      record {
        messages = f.messages;
        fitting = f.fitting;
        rest = cut.rest;
        left = cut.left;
        body = f.body;
        after = cut.after;
        entry = cut.entry;
        none = f.none;
        place_is = f.place_is ∙ entries_long f.left.front _ f.left.entries ∙ sym (entries_long cut.left.front _ cut.left.entries);
      }

  -- messages are spelled by no body that is none's
  pub none_among : (messages first : List M) (body : List ℕ) (more : List (List ℕ)) → All Fits messages → map spelling messages ≡ map spelling first ++ body ∷ more → SpellsNone Fits spelling body → ⊥
  none_among [] [] body more fit same none = absurd cc
  none_among [] (m ∷ first) body more fit same none = absurd cc
  none_among (m ∷ messages) [] body more fit same none = let head : body ≡ spelling m = cc in none m (All-head Fits m messages fit) head
  none_among (m ∷ messages) (n ∷ first) body more fit same none =
      let tails : map spelling messages ≡ map spelling first ++ body ∷ more = cc in
      none_among messages first body more (All-tail Fits m messages fit) tails none

  -- what reads as messages has no foreign entry
  pub never_foreign : (image : List ℕ) (messages : List M) (place : ℕ) → All Fits messages → Reads image (map spelling messages) → IsForeign [] Fits spelling image place → ⊥
  never_foreign image messages place fit reads f =
      let told = foreign_reads image place f in
      none_among messages f.messages f.body told.0 fit (unique (map spelling messages) _ image reads told.1) f.none

-- What is foreign among messages of fewer bytes than these, as many as there are or more, is foreign.
pub foreign_wider : {M : Type 0} {Fits : M → Type 0} {spelling : M → List ℕ} (limit : ℕ) (bytes : List ℕ) (place : ℕ) → length bytes ≤ limit → IsForeign [] (FitsBelow limit Fits spelling) spelling bytes place → IsForeign [] Fits spelling bytes place
foreign_wider {M} {Fits} {spelling} limit bytes place within f = record {
  messages = f.messages;
  fitting = All-weaker (FitsBelow limit Fits spelling) Fits (λ m both. both.0) f.messages f.fitting;
  rest = f.rest;
  left = f.left;
  body = f.body;
  after = f.after;
  entry = f.entry;
  none = λ m fits is. f.none m (
    fits,
    omega (arith, within, ap length is, ap length f.left.split, length-append f.left.front f.rest, ap length f.entry.split, length-append f.body f.after),
  ) is;
  place_is = f.place_is;
}
