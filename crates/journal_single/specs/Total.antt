-- Each disk reads as something.
use Rattle.std.proofs.Common.{◌≡◌, ◌⊎◌, inl, inr, ⊎_elim, ℕ, zero, suc, ◌+◌, ◌<◌, ◌≤◌, List, [], ◌∷◌, ◌++◌, length, get_or, take, drop, refl, sym, ◌∙◌, ap, subst, arith, append_assoc, length-append, length-drop}
use Rattle.std.proofs.lemmas.Bool.{cases_eq}
use Rattle.journal_single.specs.Record.{size, HasEntry, IsEnd, AreEntries, Reads}
use Rattle.journal_single.specs.Images.{end_short}
use Rattle.journal_single.specs.Finding.{end_first, end_long, entry_here}

pub reads_end : (bytes : List ℕ) → IsEnd bytes → Reads bytes []
reads_end bytes ended = record { front = []; end = bytes; split = refl; entries = refl; ended = ended; gate = inl refl }

pub reads_next : (bytes body after : List ℕ) (bodies : List (List ℕ)) → HasEntry bytes body after → Reads after bodies → Reads bytes (body ∷ bodies)
reads_next bytes body after bodies entry r = record {
  front = 1 ∷ entry.a ∷ entry.b ∷ entry.c ∷ entry.d ∷ body ++ r.front;
  end = r.end;
  split = entry.split ∙ ap (λ (l : List ℕ). 1 ∷ entry.a ∷ entry.b ∷ entry.c ∷ entry.d ∷ l) (ap (λ (l : List ℕ). body ++ l) r.split ∙ sym (append_assoc body r.front r.end));
  entries = (entry.a, entry.b, entry.c, entry.d, r.front, refl, entry.long, r.entries);
  ended = r.ended;
  gate = inr (⊎_elim (λ none. omega (arith, entry.gate, ap length r.split, length-append r.front r.end, ap length (no_front r.front bodies r.entries none))) (λ some. some) r.gate);
}
  where
    no_front : (front : List ℕ) (bodies : List (List ℕ)) → AreEntries front bodies → bodies ≡ [] → front ≡ []
    no_front front bodies entries none = subst (λ (l : List (List ℕ)). AreEntries front l) none entries

within_or_not : (m n : ℕ) → (m ≤ n) ⊎ (n < m)
within_or_not m n = grind arith

pub total : (k : ℕ) (bytes : List ℕ) → length bytes ≤ k → (bodies : List (List ℕ)) × Reads bytes bodies
total zero bytes short = ([], reads_end bytes (end_short bytes (omega (arith, short))))
total (suc k) bytes short = elim (cases_eq (get_or bytes 0 0) 1) [
  | inl one ↦ elim (within_or_not (length bytes) (5 + size (get_or bytes 1 0) (get_or bytes 2 0) (get_or bytes 3 0) (get_or bytes 4 0))) [
    | inl long ↦ ([], reads_end bytes (end_long bytes long))
    | inr within ↦
        let n = size (get_or bytes 1 0) (get_or bytes 2 0) (get_or bytes 3 0) (get_or bytes 4 0) in
        let entry = entry_here bytes n one refl within in
        let more = total k (drop n (drop 5 bytes)) (omega (arith, short, within, length-drop n (drop 5 bytes), length-drop 5 bytes)) in
        (take n (drop 5 bytes) ∷ more.0, reads_next bytes (take n (drop 5 bytes)) (drop n (drop 5 bytes)) more.0 entry more.1)
  ]
  | inr shut ↦ ([], reads_end bytes (end_first bytes shut))
]

pub reads_any : (bytes : List ℕ) → (bodies : List (List ℕ)) × Reads bytes bodies
reads_any bytes = total (length bytes) bytes (omega arith)
