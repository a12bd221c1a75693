-- What a disk of some generation reads as, and what two disks do.
use Rattle.std.proofs.Common.{◌≡◌, ◌⊎◌, inl, inr, ⊎_elim, ℕ, Bool, true, false, ◌+◌, ◌<◌, ◌≤◌, List, [], ◌∷◌, ◌++◌, length, get_or, take, drop, refl, sym, ap, subst, arith, append_assoc, length-append}
use Rattle.journal_single.specs.Record.{IsEnd, AreEntries, Reads}
use Rattle.journal_single.specs.Lists.{take_past}
use Rattle.journal_single.specs.Images.{end_take, end_short, reads_front}
use Rattle.simplex_journal.specs.Generation.{IsGeneration, HasNone, IsOf, IsPassed}
use Rattle.simplex_journal.specs.GenerationLaws.{none_short, none_first, below_number, of_front}
use Rattle.simplex_journal.specs.Reading.{ReadsAs, IsHead}
use Rattle.simplex_journal.specs.ReadingLaws.{number_read}

-- what stands behind a head is its record
pub of_behind : (head x : List ℕ) (g : ℕ) → IsHead head g → (head ≡ [] → HasNone x) → 0 < length x → IsOf (head ++ x) g x
of_behind head x g head_is none some = ⊎_elim
    (λ nothing. inr (subst (λ (l : List ℕ). HasNone (l ++ x)) (sym nothing.0) (none nothing.0), nothing.1, ap (λ (l : List ℕ). l ++ x) (sym nothing.0)))
    (λ whole. inl (record {
      a = whole.0;
      b = whole.1;
      c = whole.2;
      d = whole.3;
      split = ap (λ (l : List ℕ). l ++ x) whole.4;
      number = whole.5;
      from_one = whole.6;
      some = some;
    })) head_is

some_behind : (front : List ℕ) (x : ℕ) (tail : List ℕ) → 0 < length (front ++ x ∷ tail)
some_behind front x tail = omega (arith, length-append front (x ∷ tail))

-- a record with anything in its last gate and behind it
pub reads_as : (head front end : List ℕ) (g : ℕ) (bodies : List (List ℕ)) → IsHead head g → AreEntries front bodies → IsEnd end → 0 < length end → (head ≡ [] → HasNone (front ++ end)) → ReadsAs ((head ++ front) ++ end) g bodies
reads_as head front end g bodies head_is entries ended some none = subst (λ (l : List ℕ). ReadsAs l g bodies) (sym (append_assoc head front end))
    (record {
      rest = front ++ end;
      of = of_behind head (front ++ end) g head_is none (omega (arith, some, length-append front end));
      reads = reads_front front end bodies entries ended some;
    })

-- a record begins with an open gate, or is empty
pub none_entries : (front end : List ℕ) (bodies : List (List ℕ)) → AreEntries front bodies → (bodies ≡ [] → HasNone end) → HasNone (front ++ end)
none_entries front end [] entries none = subst (λ (l : List ℕ). HasNone (l ++ end)) (sym entries) (none refl)
none_entries front end (body ∷ bodies) entries none = none_first (front ++ end) (λ e. absurd (omega (arith, e, ap (λ (l : List ℕ). get_or (l ++ end) 0 0) entries.5)))

none_cut : (front end : List ℕ) (n : ℕ) → HasNone (front ++ end) → HasNone (front ++ take n end)
none_cut front end n none h rest is =
    let m = length front + n in
    let same : take m (front ++ end) ≡ front ++ take n end = take_past front end m n refl in
    none h (rest ++ drop m (front ++ end)) (of_front m (front ++ end) h rest (subst (λ (l : List ℕ). IsGeneration l h rest) (sym same) is))

-- while what stands behind the last gate is cut off
pub cut_settles : (head front end : List ℕ) (g n : ℕ) (bodies : List (List ℕ)) → IsHead head g → AreEntries front bodies → IsEnd end → (head ≡ [] → HasNone (front ++ end)) → 0 < length (take n end) → ReadsAs ((head ++ front) ++ take n end) g bodies
cut_settles head front end g n bodies head_is entries ended none some =
    reads_as head front (take n end) g bodies head_is entries (end_take n end ended) some (λ e. none_cut front end n (none e))

-- and while the gate is closed
pub gate_settles : (head front : List ℕ) (g byte : ℕ) (bodies : List (List ℕ)) → IsHead head g → AreEntries front bodies → ReadsAs ((head ++ front) ++ byte ∷ []) g bodies
gate_settles head front g byte bodies head_is entries =
    reads_as head front (byte ∷ []) g bodies head_is entries (end_short (byte ∷ []) (omega arith)) (omega arith) (λ e. none_entries front (byte ∷ []) bodies entries (λ none. none_short (byte ∷ []) (omega arith)))

-- the next generation passes this one
pub next_passes : (is_first : Bool) {bytes : List ℕ} {g : ℕ} {bodies : List (List ℕ)} → ReadsAs bytes g bodies → IsPassed is_first bytes (g + 1)
next_passes true {bytes} {g} {bodies} reads = below_number bytes g (g + 1 + 1) (number_read reads) (omega arith)
next_passes false {bytes} {g} {bodies} reads = (omega arith, below_number bytes g (g + 1) (number_read reads) (omega arith))
