-- What an append leaves of two disks.
use Rattle.std.proofs.Common.{◌≡◌, ◌⊎◌, inl, inr, ⊎_elim, ℕ, Bool, true, false, ◌+◌, ◌-◌, ◌^◌, ◌<◌, List, [], ◌∷◌, ◌++◌, length, get_or, refl, sym, ◌∙◌, ap, subst, arith, append_assoc, length-append}
use Rattle.std.proofs.lemmas.Bool.{cases_eq}
use Rattle.journal_single.specs.Disk.{Call, LeavesOnly}
use Rattle.journal_single.specs.Record.{size, AreEntries, IsFixed, Spells}
use Rattle.journal_single.specs.Moments.{started, weaker}
use Rattle.journal_single.specs.Images.{end_short, end_shut, entries_push, fixed_only}
use Rattle.simplex_journal.specs.Generation.{HasNone}
use Rattle.simplex_journal.specs.GenerationLaws.{none_first}
use Rattle.simplex_journal.specs.Steps.{IsClosed, IsBeingMarked}
use Rattle.simplex_journal.specs.Leaving.{LeavesReading, ReadsAsOne}
use Rattle.simplex_journal.specs.Reading.{ReadsAs, ReadsEither, BothLeaveOnly, IsAtRestOf, IsPairAtRest}
use Rattle.simplex_journal.proofs.Readings.{reads_as, none_entries}

-- While the first gate of a record at place 0 is opened, any byte may stand there. It is no generation's first, since
-- no body is as long as four bytes 255 spell.
none_torn : (first a b c d : ℕ) (body : List ℕ) → length body ≡ size a b c d → length body < 2 ^ 32 - 1 → HasNone (first ∷ a ∷ b ∷ c ∷ d ∷ body ++ 0 ∷ [])
none_torn first a b c d body long short g rest is =
    let is_a : a ≡ 255 = ap (λ (l : List ℕ). get_or l 1 0) is.split in
    let is_b : b ≡ 255 = ap (λ (l : List ℕ). get_or l 2 0) is.split in
    let is_c : c ≡ 255 = ap (λ (l : List ℕ). get_or l 3 0) is.split in
    let is_d : d ≡ 255 = ap (λ (l : List ℕ). get_or l 4 0) is.split in
    absurd (omega (arith, is_a, is_b, is_c, is_d, long, short))

module _ {g : ℕ} {seen : List ℕ} {calls : List Call} {gate : ℕ} {bodies : List (List ℕ)} {entry body : List ℕ} (r : IsAtRestOf g seen calls gate bodies) (s : Spells entry body) where
  abbrev longer : List ℕ
  longer = r.front ++ 1 ∷ s.a ∷ s.b ∷ s.c ∷ s.d ∷ body

  more_entries : AreEntries longer (bodies ++ body ∷ [])
  more_entries = entries_push r.front bodies s.a s.b s.c s.d body r.entries s.long

  whole : (r.head ++ r.front) ++ 1 ∷ entry ≡ (r.head ++ longer) ++ 0 ∷ []
  whole = ap (λ (l : List ℕ). (r.head ++ r.front) ++ 1 ∷ l) s.split
      ∙ append_assoc r.head r.front (1 ∷ s.a ∷ s.b ∷ s.c ∷ s.d ∷ body ++ 0 ∷ [])
      ∙ ap (λ (l : List ℕ). r.head ++ l) (sym (append_assoc r.front (1 ∷ s.a ∷ s.b ∷ s.c ∷ s.d ∷ body) (0 ∷ [])))
      ∙ sym (append_assoc r.head longer (0 ∷ []))

  none_longer : HasNone (longer ++ 0 ∷ [])
  none_longer = subst HasNone (sym (append_assoc r.front (1 ∷ s.a ∷ s.b ∷ s.c ∷ s.d ∷ body) (0 ∷ [])))
      (none_entries r.front (1 ∷ s.a ∷ s.b ∷ s.c ∷ s.d ∷ body ++ 0 ∷ []) bodies r.entries (λ none. none_first (1 ∷ s.a ∷ s.b ∷ s.c ∷ s.d ∷ body ++ 0 ∷ []) (λ e. absurd (omega (arith, e)))))

  pub entered : {seen1 : List ℕ} {calls1 : List Call} → (seen1 ≡ (r.head ++ r.front) ++ 1 ∷ entry) × IsFixed seen1 calls1 → IsAtRestOf g seen1 calls1 (gate + 5 + length body) (bodies ++ body ∷ [])
  entered {seen1} {calls1} marked = record {
    head = r.head;
    head_is = r.head_is;
    front = longer;
    entries = more_entries;
    closed = record {
      gate_is = omega (arith, r.closed.gate_is, length-append r.head r.front, length-append r.head longer, length-append r.front (1 ∷ s.a ∷ s.b ∷ s.c ∷ s.d ∷ body));
      seen_is = marked.0 ∙ whole;
      fixed = marked.1;
    };
  }

  abbrev pub IsEntering : List ℕ → Type 0
  IsEntering image = ReadsAs image g bodies ⊎ ReadsAs image g (bodies ++ body ∷ [])

  module _ (short : length body < 2 ^ 32 - 1) where
    torn : (byte : ℕ) → IsEntering ((r.head ++ r.front) ++ byte ∷ entry)
    torn byte = elim (cases_eq byte 1) [
      | inl is_open ↦ inr (subst (λ (l : List ℕ). ReadsAs l g (bodies ++ body ∷ [])) (sym (ap (λ (n : ℕ). (r.head ++ r.front) ++ n ∷ entry) is_open ∙ whole))
          (reads_as r.head longer (0 ∷ []) g (bodies ++ body ∷ []) r.head_is more_entries (end_short (0 ∷ []) (omega arith)) (omega arith) (λ e. none_longer)))
      | inr shut ↦ inl (reads_as r.head r.front (byte ∷ entry) g bodies r.head_is r.entries (end_shut byte entry shut) (omega arith)
          (λ e. none_entries r.front (byte ∷ entry) bodies r.entries (λ none. subst (λ (l : List ℕ). HasNone (byte ∷ l)) (sym s.split) (none_torn byte s.a s.b s.c s.d body s.long short))))
    ]

    pub entering : (image : List ℕ) → IsBeingMarked (r.head ++ r.front) entry image → IsEntering image
    entering image marking = ⊎_elim
        (λ shut. inl (subst (λ (l : List ℕ). ReadsAs l g bodies) (sym shut.1)
        (reads_as r.head r.front (0 ∷ shut.0) g bodies r.head_is r.entries (end_shut 0 shut.0 (λ e. absurd (omega (arith, e)))) (omega arith)
        (λ e. none_entries r.front (0 ∷ shut.0) bodies r.entries (λ none. none_first (0 ∷ shut.0) (λ e. absurd (omega (arith, e)))))))
        )
        (λ whole_there. subst IsEntering (sym whole_there.1) (torn whole_there.0)) marking

module _ (g gate : ℕ) (seen1 seen2 entry body : List ℕ) (calls1 calls2 : List Call) (bodies : List (List ℕ)) (s : Spells entry body) where
  abbrev Rests : Bool → Type 0
  Rests is_first = IsPairAtRest is_first g seen1 calls1 seen2 calls2 gate bodies

  -- what an append to a disk makes of it
  abbrev Puts : List ℕ → List Call → List ℕ → List Call → Type 0
  Puts seen calls seen-2 calls-2 = (base : List ℕ) → IsClosed base seen calls gate → (seen-2 ≡ base ++ 1 ∷ entry) × IsFixed seen-2 calls-2

  pub first_entered : (is_first : Bool) → is_first ≡ true → Rests is_first → {seen : List ℕ} {calls : List Call} → Puts seen1 calls1 seen calls
      → IsPairAtRest is_first g seen calls seen2 calls2 (gate + 5 + length body) (bodies ++ body ∷ [])
  first_entered true is r {seen} {calls} puts = record { rest = entered r.rest s (puts (r.rest.head ++ r.rest.front) r.rest.closed); passed = r.passed; fixed = r.fixed }
  first_entered false is r {seen} {calls} puts = absurd (let never : false ≡ true = is in cc)

  pub second_entered : (is_first : Bool) → is_first ≡ false → Rests is_first → {seen : List ℕ} {calls : List Call} → Puts seen2 calls2 seen calls
      → IsPairAtRest is_first g seen1 calls1 seen calls (gate + 5 + length body) (bodies ++ body ∷ [])
  second_entered false is r {seen} {calls} puts = record { rest = entered r.rest s (puts (r.rest.head ++ r.rest.front) r.rest.closed); passed = r.passed; fixed = r.fixed }
  second_entered true is r {seen} {calls} puts = absurd (let never : true ≡ false = is in cc)

  module _ (short : length body < 2 ^ 32 - 1) where
    -- what it leaves of the disk meanwhile
    abbrev Leaves : List ℕ → List Call → List Call → Type 0
    Leaves seen calls calls-2 = (base : List ℕ) → IsClosed base seen calls gate → LeavesOnly calls calls-2 (IsBeingMarked base entry)

    pub first_entering : (is_first : Bool) → is_first ≡ true → Rests is_first → {calls : List Call} → Leaves seen1 calls1 calls → BothLeaveOnly calls1 calls calls2 calls2 (ReadsEither bodies (bodies ++ body ∷ []))
    first_entering true is r {calls} leaves = weaker (λ one. LeavesOnly calls2 calls2 (ReadsEither bodies (bodies ++ body ∷ []) one)) (leaves (r.rest.head ++ r.rest.front) r.rest.closed) (λ one marking.
        started calls2 (ReadsEither bodies (bodies ++ body ∷ []) one) (λ two left.
        subst (ReadsEither bodies (bodies ++ body ∷ []) one) (sym (fixed_only r.fixed two left)) (⊎_elim
        (λ old. inl (inl (record { generation = g; reads = old; passed = r.passed })))
        (λ new. inr (inl (record { generation = g; reads = new; passed = r.passed })))
        (entering r.rest s short one marking))))
    first_entering false is r {calls} leaves = absurd (let never : false ≡ true = is in cc)

    pub second_entering : (is_first : Bool) → is_first ≡ false → Rests is_first → {calls : List Call} → Leaves seen2 calls2 calls → BothLeaveOnly calls1 calls1 calls2 calls (ReadsEither bodies (bodies ++ body ∷ []))
    second_entering false is r {calls} leaves = started calls1 (λ one. LeavesOnly calls2 calls (ReadsEither bodies (bodies ++ body ∷ []) one)) (λ one left.
        weaker (ReadsEither bodies (bodies ++ body ∷ []) one) (leaves (r.rest.head ++ r.rest.front) r.rest.closed) (λ two marking.
        subst (λ (l : List ℕ). ReadsEither bodies (bodies ++ body ∷ []) l two) (sym (fixed_only r.fixed one left)) (⊎_elim
        (λ old. inl (inr (record { generation = g; reads = old; passed = r.passed })))
        (λ new. inr (inr (record { generation = g; reads = new; passed = r.passed })))
        (entering r.rest s short two marking))))
    second_entering true is r {calls} leaves = absurd (let never : true ≡ false = is in cc)

    -- and of that disk alone
    abbrev Either : List (List ℕ) → Type 0
    Either read = (read ≡ bodies) ⊎ (read ≡ bodies ++ body ∷ [])

    entering_one : {seen : List ℕ} {calls : List Call} (r : IsAtRestOf g seen calls gate bodies) (image : List ℕ) → IsBeingMarked (r.head ++ r.front) entry image → ReadsAsOne g Either image
    entering_one r image marking = ⊎_elim (λ old. (bodies, old, inl refl)) (λ new. (bodies ++ body ∷ [], new, inr refl)) (entering r s short image marking)

    pub first_one : (is_first : Bool) → is_first ≡ true → Rests is_first → {calls : List Call} → Leaves seen1 calls1 calls → LeavesReading is_first g calls1 calls calls2 calls2 Either
    first_one true is r {calls} leaves = (weaker (ReadsAsOne g Either) (leaves (r.rest.head ++ r.rest.front) r.rest.closed) (λ one marking. entering_one r.rest one marking), refl)
    first_one false is r {calls} leaves = absurd (let never : false ≡ true = is in cc)

    pub second_one : (is_first : Bool) → is_first ≡ false → Rests is_first → {calls : List Call} → Leaves seen2 calls2 calls → LeavesReading is_first g calls1 calls1 calls2 calls Either
    second_one false is r {calls} leaves = (weaker (ReadsAsOne g Either) (leaves (r.rest.head ++ r.rest.front) r.rest.closed) (λ two marking. entering_one r.rest two marking), refl)
    second_one true is r {calls} leaves = absurd (let never : true ≡ false = is in cc)
