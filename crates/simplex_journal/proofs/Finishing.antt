-- An opening's repair, on a disk of any generation.
use Rattle.std.proofs.Common.{◌≡◌, ◌⊎◌, inl, inr, ⊎_elim, Bool, true, false, ℕ, ◌+◌, ◌-◌, ◌<◌, List, [], ◌∷◌, ◌++◌, length, refl, sym, ◌∙◌, ap, subst, arith, length-append}
use Rattle.journal_single.specs.Disk.{Call, LeavesOnly}
use Rattle.journal_single.specs.Record.{AreEntries, Reads, IsFixed, IsFound, IsForeign}
use Rattle.journal_single.specs.Images.{end_short}
use Rattle.journal_single.specs.Moments.{weaker}
use Rattle.journal_single.specs.Total.{reads_end}
use Rattle.simplex_journal.specs.Generation.{HasNone, IsOf}
use Rattle.simplex_journal.specs.GenerationLaws.{none_short}
use Rattle.simplex_journal.specs.Steps.{IsClosed, IsBeingBegun, IsBeingClosed}
use Rattle.simplex_journal.specs.Leaving.{LeavesReading, ReadsAsOne}
use Rattle.simplex_journal.specs.PairLooking.{IsFoundBeside, IsPairFound}
use Rattle.simplex_journal.specs.Reading.{ReadsAs, IsFoundOf, IsAtRestOf, IsForeignOf, IsPairAtRest}
use Rattle.simplex_journal.proofs.Readings.{reads_as, cut_settles, gate_settles}

no_front : (front : List ℕ) (bodies : List (List ℕ)) → AreEntries front bodies → bodies ≡ [] → front ≡ []
no_front front bodies entries none = subst (λ (l : List (List ℕ)). AreEntries front l) none entries

none_or_some : (xs : List ℕ) → (xs ≡ []) ⊎ (0 < length xs)
none_or_some [] = inl refl
none_or_some (x ∷ xs) = inr (omega arith)

-- what is read behind a head is found on the disk
found_within : (record-bytes : List ℕ) (gate : ℕ) (bodies : List (List ℕ)) → IsFound [] record-bytes gate bodies → (gate < length record-bytes) ⊎ (record-bytes ≡ [])
found_within bytes gate bodies f =
    let whole : length bytes ≡ length f.left.front + length f.rest = ap length f.left.split ∙ length-append f.left.front f.rest in
    ⊎_elim
    (λ none. ⊎_elim (λ nothing. inr nothing) (λ some. inl (omega (arith, f.gate_is, some, ap length (no_front f.left.front bodies f.left.entries none)))) (none_or_some bytes))
    (λ more. inl (omega (arith, f.gate_is, whole, more))) f.left.gate

pub found_of : (bytes rest : List ℕ) (g start gate : ℕ) (bodies : List (List ℕ)) → IsOf bytes g rest → start ≡ length bytes - length rest → IsFound [] rest gate bodies → IsFoundOf g bytes (start + gate) bodies
found_of bytes rest g start gate bodies of start_is f = ⊎_elim
    (λ is.
    let nine : start ≡ 9 = omega (arith, start_is, ap length is.split) in
    let head = 2 ∷ 255 ∷ 255 ∷ 255 ∷ 255 ∷ is.a ∷ is.b ∷ is.c ∷ is.d ∷ [] in
    record {
      head = head;
      head_is = inr (is.a, is.b, is.c, is.d, refl, is.number, is.from_one);
      plain = λ e. absurd (let long : length head ≡ 0 = ap length e in omega (arith, long));
      some = ⊎_elim (λ lt. inl (omega (arith, lt, nine, ap length is.split))) (λ none. absurd (omega (arith, is.some, ap length none))) (found_within rest gate bodies f);
      found = record {
        rest = f.rest;
        left = record { front = f.left.front; split = is.split ∙ ap (λ (l : List ℕ). 2 ∷ 255 ∷ 255 ∷ 255 ∷ 255 ∷ is.a ∷ is.b ∷ is.c ∷ is.d ∷ l) f.left.split; entries = f.left.entries; gate = f.left.gate };
        ended = f.ended;
        gate_is = omega (arith, nine, f.gate_is);
      };
    })
    (λ none.
    let zero_is : start ≡ 0 = omega (arith, start_is, ap length none.2) in
    let moved : IsFound [] bytes gate bodies = subst (λ (l : List ℕ). IsFound [] l gate bodies) none.2 f in
    record {
      head = [];
      head_is = inl (refl, none.1);
      plain = λ e. none.0;
      some = ⊎_elim (λ lt. inl (omega (arith, lt, zero_is))) (λ nothing. inr nothing) (found_within bytes gate bodies moved);
      found = subst (λ (n : ℕ). IsFound [] bytes n bodies) (omega (arith, zero_is)) moved;
    }) of

-- and so is what is foreign
pub foreign_of : {M : Type 0} (Fits : M → Type 0) (spelling : M → List ℕ) (bytes rest : List ℕ) (g start place : ℕ) → IsOf bytes g rest → start ≡ length bytes - length rest → IsForeign [] Fits spelling rest place → IsForeignOf Fits spelling bytes g (start + place)
foreign_of Fits spelling bytes rest g start place of start_is f = ⊎_elim
    (λ is.
    let nine : start ≡ 9 = omega (arith, start_is, ap length is.split) in
    record {
      head = 2 ∷ 255 ∷ 255 ∷ 255 ∷ 255 ∷ is.a ∷ is.b ∷ is.c ∷ is.d ∷ [];
      head_is = inr (is.a, is.b, is.c, is.d, refl, is.number, is.from_one);
      number = (rest, of);
      foreign = record {
        messages = f.messages;
        fitting = f.fitting;
        rest = f.rest;
        left = record { front = f.left.front; split = is.split ∙ ap (λ (l : List ℕ). 2 ∷ 255 ∷ 255 ∷ 255 ∷ 255 ∷ is.a ∷ is.b ∷ is.c ∷ is.d ∷ l) f.left.split; entries = f.left.entries; gate = f.left.gate };
        body = f.body;
        after = f.after;
        entry = f.entry;
        none = f.none;
        place_is = omega (arith, nine, f.place_is);
      };
    })
    (λ none.
    let zero_is : start ≡ 0 = omega (arith, start_is, ap length none.2) in
    record {
      head = [];
      head_is = inl (refl, none.1);
      number = (rest, of);
      foreign = subst (λ (n : ℕ). IsForeign [] Fits spelling bytes n) (omega (arith, zero_is)) (subst (λ (l : List ℕ). IsForeign [] Fits spelling l place) none.2 f);
    }) of

module _ {g : ℕ} {bytes : List ℕ} {gate : ℕ} {bodies : List (List ℕ)} (f : IsFoundOf g bytes gate bodies) where
  abbrev pub front : List ℕ
  front = f.found.left.front

  plain_split : f.head ≡ [] → HasNone (front ++ f.found.rest)
  plain_split e = subst HasNone (f.found.left.split ∙ ap (λ (l : List ℕ). (l ++ front) ++ f.found.rest) e) (f.plain e)

  -- where nothing is there
  pub nothing_read : bytes ≡ [] → (g ≡ 0) × (gate ≡ 0) × (bodies ≡ [])
  nothing_read none =
      let long : length (f.head ++ front) + length f.found.rest ≡ 0 = sym (length-append (f.head ++ front) f.found.rest) ∙ ap length (sym f.found.left.split ∙ none) in
      let parts : length (f.head ++ front) ≡ length f.head + length front = length-append f.head front in (
        ⊎_elim (λ nothing. nothing.1) (λ whole. absurd (omega (arith, long, parts, ap length whole.4))) f.head_is,
        omega (arith, f.found.gate_is, long),
        ⊎_elim (λ is. is) (λ some. absurd (omega (arith, some, long))) f.found.left.gate,
      )

  pub found_reads : ReadsAs bytes g bodies
  found_reads = ⊎_elim
      (λ lt.
      let some : 0 < length f.found.rest = omega (arith, lt, f.found.gate_is, ap length f.found.left.split, length-append (f.head ++ front) f.found.rest) in
      subst (λ (l : List ℕ). ReadsAs l g bodies) (sym f.found.left.split) (reads_as f.head front f.found.rest g bodies f.head_is f.found.left.entries f.found.ended some plain_split))
      (λ none.
      let are = nothing_read none in
      record {
        rest = bytes;
        of = inr (none_short bytes (omega (arith, ap length none)), are.0, refl);
        reads = subst (λ (l : List (List ℕ)). Reads bytes l) (sym are.2) (reads_end bytes (end_short bytes (omega (arith, ap length none))));
      }) f.some

  -- while the gate of an empty disk is written
  pub begun_reads : bytes ≡ [] → (image : List ℕ) → IsBeingBegun image → ReadsAs image g bodies
  begun_reads none image short =
      let are = nothing_read none in
      record {
        rest = image;
        of = inr (none_short image (omega (arith, short)), are.0, refl);
        reads = subst (λ (l : List (List ℕ)). Reads image l) (sym are.2) (reads_end image (end_short image (omega (arith, short))));
      }

  pub begun_rests : {seen : List ℕ} {calls : List Call} → bytes ≡ [] → IsClosed [] seen calls 0 → IsAtRestOf g seen calls gate bodies
  begun_rests {seen} {calls} none closed =
      let are = nothing_read none in
      record {
        head = [];
        head_is = inl (refl, are.0);
        front = [];
        entries = subst (λ (l : List (List ℕ)). AreEntries [] l) (sym are.2) refl;
        closed = subst (λ (n : ℕ). IsClosed [] seen calls n) (sym are.1) closed;
      }

  -- while the last gate is closed
  pub closing_reads : (image : List ℕ) → IsBeingClosed (f.head ++ front) f.found.rest image → ReadsAs image g bodies
  closing_reads image closing = ⊎_elim
      (λ cut. subst (λ (l : List ℕ). ReadsAs l g bodies) (sym cut.2) (cut_settles f.head front f.found.rest g cut.0 bodies f.head_is f.found.left.entries f.found.ended plain_split cut.1))
      (λ shut. subst (λ (l : List ℕ). ReadsAs l g bodies) (sym shut.1) (gate_settles f.head front g shut.0 bodies f.head_is f.found.left.entries)) closing

  pub closing_rests : {seen : List ℕ} {calls : List Call} → IsClosed (f.head ++ front) seen calls gate → IsAtRestOf g seen calls gate bodies
  closing_rests {seen} {calls} closed = record { head = f.head; head_is = f.head_is; front = front; entries = f.found.left.entries; closed = closed }

-- the disk that is read is finished, of two
module _ (g gate : ℕ) (bodies : List (List ℕ)) (seen1 seen2 : List ℕ) (calls1 calls2 : List Call) (is_first is_empty : Bool) (f : IsPairFound is_first g seen1 calls1 seen2 calls2 gate is_empty bodies) where
  pub first_of : is_first ≡ true → IsFoundBeside true g seen1 calls1 seen2 calls2 gate is_empty bodies
  first_of is = subst (λ (b : Bool). IsPairFound b g seen1 calls1 seen2 calls2 gate is_empty bodies) is f

  pub second_of : is_first ≡ false → IsFoundBeside false g seen2 calls2 seen1 calls1 gate is_empty bodies
  second_of is = subst (λ (b : Bool). IsPairFound b g seen1 calls1 seen2 calls2 gate is_empty bodies) is f

  module _ (seen3 : List ℕ) (calls3 : List Call) where
    pub first_finished : is_first ≡ true → (IsFoundOf g seen1 gate bodies → IsAtRestOf g seen3 calls3 gate bodies) → IsPairAtRest is_first g seen3 calls3 seen2 calls2 gate bodies
    first_finished is finished =
        let here = first_of is in
        subst (λ (b : Bool). IsPairAtRest b g seen3 calls3 seen2 calls2 gate bodies) (sym is) (record { rest = finished here.found; passed = here.passed; fixed = here.other_fixed })

    pub second_finished : is_first ≡ false → (IsFoundOf g seen2 gate bodies → IsAtRestOf g seen3 calls3 gate bodies) → IsPairAtRest is_first g seen1 calls1 seen3 calls3 gate bodies
    second_finished is finished =
        let here = second_of is in
        subst (λ (b : Bool). IsPairAtRest b g seen1 calls1 seen3 calls3 gate bodies) (sym is) (record { rest = finished here.found; passed = here.passed; fixed = here.other_fixed })

  module _ (calls3 : List Call) where
    abbrev Same : List (List ℕ) → Type 0
    Same read = read ≡ bodies

    pub first_finishing : is_first ≡ true → (IsFixed seen1 calls1 → IsFoundOf g seen1 gate bodies → LeavesOnly calls1 calls3 (λ image. ReadsAs image g bodies)) → LeavesReading is_first g calls1 calls3 calls2 calls2 Same
    first_finishing is leaves =
        let here = first_of is in
        subst (λ (b : Bool). LeavesReading b g calls1 calls3 calls2 calls2 Same) (sym is) (weaker (ReadsAsOne g Same) (leaves here.fixed here.found) (λ image reads. (bodies, reads, refl)), refl)

    pub second_finishing : is_first ≡ false → (IsFixed seen2 calls2 → IsFoundOf g seen2 gate bodies → LeavesOnly calls2 calls3 (λ image. ReadsAs image g bodies)) → LeavesReading is_first g calls1 calls1 calls2 calls3 Same
    second_finishing is leaves =
        let here = second_of is in
        subst (λ (b : Bool). LeavesReading b g calls1 calls1 calls2 calls3 Same) (sym is) (weaker (ReadsAsOne g Same) (leaves here.fixed here.found) (λ image reads. (bodies, reads, refl)), refl)
