-- What a rewrite leaves of two disks.
use Rattle.std.proofs.Common.{◌≡◌, ◌⊎◌, inl, inr, ⊎_elim, ℕ, Bool, true, false, not, ◌+◌, List, [], ◌∷◌, ◌++◌, length, refl, sym, ◌∙◌, ap, subst, arith, length-append}
use Rattle.journal_single.specs.Disk.{Call, LeavesOnly}
use Rattle.journal_single.specs.Record.{IsFixed}
use Rattle.journal_single.specs.Moments.{started, weaker}
use Rattle.journal_single.specs.Images.{reads_rest, end_short, fixed_only}
use Rattle.simplex_journal.specs.Generation.{IsPassed, IsPassedOrWritten}
use Rattle.simplex_journal.specs.GenerationLaws.{none_first}
use Rattle.simplex_journal.specs.Leaving.{LeavesReading, ReadsAsOne}
use Rattle.simplex_journal.specs.LeavingLaws.{reading_weaker}
use Rattle.simplex_journal.specs.Reading.{ReadsAs, ReadsEither, BothLeaveOnly, SpellsGeneration, IsAtRestOf, IsPairAtRest}
use Rattle.simplex_journal.proofs.Readings.{reads_as, none_entries, next_passes}

pub rest_reads : {g : ℕ} {seen : List ℕ} {calls : List Call} {gate : ℕ} {bodies : List (List ℕ)} → IsAtRestOf g seen calls gate bodies → ReadsAs seen g bodies
rest_reads {g} {seen} {calls} {gate} {bodies} r = subst (λ (l : List ℕ). ReadsAs l g bodies) (sym r.closed.seen_is)
    (reads_as r.head r.front (0 ∷ []) g bodies r.head_is r.entries (end_short (0 ∷ []) (omega arith)) (omega arith)
    (λ e. none_entries r.front (0 ∷ []) bodies r.entries (λ none. none_first (0 ∷ []) (λ e. absurd (omega (arith, e))))))

new_reads : (bytes : List ℕ) (g : ℕ) (new : List (List ℕ)) → SpellsGeneration bytes g new → ReadsAs (2 ∷ bytes) g new
new_reads bytes g new s = record { rest = s.front ++ 0 ∷ []; of = inl s.whole; reads = reads_rest s.front [] new s.entries }

written_rests : {g : ℕ} {seen bytes : List ℕ} {calls : List Call} {new : List (List ℕ)} → (seen ≡ 2 ∷ bytes) × IsFixed seen calls → SpellsGeneration bytes g new → IsAtRestOf g seen calls (length bytes) new
written_rests {g} {seen} {bytes} {calls} {new} written s = record {
  head = 2 ∷ 255 ∷ 255 ∷ 255 ∷ 255 ∷ s.whole.a ∷ s.whole.b ∷ s.whole.c ∷ s.whole.d ∷ [];
  head_is = inr (s.whole.a, s.whole.b, s.whole.c, s.whole.d, refl, s.whole.number, s.whole.from_one);
  front = s.front;
  entries = s.entries;
  closed = record { gate_is = omega (arith, ap length s.whole.split, length-append s.front (0 ∷ [])); seen_is = written.0 ∙ s.whole.split; fixed = written.1 };
}

module _ (g gate : ℕ) (seen1 seen2 bytes : List ℕ) (calls1 calls2 : List Call) (old new : List (List ℕ)) (s : SpellsGeneration bytes (g + 1) new) where
  abbrev Rests : Bool → Type 0
  Rests is_first = IsPairAtRest is_first g seen1 calls1 seen2 calls2 gate old

  -- the second disk is written
  pub second_written : (is_first : Bool) → is_first ≡ true → Rests is_first → {seen : List ℕ} {calls : List Call} → (seen ≡ 2 ∷ bytes) × IsFixed seen calls
      → IsPairAtRest (not is_first) (g + 1) seen1 calls1 seen calls (length bytes) new
  second_written true is r {seen} {calls} written = record { rest = written_rests written s; passed = next_passes false (rest_reads r.rest); fixed = r.rest.closed.fixed }
  second_written false is r {seen} {calls} written = absurd (let never : false ≡ true = is in cc)

  pub second_writing : (is_first : Bool) → is_first ≡ true → Rests is_first → {calls : List Call} → ((flag : Bool) (h : ℕ) → IsFixed seen2 calls2 → IsPassed flag seen2 h → LeavesOnly calls2 calls (IsPassedOrWritten flag h bytes))
      → BothLeaveOnly calls1 calls1 calls2 calls (ReadsEither old new)
  second_writing true is r {calls} moments = started calls1 (λ one. LeavesOnly calls2 calls (ReadsEither old new one)) (λ one left.
      weaker (ReadsEither old new one) (moments true g r.fixed r.passed) (λ two either.
      subst (λ (l : List ℕ). ReadsEither old new l two) (sym (fixed_only r.rest.closed.fixed one left)) (⊎_elim
      (λ passed. inl (inl (record { generation = g; reads = rest_reads r.rest; passed = passed })))
      (λ written. inr (inr (record { generation = g + 1; reads = subst (λ (l : List ℕ). ReadsAs l (g + 1) new) (sym written) (new_reads bytes (g + 1) new s); passed = next_passes false (rest_reads r.rest) }))) either)))
  second_writing false is r {calls} moments = absurd (let never : false ≡ true = is in cc)

  -- the first is
  pub first_written : (is_first : Bool) → is_first ≡ false → Rests is_first → {seen : List ℕ} {calls : List Call} → (seen ≡ 2 ∷ bytes) × IsFixed seen calls
      → IsPairAtRest (not is_first) (g + 1) seen calls seen2 calls2 (length bytes) new
  first_written false is r {seen} {calls} written = record { rest = written_rests written s; passed = next_passes true (rest_reads r.rest); fixed = r.rest.closed.fixed }
  first_written true is r {seen} {calls} written = absurd (let never : true ≡ false = is in cc)

  pub first_writing : (is_first : Bool) → is_first ≡ false → Rests is_first → {calls : List Call} → ((flag : Bool) (h : ℕ) → IsFixed seen1 calls1 → IsPassed flag seen1 h → LeavesOnly calls1 calls (IsPassedOrWritten flag h bytes))
      → BothLeaveOnly calls1 calls calls2 calls2 (ReadsEither old new)
  first_writing false is r {calls} moments = weaker (λ one. LeavesOnly calls2 calls2 (ReadsEither old new one)) (moments false g r.fixed r.passed) (λ one either.
      started calls2 (ReadsEither old new one) (λ two left.
      subst (ReadsEither old new one) (sym (fixed_only r.rest.closed.fixed two left)) (⊎_elim
      (λ passed. inl (inr (record { generation = g; reads = rest_reads r.rest; passed = passed })))
      (λ written. inr (inl (record { generation = g + 1; reads = subst (λ (l : List ℕ). ReadsAs l (g + 1) new) (sym written) (new_reads bytes (g + 1) new s); passed = next_passes true (rest_reads r.rest) }))) either)))
  first_writing true is r {calls} moments = absurd (let never : true ≡ false = is in cc)

-- while both are asked nothing
pub rests_on : (is_first : Bool) (g gate : ℕ) (seen1 seen2 : List ℕ) (calls1 calls2 : List Call) (old new : List (List ℕ)) → IsPairAtRest is_first g seen1 calls1 seen2 calls2 gate old → BothLeaveOnly calls1 calls1 calls2 calls2 (ReadsEither old new)
rests_on true g gate seen1 seen2 calls1 calls2 old new r = started calls1 (λ one. LeavesOnly calls2 calls2 (ReadsEither old new one)) (λ one left1. started calls2 (ReadsEither old new one) (λ two left2.
    subst (λ (l : List ℕ). ReadsEither old new l two) (sym (fixed_only r.rest.closed.fixed one left1))
    (subst (ReadsEither old new seen1) (sym (fixed_only r.fixed two left2)) (inl (inl (record { generation = g; reads = rest_reads r.rest; passed = r.passed }))))))
rests_on false g gate seen1 seen2 calls1 calls2 old new r = started calls1 (λ one. LeavesOnly calls2 calls2 (ReadsEither old new one)) (λ one left1. started calls2 (ReadsEither old new one) (λ two left2.
    subst (λ (l : List ℕ). ReadsEither old new l two) (sym (fixed_only r.fixed one left1))
    (subst (ReadsEither old new seen1) (sym (fixed_only r.rest.closed.fixed two left2)) (inl (inr (record { generation = g; reads = rest_reads r.rest; passed = r.passed }))))))

pub rests_one : (is_first : Bool) (g gate : ℕ) (seen1 seen2 : List ℕ) (calls1 calls2 : List Call) (bodies : List (List ℕ)) → IsPairAtRest is_first g seen1 calls1 seen2 calls2 gate bodies
    → LeavesReading is_first g calls1 calls1 calls2 calls2 (λ read. read ≡ bodies)
rests_one true g gate seen1 seen2 calls1 calls2 bodies r = (
  started calls1 (ReadsAsOne g (λ read. read ≡ bodies)) (λ one left.
      (bodies, subst (λ (l : List ℕ). ReadsAs l g bodies) (sym (fixed_only r.rest.closed.fixed one left)) (rest_reads r.rest), refl)),
  refl,
)
rests_one false g gate seen1 seen2 calls1 calls2 bodies r = (
  started calls2 (ReadsAsOne g (λ read. read ≡ bodies)) (λ two left.
      (bodies, subst (λ (l : List ℕ). ReadsAs l g bodies) (sym (fixed_only r.rest.closed.fixed two left)) (rest_reads r.rest), refl)),
  refl,
)

pub rests_either : (is_first : Bool) (g gate : ℕ) (seen1 seen2 : List ℕ) (calls1 calls2 : List Call) (bodies : List (List ℕ)) (body : List ℕ) → IsPairAtRest is_first g seen1 calls1 seen2 calls2 gate bodies
    → LeavesReading is_first g calls1 calls1 calls2 calls2 (λ read. (read ≡ bodies) ⊎ (read ≡ bodies ++ body ∷ []))
rests_either is_first g gate seen1 seen2 calls1 calls2 bodies body r =
    reading_weaker g (λ read. read ≡ bodies) (λ read. (read ≡ bodies) ⊎ (read ≡ bodies ++ body ∷ [])) (λ read is. inl is) is_first calls1 calls1 calls2 calls2
    (rests_one is_first g gate seen1 seen2 calls1 calls2 bodies r)
