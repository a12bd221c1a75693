-- What an opening of two disks leaves: each moment of the one beside each moment of the other.
use Rattle.std.proofs.Common.{◌≡◌, ◌⊎◌, inl, inr, ⊎_elim, ℕ, ◌<◌, Bool, true, false, List, [], ◌∷◌, length, sym, ◌∙◌, ap, subst}
use Rattle.std.specs.Prelude.{Result, Ok, Err, OnOk, is_err}
use Rattle.journal_single.specs.Disk.{Call, Synced, MayLeave, LeavesOnly}
use Rattle.journal_single.specs.Record.{IsFixed}
use Rattle.journal_single.specs.Moments.{weaker, and_then, stays}
use Rattle.journal_single.specs.Images.{fixes}
use Rattle.simplex_journal.specs.GenerationLaws.{one_of}
use Rattle.simplex_journal.specs.Generation.{IsNumber, IsPassed, IsChosen}
use Rattle.simplex_journal.specs.Leaving.{LeavesReading, LeavesSince, MayBeReadOf, ReadsAsOne}
use Rattle.simplex_journal.specs.LeavingLaws.{since_both, since_weaker}
use Rattle.simplex_journal.specs.PairLooking.{IsPairFound}
use Rattle.simplex_journal.specs.Reading.{ReadsAs, ReadsPair, BothLeaveOnly, IsPairReopened, IsFoundOf, IsForeignOf, IsForeignPair}
use Rattle.simplex_journal.specs.ReadingLaws.{number_read, pair_any}
use Rattle.simplex_journal.proofs.Finishing.{found_reads}

pub here_reopened : (calls1 calls2 : List Call) (one two : List ℕ) → MayLeave calls1 one → MayLeave calls2 two → IsPairReopened calls1 calls2 one two
here_reopened calls1 calls2 one two left1 left2 =
    let any = pair_any one two in
    record { before = one; before-2 = two; bodies = any.0; left = left1; left-2 = left2; reads_before = any.1; reads = any.1 }

-- while both are synced and read
pub both_left : (calls1 calls2 new1 new2 : List Call) → LeavesOnly calls1 new1 (MayLeave calls1) → LeavesOnly calls2 new2 (MayLeave calls2) → BothLeaveOnly calls1 new1 calls2 new2 (IsPairReopened calls1 calls2)
both_left calls1 calls2 new1 new2 first second = weaker (λ one. LeavesOnly calls2 new2 (IsPairReopened calls1 calls2 one)) first
    (λ one left1. weaker (IsPairReopened calls1 calls2 one) second (λ two left2. here_reopened calls1 calls2 one two left1 left2))

-- since before two disks were looked at, until what was found is kept
pub kept_since : (P : List (List ℕ) → Type 0) (is_first is_empty : Bool) (g gate : ℕ) (bodies : List (List ℕ)) (seen1 seen2 : List ℕ) (old1 old2 mid1 mid2 new1 new2 : List Call) → IsPairFound is_first g seen1 mid1 seen2 mid2 gate is_empty bodies
    → MayLeave old1 seen1 → MayLeave old2 seen2 → mid1 ≡ Synced seen1 ∷ old1 → mid2 ≡ Synced seen2 ∷ old2 → LeavesReading is_first g mid1 new1 mid2 new2 P → LeavesSince is_first g old1 new1 old2 new2 P
kept_since P true is_empty g gate bodies seen1 seen2 old1 old2 mid1 mid2 new1 new2 f here1 here2 is1 is2 keeping = record {
  seen = seen1;
  bodies = bodies;
  here = here1;
  reads = found_reads f.found;
  leaves = and_then (weaker (λ image. MayLeave old1 image ⊎ ReadsAsOne g P image) (fixes old1 mid1 seen1 here1 is1) (λ image left. inl left))
      (weaker (λ image. MayLeave old1 image ⊎ ReadsAsOne g P image) keeping.0 (λ image reads. inr reads));
  others = stays (fixes old2 mid2 seen2 here2 is2) keeping.1;
}
kept_since P false is_empty g gate bodies seen1 seen2 old1 old2 mid1 mid2 new1 new2 f here1 here2 is1 is2 keeping = record {
  seen = seen2;
  bodies = bodies;
  here = here2;
  reads = found_reads f.found;
  leaves = and_then (weaker (λ image. MayLeave old2 image ⊎ ReadsAsOne g P image) (fixes old2 mid2 seen2 here2 is2) (λ image left. inl left))
      (weaker (λ image. MayLeave old2 image ⊎ ReadsAsOne g P image) keeping.0 (λ image reads. inr reads));
  others = stays (fixes old1 mid1 seen1 here1 is1) keeping.1;
}

-- so both read as something that a crash before might have left of both
pub reopened_since : (is_first : Bool) (g : ℕ) (bodies : List (List ℕ)) (old new old-2 new-2 : List Call) → MayBeReadOf old old-2 bodies → LeavesSince is_first g old new old-2 new-2 (λ read. read ≡ bodies) → BothLeaveOnly old new old-2 new-2 (IsPairReopened old old-2)
reopened_since is_first g bodies old new old-2 new-2 may o =
    let all = since_weaker g (λ read. read ≡ bodies) (MayBeReadOf old old-2) (λ read is. subst (MayBeReadOf old old-2) (sym is) may) is_first old new old-2 new-2 o in
    weaker (λ one. LeavesOnly old-2 new-2 (IsPairReopened old old-2 one)) (since_both g (MayBeReadOf old old-2) old new old-2 new-2 (λ read before. before) is_first all)
    (λ one left. weaker (IsPairReopened old old-2 one) left (λ two r. record { before = r.2.0; before-2 = r.2.1; bodies = r.0; left = r.2.2; left-2 = r.2.3; reads_before = r.2.4; reads = r.1 }))

-- the disk that was chosen is of this generation
passed_by : (is_first : Bool) (chosen other : List ℕ) (g h : ℕ) → IsNumber chosen g → IsNumber chosen h → IsPassed is_first other g → IsPassed is_first other h
passed_by is_first chosen other g h one two passed = subst (λ (n : ℕ). IsPassed is_first other n) (one_of one.1 two.1).0 passed

module _ (first second : List ℕ) (g : ℕ) where
  pub first_reads : (bodies : List (List ℕ)) → IsChosen true first second → ReadsAs first g bodies → ReadsPair first second bodies
  first_reads bodies chosen reads = inl (record { generation = g; reads = reads; passed = passed_by true first second chosen.0 g chosen.1 (number_read reads) chosen.2 })

  pub second_reads : (bodies : List (List ℕ)) → IsChosen false first second → ReadsAs second g bodies → ReadsPair first second bodies
  second_reads bodies chosen reads = inr (record { generation = g; reads = reads; passed = passed_by false second first chosen.0 g chosen.1 (number_read reads) chosen.2 })

  pub first_found : (bodies : List (List ℕ)) (gate : ℕ) (is_empty : Bool) (calls calls2 : List Call) → IsChosen true first second → IsFoundOf g first gate bodies → (is_empty ≡ true → first ≡ []) → (is_empty ≡ false → gate < length first)
      → IsFixed first calls → IsFixed second calls2 → IsPairFound true g first calls second calls2 gate is_empty bodies
  first_found bodies gate is_empty calls calls2 chosen found none some fixed other = record {
    found = found;
    none = none;
    some = some;
    passed = passed_by true first second chosen.0 g chosen.1 (number_read (found_reads found)) chosen.2;
    fixed = fixed;
    other_fixed = other;
  }

  pub second_found : (bodies : List (List ℕ)) (gate : ℕ) (is_empty : Bool) (calls calls1 : List Call) → IsChosen false first second → IsFoundOf g second gate bodies → (is_empty ≡ true → second ≡ []) → (is_empty ≡ false → gate < length second)
      → IsFixed second calls → IsFixed first calls1 → IsPairFound false g first calls1 second calls gate is_empty bodies
  second_found bodies gate is_empty calls calls1 chosen found none some fixed other = record {
    found = found;
    none = none;
    some = some;
    passed = passed_by false second first chosen.0 g chosen.1 (number_read (found_reads found)) chosen.2;
    fixed = fixed;
    other_fixed = other;
  }

  module _ {M : Type 0} (Fits : M → Type 0) (spelling : M → List ℕ) (place : ℕ) where
    pub first_foreign : IsChosen true first second → IsForeignOf Fits spelling first g place → IsForeignPair Fits spelling first second place
    first_foreign chosen f = inl (g, passed_by true first second chosen.0 g chosen.1 f.number chosen.2, f)

    pub second_foreign : IsChosen false first second → IsForeignOf Fits spelling second g place → IsForeignPair Fits spelling first second place
    second_foreign chosen f = inr (g, passed_by false second first chosen.0 g chosen.1 f.number chosen.2, f)

-- ---- from what the calls of an opening ensure

pub from_ok : {T E P : Type 0} (r : Result T E) → false ≡ is_err r → OnOk r P → P
from_ok (Ok x) e p = p
from_ok (Err y) e p = absurd (let never : false ≡ true = e in cc)

pub chosen_as : (is_first b : Bool) (first first1 second second1 : List ℕ) → is_first ≡ b → first1 ≡ first → second1 ≡ second → IsChosen is_first first1 second1 → IsChosen b first second
chosen_as is_first b first first1 second second1 is one two chosen =
    subst (λ (l : List ℕ). IsChosen b first l) two (subst (λ (l : List ℕ). IsChosen b l second1) one (subst (λ (f : Bool). IsChosen f first1 second1) is chosen))

pub fixed_then : (seen seen1 seen2 : List ℕ) (calls calls1 calls2 : List Call) → seen1 ≡ seen → seen2 ≡ seen1 → calls1 ≡ Synced seen ∷ calls → calls2 ≡ calls1 → calls2 ≡ Synced seen2 ∷ calls
fixed_then seen seen1 seen2 calls calls1 calls2 one two synced same = same ∙ synced ∙ ap (λ (l : List ℕ). Synced l ∷ calls) (sym (two ∙ one))
