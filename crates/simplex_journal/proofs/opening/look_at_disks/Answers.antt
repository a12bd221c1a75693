use Rattle.std.proofs.Common.{◌∙◌, ◌-◌, ◌^◌, ◌<◌, List, ℕ, true, false, length, map, sym, subst}
use Rattle.types_codec.specs.Codec.{Readable}
use Rattle.journal_single.specs.Moments.{stays}
use Rattle.journal_single.specs.Record.{FitsBelow}
use Rattle.simplex_journal.specs.Reading.{IsForeignOf, IsFoundOf, ReadsAs}
use Rattle.simplex_journal.proofs.Finishing.{found_reads}
use Rattle.simplex_journal.proofs.Reopening.{both_left, from_ok, chosen_as, fixed_then, first_reads, second_reads, first_found, second_found, first_foreign, second_foreign}
use Rattle.simplex_journal.proofs.opening.look_at_disks.Goals as goal

pub returns-then-is_err-clause-any_moment : goal.returns-then-is_err-clause-any_moment
returns-then-is_err-clause-any_moment g c = λ k. both_left _ _ _ _ (c.sync_both.ensures.first_left k) (c.sync_both.ensures.second_left k)

pub returns-in_default-clause-any_moment : goal.returns-in_default-clause-any_moment
returns-in_default-clause-any_moment g c = λ k.
    both_left _ _ _ _ (stays (c.sync_both.ensures.first_left k) (c.is_first_read.ensures.calls k).0) (stays (c.sync_both.ensures.second_left k) (c.is_first_read.ensures.calls k).1)

-- ---- the first disk

pub returns-in-Ok-read_record-clause-found : goal.returns-in-Ok-read_record-clause-found
returns-in-Ok-read_record-clause-found g c = λ k.
    let fixed = from_ok c.sync_both.result c.if-is_err.ensures.value c.sync_both.ensures.fixed k in
    let seen = from_ok c.sync_both.result c.if-is_err.ensures.value c.sync_both.ensures.seen k in
    let same = c.in-Ok.ensures.seen k in
    let calls = c.is_first_read.ensures.calls k in
    let told = c.in-Ok-read_record.ensures in
    let read = told.seen k in
    first_found _ _ c.in-Ok-read_record.found.generation (map g.M.Write.spelling c.in-Ok-read_record.found.messages.items) c.in-Ok-read_record.found.gate c.in-Ok-read_record.is_empty _ _ (chosen_as _ true _ _ _ _ c.if-is_first.true (sym (read ∙ same.0)) (sym same.1) (c.in-Ok.ensures.chosen k))
    (subst (λ (l : List ℕ). IsFoundOf c.in-Ok-read_record.found.generation l c.in-Ok-read_record.found.gate (map g.M.Write.spelling c.in-Ok-read_record.found.messages.items)) (sym read) (told.found k))
    (λ e. read ∙ told.none k e) (λ e. subst (λ (l : List ℕ). c.in-Ok-read_record.found.gate < length l) (sym read) (told.some k e))
    (record { earlier = g.K.Disk.calls c.args.first.now; is = fixed_then _ _ _ _ _ _ seen.0 (read ∙ same.0) fixed.0 (c.read_record.ensures.calls k ∙ calls.0) })
    (record { earlier = g.K.Disk.calls c.args.second.now; is = fixed_then _ _ _ _ _ _ seen.1 same.1 fixed.1 calls.1 })

pub returns-in-Ok-read_record-clause-reading : goal.returns-in-Ok-read_record-clause-reading
returns-in-Ok-read_record-clause-reading g c = λ k.
    let seen = from_ok c.sync_both.result c.if-is_err.ensures.value c.sync_both.ensures.seen k in
    let same = c.in-Ok.ensures.seen k in
    let bodies = map g.M.Write.spelling c.in-Ok-read_record.found.messages.items in
    first_reads _ _ c.in-Ok-read_record.found.generation bodies (chosen_as _ true _ _ _ _ c.if-is_first.true seen.0 seen.1 (c.in-Ok.ensures.chosen k))
    (subst (λ (l : List ℕ). ReadsAs l c.in-Ok-read_record.found.generation bodies) (same.0 ∙ seen.0) (found_reads (c.in-Ok-read_record.ensures.found k)))

pub returns-in-Ok-read_record-clause-any_moment : goal.returns-in-Ok-read_record-clause-any_moment
returns-in-Ok-read_record-clause-any_moment g c = λ k.
    both_left _ _ _ _ (stays (stays (c.sync_both.ensures.first_left k) (c.is_first_read.ensures.calls k).0) (c.read_record.ensures.calls k)) (stays (c.sync_both.ensures.second_left k) (c.is_first_read.ensures.calls k).1)

pub returns-in-Ok-read_record-clause-untouched : goal.returns-in-Ok-read_record-clause-untouched
returns-in-Ok-read_record-clause-untouched g c = λ k.
    let fixed = from_ok c.sync_both.result c.if-is_err.ensures.value c.sync_both.ensures.fixed k in
    let seen = from_ok c.sync_both.result c.if-is_err.ensures.value c.sync_both.ensures.seen k in
    let same = c.in-Ok.ensures.seen k in
    let calls = c.is_first_read.ensures.calls k in
    record {
      one = record { same = c.in-Ok-read_record.ensures.seen k ∙ same.0 ∙ seen.0; asked = c.read_record.ensures.calls k ∙ calls.0 ∙ fixed.0 };
      two = record { same = same.1 ∙ seen.1; asked = calls.1 ∙ fixed.1 };
    }

pub returns-in-Err-clause-any_moment : goal.returns-in-Err-clause-any_moment
returns-in-Err-clause-any_moment g c = λ k.
    both_left _ _ _ _ (stays (stays (c.sync_both.ensures.first_left k) (c.is_first_read.ensures.calls k).0) (c.read_record.ensures.calls k)) (stays (c.sync_both.ensures.second_left k) (c.is_first_read.ensures.calls k).1)

pub returns-in-Err-clause-untouched_by_others : goal.returns-in-Err-clause-untouched_by_others
returns-in-Err-clause-untouched_by_others g c = λ other k.
    let fixed = from_ok c.sync_both.result c.if-is_err.ensures.value c.sync_both.ensures.fixed k in
    let seen = from_ok c.sync_both.result c.if-is_err.ensures.value c.sync_both.ensures.seen k in
    let same = c.in-Ok.ensures.seen k in
    let calls = c.is_first_read.ensures.calls k in
    record {
      one = record { same = c.in-Err.ensures.seen_of_others other k ∙ same.0 ∙ seen.0; asked = c.read_record.ensures.calls k ∙ calls.0 ∙ fixed.0 };
      two = record { same = same.1 ∙ seen.1; asked = calls.1 ∙ fixed.1 };
    }

pub returns-in-Err-clause-foreign : goal.returns-in-Err-clause-foreign
returns-in-Err-clause-foreign g c = λ place is k.
    let Fits = FitsBelow (2 ^ 32 - 1) (Readable g.M.Write.fits (g.M.Read.within 65535)) g.M.Write.spelling in
    let seen = from_ok c.sync_both.result c.if-is_err.ensures.value c.sync_both.ensures.seen k in
    let same = c.in-Ok.ensures.seen k in
    let f = c.in-Err.ensures.foreign place is k in
    first_foreign _ _ f.0 Fits g.M.Write.spelling place (chosen_as _ true _ _ _ _ c.if-is_first.true seen.0 seen.1 (c.in-Ok.ensures.chosen k))
    (subst (λ (l : List ℕ). IsForeignOf Fits g.M.Write.spelling l f.0 place) (same.0 ∙ seen.0) f.1)

-- ---- the second

pub returns-in-Ok-read_record-2-clause-found : goal.returns-in-Ok-read_record-2-clause-found
returns-in-Ok-read_record-2-clause-found g c = λ k.
    let fixed = from_ok c.sync_both.result c.if-is_err.ensures.value c.sync_both.ensures.fixed k in
    let seen = from_ok c.sync_both.result c.if-is_err.ensures.value c.sync_both.ensures.seen k in
    let same = c.in-Ok.ensures.seen k in
    let calls = c.is_first_read.ensures.calls k in
    let told = c.in-Ok-read_record-2.ensures in
    let read = told.seen k in
    second_found _ _ c.in-Ok-read_record-2.found.generation (map g.M.Write.spelling c.in-Ok-read_record-2.found.messages.items) c.in-Ok-read_record-2.found.gate c.in-Ok-read_record-2.is_empty _ _ (chosen_as _ false _ _ _ _ c.if-is_first.false (sym same.0) (sym (read ∙ same.1)) (c.in-Ok.ensures.chosen k))
    (subst (λ (l : List ℕ). IsFoundOf c.in-Ok-read_record-2.found.generation l c.in-Ok-read_record-2.found.gate (map g.M.Write.spelling c.in-Ok-read_record-2.found.messages.items)) (sym read) (told.found k))
    (λ e. read ∙ told.none k e) (λ e. subst (λ (l : List ℕ). c.in-Ok-read_record-2.found.gate < length l) (sym read) (told.some k e))
    (record { earlier = g.K.Disk.calls c.args.second.now; is = fixed_then _ _ _ _ _ _ seen.1 (read ∙ same.1) fixed.1 (c.read_record-2.ensures.calls k ∙ calls.1) })
    (record { earlier = g.K.Disk.calls c.args.first.now; is = fixed_then _ _ _ _ _ _ seen.0 same.0 fixed.0 calls.0 })

pub returns-in-Ok-read_record-2-clause-reading : goal.returns-in-Ok-read_record-2-clause-reading
returns-in-Ok-read_record-2-clause-reading g c = λ k.
    let seen = from_ok c.sync_both.result c.if-is_err.ensures.value c.sync_both.ensures.seen k in
    let same = c.in-Ok.ensures.seen k in
    let bodies = map g.M.Write.spelling c.in-Ok-read_record-2.found.messages.items in
    second_reads _ _ c.in-Ok-read_record-2.found.generation bodies (chosen_as _ false _ _ _ _ c.if-is_first.false seen.0 seen.1 (c.in-Ok.ensures.chosen k))
    (subst (λ (l : List ℕ). ReadsAs l c.in-Ok-read_record-2.found.generation bodies) (same.1 ∙ seen.1) (found_reads (c.in-Ok-read_record-2.ensures.found k)))

pub returns-in-Ok-read_record-2-clause-any_moment : goal.returns-in-Ok-read_record-2-clause-any_moment
returns-in-Ok-read_record-2-clause-any_moment g c = λ k.
    both_left _ _ _ _ (stays (c.sync_both.ensures.first_left k) (c.is_first_read.ensures.calls k).0) (stays (stays (c.sync_both.ensures.second_left k) (c.is_first_read.ensures.calls k).1) (c.read_record-2.ensures.calls k))

pub returns-in-Ok-read_record-2-clause-untouched : goal.returns-in-Ok-read_record-2-clause-untouched
returns-in-Ok-read_record-2-clause-untouched g c = λ k.
    let fixed = from_ok c.sync_both.result c.if-is_err.ensures.value c.sync_both.ensures.fixed k in
    let seen = from_ok c.sync_both.result c.if-is_err.ensures.value c.sync_both.ensures.seen k in
    let same = c.in-Ok.ensures.seen k in
    let calls = c.is_first_read.ensures.calls k in
    record {
      one = record { same = same.0 ∙ seen.0; asked = calls.0 ∙ fixed.0 };
      two = record { same = c.in-Ok-read_record-2.ensures.seen k ∙ same.1 ∙ seen.1; asked = c.read_record-2.ensures.calls k ∙ calls.1 ∙ fixed.1 };
    }

pub returns-in-Err-read_record-clause-any_moment : goal.returns-in-Err-read_record-clause-any_moment
returns-in-Err-read_record-clause-any_moment g c = λ k.
    both_left _ _ _ _ (stays (c.sync_both.ensures.first_left k) (c.is_first_read.ensures.calls k).0) (stays (stays (c.sync_both.ensures.second_left k) (c.is_first_read.ensures.calls k).1) (c.read_record-2.ensures.calls k))

pub returns-in-Err-read_record-clause-untouched_by_others : goal.returns-in-Err-read_record-clause-untouched_by_others
returns-in-Err-read_record-clause-untouched_by_others g c = λ other k.
    let fixed = from_ok c.sync_both.result c.if-is_err.ensures.value c.sync_both.ensures.fixed k in
    let seen = from_ok c.sync_both.result c.if-is_err.ensures.value c.sync_both.ensures.seen k in
    let same = c.in-Ok.ensures.seen k in
    let calls = c.is_first_read.ensures.calls k in
    record {
      one = record { same = same.0 ∙ seen.0; asked = calls.0 ∙ fixed.0 };
      two = record { same = c.in-Err-read_record.ensures.seen_of_others other k ∙ same.1 ∙ seen.1; asked = c.read_record-2.ensures.calls k ∙ calls.1 ∙ fixed.1 };
    }

pub returns-in-Err-read_record-clause-foreign : goal.returns-in-Err-read_record-clause-foreign
returns-in-Err-read_record-clause-foreign g c = λ place is k.
    let Fits = FitsBelow (2 ^ 32 - 1) (Readable g.M.Write.fits (g.M.Read.within 65535)) g.M.Write.spelling in
    let seen = from_ok c.sync_both.result c.if-is_err.ensures.value c.sync_both.ensures.seen k in
    let same = c.in-Ok.ensures.seen k in
    let f = c.in-Err-read_record.ensures.foreign place is k in
    second_foreign _ _ f.0 Fits g.M.Write.spelling place (chosen_as _ false _ _ _ _ c.if-is_first.false seen.0 seen.1 (c.in-Ok.ensures.chosen k))
    (subst (λ (l : List ℕ). IsForeignOf Fits g.M.Write.spelling l f.0 place) (same.1 ∙ seen.1) f.1)
