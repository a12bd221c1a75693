-- What a crash leaves of two disks while one of them is written: lemmas.
use Rattle.std.proofs.Common.{◌≡◌, ◌⊎◌, inl, inr, ⊎_elim, ℕ, Bool, true, false, List, sym, ◌∙◌, subst}
use Rattle.journal_single.specs.Disk.{Call, MayLeave, LeavesOnly}
use Rattle.journal_single.specs.Images.{fixed_only}
use Rattle.journal_single.specs.Moments.{and_then, started, stays, weaker}
use Rattle.simplex_journal.specs.Leaving.{LeavesOpened, LeavesReading, LeavesSince, MayBeReadOf, ReadsAsOne}
use Rattle.simplex_journal.specs.Reading.{BothLeaveOnly, IsPairAtRest, ReadsAs, ReadsBeside, ReadsPair}
use Rattle.simplex_journal.specs.ReadingLaws.{one_reading, pair_any, passing_same}

-- two disks read as bodies that have P
abbrev ReadsBoth : (List (List ℕ) → Type 0) → List ℕ → List ℕ → Type 0
ReadsBoth P one two = (bodies : List (List ℕ)) × ReadsPair one two bodies × P bodies

module _ (g : ℕ) (P Q : List (List ℕ) → Type 0) (step : (bodies : List (List ℕ)) → P bodies → Q bodies) where
  pub one_weaker : (image : List ℕ) → ReadsAsOne g P image → ReadsAsOne g Q image
  one_weaker image reads = (reads.0, reads.1, step reads.0 reads.2)

  pub reading_weaker : (is_first : Bool) (old new old-2 new-2 : List Call) → LeavesReading is_first g old new old-2 new-2 P → LeavesReading is_first g old new old-2 new-2 Q
  reading_weaker true old new old-2 new-2 leaves = (weaker (ReadsAsOne g Q) leaves.0 one_weaker, leaves.1)
  reading_weaker false old new old-2 new-2 leaves = (weaker (ReadsAsOne g Q) leaves.0 one_weaker, leaves.1)

  opened_weaker : (old new other new-other : List Call) → LeavesOpened g old new other new-other P → LeavesOpened g old new other new-other Q
  opened_weaker old new other new-other o = record {
    seen = o.seen;
    bodies = o.bodies;
    here = o.here;
    reads = o.reads;
    leaves = weaker (λ image. MayLeave old image ⊎ ReadsAsOne g Q image) o.leaves (λ image either. ⊎_elim (λ left. inl left) (λ reads. inr (one_weaker image reads)) either);
    others = o.others;
  }

  pub since_weaker : (is_first : Bool) (old new old-2 new-2 : List Call) → LeavesSince is_first g old new old-2 new-2 P → LeavesSince is_first g old new old-2 new-2 Q
  since_weaker true old new old-2 new-2 o = opened_weaker old new old-2 new-2 o
  since_weaker false old new old-2 new-2 o = opened_weaker old-2 new-2 old new o

module _ (g : ℕ) (P : List (List ℕ) → Type 0) where
  -- one stretch behind another
  pub reading_then : (is_first : Bool) (old mid new old-2 mid-2 new-2 : List Call) → LeavesReading is_first g old mid old-2 mid-2 P → LeavesReading is_first g mid new mid-2 new-2 P → LeavesReading is_first g old new old-2 new-2 P
  reading_then true old mid new old-2 mid-2 new-2 one other = (and_then one.0 other.0, other.1 ∙ one.1)
  reading_then false old mid new old-2 mid-2 new-2 one other = (and_then one.0 other.0, other.1 ∙ one.1)

  opened_then : (old mid new other mid-other new-other : List Call) → LeavesOpened g old mid other mid-other P → LeavesOnly mid new (ReadsAsOne g P) → new-other ≡ mid-other → LeavesOpened g old new other new-other P
  opened_then old mid new other mid-other new-other o leaves same = record {
    seen = o.seen;
    bodies = o.bodies;
    here = o.here;
    reads = o.reads;
    leaves = and_then o.leaves (weaker (λ image. MayLeave old image ⊎ ReadsAsOne g P image) leaves (λ image reads. inr reads));
    others = stays o.others same;
  }

  -- a stretch behind an opening
  pub since_then : (is_first : Bool) (old mid new old-2 mid-2 new-2 : List Call) → LeavesSince is_first g old mid old-2 mid-2 P → LeavesReading is_first g mid new mid-2 new-2 P → LeavesSince is_first g old new old-2 new-2 P
  since_then true old mid new old-2 mid-2 new-2 o leaves = opened_then old mid new old-2 mid-2 new-2 o leaves.0 leaves.1
  since_then false old mid new old-2 mid-2 new-2 o leaves = opened_then old-2 mid-2 new-2 old mid new o leaves.0 leaves.1

  -- what is read of one disk is read of both, beside the other at rest
  pub reads_both : (is_first : Bool) (gate : ℕ) (seen seen-2 : List ℕ) (bodies : List (List ℕ)) (old new old-2 new-2 : List Call) → IsPairAtRest is_first g seen old seen-2 old-2 gate bodies
      → LeavesReading is_first g old new old-2 new-2 P → BothLeaveOnly old new old-2 new-2 (ReadsBoth P)
  reads_both true gate seen seen-2 bodies old new old-2 new-2 r leaves =
      weaker (λ one. LeavesOnly old-2 new-2 (ReadsBoth P one)) leaves.0 (λ one reads. stays (started old-2 (ReadsBoth P one) (λ two left.
      let here : ReadsPair one seen-2 reads.0 = inl (record { generation = g; reads = reads.1; passed = r.passed }) in
      (reads.0, subst (λ (l : List ℕ). ReadsPair one l reads.0) (sym (fixed_only r.fixed two left)) here, reads.2))) leaves.1)
  reads_both false gate seen seen-2 bodies old new old-2 new-2 r leaves =
      stays (started old (λ one. LeavesOnly old-2 new-2 (ReadsBoth P one)) (λ one left. weaker (ReadsBoth P one) leaves.0 (λ two reads.
      let here : ReadsPair seen two reads.0 = inr (record { generation = g; reads = reads.1; passed = r.passed }) in
      (reads.0, subst (λ (l : List ℕ). ReadsPair l two reads.0) (sym (fixed_only r.fixed one left)) here, reads.2)))) leaves.1

  -- and since before an opening, where P is of all that might be read after a crash before it
  module _ (old new old-2 new-2 : List Call) (may : (bodies : List (List ℕ)) → MayBeReadOf old old-2 bodies → P bodies) where
    any_read : (one two : List ℕ) → MayLeave old one → MayLeave old-2 two → ReadsBoth P one two
    any_read one two left left-2 = let any = pair_any one two in (any.0, any.1, may any.0 (one, two, left, left-2, any.1))

    first_read : LeavesOpened g old new old-2 new-2 P → (one two : List ℕ) → MayLeave old-2 two → ReadsAsOne g P one → ReadsBoth P one two
    first_read o one two left-2 reads = let any = pair_any one two in (
      any.0,
      any.1,
      ⊎_elim
          (λ beside. subst P (one_reading reads.0 any.0 reads.1 beside.reads).1 reads.2)
          (λ passing. may any.0 (o.seen, two, o.here, left-2, inr (passing_same false one o.seen two g reads.0 o.bodies any.0 reads.1 o.reads passing))) any.1,
    )

    second_read : LeavesOpened g old-2 new-2 old new P → (one two : List ℕ) → MayLeave old one → ReadsAsOne g P two → ReadsBoth P one two
    second_read o one two left reads = let any = pair_any one two in (
      any.0,
      any.1,
      ⊎_elim
          (λ passing. may any.0 (one, o.seen, left, o.here, inl (passing_same true two o.seen one g reads.0 o.bodies any.0 reads.1 o.reads passing)))
          (λ beside. subst P (one_reading reads.0 any.0 reads.1 beside.reads).1 reads.2) any.1,
    )

    pub since_both : (is_first : Bool) → LeavesSince is_first g old new old-2 new-2 P → BothLeaveOnly old new old-2 new-2 (ReadsBoth P)
    since_both true o = weaker (λ one. LeavesOnly old-2 new-2 (ReadsBoth P one)) o.leaves (λ one either. weaker (ReadsBoth P one) o.others (λ two left-2.
        ⊎_elim (λ left. any_read one two left left-2) (λ reads. first_read o one two left-2 reads) either))
    since_both false o = weaker (λ one. LeavesOnly old-2 new-2 (ReadsBoth P one)) o.others (λ one left. weaker (ReadsBoth P one) o.leaves (λ two either.
        ⊎_elim (λ left-2. any_read one two left left-2) (λ reads. second_read o one two left reads) either))
