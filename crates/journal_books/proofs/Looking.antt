-- What a crash leaves while disks are looked at, and until what was found is kept.
use Rattle.std.proofs.Common.{◌≡◌, ◌⊎◌, inl, inr, ⊎_elim, ℕ, Bool, List, ◌∷◌, sym, ◌∙◌, ap, subst, map}
use Rattle.journal_single.specs.declared.disk.Disk as disk
use Rattle.journal_single.specs.Disk.{Call, LeavesOnly, MayLeave, Synced}
use Rattle.journal_single.specs.Images.{fixes}
use Rattle.journal_single.specs.Looking.{HasFound, IsAtMostSynced, IsLeftAsItWas, Looked}
use Rattle.journal_single.specs.LookingLaws.{kept_leaves, looked_leaves, reads_found}
use Rattle.journal_single.specs.Moments.{started, weaker}
use Rattle.journal_single.specs.Record.{IsReopened, Reads}
use Rattle.journal_single.specs.Total.{reads_any}
use Rattle.simplex_journal.specs.Leaving.{LeavesSince}
use Rattle.simplex_journal.specs.LeavingLaws as pairs
use Rattle.simplex_journal.specs.PairLooking.{LookedPair}
use Rattle.simplex_journal.specs.Reading.{BothLeaveOnly, IsPairReopened, ReadsPair}
use Rattle.simplex_journal.specs.ReadingLaws.{pair_any}
use Rattle.simplex_journal.specs.Standing.{PairStanding}
use Rattle.journal_single.specs.Journal.{Standing}
use Rattle.journal_books.specs.declared.books.Books.TheVariants as books
use Rattle.journal_books.specs.declared.disks.Disks.{Disks}
use Rattle.journal_books.specs.declared.disks.Disks.TheVariants.{One, Two}
use Rattle.journal_books.specs.declared.found.FoundBooks.TheVariants as found
use Rattle.journal_books.specs.Books.{AreRead, IsLookAt, Leave, LeaveSince, MayBeRead}

module _ {K : Type 0} (k : disk.Ghosts K) where
  -- something is read
  pub any_read : ((d : K) → MayLeave (k.calls d) (k.seen d)) → (on : Disks K) → (read : List (List ℕ)) × AreRead k on read × MayBeRead k on read
  any_read here (One on) = let any = reads_any (k.seen on) in (any.0, any.1, (k.seen on, here on, any.1))
  any_read here (Two first second) = let any = pair_any (k.seen first) (k.seen second) in (any.0, any.1, (k.seen first, k.seen second, here first, here second, any.1))

  -- nothing was asked
  pub untouched_leaves : (on : Disks K) → Leave k on on (MayBeRead k on)
  untouched_leaves (One on) = started (k.calls on) (λ image. (read : List (List ℕ)) × Reads image read × MayBeRead k (One on) read) (λ image left.
      let any = reads_any image in (any.0, any.1, (image, left, any.1)))
  untouched_leaves (Two first second) =
      started (k.calls first) (λ one. LeavesOnly (k.calls second) (k.calls second) (λ two. (read : List (List ℕ)) × ReadsPair one two read × MayBeRead k (Two first second) read)) (λ one left.
      started (k.calls second) (λ two. (read : List (List ℕ)) × ReadsPair one two read × MayBeRead k (Two first second) read) (λ two left-2.
      let any = pair_any one two in (any.0, any.1, (one, two, left, left-2, any.1))))

  -- what reads as something that a crash before might have left
  pub one_reopened : (before now : K) → LeavesOnly (k.calls before) (k.calls now) (IsReopened (k.calls before)) → Leave k (One before) (One now) (MayBeRead k (One before))
  one_reopened before now leaves = weaker (λ image. (read : List (List ℕ)) × Reads image read × MayBeRead k (One before) read) leaves (λ image r. (r.bodies, r.reads, (r.before, r.left, r.reads_before)))

  pub two_reopened : (before before-2 now now-2 : K) → BothLeaveOnly (k.calls before) (k.calls now) (k.calls before-2) (k.calls now-2) (IsPairReopened (k.calls before) (k.calls before-2))
      → Leave k (Two before before-2) (Two now now-2) (MayBeRead k (Two before before-2))
  two_reopened before before-2 now now-2 leaves =
      weaker (λ one. LeavesOnly (k.calls before-2) (k.calls now-2) (λ two. (read : List (List ℕ)) × ReadsPair one two read × MayBeRead k (Two before before-2) read)) leaves (λ one left.
      weaker (λ two. (read : List (List ℕ)) × ReadsPair one two read × MayBeRead k (Two before before-2) read) left (λ two r.
      (r.bodies, r.reads, (r.before, r.before-2, r.left, r.left-2, r.reads_before))))

  -- one disk was looked at
  pub one_look : {before now : K} → MayLeave (k.calls before) (k.seen before) → IsLeftAsItWas k.seen k.calls before now → MayLeave (k.calls before) (k.seen now) × (k.calls now ≡ Synced (k.seen now) ∷ k.calls before)
  one_look {before} {now} here was = (subst (MayLeave (k.calls before)) (sym was.same) here, was.asked ∙ ap (λ (l : List ℕ). Synced l ∷ k.calls before) (sym was.same))

  module _ {M : Type 0} (spelling : M → List ℕ) (messages : List M) where
    one_kept : (f : Looked K) (before now : K) → HasFound spelling k.seen k.calls f messages → IsLookAt k {M = M} (One before) (found.One f) → LeavesOnly (k.calls f.disk) (k.calls now) (λ image. Reads image (map spelling messages))
        → Leave k (One before) (One now) (MayBeRead k (One before))
    one_kept f before now has look leaves = one_reopened before now (kept_leaves look.0 look.1 (reads_found has.found) leaves)

    pub one_since : (f : Looked K) (before : Disks K) (now : Standing K) → HasFound spelling k.seen k.calls f messages → IsLookAt k {M = M} before (found.One f) → LeavesOnly (k.calls f.disk) (k.calls now.disk) (λ image. Reads image (map spelling messages))
        → LeaveSince k {M = M} before (books.One now) (MayBeRead k before)
    one_since f (One before) now has look leaves = one_kept f before now.disk has look leaves
    one_since f (Two before before-2) now has look leaves = absurd look

    pub one_until : (f : Looked K) (before : Disks K) (now : K) → HasFound spelling k.seen k.calls f messages → IsLookAt k {M = M} before (found.One f) → LeavesOnly (k.calls f.disk) (k.calls now) (λ image. Reads image (map spelling messages))
        → Leave k before (One now) (MayBeRead k before)
    one_until f (One before) now has look leaves = one_kept f before now has look leaves
    one_until f (Two before before-2) now has look leaves = absurd look

    pub two_since : (f : LookedPair K) (before : Disks K) (now : PairStanding K) → IsLookAt k {M = M} before (found.Two f) → MayBeRead k before (map spelling messages)
        → ((a b : K) → IsLookAt k {M = M} (Two a b) (found.Two f) → LeavesSince now.is_first now.generation (k.calls a) (k.calls now.first) (k.calls b) (k.calls now.second) (λ read. read ≡ map spelling messages))
        → LeaveSince k {M = M} before (books.Two now) (MayBeRead k before)
    two_since f (Two a b) now look may leaves =
        pairs.since_weaker now.generation (λ read. read ≡ map spelling messages) (MayBeRead k (Two a b)) (λ read is. subst (MayBeRead k (Two a b)) (sym is) may) now.is_first (k.calls a) (k.calls now.first) (k.calls b) (k.calls now.second)
        (leaves a b look)
    two_since f (One before) now look may leaves = absurd look

    pub two_until : (f : LookedPair K) (before : Disks K) (is_first : Bool) (g : ℕ) (now now-2 : K) → IsLookAt k {M = M} before (found.Two f) → MayBeRead k before (map spelling messages)
        → ((a b : K) → IsLookAt k {M = M} (Two a b) (found.Two f) → LeavesSince is_first g (k.calls a) (k.calls now) (k.calls b) (k.calls now-2) (λ read. read ≡ map spelling messages))
        → Leave k before (Two now now-2) (MayBeRead k before)
    two_until f (Two a b) is_first g now now-2 look may leaves =
        pairs.since_both g (MayBeRead k (Two a b)) (k.calls a) (k.calls now) (k.calls b) (k.calls now-2) (λ read before. before) is_first
        (pairs.since_weaker g (λ read. read ≡ map spelling messages) (MayBeRead k (Two a b)) (λ read is. subst (MayBeRead k (Two a b)) (sym is) may) is_first (k.calls a) (k.calls now) (k.calls b) (k.calls now-2)
        (leaves a b look))
    two_until f (One before) is_first g now now-2 look may leaves = absurd look
