-- What reads as these bodies or as those reads as some that are these or those.
use Rattle.std.proofs.Common.{◌≡◌, ◌⊎◌, inl, inr, ⊎_elim, List, ℕ, refl}
use Rattle.journal_single.specs.Disk.{Call, LeavesOnly}
use Rattle.journal_single.specs.Moments.{weaker}
use Rattle.journal_single.specs.Record.{Reads}
use Rattle.simplex_journal.specs.Reading.{BothLeaveOnly, ReadsEither, ReadsPair}

pub one-read : {old new : List Call} (these those : List (List ℕ)) → LeavesOnly old new (λ image. Reads image these ⊎ Reads image those)
    → LeavesOnly old new (λ image. (bodies : List (List ℕ)) × Reads image bodies × ((bodies ≡ these) ⊎ (bodies ≡ those)))
one-read these those leaves = weaker _ leaves (λ image reads. ⊎_elim (λ r. (these, r, inl refl)) (λ r. (those, r, inr refl)) reads)

pub two-read : {old new old-2 new-2 : List Call} (these those : List (List ℕ)) → BothLeaveOnly old new old-2 new-2 (ReadsEither these those)
    → BothLeaveOnly old new old-2 new-2 (λ one two. (bodies : List (List ℕ)) × ReadsPair one two bodies × ((bodies ≡ these) ⊎ (bodies ≡ those)))
two-read these those leaves = weaker _ leaves (λ one others. weaker _ others (λ two reads. ⊎_elim (λ r. (these, r, inl refl)) (λ r. (those, r, inr refl)) reads))
