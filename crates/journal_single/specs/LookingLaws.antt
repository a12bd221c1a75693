-- Lemmas: what a crash leaves while a disk is looked at, and behind that while what was found is kept.
use Rattle.std.proofs.Common.{◌≡◌, inr, ⊎_elim, ℕ, List, [], ◌∷◌}
use Rattle.journal_single.specs.Disk.{Call, Synced, MayLeave, LeavesOnly}
use Rattle.journal_single.specs.Record.{Reads, IsFound, IsReopened}
use Rattle.journal_single.specs.Looking.{IsAtMostSynced}
use Rattle.journal_single.specs.Moments.{started, stays, weaker, and_then}
use Rattle.journal_single.specs.Images.{fixes}
use Rattle.journal_single.specs.Total.{reads_any}

pub reads_found : {bytes : List ℕ} {gate : ℕ} {bodies : List (List ℕ)} → IsFound [] bytes gate bodies → Reads bytes bodies
reads_found f = record { front = f.left.front; end = f.rest; split = f.left.split; entries = f.left.entries; ended = f.ended; gate = f.left.gate }

-- what a crash may leave of a disk reads as one before it might have left it
pub reopened_here : (calls : List Call) (image : List ℕ) → MayLeave calls image → IsReopened calls image
reopened_here calls image left = let r = reads_any image in record { before = image; bodies = r.0; left = left; reads_before = r.1; reads = r.1 }

module _ {old : List Call} {seen : List ℕ} (here : MayLeave old seen) where
  -- while a disk is looked at
  pub looked_leaves : {new : List Call} → IsAtMostSynced seen old new → LeavesOnly old new (IsReopened old)
  looked_leaves {new} asked = ⊎_elim
      (λ same. stays (started old (IsReopened old) (reopened_here old)) same)
      (λ synced. weaker (IsReopened old) (fixes old new seen here synced) (reopened_here old)) asked

  -- and behind that, where the disk goes on reading as what was found
  pub kept_leaves : {mid new : List Call} {bodies : List (List ℕ)} → mid ≡ Synced seen ∷ old → Reads seen bodies
      → LeavesOnly mid new (λ image. Reads image bodies) → LeavesOnly old new (IsReopened old)
  kept_leaves {mid} {new} {bodies} synced reads keeping =
      and_then (looked_leaves (inr synced))
      (weaker (IsReopened old) keeping (λ image same. record { before = seen; bodies = bodies; left = here; reads_before = reads; reads = same }))
