use Rattle.std.proofs.Common.{ℕ, List, ◌∷◌, [], ◌∙◌, ap, sym}
use Rattle.journal_single.specs.Disk.{Synced}
use Rattle.journal_single.specs.MemoryDisk.{told}
use Rattle.journal_single.proofs.Held.{IsHeld, held_begun, held-push, calls-push}
use Rattle.journal_single.proofs.memory_disk.MemoryDisk.with.Goals as goal

pub invariant_of-result : goal.invariant_of-result
invariant_of-result c =
    let after : IsHeld (told c.push.new.self.items) c.in_ok-bytes.bytes.items = held-push [] _ _ _ (rw c.new-calls.ensures.items at c.in_ok-push.ensures.items) (held_begun _ _ (c.in_ok-from_slice.ensures.items ∙ sym c.in_ok-bytes.ensures.items)) in
    record { is_told = after.is_told; is_left = after.is_left }

pub returns-clause-fixed : goal.returns-clause-fixed
returns-clause-fixed c = calls-push [] _ _ (rw c.new-calls.ensures.items at c.in_ok-push.ensures.items) ∙ ap (λ (l : List ℕ). Synced l ∷ []) c.in_ok-from_slice.ensures.items
