use Rattle.std.proofs.Common.{ℕ, List, ◌∷◌, length, IsOk, ◌∙◌, ap, arith}
use Rattle.journal_single.specs.Disk.{Wrote}
use Rattle.journal_single.specs.MemoryDisk.{told}
use Rattle.journal_single.proofs.Held.{IsHeld, is_held, held_written, held-push, calls-push}
use Rattle.journal_single.proofs.memory_disk.Held.write.Goals as goal

pub invariant_of-self-2 : goal.invariant_of-self-2
invariant_of-self-2 c =
    let kept : IsOk c.push.result = c.push.ensures.succeeds (omega (arith, c.in_ok-reserve.ensures.ok)) in
    let after : IsHeld (told c.push.new.self.items) c.overwrite.new.held.items = held-push _ _ _ _ (rw (kept, c.reserve.ensures.items) at c.push.ensures.items) (held_written _ _ _ _ _ _ (is_held c.args.self.now) c.requires c.in_ok-kept.ensures.items c.in_ok-overwrite.ensures.written) in
    record { is_told = after.is_told; is_left = after.is_left }

pub returns-clause-calls : goal.returns-clause-calls
returns-clause-calls c = calls-push _ _ _ (rw (c.unwrap.ensures, c.reserve.ensures.items) at c.push.ensures.items) ∙ ap (λ (l : List ℕ). Wrote c.args.at (length l) ∷ (told c.args.self.now.calls.items).calls) c.in_ok-kept.ensures.items
