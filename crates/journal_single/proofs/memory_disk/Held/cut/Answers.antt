use Rattle.journal_single.specs.MemoryDisk.{told}
use Rattle.journal_single.proofs.Held.{IsHeld, is_held, held_cut, held-push, calls-push}
use Rattle.journal_single.proofs.memory_disk.Held.cut.Goals as goal

pub invariant_of-self-2 : goal.invariant_of-self-2
invariant_of-self-2 c =
    let after : IsHeld (told c.push.new.self.items) c.truncate.new.self.items = held-push _ _ _ _ c.in_ok-push.ensures.items (held_cut _ _ _ _ (is_held c.args.self.now) c.requires c.truncate.ensures.items) in
    record { is_told = after.is_told; is_left = after.is_left }

pub returns-clause-calls : goal.returns-clause-calls
returns-clause-calls c = calls-push _ _ _ c.in_ok-push.ensures.items
