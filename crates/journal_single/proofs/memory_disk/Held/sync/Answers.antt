use Rattle.std.proofs.Common.{ℕ, is_ok, List, ◌∷◌, ◌∙◌, ap}
use Rattle.journal_single.specs.Disk.{Synced}
use Rattle.journal_single.specs.MemoryDisk.{told}
use Rattle.journal_single.specs.declared.memory_disk.Made.TheVariants as made
use Rattle.journal_single.proofs.Held.{IsHeld, is_held, held_synced, held_either, calls-push}
use Rattle.journal_single.proofs.memory_disk.Held.sync.Goals as goal

pub invariant_of-self : goal.invariant_of-self
invariant_of-self c =
    let after : IsHeld (told c.push.new.self.items) c.args.self.now.bytes.items = held_either (is_ok c.push.result) c.args.self.now.calls.items _ made.Synced _ c.push.ensures.items (held_synced _ _ (is_held c.args.self.now)) (is_held c.args.self.now) in
    record { is_told = after.is_told; is_left = after.is_left }

pub returns-clause-calls : goal.returns-clause-calls
returns-clause-calls c = calls-push _ _ _ c.in_ok-push.ensures.items ∙ ap (λ (l : List ℕ). Synced l ∷ (told c.args.self.now.calls.items).calls) c.args.self.now.is_told
