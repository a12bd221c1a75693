use Rattle.std.proofs.Common.{◌≡◌, ◌++◌, ◌-◌, ◌^◌, take}
use Rattle.std.specs.List.{flat_map}
use Rattle.simplex_journal.specs.Standing.{four_bytes, entry_of}
use Rattle.simplex_journal.proofs.spelling.spell_generation.Given as goal

-- the head but for its first byte is spelled, and the entries so far
abbrev pub invariant-loop-message : goal.invariant-loop-message
invariant-loop-message g l = l.bytes.items ≡ (four_bytes (2 ^ 32 - 1) ++ four_bytes l.generation) ++ flat_map (λ message. entry_of (g.M.Write.spelling message)) (take l.message-index l.list)
