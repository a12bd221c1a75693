use Rattle.std.proofs.Common.{◌≡◌, ◌+◌, ◌-◌, ◌^◌, ◌<◌, ℕ, length, take, get_or, map}
use Rattle.journal_single.specs.Record.{end_of}
use Rattle.simplex_journal.proofs.spelling.is_short.Given as goal

-- the gate stands behind the entries so far, and each of them is short
abbrev pub invariant-loop-message : goal.invariant-loop-message
invariant-loop-message g l =
    (l.gate ≡ 9 + end_of (map g.M.Write.spelling (take l.message-index l.list)))
    × (l.gate < 2 ^ 63)
    × ((k : ℕ) (d : g.row.M.Denot) → k < l.message-index → length (g.M.Write.spelling (get_or l.list k d)) < 2 ^ 32 - 1)
    × ((k : ℕ) (d : g.row.M.Denot) → k < l.message-index → g.M.Write.fits (get_or l.list k d))
