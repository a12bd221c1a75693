use Rattle.std.proofs.Common.{◌≡◌, max, length}
use Rattle.simplex_record.specs.Record.{entries, finalizes, greatest}
use Rattle.cli_opening.proofs.reaching.last_finalized.Given as goal

-- the greatest of all is that of what was seen and what is left
abbrev pub invariant-loop-artifact : goal.invariant-loop-artifact
invariant-loop-artifact l = greatest 0 finalizes (entries l.artifacts) ≡ max l.highest (greatest 0 finalizes (entries l.rest))

abbrev pub decreases-loop-artifact : goal.decreases-loop-artifact
decreases-loop-artifact l = length l.rest
