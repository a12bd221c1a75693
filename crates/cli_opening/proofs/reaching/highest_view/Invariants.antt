use Rattle.std.proofs.Common.{◌≡◌, max, length}
use Rattle.simplex_record.specs.Record.{greatest}
use Rattle.cli_opening.specs.Looking.{view_of}
use Rattle.cli_opening.proofs.reaching.highest_view.Given as goal

-- the greatest of all is that of what was seen and what is left
abbrev pub invariant-loop-artifact : goal.invariant-loop-artifact
invariant-loop-artifact l = greatest 0 view_of l.artifacts ≡ max l.highest (greatest 0 view_of l.rest)

abbrev pub decreases-loop-artifact : goal.decreases-loop-artifact
decreases-loop-artifact l = length l.rest
