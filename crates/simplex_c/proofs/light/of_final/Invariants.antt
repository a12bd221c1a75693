use Rattle.std.proofs.Common.{◌≡◌, ◌++◌, length, map}
use Rattle.simplex_c.specs.Light.{proposal_numbers}
use Rattle.simplex_c.proofs.light.of_final.Given as goal

-- what was told, and what is left to tell, are together all
abbrev pub invariant-loop-proposal : goal.invariant-loop-proposal
invariant-loop-proposal l = l.told.items ++ map (proposal_numbers 2) l.rest ≡ map (proposal_numbers 2) l.proposals

abbrev pub decreases-loop-proposal : goal.decreases-loop-proposal
decreases-loop-proposal l = length l.rest
