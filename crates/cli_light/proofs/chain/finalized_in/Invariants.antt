use Rattle.std.proofs.Common.{◌≡◌, ◌≤◌, length}
use Rattle.cli_light.specs.Chain.{IsChain, last_view}
use Rattle.cli_light.proofs.chain.finalized_in.Given as goal

-- a chain goes up to what is left, and the last of its views is known
abbrev pub invariant-loop-rest : goal.invariant-loop-rest
invariant-loop-rest l = record {
  chain : IsChain l.committee 0 l.bytes l.found.items l.rest;
  above : l.above ≡ last_view 0 l.found.items;
  left : length l.rest ≤ length l.bytes;
}

abbrev pub decreases-loop-rest : goal.decreases-loop-rest
decreases-loop-rest l = length l.rest
