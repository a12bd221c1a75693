use Rattle.std.proofs.Common.{◌≡◌, ◌-◌}
use Rattle.simplex_types.specs.AttestationList.{ascending_at}
use Rattle.simplex_types.proofs.Ascending.{with_front}
use Rattle.simplex_types.proofs.attestation_list.read_ascending.Given as goal

-- what was read before, with what is still to be read, is what reading gives
abbrev pub invariant-loop : goal.invariant-loop
invariant-loop g l = with_front l.attestations.items (ascending_at (g.G.Read.reading l.bound) l.bound (l.count - l.counter) l.low l.rest) ≡ ascending_at (g.G.Read.reading l.bound) l.bound l.count 0 l.fn.input.now
