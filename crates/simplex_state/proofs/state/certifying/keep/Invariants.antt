use Rattle.std.proofs.Common.{take}
use Rattle.std.specs.Prelude.{Contains, IsTrue}
use Rattle.std.specs.Ordering.{nat_cmp}
use Rattle.std.specs.BTreeSet.{contains}
use Rattle.types_core.specs.declared.proposal.Proposal.{Proposal}
use Rattle.simplex_state.proofs.state.certifying.keep.Given as goal

abbrev pub invariant-loop-proposal : goal.invariant-loop-proposal
invariant-loop-proposal g l = (p : Proposal g.row.D.Denot) → Contains (take l.proposal-index l.ready) p → IsTrue (contains nat_cmp l.candidates p.round.view)
