use Rattle.std.proofs.Common.{rules}
use Rattle.simplex_state.specs.State.{Keeps}
use Rattle.simplex_state.proofs.Owing.{none_owed}
use Rattle.simplex_state.proofs.Waking.{none_among}
use Rattle.simplex_state.proofs.state.State.new.Goals as goal

pub returns : goal.returns
unfolding Keeps
returns g c = search (rules, none_among, none_owed)
