use Rattle.voter_laws.proofs.Agreeing.{what_agrees_is_due_alike}
use Rattle.voter_laws.proofs.Pruning.{prune_changes_nothing, prune_keeps_timeouts}
use Rattle.voter_laws.proofs.laws.a_prune_changes_nothing_due.Goals as goal

pub returns : goal.returns
returns g c = record { agreeing = what_agrees_is_due_alike; pruned = prune_changes_nothing; timeouts = prune_keeps_timeouts }
