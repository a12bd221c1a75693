use Rattle.voter_laws.proofs.Timeouts.{current_has_timeout, current_is_seen, poll_keeps_timeout, polled_once_is_polled, timeout_is_earliest}
use Rattle.voter_laws.proofs.laws.the_timeout_is_the_earliest.Goals as goal

pub returns : goal.returns
returns g c = record { seen = current_is_seen; there = current_has_timeout; earliest = timeout_is_earliest; kept = poll_keeps_timeout; once = polled_once_is_polled }
