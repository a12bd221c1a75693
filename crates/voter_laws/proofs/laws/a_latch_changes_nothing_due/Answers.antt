use Rattle.voter_laws.proofs.Quiet.{base_changes_floor_alone, leaders_are_closed, latch_changes_nothing, poll_changes_nothing, send_changes_nothing, repetition_changes_nothing}
use Rattle.voter_laws.proofs.laws.a_latch_changes_nothing_due.Goals as goal

pub returns : goal.returns
returns g c = record { latch = latch_changes_nothing; poll = poll_changes_nothing; sent = send_changes_nothing; repetition = repetition_changes_nothing; based = base_changes_floor_alone; leaders = leaders_are_closed }
