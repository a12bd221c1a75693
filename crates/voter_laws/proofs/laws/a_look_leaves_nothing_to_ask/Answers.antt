use Rattle.voter_laws.proofs.Steady.{scan_changes_nothing, scan_leaves_nothing, scan_gives_up, scan_leaves_no_reason, whole_scan_leaves_nothing}
use Rattle.voter_laws.proofs.laws.a_look_leaves_nothing_to_ask.Goals as goal

pub returns : goal.returns
returns g c = record { unchanged = scan_changes_nothing; passed = scan_leaves_nothing; given_up = scan_gives_up; no_reason = scan_leaves_no_reason; whole = whole_scan_leaves_nothing }
