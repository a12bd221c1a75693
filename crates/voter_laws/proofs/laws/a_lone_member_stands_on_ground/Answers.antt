use Rattle.voter_laws.proofs.Alone.{due_notarize_is_on_ground_or_next, due_verdict_of_one_is_on_ground, ground_stays}
use Rattle.voter_laws.proofs.laws.a_lone_member_stands_on_ground.Goals as goal

pub returns : goal.returns
returns g c = record { notarize = due_notarize_is_on_ground_or_next; verdict = due_verdict_of_one_is_on_ground; stays = ground_stays }
