use Rattle.voter_laws.proofs.Grounding.{due_notarize_is_on_ground, due_verdict_is_on_ground}
use Rattle.voter_laws.proofs.laws.what_is_due_stands_on_ground.Goals as goal

pub returns : goal.returns
returns g c = record { notarize = due_notarize_is_on_ground; verdict = due_verdict_is_on_ground }
