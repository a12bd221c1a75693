use Rattle.simplex_member.specs.Recorded.{recorded_by}
use Rattle.simplex_member.proofs.Allowing.{begun-allowed}
use Rattle.simplex_member.proofs.Grounding.{Stands, stands}
use Rattle.simplex_member.proofs.Lists.{if-some}
use Rattle.simplex_member.proofs.laws.records_stand_on_ground.Goals as goal

pub returns : goal.returns
returns g c = λ f s exact h points p x goes more mine a begun is.
    if-some (Stands g.S.Scheme f s c.what_is_known_is_recorded.ensures c.what_is_due_stands_on_ground.ensures.verdict more c.what_is_due_stands_on_ground.ensures.notarize (c.rounds_obey.ensures f exact) mine h) (recorded_by p) x
    (stands g.S.Scheme f s c.what_is_known_is_recorded.ensures c.what_is_due_stands_on_ground.ensures.verdict more c.what_is_due_stands_on_ground.ensures.notarize (c.rounds_obey.ensures f exact) mine h (begun-allowed g.S.Scheme f s points h goes) p a begun) is
