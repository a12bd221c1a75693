use Rattle.simplex_member.proofs.Based.{still-nothing-due}
use Rattle.simplex_member.proofs.laws.rewrites_leave_nothing_due.Goals as goal

pub returns : goal.returns
returns g c = λ f s h x none. still-nothing-due g.S.Scheme f s c.a_latch_changes_nothing_due.ensures.based h x none
