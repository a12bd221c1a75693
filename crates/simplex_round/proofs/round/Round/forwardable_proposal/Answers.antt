use Rattle.std.proofs.Common.{sym, ◌∙◌, ap}
use Rattle.std.specs.Prelude.{Option, None, is_some, if◌then◌else◌}
use Rattle.voter_history.specs.Held.{held}
use Rattle.voter_history.specs.Past.{offers}
use Rattle.simplex_round.proofs.round.Round.forwardable_proposal.Goals as goal

pub returns-in-Some : goal.returns-in-Some
returns-in-Some g c = λ s l h k.
    c.proposal.ensures s l h k ∙ ap (λ (payload : Option g.row.D.Denot). if is_some payload then held (offers h) else None) (sym c.in-Some.is ∙ c.certificate_ancestry_payload.ensures s l h k)

pub returns-in-None : goal.returns-in-None
returns-in-None g c = λ s l h k.
    ap (λ (payload : Option g.row.D.Denot). if is_some payload then held (offers h) else None) (sym c.in-None.is ∙ c.certificate_ancestry_payload.ensures s l h k)
