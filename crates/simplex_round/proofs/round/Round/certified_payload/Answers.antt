use Rattle.std.proofs.Common.{sym, ◌∙◌, ap}
use Rattle.std.specs.Prelude.{option_map}
use Rattle.types_core.specs.declared.proposal.Proposal.{Proposal}
use Rattle.simplex_round.proofs.round.Round.certified_payload.Goals as goal

pub returns-in-Some : goal.returns-in-Some
returns-in-Some g c = λ s l h k.
    ap (option_map (λ (p : Proposal g.row.D.Denot). p.payload)) (sym c.in-Some.is ∙ c.certified_proposal.ensures s l h k)

pub returns-in-None : goal.returns-in-None
returns-in-None g c = λ s l h k.
    ap (option_map (λ (p : Proposal g.row.D.Denot). p.payload)) (sym c.in-None.is ∙ c.certified_proposal.ensures s l h k)
