use Rattle.std.proofs.Common.{sym, ◌∙◌, ap}
use Rattle.std.specs.Prelude.{option_map}
use Rattle.types_core.specs.declared.proposal.Proposal.{Proposal}
use Rattle.voter_rules.proofs.ancestry.bound_payload.Goals as goal

pub returns-in_err-_proposal : goal.returns-in_err-_proposal
returns-in_err-_proposal g c = λ m k shown.
    rw c.from_residual.ensures (ap (option_map (λ (b : Proposal g.row.D.Denot × g.row.D.Denot). b.1)) (sym c.in_err-_proposal.was ∙ c.binding.ensures m k shown))

pub returns : goal.returns
returns g c = λ m k shown. ap (option_map (λ (b : Proposal g.row.D.Denot × g.row.D.Denot). b.1)) (sym c.in_ok-_proposal.was ∙ c.binding.ensures m k shown)
