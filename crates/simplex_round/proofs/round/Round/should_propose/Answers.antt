use Rattle.std.proofs.Common.{sym, ◌∙◌}
use Rattle.simplex_round.specs.Round.{Keeps}
use Rattle.simplex_round.proofs.round.Round.should_propose.Goals as goal

pub returns : goal.returns
unfolding Keeps
returns g c = λ s l h k.
    let leads = (c.leads.ensures s l h k).0 c.if-not-leads.false in
    let free = c.should_build.ensures _ k.proposal in
    (λ yes. record { leads = leads; not_given_up = sym k.nullify ∙ c.if-self.false; is_open = free.0 yes }, λ all. free.1 all.is_open)
