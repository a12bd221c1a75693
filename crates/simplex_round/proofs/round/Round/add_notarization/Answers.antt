use Rattle.std.proofs.Common.{rules}
use Rattle.simplex_round.specs.Round.{Keeps}
use Rattle.simplex_round.proofs.round.Round.add_notarization.Goals as goal

pub returns-clause-keeps : goal.returns-clause-keeps
unfolding Keeps
returns-clause-keeps g c = λ s l h k.
    let now = c.add_recovered_proposal-key.ensures.keeps s l h k in
    search (rules, now)
