use Rattle.std.proofs.Common.{sym, ◌∙◌, ap}
use Rattle.std.specs.Option.{option_or}
use Rattle.voter_history.specs.Past.{elapsed, entered_at}
use Rattle.simplex_round.specs.Round.{Keeps}
use Rattle.simplex_round.proofs.round.Round.elapsed_since_start.Goals as goal

pub returns-in-None : goal.returns-in-None
unfolding Keeps
returns-in-None g c = λ s l h k.
    c.elapsed_since_entry.ensures s l h k ∙ ap (λ own. elapsed c.args.now (option_or own (entered_at h))) (sym c.in-None.is ∙ k.proposed)
