use Rattle.std.proofs.Common.{◌≡◌}
use Rattle.voter_history.specs.Past.{deadline}
use Rattle.simplex_round.proofs.round.Round.next_timeout.Goals as goal

pub returns-clause-keeps : goal.returns-clause-keeps
returns-clause-keeps g c = λ s l h k.
    let until : c.saturating_add.result ≡ deadline c.args.now c.args.retry_interval = c.saturating_add.ensures in
    rw until at (c.poll.ensures.keeps s l h k)

pub returns-clause-unchanged : goal.returns-clause-unchanged
returns-clause-unchanged g c = c.poll.ensures.unchanged

pub returns-clause-answer : goal.returns-clause-answer
returns-clause-answer g c = λ s l h k.
    let until : c.saturating_add.result ≡ deadline c.args.now c.args.retry_interval = c.saturating_add.ensures in
    rw until at (c.due_timeout.ensures s l _ (c.poll.ensures.keeps s l h k))
