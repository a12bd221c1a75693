use Rattle.voter_rounds.specs.Rounds.{Keep}
use Rattle.voter_rounds.proofs.Tables.{read-stands}
use Rattle.voter_rounds.proofs.rounds.Rounds.search.Goals as goal

pub returns : goal.returns
unfolding Keep
returns g c = λ s led past k. read-stands g.S.Scheme.key_of s c.args.view (led c.args.view) (past c.args.view) c.get.result (rw c.get.ensures.value (k.rounds.at c.args.view c.get-number.ensures.fits))
