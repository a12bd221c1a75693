use Rattle.std.proofs.Common.{◌≡◌, Some, arith}
use Rattle.std.proofs.lemmas.Bool.Decides.{nat_tests}
use Rattle.types_core.specs.LatestFirst.{stored}
use Rattle.voter_rounds.specs.Rounds.{Keep}
use Rattle.voter_rounds.proofs.rounds.Rounds.get.Goals as goal

pub returns-then-eq : goal.returns-then-eq
unfolding Keep
returns-then-eq g c = λ s led past k.
    let same : c.in-Some.last.now.0 ≡ c.args.view = grind (arith, nat_tests, c.eq.ensures, c.if-eq.true) in
    let there : stored c.args.self.now.by_view c.args.view ≡ Some c.in-Some.round.now = rw same at c.in-Some.ensures.value in
    rw there at (k.rounds.at c.args.view c.get-number.ensures.fits)
