use Rattle.std.proofs.Common.{◌≡◌, Some, refl, arith}
use Rattle.std.proofs.lemmas.Bool.Decides.{nat_tests}
use Rattle.types_core.specs.LatestFirst.{stored}
use Rattle.voter_rounds.proofs.rounds.Rounds.has.Goals as goal

pub returns-then-eq : goal.returns-then-eq
returns-then-eq g c =
    let same : c.in-Some.last.now.0 ≡ c.args.view = grind (arith, nat_tests, c.eq.ensures, c.if-eq.true) in
    let there : stored c.args.self.now.by_view c.args.view ≡ Some c.in-Some.field-0-1.now = rw same at c.in-Some.ensures.value in
    rw there refl
