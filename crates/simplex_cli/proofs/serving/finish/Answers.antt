use Rattle.std.proofs.Common.{refl}
use Rattle.simplex_cli.proofs.Left.{ends_so, ends_whole}
use Rattle.simplex_cli.proofs.serving.finish.Goals as goal

-- behind a whole input, as the rewrite ended
pub returns-in-Ok-clause-ends : goal.returns-in-Ok-clause-ends
returns-in-Ok-clause-ends g c = rw c.in-Ok.is (ends_so tt c.shorten.result c.shorten.ensures.fault)

pub returns-in-Ok-clause-over_one : goal.returns-in-Ok-clause-over_one
returns-in-Ok-clause-over_one g c = rw c.in-Ok.is (λ runs one.
    let told = c.shorten.ensures.over_one runs one in
    (ends_whole tt c.shorten.result told.0, told.1))

pub returns-in-Ok-clause-any_moment : goal.returns-in-Ok-clause-any_moment
returns-in-Ok-clause-any_moment g c = rw c.in-Ok.is c.shorten.ensures.any_moment

-- else as the run did
pub returns-in-Err-clause-over_one : goal.returns-in-Err-clause-over_one
returns-in-Err-clause-over_one g c = rw c.in-Err.is (λ runs one. (rw c.of.ensures refl, refl))
