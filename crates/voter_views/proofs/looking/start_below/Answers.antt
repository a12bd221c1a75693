use Rattle.std.proofs.Common.{◌<◌, ⊎_elim, sym, ◌∙◌, arith}
use Rattle.std.proofs.lemmas.Bool.{both_ways, cases_lt}
use Rattle.voter_views.specs.Views.{Keeps}
use Rattle.voter_views.proofs.looking.start_below.Goals as goal

pub returns-in-Some : goal.returns-in-Some
unfolding Keeps
returns-in-Some g c = λ s h kept.
    let some : 0 < c.args.view = ⊎_elim (λ lt. lt) (λ le. absurd (both_ways c.is_zero.result c.if-is_zero.false (c.is_zero.ensures.1 (omega (arith, le))))) (cases_lt 0 c.args.view) in
    (c.zero.ensures, some, sym kept.genesis ∙ c.in-Some.is)

pub returns-in-None : goal.returns-in-None
unfolding Keeps
returns-in-None g c = λ s h kept some. sym kept.genesis ∙ c.in-None.is
