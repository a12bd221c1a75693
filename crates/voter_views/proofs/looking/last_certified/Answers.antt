use Rattle.std.proofs.Common.{◌<◌, ⊎_elim, arith}
use Rattle.std.proofs.lemmas.Bool.{cases_lt}
use Rattle.voter_rounds.specs.Laws.{Shows-some}
use Rattle.voter_history.specs.Pasts.{is_certified}
use Rattle.voter_history.specs.History.{seen}
use Rattle.voter_views.proofs.Walking.{behind_start, last_before}
use Rattle.voter_views.proofs.looking.last_certified.Goals as goal

pub returns-clause-before : goal.returns-clause-before
returns-clause-before g c =
    let some : 0 < c.args.end = ⊎_elim (λ lt. lt) (λ le. absurd (cc (c.in-Some.ensures.none.1 (omega (arith, le))))) (cases_lt 0 c.args.end) in
    let before : c.in-Some.below < c.args.end = omega (arith, c.in-Some.ensures.before, some) in
    let marked = Shows-some c.bearing.result.now in
    last_before marked.0 c.new.result c.in-Some.below c.args.end c.last_within.result before (c.last_within.ensures marked.0 marked.1)

pub returns-clause-certified : goal.returns-clause-certified
returns-clause-certified g c = λ s h kept.
    behind_start (λ u. is_certified (seen s h u)) _ _ c.args.end c.last_within.result c.new.ensures c.in-Some.ensures.before
    (c.last_within.ensures (λ u. is_certified (seen s h u)) (c.bearing.ensures s h kept))
