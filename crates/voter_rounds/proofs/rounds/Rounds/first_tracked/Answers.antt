use Rattle.std.proofs.Common.{◌≡◌, ◌<◌, refl, arith}
use Rattle.std.proofs.lemmas.Bool.Decides.{nat_tests}
use Rattle.voter_rounds.specs.Rounds.{Keep}
use Rattle.voter_rounds.proofs.Choices.{false_is_not}
use Rattle.voter_rounds.proofs.Dropping.{none_in_empty}
use Rattle.voter_rounds.proofs.Finding.{first_is, none_behind, none_of_all}
use Rattle.voter_rounds.proofs.rounds.Rounds.first_tracked.Goals as goal

pub returns-in_default-clause-tracked : goal.returns-in_default-clause-tracked
unfolding Keep
returns-in_default-clause-tracked g c = λ s led past k. none_of_all k.rounds (none_in_empty c.args.self.now.by_view (λ some. false_is_not refl (c.in_default.ensures.variant.1 some))) c.args.from

pub returns-then-lt-clause-tracked : goal.returns-then-lt-clause-tracked
unfolding Keep
returns-then-lt-clause-tracked g c = λ s led past k.
    let before : c.in-Some.last.now.0 < c.args.from = grind (arith, nat_tests, c.lt.ensures, c.if-lt.true) in
    none_behind k.rounds c.in-Some.last.now.0 c.in-Some.ensures.value c.in-Some.ensures.least c.args.from before

pub returns-then-eq-clause-tracked : goal.returns-then-eq-clause-tracked
unfolding Keep
returns-then-eq-clause-tracked g c = λ s led past k.
    let same : c.in-Some.last.now.0 ≡ c.args.from = grind (arith, nat_tests, c.eq.ensures, c.if-eq.true) in
    rw same at (first_is k.rounds c.in-Some.last.now.0 c.in-Some.ensures.value c.in-Some.ensures.least c.get-number.ensures.fits)
