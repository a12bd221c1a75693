use Rattle.std.proofs.Common.{◌∙◌, List, ℕ, take, ap, subst, arith}
use Rattle.simplex_journal.specs.Generation.{IsNumber}
use Rattle.simplex_journal.proofs.Numbers.{short_none, number_front}
use Rattle.simplex_journal.proofs.number.generation_on.Goals as goal

pub returns-then-len-le-HEAD-clause-number : goal.returns-then-len-le-HEAD-clause-number
returns-then-len-le-HEAD-clause-number g c = λ k. short_none _ (omega (arith, c.if-len-le-HEAD.true, c.in_ok-len.ensures.len k))

pub returns-clause-number : goal.returns-clause-number
returns-clause-number g c = λ k.
    number_front (g.K.Disk.seen c.args.disk.now) c.generation_of.result (omega (arith, c.if-len-le-HEAD.false, c.in_ok-len.ensures.len k))
    (subst (λ (l : List ℕ). IsNumber l c.generation_of.result) (c.in_ok-read.ensures.bytes k ∙ ap (λ (l : List ℕ). take 10 l) (c.in_ok-len.ensures.seen k)) c.generation_of.ensures.number)
