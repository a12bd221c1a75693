use Rattle.std.proofs.Common.{[]}
use Rattle.journal_single.specs.Moments.{and_then, weaker}
use Rattle.simplex_journal.proofs.WritingOver.{cleared_passes, marked_passes}
use Rattle.simplex_journal.proofs.writing.write_generation.Goals as goal

pub returns-in_err-clear-clause-any_moment : goal.returns-in_err-clear-clause-any_moment
returns-in_err-clear-clause-any_moment g c = λ is_first n k x passed.
    weaker _ (c.clear.ensures.any_moment k x) (cleared_passes is_first n _ c.args.bytes.now passed)

pub returns-in_err-put_marked-clause-any_moment : goal.returns-in_err-put_marked-clause-any_moment
returns-in_err-put_marked-clause-any_moment g c = λ is_first n k x passed.
    and_then (weaker _ (c.clear.ensures.any_moment k x) (cleared_passes is_first n _ c.args.bytes.now passed))
    (weaker _ (c.put_marked.ensures.any_moment [] k (c.in_ok-clear.ensures.ok k)) (marked_passes is_first n _ c.args.bytes.now passed))

pub returns-clause-any_moment : goal.returns-clause-any_moment
returns-clause-any_moment g c = λ is_first n k x passed.
    and_then (weaker _ (c.clear.ensures.any_moment k x) (cleared_passes is_first n _ c.args.bytes.now passed))
    (weaker _ (c.put_marked.ensures.any_moment [] k (c.in_ok-clear.ensures.ok k)) (marked_passes is_first n _ c.args.bytes.now passed))

pub returns-clause-ok : goal.returns-clause-ok
returns-clause-ok g c = λ k. c.in_ok-put_marked.ensures.ok [] k (c.in_ok-clear.ensures.ok k)
