use Rattle.std.proofs.lemmas.Result.{on_ok_weaker}
use Rattle.simplex_journal.proofs.Finishing.{first_finished, first_finishing, second_finished, second_finishing}
use Rattle.simplex_journal.proofs.opening.finish_chosen.Goals as goal

pub returns-then-is_first-clause-ok : goal.returns-then-is_first-clause-ok
returns-then-is_first-clause-ok g c = on_ok_weaker c.finish.result
    (λ ok h bodies k f. first_finished h _ bodies _ _ _ _ c.args.is_first c.args.is_empty f _ _ c.if-is_first.true (λ found. ok h bodies k found)) c.finish.ensures.ok

pub returns-then-is_first-clause-any_moment : goal.returns-then-is_first-clause-any_moment
returns-then-is_first-clause-any_moment g c = λ h bodies k f.
    first_finishing h _ bodies _ _ _ _ c.args.is_first c.args.is_empty f _ c.if-is_first.true (λ fixed found. c.finish.ensures.any_moment h bodies k fixed found)

pub returns-clause-ok : goal.returns-clause-ok
returns-clause-ok g c = on_ok_weaker c.finish-2.result
    (λ ok h bodies k f. second_finished h _ bodies _ _ _ _ c.args.is_first c.args.is_empty f _ _ c.if-is_first.false (λ found. ok h bodies k found)) c.finish-2.ensures.ok

pub returns-clause-any_moment : goal.returns-clause-any_moment
returns-clause-any_moment g c = λ h bodies k f.
    second_finishing h _ bodies _ _ _ _ c.args.is_first c.args.is_empty f _ c.if-is_first.false (λ fixed found. c.finish-2.ensures.any_moment h bodies k fixed found)
