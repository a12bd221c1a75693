use Rattle.std.proofs.lemmas.Result.{on_ok_weaker}
use Rattle.simplex_journal.proofs.Rewriting.{second_written, second_writing, first_written, first_writing}
use Rattle.simplex_journal.proofs.disks.rewrite_other.Goals as goal

pub returns-then-is_first-clause-ok : goal.returns-then-is_first-clause-ok
returns-then-is_first-clause-ok g c = on_ok_weaker c.write_generation.result
    (λ ok h gate old new k r s. second_written h gate _ _ _ _ _ old new s c.args.is_first c.if-is_first.true r (ok k)) c.write_generation.ensures.ok

pub returns-then-is_first-clause-any_moment : goal.returns-then-is_first-clause-any_moment
returns-then-is_first-clause-any_moment g c = λ h gate old new k r s.
    second_writing h gate _ _ _ _ _ old new s c.args.is_first c.if-is_first.true r (λ flag n fixed passed. c.write_generation.ensures.any_moment flag n k fixed passed)

pub returns-clause-ok : goal.returns-clause-ok
returns-clause-ok g c = on_ok_weaker c.write_generation-2.result
    (λ ok h gate old new k r s. first_written h gate _ _ _ _ _ old new s c.args.is_first c.if-is_first.false r (ok k)) c.write_generation-2.ensures.ok

pub returns-clause-any_moment : goal.returns-clause-any_moment
returns-clause-any_moment g c = λ h gate old new k r s.
    first_writing h gate _ _ _ _ _ old new s c.args.is_first c.if-is_first.false r (λ flag n fixed passed. c.write_generation-2.ensures.any_moment flag n k fixed passed)
