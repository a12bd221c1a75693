use Rattle.std.proofs.lemmas.Result.{on_ok_weaker}
use Rattle.simplex_journal.proofs.Entering.{first_entered, second_entered, first_entering, second_entering, first_one, second_one}
use Rattle.simplex_journal.proofs.disks.add_entry.Goals as goal

pub returns-then-is_first-clause-ok : goal.returns-then-is_first-clause-ok
returns-then-is_first-clause-ok g c = on_ok_weaker c.put_marked.result
    (λ ok h bodies body k r s. first_entered h _ _ _ _ body _ _ bodies s c.args.is_first c.if-is_first.true r (λ base closed. ok base k closed)) c.put_marked.ensures.ok

pub returns-then-is_first-clause-any_moment : goal.returns-then-is_first-clause-any_moment
returns-then-is_first-clause-any_moment g c = λ h bodies body k r s short.
    first_entering h _ _ _ _ body _ _ bodies s short c.args.is_first c.if-is_first.true r (λ base closed. c.put_marked.ensures.any_moment base k closed)

pub returns-clause-ok : goal.returns-clause-ok
returns-clause-ok g c = on_ok_weaker c.put_marked-2.result
    (λ ok h bodies body k r s. second_entered h _ _ _ _ body _ _ bodies s c.args.is_first c.if-is_first.false r (λ base closed. ok base k closed)) c.put_marked-2.ensures.ok

pub returns-clause-any_moment : goal.returns-clause-any_moment
returns-clause-any_moment g c = λ h bodies body k r s short.
    second_entering h _ _ _ _ body _ _ bodies s short c.args.is_first c.if-is_first.false r (λ base closed. c.put_marked-2.ensures.any_moment base k closed)

pub returns-then-is_first-clause-one_disk : goal.returns-then-is_first-clause-one_disk
returns-then-is_first-clause-one_disk g c = λ h bodies body k r s short.
    first_one h _ _ _ _ body _ _ bodies s short c.args.is_first c.if-is_first.true r (λ base closed. c.put_marked.ensures.any_moment base k closed)

pub returns-clause-one_disk : goal.returns-clause-one_disk
returns-clause-one_disk g c = λ h bodies body k r s short.
    second_one h _ _ _ _ body _ _ bodies s short c.args.is_first c.if-is_first.false r (λ base closed. c.put_marked-2.ensures.any_moment base k closed)
