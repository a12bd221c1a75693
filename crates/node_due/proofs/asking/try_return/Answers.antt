use Rattle.node_due.proofs.Trying.{asks, if_ok_by, was_asked}
use Rattle.node_due.proofs.asking.try_return.Goals as goal

pub returns-clause-tried : goal.returns-clause-tried
returns-clause-tried g c = λ s h k actions.
    was_asked k c.give_build_back.new.voter c.give_build_back.new.tables c.silent_points_leave_votes.ensures.quiet c.a_ledger_at_rest_leaves_its_record.ensures
    (if_ok_by c.give_build_back.result c.give_build_back.ensures.acts (λ acted comes. comes c.args.core.now.repair s h (asks k) actions))
