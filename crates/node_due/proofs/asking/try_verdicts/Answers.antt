use Rattle.std.proofs.Common.{ap, sym}
use Rattle.voter_rules.specs.declared.config.RepairPolicy.{RepairPolicy}
use Rattle.node_due.proofs.Trying.{asks, if_ok_by, was_asked}
use Rattle.node_due.proofs.asking.try_verdicts.Goals as goal

pub returns-clause-tried : goal.returns-clause-tried
returns-clause-tried g c = λ s h k.
    was_asked k c.ask_for_verdicts.new.voter c.ask_for_verdicts.new.tables c.silent_points_leave_votes.ensures.quiet c.a_ledger_at_rest_leaves_its_record.ensures
    (if_ok_by c.ask_for_verdicts.result c.ask_for_verdicts.ensures.acts (λ acted comes. comes s h (asks k) (ap (λ (p : RepairPolicy). p.again) (sym k.set_up.repair_is))))
