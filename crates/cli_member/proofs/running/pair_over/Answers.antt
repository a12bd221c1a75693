use Rattle.cli_member.proofs.Ended.{ended_status, one_of_three, silent_if_whole}
use Rattle.cli_member.proofs.running.pair_over.Goals as goal

pub returns-clause-statuses : goal.returns-clause-statuses
returns-clause-statuses g c =
    one_of_three c.drive_member-ended.result.0 c.tell.result (ended_status c.drive_member-ended.result.0 c.tell.result c.tell.ensures.whole c.tell.ensures.status)

pub returns-clause-silent : goal.returns-clause-silent
returns-clause-silent g c = silent_if_whole c.drive_member-ended.result.0 c.tell.result _ c.tell.ensures.silent c.tell.ensures.status

pub returns-clause-comes_to : goal.returns-clause-comes_to
returns-clause-comes_to g c = (
  c.drive_member-ended.result.0,
  ended_status c.drive_member-ended.result.0 c.tell.result c.tell.ensures.whole c.tell.ensures.status,
  c.tell.ensures.told,
  c.drive_member-ended.ensures.streams,
  c.drive_member-ended.ensures.comes_to,
)
