use Rattle.simplex_cli.proofs.Statuses.{silent, status_is, statuses}
use Rattle.simplex_cli.proofs.over.node_over.Goals as goal

pub returns-clause-statuses : goal.returns-clause-statuses
returns-clause-statuses g c = statuses c.drive-ended.result.0 c.tell.result c.tell.ensures.whole c.tell.ensures.status

pub returns-clause-silent : goal.returns-clause-silent
returns-clause-silent g c = silent c.drive-ended.result.0 c.tell.result _ c.tell.ensures.silent c.tell.ensures.status

pub returns-clause-comes_to : goal.returns-clause-comes_to
returns-clause-comes_to g c = (
  c.drive-ended.result.0,
  c.drive-ended.result.1,
  status_is c.drive-ended.result.0 c.tell.result c.tell.ensures.whole c.tell.ensures.status,
  c.tell.ensures.told,
  c.drive-ended.ensures.streams,
  c.drive-ended.ensures.comes_to,
)
