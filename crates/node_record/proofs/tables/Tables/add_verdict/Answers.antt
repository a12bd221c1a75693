use Rattle.std.proofs.Common.{◌<◌, ℕ}
use Rattle.node_record.proofs.Adding.{on_ok-map, one_more}
use Rattle.node_record.proofs.tables.Tables.add_verdict.Goals as goal

pub returns-clause-keeps : goal.returns-clause-keeps
returns-clause-keeps g c = on_ok-map c.put_view.result (λ more. λ low h k p is over. record {
  opened = k.opened;
  moment = k.moment;
  number = k.number;
  builds = k.builds;
  checks = k.checks;
  heard = k.heard;
  asks = k.asks;
  asks_now = k.asks_now;
  repeated = k.repeated;
  verdicts = λ u. one_more (λ (v : ℕ). low < v) c.args.view p.round.view u _ _ _ is over (more u) (k.verdicts u);
}) c.put_view.ensures.one_more
