use Rattle.node_record.proofs.Adding.{left_above}
use Rattle.node_record.proofs.tables.Tables.forget.Goals as goal

pub returns : goal.returns
returns g c = λ low h k le. record {
  opened = k.opened;
  moment = k.moment;
  number = k.number;
  builds = k.builds;
  checks = k.checks;
  heard = k.heard;
  asks = λ a. left_above low c.args.last a.view _ _ _ le (c.forget_asks.ensures.gone a) (c.forget_asks.ensures.kept a) (k.asks a);
  asks_now = k.asks_now;
  repeated = k.repeated;
  verdicts = λ u. left_above low c.args.last u _ _ _ le (c.forget_views.ensures.gone u) (c.forget_views.ensures.kept u) (k.verdicts u);
}
