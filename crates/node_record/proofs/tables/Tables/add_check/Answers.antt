use Rattle.std.proofs.Common.{ℕ, Option, Some, ap, sym}
use Rattle.simplex_member.specs.Asked.{next_number}
use Rattle.node_record.proofs.Adding.{one_further, under_number}
use Rattle.node_record.proofs.tables.Tables.add_check.Goals as goal

pub returns-clause-keeps : goal.returns-clause-keeps
returns-clause-keeps g c = λ low h k context p at. record {
  opened = k.opened;
  moment = k.moment;
  number = one_further c.args.self.now.number (next_number h) _ c.saturating_add-self.ensures k.number (c.requires low h k);
  builds = k.builds;
  checks = λ n. under_number (λ (o : Option ℕ). o) c.args.self.now.number n c.args.view context.round.view _ _ _ (ap (λ (v : ℕ). Some v) (sym at)) (c.in_ok-insert.ensures.updates.0 n) (k.checks n);
  heard = k.heard;
  asks = k.asks;
  asks_now = k.asks_now;
  repeated = k.repeated;
  verdicts = k.verdicts;
}
