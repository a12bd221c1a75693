use Rattle.std.proofs.Common.{option_map, refl}
use Rattle.simplex_member.specs.Asked.{next_number}
use Rattle.node_record.specs.Tables.{build_parts}
use Rattle.node_record.proofs.Adding.{one_further, under_number}
use Rattle.node_record.proofs.tables.Tables.add_build.Goals as goal

pub returns-clause-keeps : goal.returns-clause-keeps
returns-clause-keeps g c = λ low h k. record {
  opened = k.opened;
  moment = k.moment;
  number = one_further c.args.self.now.number (next_number h) _ c.saturating_add-self.ensures k.number (c.requires low h k);
  builds = λ n. under_number (option_map build_parts) c.args.self.now.number n c.args.building _ _ _ _ refl (c.in_ok-insert.ensures.updates.0 n) (k.builds n);
  checks = k.checks;
  heard = k.heard;
  asks = k.asks;
  asks_now = k.asks_now;
  repeated = k.repeated;
  verdicts = k.verdicts;
}
