use Rattle.std.proofs.Common.{◌<◌, refl}
use Rattle.simplex_member.specs.declared.asked.Asked.{Asked}
use Rattle.node_record.specs.Tables.{asked_cmp}
use Rattle.node_record.proofs.Adding.{on_err, one_more, one_more_of_all, same_of_all, taken_back}
use Rattle.node_record.proofs.tables.Tables.add_ask.Goals as goal

pub returns-in-Ok-clause-keeps : goal.returns-in-Ok-clause-keeps
returns-in-Ok-clause-keeps g c = λ low h k above. record {
  opened = k.opened;
  moment = k.moment;
  number = k.number;
  builds = k.builds;
  checks = k.checks;
  heard = k.heard;
  asks = λ a. one_more (λ (x : Asked). low < x.view) c.args.asked c.args.asked a _ _ _ refl above (c.in-Ok.ensures.one_more a) (k.asks a);
  asks_now = λ a. one_more_of_all c.args.asked a _ _ _ (c.in_ok-is_new.ensures.one_more a) (k.asks_now a);
  repeated = k.repeated;
  verdicts = k.verdicts;
}

pub returns-in_err-is_new-clause-memory : goal.returns-in_err-is_new-clause-memory
returns-in_err-is_new-clause-memory g c = on_err c.from_residual.result _ (λ low h k. record {
  opened = k.opened;
  moment = k.moment;
  number = k.number;
  builds = k.builds;
  checks = k.checks;
  heard = k.heard;
  asks = k.asks;
  asks_now = λ a. same_of_all _ _ _ (c.in_err-is_new.ensures.memory a) (k.asks_now a);
  repeated = k.repeated;
  verdicts = k.verdicts;
})

pub returns-else-is_new-clause-memory : goal.returns-else-is_new-clause-memory
returns-else-is_new-clause-memory g c = λ low h k. record {
  opened = k.opened;
  moment = k.moment;
  number = k.number;
  builds = k.builds;
  checks = k.checks;
  heard = k.heard;
  asks = λ a. same_of_all _ _ _ (c.in-Err.ensures.memory a) (k.asks a);
  asks_now = λ a. same_of_all _ _ _ (c.in_ok-is_new.ensures.known c.if-is_new.false a) (k.asks_now a);
  repeated = k.repeated;
  verdicts = k.verdicts;
}

pub returns-then-is_new-clause-memory : goal.returns-then-is_new-clause-memory
returns-then-is_new-clause-memory g c = λ low h k. record {
  opened = k.opened;
  moment = k.moment;
  number = k.number;
  builds = k.builds;
  checks = k.checks;
  heard = k.heard;
  asks = λ a. same_of_all _ _ _ (c.in-Err.ensures.memory a) (k.asks a);
  asks_now = λ a. taken_back asked_cmp c.args.asked a c.args.self.now.asks_now c.put_ask.new.asks c.take_ask.new.asks _ (c.in_ok-is_new.ensures.is_new.0 c.if-is_new.true) (c.in_ok-is_new.ensures.one_more a) (c.take_ask.ensures a) (k.asks_now a);
  repeated = k.repeated;
  verdicts = k.verdicts;
}
