use Rattle.std.proofs.Common.{refl}
use Rattle.batcher_rows.proofs.Holding.{stays-more, stays-same, tallies-as, with_rows as pushed}
use Rattle.batcher_rows.proofs.rows.Rows.extend.Goals as goal

pub returns-clause-stays : goal.returns-clause-stays
returns-clause-stays g c = stays-more c.args.self.now (pushed c.args.self.now c.push.new.self) c.new.result refl (tallies-as (pushed c.args.self.now c.push.new.self) c.args.self.now refl refl refl) c.in_ok-push.ensures.items c.new.ensures.notarize c.new.ensures.other

pub returns-in_err-push-clause-stays : goal.returns-in_err-push-clause-stays
returns-in_err-push-clause-stays g c = stays-same c.args.self.now (pushed c.args.self.now c.push.new.self) refl (tallies-as (pushed c.args.self.now c.push.new.self) c.args.self.now refl refl refl) c.in_err-push.ensures.items
