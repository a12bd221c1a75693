use Rattle.std.proofs.Common.{◌≡◌, ◌∙◌, ◌≤◌, ◌<◌, refl, arith, ap, length}
use Rattle.std.specs.Vec.{with_items}
use Rattle.std.proofs.lemmas.List.{with_items_is}
use Rattle.batcher_rows.specs.Rows.{each_cell, settled}
use Rattle.batcher_rows.proofs.Shuffling.{walked-step, walked-done}
use Rattle.batcher_rows.proofs.Holding.{each-stays, settled-vote, settled-anew}
use Rattle.batcher_rows.proofs.rows.Rows.settle.Goals as goal

pub loop-row-preserved : goal.loop-row-preserved
loop-row-preserved g c = λ ascending. let within : c.loop-row.row-index < length c.loop-row.row-items = omega arith in walked-step (each_cell (settled c.args.kind c.args.failing.now)) c.args.self.now.rows.items c.loop-row.row-items c.loop-row.row-index c.row-item.result _ within (c.settle.ensures ascending) (c.loop-row.invariant ascending)

pub returns-clause-places : goal.returns-clause-places
returns-clause-places g c = λ ascending.
    let ended : length c.loop-row.row-items ≤ c.loop-row.row-index = omega arith in
    let whole : length c.loop-row.row-items ≡ c.args.self.now.rows.len = omega (arith, c.deref_mut-row-items.ensures.len) in
    let items = with_items_is c.args.self.now.rows c.loop-row.row-items whole ∙ walked-done (each_cell (settled c.args.kind c.args.failing.now)) c.args.self.now.rows.items c.loop-row.row-items c.loop-row.row-index ended (c.loop-row.invariant ascending) in
    each-stays (settled c.args.kind c.args.failing.now) (settled-vote c.args.kind c.args.failing.now) c.args.self.now c.recount.new.self c.recount.ensures.members (ap (λ v. v.items) c.recount.ensures.rows ∙ items)

pub returns-clause-kinds : goal.returns-clause-kinds
returns-clause-kinds g c = λ ascending k complete wait sure is.
    let ended : length c.loop-row.row-items ≤ c.loop-row.row-index = omega arith in
    let whole : length c.loop-row.row-items ≡ c.args.self.now.rows.len = omega (arith, c.deref_mut-row-items.ensures.len) in
    let items = with_items_is c.args.self.now.rows c.loop-row.row-items whole ∙ walked-done (each_cell (settled c.args.kind c.args.failing.now)) c.args.self.now.rows.items c.loop-row.row-items c.loop-row.row-index ended (c.loop-row.invariant ascending) in
    settled-anew c.args.kind c.args.failing.now k c.args.self.now (record { members = c.args.self.now.members; rows = with_items c.args.self.now.rows c.loop-row.row-items; notarizes = c.args.self.now.notarizes; nullifies = c.args.self.now.nullifies; finalizes = c.args.self.now.finalizes }) c.recount.new.self complete wait sure is (ap (λ v. v.items) c.recount.ensures.rows ∙ items) refl refl refl c.recount.ensures.rows (c.recount.ensures.tallies k)
