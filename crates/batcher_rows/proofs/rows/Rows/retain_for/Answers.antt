use Rattle.std.proofs.Common.{◌≡◌, ◌∙◌, ◌≤◌, ◌<◌, refl, arith, ap, length}
use Rattle.std.specs.Prelude.{Some}
use Rattle.std.specs.Vec.{with_items}
use Rattle.std.proofs.lemmas.List.{with_items_is}
use Rattle.batcher_rows.specs.Votes.{is_candidate}
use Rattle.batcher_rows.specs.Rows.{each_cell, kept}
use Rattle.batcher_rows.proofs.Shuffling.{walked-step, walked-done}
use Rattle.batcher_rows.proofs.Holding.{each-stays, kept-vote, kept-anew}
use Rattle.batcher_rows.proofs.rows.Rows.retain_for.Goals as goal

pub loop-row-preserved : goal.loop-row-preserved
loop-row-preserved g c = let within : c.loop-row.row-index < length c.loop-row.row-items = omega arith in walked-step (each_cell (kept (is_candidate g.D.PartialEq.eq (Some c.args.proposal.now)))) c.args.self.now.rows.items c.loop-row.row-items c.loop-row.row-index c.row-item.result _ within c.retain_for.ensures c.loop-row.invariant

pub returns-clause-places : goal.returns-clause-places
returns-clause-places g c =
    let q = is_candidate g.D.PartialEq.eq (Some c.args.proposal.now) in
    let ended : length c.loop-row.row-items ≤ c.loop-row.row-index = omega arith in
    let whole : length c.loop-row.row-items ≡ c.args.self.now.rows.len = omega (arith, c.deref_mut-row-items.ensures.len) in
    let items = with_items_is c.args.self.now.rows c.loop-row.row-items whole ∙ walked-done (each_cell (kept q)) c.args.self.now.rows.items c.loop-row.row-items c.loop-row.row-index ended c.loop-row.invariant in
    each-stays (kept q) (kept-vote q) c.args.self.now c.recount-3.new.self (c.recount-3.ensures.members ∙ c.recount-2.ensures.members ∙ c.recount.ensures.members)
    (ap (λ v. v.items) (c.recount-3.ensures.rows ∙ c.recount-2.ensures.rows ∙ c.recount.ensures.rows) ∙ items)

pub returns-clause-kinds : goal.returns-clause-kinds
returns-clause-kinds g c = λ kind complete wait sure k.
    let q = is_candidate g.D.PartialEq.eq (Some c.args.proposal.now) in
    let ended : length c.loop-row.row-items ≤ c.loop-row.row-index = omega arith in
    let whole : length c.loop-row.row-items ≡ c.args.self.now.rows.len = omega (arith, c.deref_mut-row-items.ensures.len) in
    let items = with_items_is c.args.self.now.rows c.loop-row.row-items whole ∙ walked-done (each_cell (kept q)) c.args.self.now.rows.items c.loop-row.row-items c.loop-row.row-index ended c.loop-row.invariant in
    kept-anew q kind c.args.self.now (record { members = c.args.self.now.members; rows = with_items c.args.self.now.rows c.loop-row.row-items; notarizes = c.args.self.now.notarizes; nullifies = c.args.self.now.nullifies; finalizes = c.args.self.now.finalizes }) c.recount.new.self c.recount-2.new.self c.recount-3.new.self complete wait sure k
    (ap (λ v. v.items) (c.recount-3.ensures.rows ∙ c.recount-2.ensures.rows ∙ c.recount.ensures.rows) ∙ items)
    refl refl refl c.recount.ensures.rows c.recount-2.ensures.rows c.recount-3.ensures.rows c.recount.ensures.tallies c.recount-2.ensures.tallies c.recount-3.ensures.tallies
