use Rattle.std.proofs.Common.{◌≡◌, ◌∙◌, ◌≤◌, ◌<◌, refl, arith, ap, length, not}
use Rattle.std.specs.Vec.{with_items}
use Rattle.std.proofs.lemmas.List.{with_items_is}
use Rattle.batcher_rows.specs.Votes.{is_kind, vote_kind}
use Rattle.batcher_rows.specs.Rows.{each_cell, kept}
use Rattle.batcher_rows.proofs.Shuffling.{walked-step, walked-done}
use Rattle.batcher_rows.proofs.Holding.{each-stays, kept-vote, finished-anew}
use Rattle.batcher_rows.proofs.rows.Rows.finish.Goals as goal

pub loop-row-preserved : goal.loop-row-preserved
loop-row-preserved g c = let within : c.loop-row.row-index < length c.loop-row.row-items = omega arith in walked-step (each_cell (kept (λ v. not (is_kind c.args.kind (vote_kind v))))) c.args.self.now.rows.items c.loop-row.row-items c.loop-row.row-index c.row-item.result _ within c.finish.ensures c.loop-row.invariant

pub returns-clause-places : goal.returns-clause-places
returns-clause-places g c =
    let ended : length c.loop-row.row-items ≤ c.loop-row.row-index = omega arith in
    let whole : length c.loop-row.row-items ≡ c.args.self.now.rows.len = omega (arith, c.deref_mut-row-items.ensures.len) in
    let items = with_items_is c.args.self.now.rows c.loop-row.row-items whole ∙ walked-done (each_cell (kept (λ v. not (is_kind c.args.kind (vote_kind v))))) c.args.self.now.rows.items c.loop-row.row-items c.loop-row.row-index ended c.loop-row.invariant in
    each-stays (kept (λ v. not (is_kind c.args.kind (vote_kind v)))) (kept-vote (λ v. not (is_kind c.args.kind (vote_kind v)))) c.args.self.now c.set_tally.new.self c.set_tally.ensures.members (ap (λ v. v.items) c.set_tally.ensures.rows ∙ items)

pub returns-clause-kinds : goal.returns-clause-kinds
returns-clause-kinds g c = λ k complete wait sure is.
    let ended : length c.loop-row.row-items ≤ c.loop-row.row-index = omega arith in
    let whole : length c.loop-row.row-items ≡ c.args.self.now.rows.len = omega (arith, c.deref_mut-row-items.ensures.len) in
    let items = with_items_is c.args.self.now.rows c.loop-row.row-items whole ∙ walked-done (each_cell (kept (λ v. not (is_kind c.args.kind (vote_kind v))))) c.args.self.now.rows.items c.loop-row.row-items c.loop-row.row-index ended c.loop-row.invariant in
    finished-anew c.args.kind k c.args.self.now (record { members = c.args.self.now.members; rows = with_items c.args.self.now.rows c.loop-row.row-items; notarizes = c.args.self.now.notarizes; nullifies = c.args.self.now.nullifies; finalizes = c.args.self.now.finalizes }) c.set_tally.new.self complete wait sure is (ap (λ v. v.items) c.set_tally.ensures.rows ∙ items) refl refl refl (c.set_tally.ensures.tallies k)
