use Rattle.std.proofs.Common.{◌≡◌, ◌∙◌, ◌≤◌, sym, arith, ap, length, take, length-take, true, false}
use Rattle.std.specs.Prelude.{is_some}
use Rattle.batcher_rows.specs.Rows.{vote_in, votes_in}
use Rattle.batcher_rows.proofs.Shuffling.{picked-item, filter_map-length, one-longer, none-longer, some-copied}
use Rattle.batcher_rows.proofs.rows.Rows.number.Goals as goal
use Rattle.batcher_rows.proofs.rows.Rows.number.Goals.{then-is_some, else-is_some}

pub loop-row-preserved : goal.loop-row-preserved
loop-row-preserved g c =
    let f = vote_in c.args.verified c.args.kind in
    let rows = c.args.self.now.rows.items in
    let i = c.loop-row.row-index in
    let o = f c.row-item.result in
    let more = picked-item f rows c.deref-row-items.result.now i c.row-item.result c.deref-row-items.ensures.value c.row-item.is c.loop-row-test.true in
    let before = votes_in c.args.verified c.args.kind (take i rows) in
    let few : length before ≤ length (take i rows) = filter_map-length f (take i rows) in
    let short = length-take i rows in
    elim c.if-is_some.branch [
      | then-is_some w ↦
          let some : is_some o ≡ true = ap is_some (sym c.vote.ensures) ∙ some-copied c.vote.result ∙ sym c.is_some.ensures ∙ w.if-is_some.true in
          rw (w.number-is, more, one-longer before o some) (grind (arith, w.saturating_add-number.ensures, c.loop-row.invariant, few, short))
      | else-is_some w ↦
          let none : is_some o ≡ false = ap is_some (sym c.vote.ensures) ∙ some-copied c.vote.result ∙ sym c.is_some.ensures ∙ w.if-is_some.false in
          rw (w.number-is, more, none-longer before o none) c.loop-row.invariant
    ]
