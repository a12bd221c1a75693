use Rattle.std.proofs.Common.{◌≡◌, ◌∙◌, ◌<◌, sym, ap, length, take, take_all, refl, arith, get_or, true}
use Rattle.std.specs.Prelude.{Some, None}
use Rattle.std.specs.Option.{option_copied}
use Rattle.batcher_rows.specs.Rows.{vote_in}
use Rattle.batcher_rows.proofs.Shuffling.{picked-item, picked-first}
use Rattle.batcher_rows.proofs.rows.Rows.first_verified.Goals as goal

pub loop-row-preserved : goal.loop-row-preserved
loop-row-preserved g c =
    let f = vote_in true c.args.kind in
    let rows = c.args.self.now.rows.items in
    let more = picked-item f rows c.deref-row-items.result.now c.loop-row.row-index c.row-item.result c.deref-row-items.ensures.value c.row-item.is c.loop-row-test.true in
    let here : f c.row-item.result ≡ None = sym c.vote.ensures ∙ ap option_copied c.in_default.is in
    rw (more, here, c.loop-row.invariant) refl

pub returns-in-Some : goal.returns-in-Some
returns-in-Some g c =
    let f = vote_in true c.args.kind in
    let rows = c.args.self.now.rows.items in
    let here : f c.row-item.result ≡ Some c.in-Some.vote.now = sym c.vote.ensures ∙ ap option_copied c.in-Some.is in
    let low : c.loop-row.row-index < length rows = rw c.deref-row-items.ensures.value at c.loop-row-test.true in
    let at : c.row-item.result ≡ get_or rows c.loop-row.row-index c.row-item.result = rw c.deref-row-items.ensures.value at c.row-item.is in
    let first = picked-first f rows c.loop-row.row-index c.row-item.result c.in-Some.vote.now low at here c.loop-row.invariant in
    rw first.1 refl

pub returns : goal.returns
returns g c =
    let rows = c.args.self.now.rows.items in
    let all : take c.loop-row.row-index rows ≡ rows = take_all c.loop-row.row-index rows (omega (arith, ap length c.deref-row-items.ensures.value)) in
    rw (rw all at c.loop-row.invariant) refl
