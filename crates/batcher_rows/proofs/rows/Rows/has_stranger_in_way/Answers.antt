use Rattle.std.proofs.Common.{◌≡◌, ◌∙◌, sym, length, refl, arith}
use Rattle.std.specs.List.{slice_get}
use Rattle.batcher_rows.specs.Rows.{blocks_at}
use Rattle.batcher_rows.proofs.Blocking.{all-walked, one-more}
use Rattle.batcher_rows.proofs.rows.Rows.has_stranger_in_way.Goals as goal

pub loop-place-preserved : goal.loop-place-preserved
loop-place-preserved g c = one-more c.args.vote.now c.args.self.now.rows.items c.args.self.now.members c.loop-place.place (sym c.has_blocking.ensures ∙ c.if-has_blocking.false) c.loop-place.invariant

pub returns-then-has_blocking : goal.returns-then-has_blocking
returns-then-has_blocking g c = (λ no. absurd (cc no), λ free. absurd (cc (free c.loop-place.place c.loop-place.auto.place, sym c.has_blocking.ensures ∙ c.if-has_blocking.true)))

pub returns : goal.returns
returns g c = (λ no. all-walked c.args.vote.now c.args.self.now.rows.items c.args.self.now.members c.loop-place.place (omega (arith, c.len-place-end.ensures, c.loop-place-test.false)) c.loop-place.invariant, λ free. refl)
