use Rattle.std.proofs.Common.{◌+◌}
use Rattle.std.specs.BTreeSet.{btree_set_len}
use Rattle.std.proofs.lemmas.Result.{IfOk-from_err}
use Rattle.voter_history.specs.Known.{known}
use Rattle.voter_rules.specs.Ancestry.{member}
use Rattle.voter_views.specs.ShowsKnown.{at}
use Rattle.simplex_state.proofs.Members.{fewer, nothing_in}
use Rattle.simplex_state.proofs.Sorting.{looked_at_all, looked_at_more, looked_at_none}
use Rattle.simplex_state.proofs.Waking.{notarized_at}
use Rattle.simplex_state.proofs.state.certifying.look_at.Goals as goal

pub loop-view-init : goal.loop-view-init
loop-view-init g c = λ s h k among.
    let some = rw (c.lookahead.ensures.length s h k) at c.get-views.ensures.at_least_one in
    (0, looked_at_none (member s) (known s h) c.new-found.result c.args.candidates some c.new-found.ensures.ready c.new-found.ensures.fetches c.new-found.ensures.put_off among.all)

pub loop-view-preserved : goal.loop-view-preserved
loop-view-preserved g c = λ s h k among.
    let before = c.loop-view.invariant s h k among in (
      c.in-Some.view + 1,
      looked_at_more (member s) (known s h) (notarized_at s h) c.in-Some.view before.0 c.loop-view.found c.add.new.self c.loop-view.rest c.pop_first.new.self before.1 c.in-Some.ensures.member c.in-Some.ensures.least c.in-Some.ensures.updates
          c.verdict_for.result (c.verdict_for.ensures _ _ (at s h k)) c.in_ok-add.ensures,
    )

pub returns : goal.returns
returns g c = λ s h k among.
    let whole = c.loop-view.invariant s h k among in
    looked_at_all (member s) (known s h) whole.0 c.loop-view.found c.loop-view.rest whole.1 (nothing_in c.loop-view.rest (λ some. let found = c.in_default.ensures.variant.1 some in absurd (cc found)))

pub returns-in_err-add : goal.returns-in_err-add
returns-in_err-add g c = IfOk-from_err c.from_residual.result _ c.from_residual.ensures.0

pub loop-view-smaller : goal.loop-view-smaller
loop-view-smaller g c = fewer (btree_set_len c.pop_first.new.self) (btree_set_len c.loop-view.rest) c.in-Some.ensures.len
