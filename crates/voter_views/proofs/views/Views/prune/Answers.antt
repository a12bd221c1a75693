use Rattle.std.proofs.Common.{◌≡◌, ◌<◌, ◌≤◌, ◌+◌, ◌^◌, ◌↔◌, ◌∷◌, ℕ}
use Rattle.std.specs.Prelude.{is_some}
use Rattle.std.specs.Ordering.{nat_cmp}
use Rattle.std.specs.BTreeMap.{get}
use Rattle.std.proofs.lemmas.Result.{MatchResult-weaker}
use Rattle.voter_history.specs.History as History
use Rattle.types_core.specs.Positions.{term_end}
use Rattle.voter_history.specs.History.{is_marked, last_finalized, min_active, nullification, seen}
use Rattle.voter_history.specs.Known.{backs, waits}
use Rattle.voter_views.specs.Progress.{frame_of, tables}
use Rattle.voter_views.specs.Views.{Keeps}
use Rattle.voter_rounds.specs.Laws.{Shows-same}
use Rattle.voter_views.proofs.Pruning.{pruned-is_some, pruned-nullification}
use Rattle.voter_views.proofs.Advancing.{IsAt-tracked}
use Rattle.voter_views.proofs.Choices.{if_ok_both}
use Rattle.voter_views.proofs.views.Views.prune.Goals as goal

pub returns-clause-keeps : goal.returns-clause-keeps
unfolding Keeps
returns-clause-keeps g c = if_ok_both c.clear_below.result c.clear_below.ensures.forgets c.clear_below.ensures.keeps
    (λ views forgets keeps s h k.
    let floor : c.floor-floor.result ≡ min_active s h = rw (k.last_finalized, k.retention) at (rw (c.viewport-viewport.ensures.finalized, c.viewport-viewport.ensures.view_retention) at c.floor-floor.ensures) in
    let first = c.first_reaching-first.result in
    let behind : c.viewport-viewport.result.finalized + 1 < 2 ^ 64 = rw (c.viewport-viewport.ensures.finalized, k.last_finalized) k.behind in
    let up : first ≤ c.floor-floor.result = rw c.floor-floor.ensures c.first_reaching-first.ensures.up_to_floor in
    let reaches : (view : ℕ) → view < c.floor-floor.result → (view < first) ↔ (term_end s.length view ≤ last_finalized h) =
    rw (c.viewport-viewport.ensures.finalized, c.viewport-viewport.ensures.lookahead, k.length, k.last_finalized) at (rw (← c.floor-floor.ensures) at (c.first_reaching-first.ensures.reaches behind)) in
    let dropped = forgets (frame_of s) (tables s h) k.progress.tracked in
    let kept = keeps (frame_of s) (tables s h) k.progress.tracked in
    record {
      scheme = k.scheme;
      me = k.me;
      epoch = k.epoch;
      length = k.length;
      optimistic_views = k.optimistic_views;
      retention = k.retention;
      mode = k.mode;
      elects = k.elects;
      members = k.members;
      progress = IsAt-tracked {t' = tables s (History.pruned ∷ h)} k.progress (rw floor at dropped);
      last_finalized = k.last_finalized;
      behind = k.behind;
      begun = k.begun;
      genesis = k.genesis;
      coverage = k.coverage;
      backed = rw floor at (c.forget_below.ensures (is_marked s backs h) k.backed);
      waiting = rw floor at (c.forget_below-2.ensures (is_marked s waits h) k.waiting);
      nullified = Shows-same _ _ _ (c.forget_below-3.ensures (λ u. is_some (nullification s h u)) k.nullified)
          (λ u. rw (← floor) (pruned-is_some s.length (History.last_finalized h) c.floor-floor.result first u (nullification s h u) up (reaches u)));
      nullifications = λ u. rw floor at (pruned-nullification s.length (History.last_finalized h) c.floor-floor.result first u (nullification s h u) (get nat_cmp c.args.self.now.reaching u) _ _ (seen s h u)
          up (reaches u) (k.nullifications u) (c.drop_before.ensures u) (kept u));
    })

pub returns-clause-dropped : goal.returns-clause-dropped
unfolding Keeps
returns-clause-dropped g c = MatchResult-weaker c.clear_below.result c.clear_below.ensures.dropped
    (λ views drops s h k.
    let floor : c.floor-floor.result ≡ min_active s h = rw (k.last_finalized, k.retention) at (rw (c.viewport-viewport.ensures.finalized, c.viewport-viewport.ensures.view_retention) at c.floor-floor.ensures) in
    let dropped = drops (frame_of s) (tables s h) k.progress.tracked in
    record { exact = rw floor at dropped.exact; ascend = dropped.ascend })
    (λ e _. tt)
