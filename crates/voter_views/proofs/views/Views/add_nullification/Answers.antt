use Rattle.std.proofs.Common.{refl, sym, subst, ◌∙◌, ◌≡◌, ◌<◌}
use Rattle.std.specs.Prelude.{Some, None, is_some}
use Rattle.std.specs.Ordering.{nat_cmp}
use Rattle.std.specs.BTreeMap.{get}
use Rattle.types_core.specs.Positions.{next_term_start, term_end}
use Rattle.types_terms.specs.Spans.{term_end-above}
use Rattle.voter_history.specs.Past as past
use Rattle.voter_history.specs.Pasts.{put}
use Rattle.voter_views.proofs.Advancing.{grown-tables}
use Rattle.voter_views.proofs.Choices.{fresh_at, or_neither}
use Rattle.voter_views.proofs.Learning.{elected, elected-member, end_at, inside, inside-nullification, next_term-some, nullified-closed, nullified-kept, room_at, start_at}
use Rattle.voter_history.specs.History.{current, nullification, seen}
use Rattle.voter_views.specs.Progress.{frame_of, tables}
use Rattle.voter_views.specs.Views.{Keeps}
use Rattle.voter_views.proofs.views.Views.add_nullification.Goals as goal

pub cover-requires : goal.cover-requires
cover-requires g c = rw c.term_end.ensures (term_end-above _ _ c.get-views.ensures.at_least_one)

pub returns-clause-keeps : goal.returns-clause-keeps
unfolding Keeps
returns-clause-keeps g c = λ s h k.
    let cert = c.args.certificate in
    let at = cert.round.view in
    let view = c.view-view.result in
    let start = c.after_nullification-next.result in
    let next : start ≡ next_term_start s.length at = start_at c.args.self.now.lookahead.length s.length view at start k.length c.view-view.ensures c.after_nullification-next.ensures in
    let ends : c.term_end.result ≡ term_end s.length view = end_at c.args.self.now.lookahead.length s.length view c.term_end.result k.length c.term_end.ensures in
    let led = elected k c.new.result start (Some cert.certificate) c.elect-leader.result c.new.ensures.epoch c.new.ensures.view c.elect-leader.ensures in
    let new : nullification s h at ≡ None = fresh_at c.nullification.result (nullification s h) view at c.view-view.ensures (c.nullification.ensures s h k) c.if-is_some.ensures in
    let fresh : past.nullification (seen s h at) ≡ None = or_neither (get nat_cmp c.args.self.now.reaching at) (past.nullification (seen s h at)) (sym (k.nullifications at) ∙ new) in
    let entered = c.in_ok-enter.ensures s (current s h) (tables s h) k.progress in
    let then = grown-tables s h (inside s h c.args.now start) in
    let added = c.in_ok-add_nullification.ensures (frame_of s) then entered.tracked (inside-nullification s h c.args.now start at ∙ fresh) in
    let table = grown-tables s h (put at (past.nullified cert) (inside s h c.args.now start)) in
    nullified-kept k c.args.now cert c.enter.new.self c.lead.new.self c.cover.new.self c.mark.new.self c.tell.new.self start c.elect-leader.result view c.term_end.result then c.tell.ensures.floor c.tell.ensures.blank next led entered
    (c.in_ok-lead.ensures (frame_of s) table added (next_term-some s.length at start next) (elected-member k start (Some cert.certificate) c.elect-leader.result led)
    (λ u _ _. nullified-closed s h c.args.now cert start u))
    (subst (λ n. 0 < n) k.length c.get-views.ensures.at_least_one) c.view-view.ensures ends c.in_ok-cover.ensures.ok
    (c.in_ok-mark.ensures (λ u. is_some (nullification s h u)) k.nullified)

pub returns-clause-answer : goal.returns-clause-answer
unfolding Keeps
returns-clause-answer g c = λ s h k.
    let at = c.args.certificate.round.view in (
      λ _. (
        room_at c.args.self.now.lookahead.length s.length c.view-view.result at k.length c.view-view.ensures (c.has_room.ensures.0 c.if-not-has_room.false),
        fresh_at c.nullification.result (nullification s h) c.view-view.result at c.view-view.ensures (c.nullification.ensures s h k) c.if-is_some.ensures,
      ),
      λ both. refl,
    )
