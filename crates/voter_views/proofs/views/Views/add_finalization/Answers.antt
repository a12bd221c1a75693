use Rattle.std.proofs.Common.{refl, ap, sym, subst, ◌∙◌, ◌≡◌, ◌+◌}
use Rattle.std.specs.Prelude.{Some, None}
use Rattle.voter_history.specs.Held.{held, Agrees, Differs}
use Rattle.voter_history.specs.Past as past
use Rattle.voter_history.specs.Pasts.{put}
use Rattle.voter_views.proofs.Advancing.{grown-tables}
use Rattle.voter_views.proofs.Choices.{fresh_at}
use Rattle.voter_views.proofs.Learning.{behind-one, elected, elected-member, finalized-closed, finalized-kept, inside, inside-finalization, inside-offers, room_at}
use Rattle.voter_history.specs.History.{current, seen}
use Rattle.voter_views.specs.Progress.{frame_of, tables}
use Rattle.voter_views.specs.Views.{Keeps}
use Rattle.voter_views.proofs.views.Views.add_finalization.Goals as goal

pub returns-clause-keeps : goal.returns-clause-keeps
unfolding Keeps
returns-clause-keeps g c = λ s h k.
    let cert = c.args.certificate in
    let at = cert.proposal.round.view in
    let view = c.view-view.result in
    let behind = c.next-next.result in
    let next : behind ≡ at + 1 = c.next-next.ensures ∙ ap (λ n. n + 1) c.view-view.ensures in
    let led = elected k c.new.result behind (Some cert.certificate) c.elect-leader.result c.new.ensures.epoch c.new.ensures.view c.elect-leader.ensures in
    let fresh : past.finalization (seen s h at) ≡ None = fresh_at c.finalization.result (λ u. past.finalization (seen s h u)) view at c.view-view.ensures (c.finalization.ensures s h k) c.if-is_some.ensures in
    let entered = c.in_ok-enter.ensures s (current s h) (tables s h) k.progress in
    let then = grown-tables s h (inside s h c.args.now behind) in
    let added = c.in_ok-key.ensures.keeps (frame_of s) then entered.tracked (inside-finalization s h c.args.now behind at ∙ fresh) in
    let table = grown-tables s h (put at (past.finalized cert) (inside s h c.args.now behind)) in
    finalized-kept k c.args.now cert c.enter.new.self c.lead.new.self c.finalize.new.self behind c.elect-leader.result view c.later-self.result then c.finalize.ensures.floor c.finalize.ensures.blank next led entered
    (c.in_ok-lead.ensures (frame_of s) table added (behind-one behind at next) (elected-member k behind (Some cert.certificate) c.elect-leader.result led)
    (λ u far fits. finalized-closed s h c.args.now cert behind view c.first_unreached-end.result u next c.view-view.ensures far
    (λ le. c.first_unreached-end.ensures.behind (frame_of s) table added u le fits)))
    c.get-number.ensures.fits c.view-view.ensures c.later-self.ensures.one c.later-self.ensures.other c.later-self.ensures.least

pub returns-clause-replaced : goal.returns-clause-replaced
unfolding Keeps
returns-clause-replaced g c = λ s h k new differs.
    let at = c.args.certificate.proposal.round.view in
    let behind = c.next-next.result in
    let entered = c.in_ok-enter.ensures s (current s h) (tables s h) k.progress in
    let fresh : past.finalization (seen s h at) ≡ None = fresh_at c.finalization.result (λ u. past.finalization (seen s h u)) c.view-view.result at c.view-view.ensures (c.finalization.ensures s h k) c.if-is_some.ensures in
    c.in_ok-key.ensures.replaced (frame_of s) (grown-tables s h (inside s h c.args.now behind)) entered.tracked (inside-finalization s h c.args.now behind at ∙ fresh)
    (subst (λ l. Differs (held l) c.args.certificate.proposal) (sym (inside-offers s h c.args.now behind at)) differs)

pub returns-clause-same : goal.returns-clause-same
unfolding Keeps
returns-clause-same g c = λ s h k agrees.
    let at = c.args.certificate.proposal.round.view in
    let behind = c.next-next.result in
    let entered = c.in_ok-enter.ensures s (current s h) (tables s h) k.progress in
    c.in_ok-key.ensures.same (frame_of s) (grown-tables s h (inside s h c.args.now behind)) entered.tracked
    (subst (λ l. Agrees (held l) c.args.certificate.proposal) (sym (inside-offers s h c.args.now behind at)) agrees)

pub returns-clause-first : goal.returns-clause-first
unfolding Keeps
returns-clause-first g c = λ s h k.
    let at = c.args.certificate.proposal.round.view in (
      λ _. (
        room_at c.args.self.now.lookahead.length s.length c.view-view.result at k.length c.view-view.ensures (c.has_room.ensures.0 c.if-not-has_room.false),
        fresh_at c.finalization.result (λ u. past.finalization (seen s h u)) c.view-view.result at c.view-view.ensures (c.finalization.ensures s h k) c.if-is_some.ensures,
      ),
      λ both. refl,
    )

pub returns-clause-again : goal.returns-clause-again
returns-clause-again g c = λ never. absurd (cc never)
