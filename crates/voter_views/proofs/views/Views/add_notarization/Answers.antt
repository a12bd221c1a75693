use Rattle.std.proofs.Common.{refl, ap, ◌∙◌, ◌≡◌, ◌+◌}
use Rattle.std.specs.Prelude.{Some, None}
use Rattle.voter_history.specs.Past as past
use Rattle.voter_history.specs.Pasts.{put}
use Rattle.voter_views.proofs.Advancing.{grown-tables}
use Rattle.voter_views.proofs.Choices.{fresh_at}
use Rattle.voter_views.proofs.Learning.{behind-one, elected, elected-member, notarized-closed, notarized-kept, room_at}
use Rattle.voter_history.specs.History.{seen}
use Rattle.voter_views.specs.Progress.{frame_of, tables}
use Rattle.voter_views.specs.Views.{Keeps}
use Rattle.voter_views.proofs.views.Views.add_notarization.Goals as goal

pub returns-clause-keeps : goal.returns-clause-keeps
unfolding Keeps
returns-clause-keeps g c = λ s h k.
    let cert = c.args.certificate in
    let at = cert.proposal.round.view in
    let view = c.view-view.result in
    let next : c.next-next.result ≡ at + 1 = c.next-next.ensures ∙ ap (λ n. n + 1) c.view-view.ensures in
    let led = elected k c.new.result c.next-next.result (Some cert.certificate) c.elect-leader.result c.new.ensures.epoch c.new.ensures.view c.elect-leader.ensures in
    let fresh : past.notarization (seen s h at) ≡ None = fresh_at c.notarization.result (λ u. past.notarization (seen s h u)) view at c.view-view.ensures (c.notarization.ensures s h k) c.if-is_some.ensures in
    let added = c.in_ok-key.ensures.keeps (frame_of s) (tables s h) k.progress.tracked fresh in
    let table = grown-tables s h (put at (past.notarized cert) (seen s h)) in
    notarized-kept k cert c.lead.new.self c.tell.new.self c.next-next.result c.elect-leader.result c.tell.ensures.floor c.tell.ensures.blank next led
    (c.in_ok-lead.ensures (frame_of s) table added (behind-one c.next-next.result at next) (elected-member k c.next-next.result (Some cert.certificate) c.elect-leader.result led)
    (λ u far fits. notarized-closed s h cert c.next-next.result view c.first_unreached-end.result u next c.view-view.ensures far
    (λ le. c.first_unreached-end.ensures.behind (frame_of s) table added u le fits)))

pub returns-clause-first : goal.returns-clause-first
unfolding Keeps
returns-clause-first g c = λ s h k.
    let at = c.args.certificate.proposal.round.view in (
      λ _. (
        room_at c.args.self.now.lookahead.length s.length c.view-view.result at k.length c.view-view.ensures (c.has_room.ensures.0 c.if-not-has_room.false),
        fresh_at c.notarization.result (λ u. past.notarization (seen s h u)) c.view-view.result at c.view-view.ensures (c.notarization.ensures s h k) c.if-is_some.ensures,
      ),
      λ both. refl,
    )

pub returns-clause-replaced : goal.returns-clause-replaced
unfolding Keeps
returns-clause-replaced g c = λ s h k _ differs.
    let at = c.args.certificate.proposal.round.view in
    c.in_ok-key.ensures.replaced (frame_of s) (tables s h) k.progress.tracked
    (fresh_at c.notarization.result (λ u. past.notarization (seen s h u)) c.view-view.result at c.view-view.ensures (c.notarization.ensures s h k) c.if-is_some.ensures) differs

pub returns-clause-same : goal.returns-clause-same
unfolding Keeps
returns-clause-same g c = λ s h k agrees. c.in_ok-key.ensures.same (frame_of s) (tables s h) k.progress.tracked agrees

pub returns-clause-again : goal.returns-clause-again
returns-clause-again g c = λ never. absurd (cc never)
