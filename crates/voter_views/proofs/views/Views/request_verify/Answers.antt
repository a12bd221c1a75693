use Rattle.std.proofs.Common.{refl}
use Rattle.voter_history.specs.History as History
use Rattle.voter_views.specs.Progress.{frame_of, tables}
use Rattle.voter_views.specs.Views.{Keeps}
use Rattle.voter_views.proofs.Stepping.{quiet-if, verify_asked-quiet}
use Rattle.voter_views.proofs.views.Views.request_verify.Goals as goal

pub returns-clause-keeps : goal.returns-clause-keeps
unfolding Keeps
returns-clause-keeps g c = λ s h k.
    quiet-if c.request_verify.result (History.verify_asked c.args.view c.args.proposal c.args.parent_payload) c.request_verify.new.self k
    (verify_asked-quiet s h c.args.view c.args.proposal c.args.parent_payload) refl
    (c.request_verify.ensures.keeps (frame_of s) (tables s h) k.progress.tracked) k.begun

pub returns-clause-answer : goal.returns-clause-answer
unfolding Keeps
returns-clause-answer g c = λ s h k. rw k.me at (c.request_verify.ensures.answer (frame_of s) (tables s h) k.progress.tracked)
