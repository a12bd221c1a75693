use Rattle.voter_views.specs.Progress.{frame_of, tables}
use Rattle.voter_views.specs.Views.{Keeps}
use Rattle.voter_views.proofs.Stepping.{nullify-if, nullify-quiet}
use Rattle.voter_views.proofs.views.Views.construct_nullify.Goals as goal

pub returns-clause-keeps : goal.returns-clause-keeps
unfolding Keeps
returns-clause-keeps g c = λ s h k.
    nullify-if c.in_ok-voted.voted c.args.view c.construct_nullify.new.self c.nullify.new.self k (nullify-quiet s h c.args.view)
    (c.in_ok-voted.ensures.answer (frame_of s) (tables s h) k.progress.tracked)
    (c.in_ok-voted.ensures.keeps (frame_of s) (tables s h) k.progress.tracked) c.nullify.ensures.floor c.nullify.ensures.blank

pub returns-clause-answer : goal.returns-clause-answer
unfolding Keeps
returns-clause-answer g c = λ s h k. c.in_ok-voted.ensures.answer (frame_of s) (tables s h) k.progress.tracked
