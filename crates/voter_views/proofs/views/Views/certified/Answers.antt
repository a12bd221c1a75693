use Rattle.voter_history.specs.Past as past
use Rattle.voter_history.specs.History.{seen}
use Rattle.voter_views.specs.Views.{Keeps}
use Rattle.voter_views.proofs.Choices.{found_copy}
use Rattle.voter_views.proofs.views.Views.certified.Goals as goal

pub returns-clause-keeps : goal.returns-clause-keeps
returns-clause-keeps g c = λ s h k. c.in_ok-take_verdict.ensures s h k

pub returns-clause-answer : goal.returns-clause-answer
returns-clause-answer g c = λ s h k room. found_copy c.notarization.result c.in-Some.notarization c.in_ok-copy.copy (past.notarization (seen s h c.args.view)) c.in-Some.is c.in_ok-copy.ensures (c.notarization.ensures s h k)

pub returns-clause-no_room : goal.returns-clause-no_room
unfolding Keeps
returns-clause-no_room g c = λ s h k none. absurd (none (rw k.length at (c.has_room.ensures.0 c.if-not-has_room.false)))
