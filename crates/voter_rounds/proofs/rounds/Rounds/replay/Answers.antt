use Rattle.std.proofs.Common.{refl}
use Rattle.voter_rounds.specs.Rounds.{setup_of}
use Rattle.voter_rounds.proofs.Recalling.{recalled-kept}
use Rattle.voter_rounds.proofs.rounds.Rounds.replay.Goals as goal

pub returns : goal.returns
returns g c = λ s led past k.
    let here = c.in_ok-open.ensures.stands s led past k in
    let follows = c.open.follows.holds c.replay.new.self (rw c.in_ok-open.was refl) in
    recalled-kept s led past c.args.artifact.now (rw c.view-view.ensures at follows) k (rw c.view-view.ensures at (c.replay.ensures (setup_of s c.view-view.result) (led c.view-view.result) (past c.view-view.result) here))
