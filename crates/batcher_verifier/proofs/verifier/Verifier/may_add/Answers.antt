use Rattle.std.proofs.Common.{◌≡◌, false, true, not, refl}
use Rattle.batcher_verifier.specs.History.{accepted}
use Rattle.batcher_verifier.specs.Keeping.{VerifierKeeps}
use Rattle.batcher_verifier.proofs.Adding.{added-none, none-added, not-true}
use Rattle.batcher_verifier.proofs.verifier.Verifier.may_add.Goals as goal

pub returns-then-not-is_ours : goal.returns-then-not-is_ours
returns-then-not-is_ours g c = λ s h k. (λ no. absurd (cc no), λ may. absurd (cc ((c.is_ours.ensures s h k).1 may.ours, c.if-not-is_ours.true)))

pub returns : goal.returns
unfolding VerifierKeeps
returns g c = λ s h k.
    let same = g.D.PartialEq.eq in
    let rows = c.args.self.now.rows in
    let ours = (c.is_ours.ensures s h k).0 c.if-not-is_ours.false in
    let free = c.has_in_way.ensures s.members (accepted h) k.rows.places in (
      λ yes_. none-added same s h rows k.rows c.args.vote.now ours (free.0 (not-true c.has_in_way.result yes_)),
      λ may. let none : c.has_in_way.result ≡ false = free.1 (added-none same s h rows k.rows c.args.vote.now may) in rw none refl,
    )
