use Rattle.std.proofs.Common.{◌≡◌, true}
use Rattle.batcher_verifier.specs.History.{verified}
use Rattle.batcher_verifier.specs.Keeping.{VerifierKeeps}
use Rattle.batcher_verifier.proofs.Agreeing.{one-order}
use Rattle.batcher_verifier.specs.Votes.{is_kind, vote_kind}
use Rattle.batcher_verifier.proofs.Lawfully.{each-counted}
use Rattle.batcher_verifier.proofs.verifier.Verifier.is_of_one.Goals as goal

pub returns : goal.returns
unfolding VerifierKeeps
returns g c = λ s h k.
    one-order g.D.PartialEq.eq g.met.D.Digest.equal_is_same c.args.kind (verified g.D.PartialEq.eq s c.args.kind h) _ c.is_of_one.result (k.rows.kinds c.args.kind).verified_are (each-counted g.D.PartialEq.eq s c.args.kind (λ v. is_kind c.args.kind (vote_kind v) ≡ true) h (λ v there mine. mine)).1 c.is_of_one.ensures
