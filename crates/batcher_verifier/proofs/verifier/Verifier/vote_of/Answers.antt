use Rattle.std.proofs.Common.{ap}
use Rattle.std.specs.Option.{option_copied}
use Rattle.batcher_verifier.specs.History.{accepted}
use Rattle.batcher_verifier.specs.Keeping.{VerifierKeeps}
use Rattle.batcher_verifier.proofs.Agreeing.{newest-found}
use Rattle.batcher_verifier.proofs.verifier.Verifier.vote_of.Goals as goal

pub returns : goal.returns
unfolding VerifierKeeps
returns g c = λ s h k members.
    newest-found c.args.self.now.rows s.members (accepted h) c.args.notarize c.args.signer _ k.rows.places members c.vote_of.ensures.member (λ high. ap option_copied (c.vote_of.ensures.stranger high))
