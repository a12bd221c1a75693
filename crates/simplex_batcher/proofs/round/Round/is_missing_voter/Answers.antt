use Rattle.std.proofs.Common.{◌∙◌, ap, not}
use Rattle.simplex_batcher.proofs.Single.{missing-found}
use Rattle.simplex_batcher.specs.Rounds.{round-lawful}
use Rattle.simplex_batcher.proofs.round.Round.is_missing_voter.Goals as goal

pub returns : goal.returns
returns g c = λ s h k. ap not (c.has_backed.ensures s h k) ∙ missing-found g.D.PartialEq.eq g.S.Scheme.attests s h c.args.proposal.now c.args.signer (round-lawful g.D.PartialEq.eq g.S.Scheme g.S.Scheme.batchable s c.args.self.now h k)
