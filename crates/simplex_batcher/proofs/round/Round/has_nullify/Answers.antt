use Rattle.std.proofs.Common.{◌∙◌, ap}
use Rattle.simplex_batcher.proofs.Single.{nullify-found}
use Rattle.simplex_batcher.specs.Queries.{passes, is_nullify}
use Rattle.simplex_batcher.specs.Rounds.{RoundKeeps, round-lawful}
use Rattle.simplex_batcher.proofs.round.Round.has_nullify.Goals as goal

pub returns : goal.returns
unfolding RoundKeeps
returns g c = λ s h k. c.holds_nullify.ensures ∙ ap (passes is_nullify) (c.vote_of.ensures s h k.verifier k.of_members) ∙ nullify-found g.D.PartialEq.eq g.S.Scheme.attests s h c.args.signer (round-lawful g.D.PartialEq.eq g.S.Scheme g.S.Scheme.batchable s c.args.self.now h k)
