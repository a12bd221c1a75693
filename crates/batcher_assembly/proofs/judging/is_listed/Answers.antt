use Rattle.batcher_assembly.proofs.Searching.{among-searched}
use Rattle.batcher_assembly.proofs.judging.is_listed.Goals as goal

pub returns : goal.returns
returns c = λ ascending. rw c.is_ok.ensures.value (among-searched c.args.signers.now c.args.signer _ c.binary_search.ensures.position ascending)
