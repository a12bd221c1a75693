use Rattle.types_core.specs.Subject.{finalize}
use Rattle.simplex_record.proofs.AddingKept.{KeepsVotes-finalize, KeepsViews-voted}
use Rattle.simplex_record.proofs.standing.Standing.add_finalize.Goals as goal

pub returns-clause-keeps : goal.returns-clause-keeps
returns-clause-keeps g c = λ views before keeps.
    let standing = c.args.self.now in
    KeepsViews-voted views standing before keeps (finalize c.args.proposal.now) _ (KeepsVotes-finalize standing.votes before keeps.votes c.insert.new.self c.args.proposal.now c.in_ok-insert.ensures.updates)
