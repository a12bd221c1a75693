use Rattle.types_core.specs.Subject.{nullify}
use Rattle.simplex_record.proofs.AddingKept.{KeepsVotes-nullify, KeepsViews-voted}
use Rattle.simplex_record.proofs.standing.Standing.add_nullify.Goals as goal

pub returns-clause-keeps : goal.returns-clause-keeps
returns-clause-keeps g c = λ views before keeps.
    let standing = c.args.self.now in
    KeepsViews-voted views standing before keeps (nullify c.args.round) _ (KeepsVotes-nullify standing.votes before keeps.votes c.insert.new.self c.args.round c.in_ok-insert.ensures.updates)
