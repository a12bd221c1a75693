use Rattle.std.proofs.Common.{sym}
use Rattle.simplex_rules.proofs.Ends.{conflict-made}
use Rattle.simplex_rules.proofs.ballots.conflict_from.Goals as goal

pub returns : goal.returns
returns g c =
    conflict-made c.args.suspect.now c.args.kept.now c.in_ok-least.least c.in_ok-least.last c.evidence_of.result (sym c.in_ok-least.ensures) c.requires
    (rw (c.vote_from.ensures, c.vote_from-2.ensures) at c.evidence_of.ensures.exact) (rw (c.vote_from.ensures, c.vote_from-2.ensures) at c.evidence_of.ensures.evidence)
