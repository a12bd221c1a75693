use Rattle.simplex_rules.proofs.Accountable.{names-from_contradiction}
use Rattle.simplex_rules.proofs.auditing.audit.Goals as goal

pub returns-clause-accountable : goal.returns-clause-accountable
returns-clause-accountable g c = λ reports verdict round contradicted.
    names-from_contradiction g.S.Scheme.lists (g.S.Scheme.attests c.args.scheme.now) (g.S.Scheme.certifies c.args.scheme.now) (g.S.Scheme.size c.args.scheme.now) c.participants-participants.ensures.some (g.met.S.Listing.backed c.args.scheme.now) g.D.Ord.cmp reports c.in_ok-evidence.evidence.items verdict round contradicted
