use Rattle.simplex_rules.proofs.Accountable.{names-from_contradiction}
use Rattle.simplex_rules.proofs.laws.a_contradicted_round_names_enough.Goals as goal

pub returns : goal.returns
returns g c = λ scheme reports evidence round some verdict contradicted.
    names-from_contradiction g.S.Scheme.lists (g.S.Scheme.attests scheme) (g.S.Scheme.certifies scheme) (g.S.Scheme.size scheme) some (g.met.S.Listing.backed scheme) g.D.Ord.cmp reports evidence verdict round contradicted
