use Rattle.simplex_rules.proofs.Names.{names-stay}
use Rattle.simplex_rules.proofs.laws.names_rest_on_the_reports.Goals as goal

pub returns-clause-more : goal.returns-clause-more
returns-clause-more g c = λ scheme reports more evidence others before after within x named.
    names-stay g.S.Scheme.lists (g.S.Scheme.attests scheme) g.D.Ord.cmp reports more evidence others within after before x named

pub returns-clause-any_order : goal.returns-clause-any_order
returns-clause-any_order g c = λ scheme reports others evidence told before after same x. (
  names-stay g.S.Scheme.lists (g.S.Scheme.attests scheme) g.D.Ord.cmp reports others evidence told (λ report. (same report).0) after before x,
  names-stay g.S.Scheme.lists (g.S.Scheme.attests scheme) g.D.Ord.cmp others reports told evidence (λ report. (same report).1) before after x,
)
