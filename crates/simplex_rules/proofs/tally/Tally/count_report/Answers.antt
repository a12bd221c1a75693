use Rattle.simplex_rules.proofs.Reports.{OnOk-reported}
use Rattle.simplex_rules.proofs.tally.Tally.count_report.Goals as goal

pub returns : goal.returns
returns g c = OnOk-reported g.S.Scheme.lists (g.S.Scheme.attests c.args.scheme.now) g.D.Ord.cmp c.args.contested.now c.count_held-3.result c.args.report.now _ _ (rw c.held_notarizes.ensures at c.in_ok-count_held.ensures) (rw c.held_nullifies.ensures at c.in_ok-count_held-2.ensures) (rw c.held_finalizes.ensures at c.count_held-3.ensures)
