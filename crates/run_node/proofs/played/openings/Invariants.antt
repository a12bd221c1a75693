use Rattle.std.proofs.Common.{All}
use Rattle.run_node.proofs.played.openings.Given as goal

-- who leads in the openings made so far is built for their committees
abbrev pub invariant-loop-life : goal.invariant-loop-life
invariant-loop-life g l = All (λ o. g.L.Elector.built_for o.elector (g.S.Scheme.size o.scheme.value)) l.openings.items
