use Rattle.std.proofs.Common.{All, subst, sym}
use Rattle.std.proofs.lemmas.List.Elements.{All-push}
use Rattle.simplex_node.specs.declared.living.Opening.{Opening}
use Rattle.run_node.proofs.played.openings.Goals as goal

pub loop-life-preserved : goal.loop-life-preserved
loop-life-preserved g c = let Fits = λ (o : Opening g.row.S.Denot g.row.L.Denot g.row.D.Denot g.row.S-PublicKey.Denot g.row.S-Signature.Denot g.row.S-Certificate.Denot). g.L.Elector.built_for o.elector (g.S.Scheme.size o.scheme.value) in
    subst (All Fits) (sym c.in_ok-push.ensures.items) (All-push Fits c.loop-life.openings.items c.in_ok-opening_of.field-0 c.loop-life.invariant c.in_ok-opening_of.ensures)
