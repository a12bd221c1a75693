use Rattle.std.proofs.Common.{◌++◌, List, map, subst}
use Rattle.simplex_messages.specs.declared.activity.Activity.{Activity}
use Rattle.simplex_member.specs.Deeds.{AreActions, Reports}
use Rattle.node_core.proofs.recalling.report.Goals as goal

pub returns-in-Ok : goal.returns-in-Ok
returns-in-Ok g c = λ f s before rest deeds is are.
    subst (λ (told : List (Activity g.row.S.Denot g.row.D.Denot g.row.S-PublicKey.Denot g.row.S-Signature.Denot g.row.S-Certificate.Denot)). AreActions f c.report_if.new.out.items (deeds ++ map Reports told))
    (c.in_ok-report.ensures s before rest is) (c.in-Ok.ensures.done f deeds are)
