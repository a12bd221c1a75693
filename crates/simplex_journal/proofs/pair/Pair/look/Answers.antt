use Rattle.std.proofs.Common.{◌∷◌, ◌∙◌, List, ℕ, ap, subst, sym}
use Rattle.journal_single.specs.Disk.{MayLeave, Synced}
use Rattle.simplex_journal.proofs.pair.Pair.look.Goals as goal

pub returns-in-Ok-clause-before : goal.returns-in-Ok-clause-before
returns-in-Ok-clause-before g c = λ k.
    let was = c.in-Ok.ensures.untouched k in
    record {
      left = subst (MayLeave (g.K.Disk.calls c.args.first)) (sym was.one.same) (g.met.K.Disk.seen_is_left c.args.first k);
      left-2 = subst (MayLeave (g.K.Disk.calls c.args.second)) (sym was.two.same) (g.met.K.Disk.seen_is_left c.args.second k);
      synced = was.one.asked ∙ ap (λ (l : List ℕ). Synced l ∷ g.K.Disk.calls c.args.first) (sym was.one.same);
      synced-2 = was.two.asked ∙ ap (λ (l : List ℕ). Synced l ∷ g.K.Disk.calls c.args.second) (sym was.two.same);
    }
