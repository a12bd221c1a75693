use Rattle.std.proofs.Common.{◌∷◌, ◌∙◌, List, ℕ, ap, map, sym}
use Rattle.journal_single.specs.Disk.{Synced}
use Rattle.simplex_journal.proofs.Reopening.{reopened_since}
use Rattle.simplex_journal.proofs.pair.Pair.open.Goals as goal

pub returns-in-Ok-keep-clause-any_moment : goal.returns-in-Ok-keep-clause-any_moment
returns-in-Ok-keep-clause-any_moment g c = λ k.
    let looked = c.in-Ok.ensures in
    reopened_since _ _ (map g.M.Write.spelling c.in-Ok.messages.items) _ _ _ _
    (g.K.Disk.seen c.args.first, g.K.Disk.seen c.args.second, g.met.K.Disk.seen_is_left c.args.first k, g.met.K.Disk.seen_is_left c.args.second k, looked.reading k)
    (c.in-Ok-keep.ensures.any_moment c.in-Ok.messages.items _ _ k (looked.found k) (looked.before k))

pub returns-in-Err-keep-clause-any_moment_of_a_fault : goal.returns-in-Err-keep-clause-any_moment_of_a_fault
returns-in-Err-keep-clause-any_moment_of_a_fault g c = λ k.
    let looked = c.in-Ok.ensures in
    reopened_since _ _ (map g.M.Write.spelling c.in-Ok.messages.items) _ _ _ _
    (g.K.Disk.seen c.args.first, g.K.Disk.seen c.args.second, g.met.K.Disk.seen_is_left c.args.first k, g.met.K.Disk.seen_is_left c.args.second k, looked.reading k)
    (c.in-Err-keep.ensures.any_moment_of_a_fault c.in-Ok.messages.items _ _ k (looked.found k) (looked.before k))

pub returns-in-Err-clause-untouched : goal.returns-in-Err-clause-untouched
returns-in-Err-clause-untouched g c = λ other k.
    let was = c.in-Err.ensures.untouched_by_others other k in (
      was.one.asked ∙ ap (λ (l : List ℕ). Synced l ∷ g.K.Disk.calls c.args.first) (sym was.one.same),
      was.two.asked ∙ ap (λ (l : List ℕ). Synced l ∷ g.K.Disk.calls c.args.second) (sym was.two.same),
    )
