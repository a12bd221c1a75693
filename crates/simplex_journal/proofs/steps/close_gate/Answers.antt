use Rattle.std.proofs.Common.{[], ◌∷◌, subst}
use Rattle.journal_single.specs.Disk.{IsOverwritten}
use Rattle.journal_single.specs.Moments.{stays, tried}
use Rattle.simplex_journal.proofs.Closing.{close_begun, cutting, cut_synced, shutting, shut, closed}
use Rattle.simplex_journal.proofs.steps.close_gate.Goals as goal

pub returns-in_err-cut-clause-any_moment : goal.returns-in_err-cut-clause-any_moment
returns-in_err-cut-clause-any_moment g c = λ base end k x split at. let some = c.requires.some k in
    tried _ (close_begun base end split at some x) (cutting base end split at some x) (c.in_err-cut.ensures.tried k)

pub returns-in_err-sync-clause-any_moment : goal.returns-in_err-sync-clause-any_moment
returns-in_err-sync-clause-any_moment g c = λ base end k x split at. let some = c.requires.some k in
    stays (cutting base end split at some x _ (c.in_ok-cut.ensures.calls k)) (c.in_err-sync.ensures.calls k)

pub returns-in_err-write_at-clause-any_moment : goal.returns-in_err-write_at-clause-any_moment
returns-in_err-write_at-clause-any_moment g c = λ base end k x split at. let some = c.requires.some k in
    tried _ (cut_synced base end split at some x _ _ _ (c.in_ok-cut.ensures.cut k) (c.in_ok-cut.ensures.calls k) (c.in_ok-sync.ensures.fixed k)) (shutting base end split at some x _ _ _ (c.in_ok-cut.ensures.cut k) (c.in_ok-cut.ensures.calls k) (c.in_ok-sync.ensures.fixed k)) (c.in_err-write_at.ensures.tried k)

pub returns-in_err-sync-2-clause-any_moment : goal.returns-in_err-sync-2-clause-any_moment
returns-in_err-sync-2-clause-any_moment g c = λ base end k x split at. let some = c.requires.some k in
    stays (shutting base end split at some x _ _ _ (c.in_ok-cut.ensures.cut k) (c.in_ok-cut.ensures.calls k) (c.in_ok-sync.ensures.fixed k) _ (c.in_ok-write_at.ensures.calls k)) (c.in_err-sync-2.ensures.calls k)

pub returns-clause-any_moment : goal.returns-clause-any_moment
returns-clause-any_moment g c = λ base end k x split at. let some = c.requires.some k in
    let holds3 = subst (λ l. IsOverwritten l c.args.gate (0 ∷ []) (g.K.Disk.seen c.write_at.new.self)) (c.in_ok-sync.ensures.seen k) (c.in_ok-write_at.ensures.written k) in
    shut base end split at some x _ _ _ (c.in_ok-cut.ensures.cut k) (c.in_ok-cut.ensures.calls k) (c.in_ok-sync.ensures.fixed k) _ _ _ holds3 (c.in_ok-write_at.ensures.calls k) (c.in_ok-sync-2.ensures.fixed k)

pub returns-clause-ok : goal.returns-clause-ok
returns-clause-ok g c = λ base end k split at. let some = c.requires.some k in
    let holds3 = subst (λ l. IsOverwritten l c.args.gate (0 ∷ []) (g.K.Disk.seen c.write_at.new.self)) (c.in_ok-sync.ensures.seen k) (c.in_ok-write_at.ensures.written k) in
    closed base end split at some _ _ _ _ _ (c.in_ok-cut.ensures.cut k) holds3 (c.in_ok-sync-2.ensures.fixed k) (c.in_ok-sync-2.ensures.seen k)
