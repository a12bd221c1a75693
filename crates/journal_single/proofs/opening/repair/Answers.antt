use Rattle.std.proofs.Common.{◌≤◌, length, [], ◌∷◌, subst, sym}
use Rattle.journal_single.specs.Disk.{IsOverwritten}
use Rattle.journal_single.specs.Moments.{stays, tried}
use Rattle.journal_single.proofs.Repairing.{begun, synced, gate_within, cutting, closing, closed, rests}
use Rattle.journal_single.proofs.opening.repair.Goals as goal

pub returns-in_err-cut-clause-any_moment : goal.returns-in_err-cut-clause-any_moment
returns-in_err-cut-clause-any_moment g c = λ bodies k x f. tried _ (begun x f (c.requires.some k)) (cutting x f (c.requires.some k)) (c.in_err-cut.ensures.tried k)

pub returns-in_err-sync-clause-any_moment : goal.returns-in_err-sync-clause-any_moment
returns-in_err-sync-clause-any_moment g c = λ bodies k x f.
    stays (cutting x f (c.requires.some k) _ (c.in_ok-cut.ensures.calls k)) (c.in_err-sync.ensures.calls k)

pub write_at-requires : goal.write_at-requires
write_at-requires g c = λ k.
    subst (λ l. c.args.gate ≤ length l) (sym (c.in_ok-sync.ensures.seen k)) (gate_within _ (c.requires.found k).1 (c.requires.some k) (c.in_ok-cut.ensures.cut k))

pub returns-in_err-write_at-clause-any_moment : goal.returns-in_err-write_at-clause-any_moment
returns-in_err-write_at-clause-any_moment g c = λ bodies k x f.
    tried _ (synced x f (c.requires.some k) _ _ _ (c.in_ok-cut.ensures.cut k) (c.in_ok-cut.ensures.calls k) (c.in_ok-sync.ensures.fixed k)) (closing x f (c.requires.some k) _ _ _ (c.in_ok-cut.ensures.cut k) (c.in_ok-cut.ensures.calls k) (c.in_ok-sync.ensures.fixed k)) (c.in_err-write_at.ensures.tried k)

pub returns-in_err-sync-2-clause-any_moment : goal.returns-in_err-sync-2-clause-any_moment
returns-in_err-sync-2-clause-any_moment g c = λ bodies k x f.
    stays (closing x f (c.requires.some k) _ _ _ (c.in_ok-cut.ensures.cut k) (c.in_ok-cut.ensures.calls k) (c.in_ok-sync.ensures.fixed k) _ (c.in_ok-write_at.ensures.calls k)) (c.in_err-sync-2.ensures.calls k)

pub returns-clause-any_moment : goal.returns-clause-any_moment
returns-clause-any_moment g c = λ bodies k x f.
    let holds3 = subst (λ l. IsOverwritten l c.args.gate (0 ∷ []) (g.K.Disk.seen c.write_at.new.self)) (c.in_ok-sync.ensures.seen k) (c.in_ok-write_at.ensures.written k) in
    closed x f (c.requires.some k) _ _ _ (c.in_ok-cut.ensures.cut k) (c.in_ok-cut.ensures.calls k) (c.in_ok-sync.ensures.fixed k) _ _ _ holds3 (c.in_ok-write_at.ensures.calls k) (c.in_ok-sync-2.ensures.fixed k)

pub returns-clause-ok : goal.returns-clause-ok
returns-clause-ok g c = λ bodies k x f.
    let holds3 = subst (λ l. IsOverwritten l c.args.gate (0 ∷ []) (g.K.Disk.seen c.write_at.new.self)) (c.in_ok-sync.ensures.seen k) (c.in_ok-write_at.ensures.written k) in
    rests x f (c.requires.some k) _ _ _ (c.in_ok-cut.ensures.cut k) (c.in_ok-cut.ensures.calls k) (c.in_ok-sync.ensures.fixed k) _ _ _ holds3 (c.in_ok-write_at.ensures.calls k) (c.in_ok-sync-2.ensures.fixed k) _ (c.in_ok-sync-2.ensures.seen k)
