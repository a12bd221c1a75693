use Rattle.std.proofs.Common.{◌≤◌, length, [], ◌∷◌, subst, sym}
use Rattle.journal_single.specs.Disk.{IsOverwritten}
use Rattle.journal_single.specs.Moments.{stays, tried}
use Rattle.journal_single.proofs.Stages.{wrote, begun_either, synced, opening, within, rests, ended}
use Rattle.journal_single.proofs.journal.add_entry.Goals as goal

pub returns-in_err-write_at-clause-any_moment : goal.returns-in_err-write_at-clause-any_moment
returns-in_err-write_at-clause-any_moment g c = λ bodies body k r s. tried _ (begun_either r s) (wrote r s) (c.in_err-write_at.ensures.tried k)

pub returns-in_err-sync-clause-any_moment : goal.returns-in_err-sync-clause-any_moment
returns-in_err-sync-clause-any_moment g c = λ bodies body k r s.
    stays (wrote r s _ (c.in_ok-write_at.ensures.calls k)) (c.in_err-sync.ensures.calls k)

pub write_at-requires-2 : goal.write_at-requires-2
write_at-requires-2 g c = λ k.
    let rest = c.requires.at_rest k in
    subst (λ l. c.args.gate ≤ length l) (sym (c.in_ok-sync.ensures.seen k)) (within _ c.args.entry.now rest.1 (c.in_ok-write_at.ensures.written k))

pub returns-in_err-write_at-2-clause-any_moment : goal.returns-in_err-write_at-2-clause-any_moment
returns-in_err-write_at-2-clause-any_moment g c = λ bodies body k r s.
    tried _ (synced r s _ _ _ (c.in_ok-write_at.ensures.written k) (c.in_ok-write_at.ensures.calls k) (c.in_ok-sync.ensures.fixed k)) (opening r s _ _ _ (c.in_ok-write_at.ensures.written k) (c.in_ok-write_at.ensures.calls k) (c.in_ok-sync.ensures.fixed k)) (c.in_err-write_at-2.ensures.tried k)

pub returns-in_err-sync-2-clause-any_moment : goal.returns-in_err-sync-2-clause-any_moment
returns-in_err-sync-2-clause-any_moment g c = λ bodies body k r s.
    stays (opening r s _ _ _ (c.in_ok-write_at.ensures.written k) (c.in_ok-write_at.ensures.calls k) (c.in_ok-sync.ensures.fixed k) _ (c.in_ok-write_at-2.ensures.calls k)) (c.in_err-sync-2.ensures.calls k)

pub returns-clause-any_moment : goal.returns-clause-any_moment
returns-clause-any_moment g c = λ bodies body k r s.
    let holds3 = subst (λ l. IsOverwritten l c.args.gate (1 ∷ []) (g.K.Disk.seen c.write_at-2.new.self)) (c.in_ok-sync.ensures.seen k) (c.in_ok-write_at-2.ensures.written k) in
    ended r s _ _ _ (c.in_ok-write_at.ensures.written k) (c.in_ok-write_at.ensures.calls k) (c.in_ok-sync.ensures.fixed k) _ _ _ holds3 (c.in_ok-write_at-2.ensures.calls k) (c.in_ok-sync-2.ensures.fixed k)

pub returns-clause-ok : goal.returns-clause-ok
returns-clause-ok g c = λ bodies body k r s.
    let holds3 = subst (λ l. IsOverwritten l c.args.gate (1 ∷ []) (g.K.Disk.seen c.write_at-2.new.self)) (c.in_ok-sync.ensures.seen k) (c.in_ok-write_at-2.ensures.written k) in
    rests r s _ _ _ (c.in_ok-write_at.ensures.written k) (c.in_ok-write_at.ensures.calls k) (c.in_ok-sync.ensures.fixed k) _ _ _ holds3 (c.in_ok-write_at-2.ensures.calls k) (c.in_ok-sync-2.ensures.fixed k) _ (c.in_ok-sync-2.ensures.seen k)
