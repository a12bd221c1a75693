use Rattle.std.proofs.Common.{◌≤◌, length, [], ◌∷◌, subst, sym}
use Rattle.journal_single.specs.Disk.{IsOverwritten}
use Rattle.journal_single.specs.Moments.{stays, tried}
use Rattle.simplex_journal.proofs.Marking.{gate_within, mark_begun, putting, mark_within, put_synced, marking, marked, mark_rests}
use Rattle.simplex_journal.proofs.steps.put_marked.Goals as goal

pub write_at-requires : goal.write_at-requires
write_at-requires g c = λ k. let r = c.requires.closed k in gate_within r.0 c.args.bytes.now r.1

pub returns-in_err-write_at-clause-any_moment : goal.returns-in_err-write_at-clause-any_moment
returns-in_err-write_at-clause-any_moment g c = λ base k r. let bytes = c.args.bytes.now in
    tried _ (mark_begun base bytes r) (putting base bytes r) (c.in_err-write_at.ensures.tried k)

pub returns-in_err-sync-clause-any_moment : goal.returns-in_err-sync-clause-any_moment
returns-in_err-sync-clause-any_moment g c = λ base k r. let bytes = c.args.bytes.now in
    stays (putting base bytes r _ (c.in_ok-write_at.ensures.calls k)) (c.in_err-sync.ensures.calls k)

pub write_at-requires-2 : goal.write_at-requires-2
write_at-requires-2 g c = λ k.
    let r = c.requires.closed k in
    subst (λ l. c.args.gate ≤ length l) (sym (c.in_ok-sync.ensures.seen k)) (mark_within r.0 c.args.bytes.now r.1 _ (c.in_ok-write_at.ensures.written k))

pub returns-in_err-write_at-2-clause-any_moment : goal.returns-in_err-write_at-2-clause-any_moment
returns-in_err-write_at-2-clause-any_moment g c = λ base k r. let bytes = c.args.bytes.now in
    tried _ (put_synced base bytes r _ _ _ (c.in_ok-write_at.ensures.written k) (c.in_ok-write_at.ensures.calls k) (c.in_ok-sync.ensures.fixed k)) (marking base bytes r _ _ _ (c.in_ok-write_at.ensures.written k) (c.in_ok-write_at.ensures.calls k) (c.in_ok-sync.ensures.fixed k)) (c.in_err-write_at-2.ensures.tried k)

pub returns-in_err-sync-2-clause-any_moment : goal.returns-in_err-sync-2-clause-any_moment
returns-in_err-sync-2-clause-any_moment g c = λ base k r. let bytes = c.args.bytes.now in
    stays (marking base bytes r _ _ _ (c.in_ok-write_at.ensures.written k) (c.in_ok-write_at.ensures.calls k) (c.in_ok-sync.ensures.fixed k) _ (c.in_ok-write_at-2.ensures.calls k)) (c.in_err-sync-2.ensures.calls k)

pub returns-clause-any_moment : goal.returns-clause-any_moment
returns-clause-any_moment g c = λ base k r. let bytes = c.args.bytes.now in
    let holds3 = subst (λ l. IsOverwritten l c.args.gate (c.args.mark ∷ []) (g.K.Disk.seen c.write_at-2.new.self)) (c.in_ok-sync.ensures.seen k) (c.in_ok-write_at-2.ensures.written k) in
    marked base bytes r _ _ _ (c.in_ok-write_at.ensures.written k) (c.in_ok-write_at.ensures.calls k) (c.in_ok-sync.ensures.fixed k) c.args.mark _ _ _ holds3 (c.in_ok-write_at-2.ensures.calls k) (c.in_ok-sync-2.ensures.fixed k)

pub returns-clause-ok : goal.returns-clause-ok
returns-clause-ok g c = λ base k r. let bytes = c.args.bytes.now in
    let holds3 = subst (λ l. IsOverwritten l c.args.gate (c.args.mark ∷ []) (g.K.Disk.seen c.write_at-2.new.self)) (c.in_ok-sync.ensures.seen k) (c.in_ok-write_at-2.ensures.written k) in
    mark_rests base bytes r _ _ _ (c.in_ok-write_at.ensures.written k) (c.in_ok-write_at.ensures.calls k) (c.in_ok-sync.ensures.fixed k) c.args.mark _ _ _ holds3 (c.in_ok-write_at-2.ensures.calls k) (c.in_ok-sync-2.ensures.fixed k) _ (c.in_ok-sync-2.ensures.seen k)
