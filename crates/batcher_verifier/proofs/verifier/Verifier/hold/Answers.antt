use Rattle.std.proofs.Common.{◌≡◌, ◌∷◌, refl, sym, ◌∙◌}
use Rattle.batcher_verifier.specs.History.{accepted, selection}
use Rattle.batcher_verifier.specs.Lawful.{MayHappen}
use Rattle.batcher_verifier.specs.Keeping.{selection_of, VerifierKeeps}
use Rattle.batcher_verifier.proofs.Choosing.{select-nothing, stays-chosen}
use Rattle.batcher_verifier.proofs.Adding.{came, selection-came, may-add, added-keeps, refused-err}
use Rattle.batcher_verifier.proofs.verifier.Verifier.hold.Goals as goal

pub returns-clause-waits : goal.returns-clause-waits
unfolding VerifierKeeps
returns-clause-waits g c = λ s h k waits unled allowed.
    let old = c.args.self.now in
    let one : selection_of old.proposal ≡ selection (came c.args.verified c.args.vote ∷ h) = k.selection_is ∙ sym (selection-came c.args.verified h c.args.vote ∙ rw (waits, ← k.leader_is, unled) (select-nothing (selection h))) in
    let may : MayHappen g.D.PartialEq.eq g.S.Scheme.attests s h (came c.args.verified c.args.vote) = rw waits allowed in
    let fits = may-add g.D.PartialEq.eq g.S.Scheme.attests s h c.args.vote c.args.verified may in
    rw waits at (added-keeps g.D.PartialEq.eq g.S.Scheme g.S.Scheme.batchable c.args.verified s h c.args.vote c.counts-held.result old.proposal old _ _ k refl refl refl refl refl refl
    (c.in_ok-put.ensures.places s.members (accepted h) k.rows.places) (λ kind. c.in_ok-put.ensures.kinds s.members (accepted h) k.rows.places kind _ _ _ (k.rows.kinds kind) (fits.none_waits kind) (fits.none_verified kind)) (stays-chosen g.D.PartialEq.eq _) one c.counts-held.ensures may)

pub returns-clause-verified : goal.returns-clause-verified
unfolding VerifierKeeps
returns-clause-verified g c = λ s h k verified unfixed unled allowed.
    let old = c.args.self.now in
    let one : selection_of old.proposal ≡ selection (came c.args.verified c.args.vote ∷ h) = k.selection_is ∙ sym (selection-came c.args.verified h c.args.vote ∙ rw (verified, unfixed, ← k.leader_is, unled) (select-nothing (selection h))) in
    let may : MayHappen g.D.PartialEq.eq g.S.Scheme.attests s h (came c.args.verified c.args.vote) = rw verified allowed in
    let fits = may-add g.D.PartialEq.eq g.S.Scheme.attests s h c.args.vote c.args.verified may in
    rw verified at (added-keeps g.D.PartialEq.eq g.S.Scheme g.S.Scheme.batchable c.args.verified s h c.args.vote c.counts-held.result old.proposal old _ _ k refl refl refl refl refl refl
    (c.in_ok-put.ensures.places s.members (accepted h) k.rows.places) (λ kind. c.in_ok-put.ensures.kinds s.members (accepted h) k.rows.places kind _ _ _ (k.rows.kinds kind) (fits.none_waits kind) (fits.none_verified kind)) (stays-chosen g.D.PartialEq.eq _) one c.counts-held.ensures may)

pub returns-in_err-put-clause-err : goal.returns-in_err-put-clause-err
unfolding VerifierKeeps
returns-in_err-put-clause-err g c =
    refused-err g.D.PartialEq.eq g.S.Scheme g.S.Scheme.batchable _ c.args.self.now (record { round = c.args.self.now.round; scheme = c.args.self.now.scheme; needed = c.args.self.now.needed; skipped = c.args.self.now.skipped; leader = c.args.self.now.leader; proposal = c.args.self.now.proposal; rows = c.put.new.self }) refl refl refl refl refl refl c.in_err-put.ensures.err
