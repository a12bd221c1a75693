use Rattle.std.proofs.Common.{◌≡◌, refl}
use Rattle.std.specs.Prelude.{Some, None}
use Rattle.types_core.specs.Subject.{statement}
use Rattle.batcher_verifier.proofs.Constructing.{judged-of, judged-on, judged-failing, of-waiting, settled-keeps}
use Rattle.batcher_verifier.specs.Keeping.{VerifierKeeps}
use Rattle.batcher_verifier.proofs.verifier.Verifier.judge.Goals as goal

pub returns-in-Some-clause-batch : goal.returns-in-Some-clause-batch
unfolding VerifierKeeps
returns-in-Some-clause-batch g c = λ s h k on.
    let made : c.in_ok-certificate.field-0.certificate ≡ Some c.in-Some.certificate = c.in-Some.is in
    let verdict = rw (c.deref.ensures, c.deref-2.ensures.value, c.deref-3.ensures.value, c.in_ok-verified.ensures, c.in_ok-waiting.ensures) at c.in_ok-certificate.ensures.verdict in
    of-waiting g.D.PartialEq.eq g.S.Scheme g.S.Scheme.batchable g.met.D.Digest.equal_is_same g.met.S.Scheme.declined_in_each_order s h c.args.kind c.args.self.now (statement c.args.subject.now) c.in_ok-certificate.field-0 _ k on verdict
    (c.waiting-processed.ensures s h k) (rw (c.certificate_on-certificate.ensures.made, ← made) refl) c.certificate_on-certificate.ensures.states

pub returns-in-Some-clause-keeps : goal.returns-in-Some-clause-keeps
unfolding VerifierKeeps
returns-in-Some-clause-keeps g c = λ s h k on.
    let here = judged-on g.D.PartialEq.eq g.S.Scheme g.S.Scheme.batchable g.met.D.Digest.equal_is_same s h c.args.kind c.certificate_on-certificate.result (statement c.args.subject.now) k.lawful on c.certificate_on-certificate.ensures.states in
    c.record-changed.ensures.keeps s h k here.round_is

pub returns-clause-batch : goal.returns-clause-batch
unfolding VerifierKeeps
returns-clause-batch g c = λ s h k on.
    let none : c.in_ok-certificate.field-0.certificate ≡ None = c.in-None.is in
    let verdict = rw (c.deref.ensures, c.deref-2.ensures.value, c.deref-3.ensures.value, c.in_ok-verified.ensures, c.in_ok-waiting.ensures) at c.in_ok-certificate.ensures.verdict in
    of-waiting g.D.PartialEq.eq g.S.Scheme g.S.Scheme.batchable g.met.D.Digest.equal_is_same g.met.S.Scheme.declined_in_each_order s h c.args.kind c.args.self.now (statement c.args.subject.now) c.in_ok-certificate.field-0 _ k on verdict
    (c.waiting-processed.ensures s h k) (rw (← none) refl) tt

pub returns-clause-keeps : goal.returns-clause-keeps
unfolding VerifierKeeps
returns-clause-keeps g c = λ s h k on.
    let same = g.D.PartialEq.eq in
    let law = g.met.D.Digest.equal_is_same in
    let batchable = g.S.Scheme.batchable in
    let x = statement c.args.subject.now in
    let verdict = rw (c.deref.ensures, c.deref-2.ensures.value, c.deref-3.ensures.value, c.in_ok-verified.ensures, c.in_ok-waiting.ensures) at c.in_ok-certificate.ensures.verdict in
    let judged = judged-of same g.S.Scheme batchable law g.met.S.Scheme.declined_in_each_order s h c.args.kind c.args.self.now x c.in_ok-certificate.field-0 k on verdict in
    let failing = judged-failing _ _ _ _ _ _ _ _ _ c.in_ok-certificate.field-0 judged c.in-None.is in
    settled-keeps same g.S.Scheme batchable law s h c.args.kind c.in_ok-certificate.field-0.invalid.items x c.args.self.now _ k refl refl refl refl refl refl
    (rw c.deref-in-None.ensures.value at c.settle.ensures.places failing.ascending) (rw c.deref-in-None.ensures.value at c.settle.ensures.kinds failing.ascending) on failing

pub returns-in-Some-clause-readable : goal.returns-in-Some-clause-readable
unfolding VerifierKeeps
returns-in-Some-clause-readable g c = λ s h k.
    let low = rw (c.in-Some.is, c.deref.ensures, k.scheme_is, k.members_are) at c.in_ok-certificate.ensures.readable in
    let high = rw c.in-Some.is at c.in_ok-certificate.ensures.within in
    rw c.certificate_on-certificate.ensures.made (low, high)
