use Rattle.std.proofs.Common.{◌∙◌, ap, sym}
use Rattle.std.specs.Option.{option_copied}
use Rattle.batcher_verifier.proofs.Constructing.{assembled, none-ready}
use Rattle.batcher_verifier.specs.Keeping.{VerifierKeeps}
use Rattle.batcher_verifier.proofs.verifier.Verifier.assemble_verified.Goals as goal

pub returns-in_default-clause-made : goal.returns-in_default-clause-made
unfolding VerifierKeeps
returns-in_default-clause-made g c = λ s h k ready.
    none-ready g.D.PartialEq.eq g.S.Scheme g.S.Scheme.batchable s h c.args.kind c.args.self.now k ready (sym c.first_verified.ensures ∙ ap option_copied c.in_default.is)

pub returns-in-Some-2-clause-made : goal.returns-in-Some-2-clause-made
unfolding VerifierKeeps
returns-in-Some-2-clause-made g c = λ s h k ready.
    (rw c.in-Some-2.is at (assembled g.D.PartialEq.eq g.S.Scheme g.S.Scheme.batchable g.met.D.Digest.equal_is_same s h c.args.kind c.args.self.now c.in-Some.first.now c.deref-2.result.now c.in_ok-certificate.field-0 k ready
    (sym c.first_verified.ensures ∙ ap option_copied c.in-Some.is) (c.deref-2.ensures.value ∙ c.in_ok-given.ensures) (rw (c.deref.ensures, c.subject_of-subject.ensures) at c.in_ok-certificate.ensures.made)))
    c.certificate_on.result (c.certificate_on.ensures.states ∙ c.subject_of-subject.ensures) c.certificate_on.ensures.made

pub returns-clause-made : goal.returns-clause-made
unfolding VerifierKeeps
returns-clause-made g c = λ s h k ready.
    rw c.in-None.is at (assembled g.D.PartialEq.eq g.S.Scheme g.S.Scheme.batchable g.met.D.Digest.equal_is_same s h c.args.kind c.args.self.now c.in-Some.first.now c.deref-2.result.now c.in_ok-certificate.field-0 k ready
    (sym c.first_verified.ensures ∙ ap option_copied c.in-Some.is) (c.deref-2.ensures.value ∙ c.in_ok-given.ensures) (rw (c.deref.ensures, c.subject_of-subject.ensures) at c.in_ok-certificate.ensures.made))

pub returns-in-Some-2-clause-readable : goal.returns-in-Some-2-clause-readable
unfolding VerifierKeeps
returns-in-Some-2-clause-readable g c = λ s h k.
    let low = rw (c.in-Some-2.is, c.deref.ensures, k.scheme_is, k.members_are) at c.in_ok-certificate.ensures.readable in
    let high = rw c.in-Some-2.is at c.in_ok-certificate.ensures.within in
    rw c.certificate_on.ensures.made (low, high)
