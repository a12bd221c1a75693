use Rattle.std.proofs.Common.{◌≡◌, refl}
use Rattle.std.specs.Prelude.{Option, None, Some, MatchOption, is_none}
use Rattle.types_terms.specs.declared.kind.Kind.{Kind}
use Rattle.batcher_verifier.specs.History.{next_kind}
use Rattle.batcher_verifier.specs.ConstructionResult.{IsBatch}
use Rattle.simplex_batcher.proofs.Admitting.{some-at}
use Rattle.simplex_batcher.proofs.running.make.Goals as goal

-- what comes of a construction, by the kind that is due
made-of : {B : Type 0} (P : Kind → B → Type 0) (next : Option Kind) (made : Option B) → is_none made ≡ is_none next → ((batch : B) → made ≡ Some batch → MatchOption next ⊥ (λ kind. P kind batch)) → MatchOption next (made ≡ None) (λ kind. MatchOption made ⊥ (λ batch. P kind batch))
made-of P None None e batch = refl
made-of P None (Some b) e batch = absurd (batch b refl)
made-of P (Some kind) None e batch = absurd (cc e)
made-of P (Some kind) (Some b) e batch = batch b refl

pub returns-in-Ok-clause-answer : goal.returns-in-Ok-clause-answer
returns-in-Ok-clause-answer g c = λ s h k. rw c.in-AddNetwork.is (record {
  ours = c.in-Ok.ensures.ours s h k;
  added = c.in-Ok.ensures.added s h k;
  block = c.in-Ok.ensures.block s h k;
  report = c.in-Ok.ensures.report s h k;
})

pub returns-in-Ok-record_certificate-clause-answer : goal.returns-in-Ok-record_certificate-clause-answer
returns-in-Ok-record_certificate-clause-answer g c = λ s h k. rw c.in-RecordCertificate.is (c.in-Ok-record_certificate.ensures.ours s h k, c.in-Ok-record_certificate.ensures.selects s h k)

pub returns-in-Ok-try_construct-clause-answer : goal.returns-in-Ok-try_construct-clause-answer
returns-in-Ok-try_construct-clause-answer g c = λ s h k. rw c.in-TryConstruct.is
    (made-of (λ kind batch. IsBatch g.S.Scheme g.D.PartialEq.eq s kind h batch) (next_kind g.D.PartialEq.eq s h) c.in-Ok-try_construct.made (c.in-Ok-try_construct.ensures.none s h k)
    (λ batch e. some-at _ c.in-Ok-try_construct.made batch c.in-Ok-try_construct.ensures.batch e s h k))
