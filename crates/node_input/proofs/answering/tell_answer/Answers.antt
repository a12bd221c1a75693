use Rattle.std.proofs.Common.{Some, None, true, false}
use Rattle.voter_history.specs.declared.timeout_reason.TimeoutReason.TheVariants as reason
use Rattle.simplex_member.specs.Layers.{voter_of}
use Rattle.node_input.proofs.Latching.{answered, answered_so, failed}
use Rattle.node_input.proofs.answering.tell_answer.Goals as goal

pub returns-in-Ok-clause-told : goal.returns-in-Ok-clause-told
returns-in-Ok-clause-told g c = λ f s h k.
    answered_so g.S.Scheme g.L.Elector f s c.verified.new.self h c.args.now c.args.view c.args.answer (Some true) (cc)
    (answered g.S.Scheme g.L.Elector f s c.verified.new.self h c.args.now c.args.view (Some true) (c.in-Ok.ensures.keeps s.voter (voter_of s h) k))

pub returns-in-Ok-verification_failed-clause-told : goal.returns-in-Ok-verification_failed-clause-told
returns-in-Ok-verification_failed-clause-told g c = λ f s h k.
    answered_so g.S.Scheme g.L.Elector f s c.verification_failed.new.self h c.args.now c.args.view c.args.answer (Some false) (cc)
    (answered g.S.Scheme g.L.Elector f s c.verification_failed.new.self h c.args.now c.args.view (Some false)
    (failed g.S.Scheme g.L.Elector f s c.verification_failed.new.self h c.args.now c.args.view reason.InvalidProposal c.in-Ok-verification_failed.field-0 (λ is. cc is)
    (c.in-Ok-verification_failed.ensures.keeps s.voter (voter_of s h) k) (λ none. c.in-Ok-verification_failed.ensures.unchanged none s.voter (voter_of s h) k) (c.in-Ok-verification_failed.ensures.answer s.voter (voter_of s h) k)))

pub returns-in-Ok-verification_failed-2-clause-told : goal.returns-in-Ok-verification_failed-2-clause-told
returns-in-Ok-verification_failed-2-clause-told g c = λ f s h k.
    answered_so g.S.Scheme g.L.Elector f s c.verification_failed-in-None.new.self h c.args.now c.args.view c.args.answer None c.in-None.is
    (answered g.S.Scheme g.L.Elector f s c.verification_failed-in-None.new.self h c.args.now c.args.view None
    (failed g.S.Scheme g.L.Elector f s c.verification_failed-in-None.new.self h c.args.now c.args.view reason.IgnoredProposal c.in-Ok-verification_failed-2.field-0 (λ is. cc is)
    (c.in-Ok-verification_failed-2.ensures.keeps s.voter (voter_of s h) k) (λ none. c.in-Ok-verification_failed-2.ensures.unchanged none s.voter (voter_of s h) k) (c.in-Ok-verification_failed-2.ensures.answer s.voter (voter_of s h) k)))
