use Rattle.std.proofs.Common.{◌≡◌, ◌∙◌, refl, sym}
use Rattle.std.specs.Prelude.{Option, None, Some, MatchOption}
use Rattle.messages_certificates.specs.declared.certificate.Certificate.{Certificate}
use Rattle.types_terms.specs.declared.kind.Kind.{Kind}
use Rattle.batcher_verifier.specs.declared.batch.Batch.{Batch}
use Rattle.batcher_verifier.specs.History.{History, next_kind}
use Rattle.batcher_verifier.specs.ConstructionResult.{after, after_construction}
use Rattle.simplex_batcher.specs.Rounds.{RoundKeeps}
use Rattle.batcher_verifier.specs.Keeping.{kept-consistent, kept-needed}
use Rattle.simplex_batcher.proofs.Admitting.{nothing, some-at}
use Rattle.simplex_batcher.proofs.Ending.{made-fewer}
use Rattle.simplex_batcher.proofs.Founding.{some-more, match-more, founded-next, next-due}
use Rattle.simplex_batcher.proofs.round.Round.try_construct.Goals as goal

after-of : {S D P G C : Type 0} (R : History S D P G C → Type 0) (h : History S D P G C) (made : Option (Batch (Certificate S D P G C))) (next : Option Kind) → MatchOption next (R h) (λ kind. R (after kind made h)) → R (after_construction next made h)
after-of R h made None m = m
after-of R h made (Some kind) m = m

pub returns-clause-certified : goal.returns-clause-certified
unfolding RoundKeeps
returns-clause-certified g c = λ none s h k live.
    let same = g.D.PartialEq.eq in
    let next : next_kind same s h ≡ None = nothing (next_kind same s h) (sym (c.in_ok-made.ensures.none s h k) ∙ rw none refl) in
    c.no_quorum_is_lost.ensures s h live (kept-consistent g.D.PartialEq.eq g.S.Scheme g.S.Scheme.batchable s c.args.self.now.verifier h k.verifier) next

pub returns-clause-last : goal.returns-clause-last
unfolding RoundKeeps
returns-clause-last g c = λ s h k live none.
    let same = g.D.PartialEq.eq in
    let later = after_construction (next_kind same s h) c.in_ok-made.made h in
    let kept = after-of (RoundKeeps same g.S.Scheme g.S.Scheme.batchable s c.construct_first.new.self) h c.in_ok-made.made (next_kind same s h) (c.in_ok-made.ensures.ok s h k) in
    c.no_quorum_is_lost.ensures s later live (kept-consistent g.D.PartialEq.eq g.S.Scheme g.S.Scheme.batchable s c.construct_first.new.self.verifier later kept.verifier) none

pub returns-clause-fewer : goal.returns-clause-fewer
unfolding RoundKeeps
returns-clause-fewer g c = λ s h k some.
    let same = g.D.PartialEq.eq in
    let v = c.args.self.now.verifier in
    made-fewer g.S.Scheme same s (λ h kind batch. c.constructions_end.ensures s h kind batch) (kept-needed same g.S.Scheme g.S.Scheme.batchable s v h k.verifier) h (kept-consistent same g.S.Scheme g.S.Scheme.batchable s v h k.verifier) c.in_ok-made.made (next_kind same s h) refl some (c.in_ok-made.ensures.none s h k)
    (λ batch e. some-at _ c.in_ok-made.made batch c.in_ok-made.ensures.batch e s h k)

pub returns-clause-ok : goal.returns-clause-ok
unfolding RoundKeeps
returns-clause-ok g c = λ s h k.
    after-of (RoundKeeps g.D.PartialEq.eq g.S.Scheme g.S.Scheme.batchable s c.construct_first.new.self) h c.in_ok-made.made (next_kind g.D.PartialEq.eq s h) (c.in_ok-made.ensures.ok s h k)

pub returns-clause-kind : goal.returns-clause-kind
unfolding RoundKeeps
returns-clause-kind g c = some-more _ _ c.in_ok-made.made (λ batch is s h k.
    let same = g.D.PartialEq.eq in
    let lawful = kept-consistent same g.S.Scheme g.S.Scheme.batchable s c.args.self.now.verifier h k.verifier in
    some-more _ _ batch.certificate (λ x f. f.1) (founded-next g.S.Scheme same s h (next_kind same s h) batch (λ kind made. c.batches_rest_on_accepted_votes.ensures.certificates s h kind batch lawful made) (is s h k))) c.in_ok-made.ensures.batch

pub returns-clause-round : goal.returns-clause-round
unfolding RoundKeeps
returns-clause-round g c = some-more _ _ c.in_ok-made.made (λ batch is s h k.
    let same = g.D.PartialEq.eq in
    let lawful = kept-consistent same g.S.Scheme g.S.Scheme.batchable s c.args.self.now.verifier h k.verifier in
    some-more _ _ batch.certificate (λ x f. f.0.round_is) (founded-next g.S.Scheme same s h (next_kind same s h) batch (λ kind made. c.batches_rest_on_accepted_votes.ensures.certificates s h kind batch lawful made) (is s h k))) c.in_ok-made.ensures.batch

pub returns-clause-certifies : goal.returns-clause-certifies
unfolding RoundKeeps
returns-clause-certifies g c = some-more _ _ c.in_ok-made.made (λ batch is s h k.
    let same = g.D.PartialEq.eq in
    let lawful = kept-consistent same g.S.Scheme g.S.Scheme.batchable s c.args.self.now.verifier h k.verifier in
    some-more _ _ batch.certificate (λ x f. f.0.does_certify) (founded-next g.S.Scheme same s h (next_kind same s h) batch (λ kind made. c.batches_rest_on_accepted_votes.ensures.certificates s h kind batch lawful made) (is s h k))) c.in_ok-made.ensures.batch

pub returns-clause-listed : goal.returns-clause-listed
unfolding RoundKeeps
returns-clause-listed g c = some-more _ _ c.in_ok-made.made (λ batch is s h k.
    let same = g.D.PartialEq.eq in
    let lawful = kept-consistent same g.S.Scheme g.S.Scheme.batchable s c.args.self.now.verifier h k.verifier in
    some-more _ _ batch.certificate (λ x f. f.0.listed) (founded-next g.S.Scheme same s h (next_kind same s h) batch (λ kind made. c.batches_rest_on_accepted_votes.ensures.certificates s h kind batch lawful made) (is s h k))) c.in_ok-made.ensures.batch

pub returns-clause-invalid : goal.returns-clause-invalid
unfolding RoundKeeps
returns-clause-invalid g c = some-more _ _ c.in_ok-made.made (λ batch is s h k.
    let same = g.D.PartialEq.eq in
    let lawful = kept-consistent same g.S.Scheme g.S.Scheme.batchable s c.args.self.now.verifier h k.verifier in
    match-more _ _ (next_kind same s h) (λ kind next made. c.batches_rest_on_accepted_votes.ensures.invalid s h kind batch lawful made) (is s h k)) c.in_ok-made.ensures.batch

pub returns-clause-fresh : goal.returns-clause-fresh
unfolding RoundKeeps
returns-clause-fresh g c = some-more _ _ c.in_ok-made.made (λ batch is s h k.
    let same = g.D.PartialEq.eq in
    match-more _ _ (next_kind same s h) (λ kind next made. c.what_is_due_has_no_certificate.ensures s h kind (kept-needed same g.S.Scheme g.S.Scheme.batchable s c.args.self.now.verifier h k.verifier) (next-due same s h kind next)) (is s h k)) c.in_ok-made.ensures.batch
