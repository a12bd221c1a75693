-- What is done of the votes of a view.
use Rattle.std.proofs.Common.{◌≡◌, ℕ, Bool, true, false, List, [], ◌∷◌, Option, None, Some, refl, sym, subst, if◌then◌else◌}
use Rattle.std.specs.Prelude.{MatchOption, is_none, is_some}
use Rattle.types_core.specs.declared.proposal.Proposal.{Proposal}
use Rattle.types_core.specs.declared.scheme.Scheme.{Ghosts}
use Rattle.messages_certificates.specs.declared.certificate.Certificate.{Certificate}
use Rattle.types_terms.specs.declared.kind.Kind.{Kind}
use Rattle.batcher_verifier.specs.declared.batch.Batch.{Batch}
use Rattle.batcher_verifier.specs.History.{Forwarded, History, Setup, forwardable}
use Rattle.batcher_verifier.specs.ConstructionResult.{IsBatch, after, after_construction}
use Rattle.simplex_batcher.specs.declared.round.Round.{Round}
use Rattle.simplex_batcher.specs.Rounds.{AtEach, RoundKeeps}

pub none-due : {A B : Type 0} {o : Option B} (next : Option A) → is_none o ≡ is_none next → o ≡ None → next ≡ None
none-due {o = None} None e none = refl
none-due {o = None} (Some x) e none = absurd (cc e)
none-due {o = Some y} next e none = absurd (cc none)

module _ {S D P G C : Type 0} (g : Ghosts S D P G C) (same : D → D → Bool) (s : Setup S) (h : History S D P G C) where
  -- where no proposal is to be forwarded nothing happened
  pub still-here : (old : Round S D P G C) (me : ℕ) (new : Round S D P G C) → AtEach same g g.batchable old (λ st vs. None ≡ forwardable vs me)
      → AtEach same g g.batchable old (λ st vs. RoundKeeps same g g.batchable st new (if is_some (forwardable vs me) then Forwarded ∷ vs else vs))
      → RoundKeeps same g g.batchable s old h → RoundKeeps same g g.batchable s new h
  still-here old me new exact keeps k = subst (λ (o : Option (Proposal D)). RoundKeeps same g g.batchable s new (if is_some o then Forwarded ∷ h else h)) (sym (exact s h k)) (keeps s h k)

  -- a construction was made
  pub made-batch : (new : Round S D P G C) (batch : Batch (Certificate S D P G C)) (next : Option Kind) → MatchOption next ⊥ (λ kind. IsBatch g same s kind h batch)
      → RoundKeeps same g g.batchable s new (after_construction next (Some batch) h)
      → MatchOption next ⊥ (λ kind. IsBatch g same s kind h batch × RoundKeeps same g g.batchable s new (after kind (Some batch) h))
  made-batch new batch None is k = absurd is
  made-batch new batch (Some kind) is k = (is, k)
