-- What a construction gives rests on accepted votes, said of the kind that is due.
use Rattle.std.proofs.Common.{◌≡◌, Bool, true, refl, ap, sym}
use Rattle.std.specs.Prelude.{Option, None, Some, IfSome, MatchOption}
use Rattle.types_core.specs.declared.scheme.Scheme.{Ghosts}
use Rattle.messages_certificates.specs.declared.certificate.Certificate.{Certificate}
use Rattle.types_terms.specs.declared.kind.Kind.{Kind}
use Rattle.batcher_assembly.specs.KindOrder.{in_turn}
use Rattle.batcher_verifier.specs.declared.batch.Batch.{Batch}
use Rattle.batcher_verifier.specs.Votes.{certificate_kind}
use Rattle.batcher_verifier.specs.History.{History, Setup, is_due, next_kind}
use Rattle.batcher_verifier.specs.ConstructionResult.{IsFounded, IsBatch}
use Rattle.simplex_batcher.proofs.Admitting.{found-there}

-- what follows of the one that is there, follows
pub some-more : {X : Type 0} (P Q : X → Type 0) (o : Option X) → ((x : X) → P x → Q x) → IfSome o P → IfSome o Q
some-more P Q None f all = tt
some-more P Q (Some x) f all = f x all

pub match-more : {X : Type 0} (P Q : X → Type 0) (o : Option X) → ((x : X) → o ≡ Some x → P x → Q x) → MatchOption o ⊥ P → MatchOption o ⊥ Q
match-more P Q None f all = all
match-more P Q (Some x) f all = f x refl all

module _ {S D P G C : Type 0} (g : Ghosts S D P G C) (same : D → D → Bool) (s : Setup S) (h : History S D P G C) where
  -- a certificate of the kind that is due, which rests on accepted votes
  abbrev pub IsDueOne : Option Kind → Certificate S D P G C → Type 0
  IsDueOne next c = IsFounded g s (certificate_kind c) h c × (next ≡ Some (certificate_kind c))

  pub founded-next : (next : Option Kind) (batch : Batch (Certificate S D P G C)) → ((kind : Kind) → IsBatch g same s kind h batch → IfSome batch.certificate (IsFounded g s kind h))
      → MatchOption next ⊥ (λ kind. IsBatch g same s kind h batch) → IfSome batch.certificate (IsDueOne next)
  founded-next None batch law is = absurd is
  founded-next (Some kind) batch law is = some-more (IsFounded g s kind h) (IsDueOne (Some kind)) batch.certificate (λ c f. let one : certificate_kind c ≡ kind = f.kind_is in (rw one f, ap Some (sym one))) (law kind is)

-- of the kind that is next a construction is due
pub next-due : {S D P G C : Type 0} (same : D → D → Bool) (s : Setup S) (h : History S D P G C) (kind : Kind) → next_kind same s h ≡ Some kind → is_due same s kind h ≡ true
next-due same s h kind e = (found-there (λ k. is_due same s k h) in_turn kind e).1
