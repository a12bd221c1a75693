-- The kinds, taken in turn.
use Rattle.std.proofs.Common.{◌≡◌, ◌<◌, ◌+◌, ℕ, suc, Bool, true, false, List, refl, arith, drop, get_or, drop-cons}
use Rattle.std.specs.Prelude.{Option, Some, None, MatchOption, find}
use Rattle.messages_certificates.specs.declared.certificate.Certificate.{Certificate}
use Rattle.types_terms.specs.declared.kind.Kind.{Kind}
use Rattle.batcher_assembly.specs.KindOrder.{in_turn}
use Rattle.batcher_verifier.specs.declared.batch.Batch.{Batch}
use Rattle.batcher_verifier.specs.History.{History, accepted, has_forwarded}
use Rattle.batcher_verifier.specs.ConstructionResult.{after}
use Rattle.simplex_batcher.specs.Rounds.{AreNew}

-- the kind whose turn it is, where it passes, and where it doesn't
pub turn-here : (p : Kind → Bool) (kinds : List Kind) (i : ℕ) (d : Kind) → kinds ≡ in_turn → i < 3 → p (get_or kinds i d) ≡ true → find p (drop i in_turn) ≡ Some (get_or kinds i d)
turn-here p kinds i d e l passes =
    let here : p (get_or in_turn i d) ≡ true = rw e at passes in
    rw (e, drop-cons in_turn i d l, here) refl

pub turn-past : (p : Kind → Bool) (kinds : List Kind) (i : ℕ) (d : Kind) → kinds ≡ in_turn → i < 3 → p (get_or kinds i d) ≡ false → find p (drop i in_turn) ≡ find p (drop (i + 1) in_turn)
turn-past p kinds i d e l fails =
    let here : p (get_or in_turn i d) ≡ false = rw e at fails in
    let next : i + 1 ≡ suc i = omega arith in
    rw (next, drop-cons in_turn i d l, here) refl

-- what is said of the one that is there
pub match-at : {X : Type 0} (None_ : Type 0) (P : X → Type 0) (o : Option X) (x : X) → o ≡ Some x → P x → MatchOption o None_ P
match-at None_ P o x e p = rw e p

module _ {S D P G C : Type 0} (kind : Kind) (made : Option (Batch (Certificate S D P G C))) (h : History S D P G C) where
  -- a construction accepts no vote, and forwards nothing
  pub after-accepted : accepted h ≡ accepted (after kind made h)
  after-accepted = go made
    where
      go : (made : Option (Batch (Certificate S D P G C))) → accepted h ≡ accepted (after kind made h)
      go None = refl
      go (Some batch) = come batch.certificate refl
        where
          come : (o : Option (Certificate S D P G C)) → batch.certificate ≡ o → accepted h ≡ accepted (after kind (Some batch) h)
          come None e = rw e refl
          come (Some c) e = rw e refl

  pub after-new : AreNew h → AreNew (after kind made h)
  after-new = go made
    where
      go : (made : Option (Batch (Certificate S D P G C))) → AreNew h → AreNew (after kind made h)
      go None new = new
      go (Some batch) new = come batch.certificate refl
        where
          come : (o : Option (Certificate S D P G C)) → batch.certificate ≡ o → AreNew (after kind (Some batch) h)
          come None e = rw e new
          come (Some c) e = rw e new

  pub after-forwarded : has_forwarded h ≡ has_forwarded (after kind made h)
  after-forwarded = go made
    where
      go : (made : Option (Batch (Certificate S D P G C))) → has_forwarded h ≡ has_forwarded (after kind made h)
      go None = refl
      go (Some batch) = come batch.certificate refl
        where
          come : (o : Option (Certificate S D P G C)) → batch.certificate ≡ o → has_forwarded h ≡ has_forwarded (after kind (Some batch) h)
          come None e = rw e refl
          come (Some c) e = rw e refl
