-- No more votes are judged than came.
use Rattle.std.proofs.Common.{◌≡◌, ◌≤◌, ℕ, Bool, true, false, ◌||◌, ◌+◌, List, [], ◌∷◌, ◌++◌, inl, inr, refl, ap, arith, length, length-append}
use Rattle.std.specs.Prelude.{Option, None, Some, filter, if◌then◌else◌}
use Rattle.types_core.specs.declared.scheme.Scheme.{Ghosts}
use Rattle.simplex_messages.specs.declared.vote.Vote.{Vote}
use Rattle.simplex_messages.specs.declared.vote.Vote.TheVariants as vote
use Rattle.messages_certificates.specs.declared.certificate.Certificate.{Certificate}
use Rattle.types_terms.specs.declared.kind.Kind.{Kind}
use Rattle.types_terms.specs.declared.kind.Kind.TheVariants.{Notarization, Nullification, Finalization}
use Rattle.batcher_verifier.specs.declared.batch.Batch.{Batch}
use Rattle.batcher_verifier.specs.Votes.{is_kind, vote_kind}
use Rattle.batcher_verifier.specs.History.{History, Event, Taken, Cast, Certified, Led, Judged, Forwarded, Setup, taken, selected, is_complete, is_candidate, counting, waiting, is_ready}
use Rattle.batcher_verifier.specs.ConstructionResult.{after, IsBatch}
use Rattle.batcher_verifier.specs.Spending.{waits, Spends}
use Rattle.batcher_verifier.proofs.Finishing.{kind-self, either, batch-kind, complete-waits}

-- what passes is no more than there was
filter-most : {X : Type 0} (p : X → Bool) (xs : List X) → length (filter p xs) ≤ length xs
filter-most p [] = omega arith
filter-most p (x ∷ xs) = go (p x) (filter-most p xs)
  where
    go : (b : Bool) → length (filter p xs) ≤ length xs → length (if b then x ∷ filter p xs else filter p xs) ≤ length (x ∷ xs)
    go true rest = omega (arith, rest)
    go false rest = omega (arith, rest)

module _ {S D P G C : Type 0} (same : D → D → Bool) (s : Setup S) where
  counting-most : (kind : Kind) (h : History S D P G C) (votes : List (Vote S D P G C)) → length (counting same s kind h votes) ≤ length votes
  counting-most kind h votes = go (s.is_skipped || is_complete kind h)
    where
      go : (b : Bool) → length (if b then [] else filter (is_candidate same (selected h)) votes) ≤ length votes
      go true = omega arith
      go false = filter-most (is_candidate same (selected h)) votes

  -- how many votes of a kind an event brings
  abbrev came : Kind → Event (Vote S D P G C) (Certificate S D P G C) → ℕ
  came kind (Taken v) = if is_kind kind (vote_kind v) then 1 else 0
  came kind e = 0

  -- no more wait than waited and came
  waits-most : (kind : Kind) (e : Event (Vote S D P G C) (Certificate S D P G C)) (h : History S D P G C) → length (waiting same s kind (e ∷ h)) ≤ length (waiting same s kind h) + came kind e
  waits-most kind (Taken v) h = go (is_kind kind (vote_kind v)) (counting-most kind (Taken v ∷ h) (if is_kind kind (vote_kind v) then waiting same s kind h ++ v ∷ [] else waiting same s kind h))
    where
      go : (b : Bool) → length (counting same s kind (Taken v ∷ h) (if b then waiting same s kind h ++ v ∷ [] else waiting same s kind h)) ≤ length (if b then waiting same s kind h ++ v ∷ [] else waiting same s kind h)
          → length (counting same s kind (Taken v ∷ h) (if b then waiting same s kind h ++ v ∷ [] else waiting same s kind h)) ≤ length (waiting same s kind h) + (if b then 1 else 0)
      go true most = omega (arith, most, length-append (waiting same s kind h) (v ∷ []))
      go false most = omega (arith, most)
  waits-most kind (Cast v) h = omega (arith, counting-most kind (Cast v ∷ h) (waiting same s kind h))
  waits-most kind (Certified c) h = omega (arith, counting-most kind (Certified c ∷ h) (waiting same s kind h))
  waits-most kind (Led i) h = omega (arith, counting-most kind (Led i ∷ h) (waiting same s kind h))
  waits-most kind Forwarded h = omega (arith, counting-most kind (Forwarded ∷ h) (waiting same s kind h))
  waits-most kind (Judged k failing) h = go (is_kind kind k)
    where
      go : (b : Bool) → length (if b then [] else waiting same s kind h) ≤ length (waiting same s kind h) + 0
      go true = omega arith
      go false = omega arith

  pub spends-event : (e : Event (Vote S D P G C) (Certificate S D P G C)) (h : History S D P G C) → Spends same s 0 h (e ∷ h)
  spends-event (Taken v) h = go v (waits-most Notarization (Taken v) h) (waits-most Nullification (Taken v) h) (waits-most Finalization (Taken v) h)
    where
      go : (v : Vote S D P G C) → length (waiting same s Notarization (Taken v ∷ h)) ≤ length (waiting same s Notarization h) + came Notarization (Taken v)
          → length (waiting same s Nullification (Taken v ∷ h)) ≤ length (waiting same s Nullification h) + came Nullification (Taken v)
          → length (waiting same s Finalization (Taken v ∷ h)) ≤ length (waiting same s Finalization h) + came Finalization (Taken v) → Spends same s 0 h (Taken v ∷ h)
      go (vote.Notarize v) a b c = omega (arith, a, b, c)
      go (vote.Nullify v) a b c = omega (arith, a, b, c)
      go (vote.Finalize v) a b c = omega (arith, a, b, c)
  spends-event (Cast v) h = omega (arith, waits-most Notarization (Cast v) h, waits-most Nullification (Cast v) h, waits-most Finalization (Cast v) h)
  spends-event (Certified c) h = omega (arith, waits-most Notarization (Certified c) h, waits-most Nullification (Certified c) h, waits-most Finalization (Certified c) h)
  spends-event (Led i) h = omega (arith, waits-most Notarization (Led i) h, waits-most Nullification (Led i) h, waits-most Finalization (Led i) h)
  spends-event Forwarded h = omega (arith, waits-most Notarization Forwarded h, waits-most Nullification Forwarded h, waits-most Finalization Forwarded h)
  spends-event (Judged k failing) h = omega (arith, waits-most Notarization (Judged k failing) h, waits-most Nullification (Judged k failing) h, waits-most Finalization (Judged k failing) h)

  -- no more wait than were accepted
  pub waits-taken : (h : History S D P G C) → waits same s h ≤ length (taken h)
  waits-taken [] = omega arith
  waits-taken (e ∷ h) = omega (arith, spends-event e h, waits-taken h)

module _ {S D P G C : Type 0} (g : Ghosts S D P G C) (same : D → D → Bool) (s : Setup S) where
  -- a batch judges no more than waited
  batch-most : (kind : Kind) (h : History S D P G C) (batch : Batch (Certificate S D P G C)) → IsBatch g same s kind h batch → batch.processed ≤ length (waiting same s kind h)
  batch-most kind h batch is = elim (either (is_ready same s kind h) is) [
    | inl v ↦ omega (arith, v.1.none_processed)
    | inr w ↦ omega (arith, w.processed_are)
  ]

  -- and of its kind none waits after it
  batch-waits : (kind : Kind) (h : History S D P G C) (batch : Batch (Certificate S D P G C)) → IsBatch g same s kind h batch → waiting same s kind (after kind (Some batch) h) ≡ []
  batch-waits kind h batch is = go batch.certificate refl
    where
      go : (o : Option (Certificate S D P G C)) → batch.certificate ≡ o → waiting same s kind (after kind (Some batch) h) ≡ []
      go (Some c) e = rw e (complete-waits same s kind h c (batch-kind g same s h kind batch c is e))
      go None e = rw (e, kind-self kind) refl

  -- of the others no more wait than before
  batch-others : (kind other : Kind) (h : History S D P G C) (batch : Batch (Certificate S D P G C)) → length (waiting same s other (after kind (Some batch) h)) ≤ length (waiting same s other h)
  batch-others kind other h batch = go batch.certificate refl
    where
      go : (o : Option (Certificate S D P G C)) → batch.certificate ≡ o → length (waiting same s other (after kind (Some batch) h)) ≤ length (waiting same s other h)
      go (Some c) e = let most = waits-most same s other (Certified c) h in rw e (omega (arith, most))
      go None e = let most = waits-most same s other (Judged kind batch.invalid.items) h in rw e (omega (arith, most))

  batch-taken : (kind : Kind) (h : History S D P G C) (batch : Batch (Certificate S D P G C)) → taken (after kind (Some batch) h) ≡ taken h
  batch-taken kind h batch = go batch.certificate refl
    where
      go : (o : Option (Certificate S D P G C)) → batch.certificate ≡ o → taken (after kind (Some batch) h) ≡ taken h
      go (Some c) e = rw e refl
      go None e = rw e refl

  -- a batch spends what it judged
  pub spends-batch : (kind : Kind) (h : History S D P G C) (batch : Batch (Certificate S D P G C)) → IsBatch g same s kind h batch → Spends same s batch.processed h (after kind (Some batch) h)
  spends-batch Notarization h batch is = omega (
    arith,
    batch-most Notarization h batch is,
    ap length (batch-waits Notarization h batch is),
    batch-others Notarization Nullification h batch,
    batch-others Notarization Finalization h batch,
    ap length (batch-taken Notarization h batch),
  )
  spends-batch Nullification h batch is = omega (
    arith,
    batch-most Nullification h batch is,
    ap length (batch-waits Nullification h batch is),
    batch-others Nullification Notarization h batch,
    batch-others Nullification Finalization h batch,
    ap length (batch-taken Nullification h batch),
  )
  spends-batch Finalization h batch is = omega (
    arith,
    batch-most Finalization h batch is,
    ap length (batch-waits Finalization h batch is),
    batch-others Finalization Notarization h batch,
    batch-others Finalization Nullification h batch,
    ap length (batch-taken Finalization h batch),
  )
