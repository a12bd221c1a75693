-- The votes of a view know each certificate of it that is recorded.
use Rattle.std.proofs.Common.{◌≡◌, ⊎_elim, ℕ, ◌==◌, Bool, true, false, [], ◌∷◌, Option, Some, None, refl, sym, ◌∙◌, ap, subst}
use Rattle.std.specs.Prelude.{find, if◌then◌else◌, is_some, filter_map, option_map}
use Rattle.std.proofs.lemmas.Option.{none-some}
use Rattle.types_quorum.specs.Counting.{Contains-nil}
use Rattle.types_core.specs.declared.position.Round.{Round}
use Rattle.types_core.specs.declared.scheme.Scheme.{Ghosts}
use Rattle.types_core.specs.Subject.{Statement, notarize, nullify, finalize, statement_round}
use Rattle.messages_certificates.specs.declared.artifact.Artifact.{Artifact}
use Rattle.messages_certificates.specs.declared.artifact.Artifact.TheVariants as artifact
use Rattle.messages_certificates.specs.declared.certificate.Certificate.{Certificate}
use Rattle.messages_certificates.specs.declared.certificate.Certificate.TheVariants as certificate
use Rattle.messages_certificates.specs.Artifact.{certificate_artifact}
use Rattle.messages_certificates.specs.Certificate.{certificate_round, certificate_statement}
use Rattle.simplex_messages.specs.declared.vote.Vote.{Vote}
use Rattle.simplex_messages.specs.declared.vote.Vote.TheVariants as vote
use Rattle.simplex_messages.specs.VoteParts.{vote_artifact, vote_round}
use Rattle.simplex_record.specs.Record as recorded
use Rattle.simplex_record.specs.Record.{Entry, entry, entries, HasTaken}
use Rattle.types_terms.specs.declared.kind.Kind.{Kind}
use Rattle.types_terms.specs.declared.kind.Kind.TheVariants as kind
use Rattle.batcher_verifier.specs.declared.batch.Batch.{Batch}
use Rattle.batcher_verifier.specs.ConstructionResult.{after}
use Rattle.batcher_verifier.specs.History as votes
use Rattle.batcher_verifier.specs.History.{Taken, Cast, Certified, Led, Judged, Forwarded, certificate_in, is_complete}
use Rattle.batcher_verifier.specs.Votes.{certificate_kind, is_kind}
use Rattle.simplex_member.specs.Allowed.{Allowed, AreAllowed}
use Rattle.simplex_member.specs.Layers.{all_votes, votes_of, votes_setup}
use Rattle.simplex_member.specs.Packet.{Formats}
use Rattle.simplex_member.specs.Point as point
use Rattle.simplex_member.specs.Point.{Point, Found, Heard, Came, Leads, Forwards, Constructs, Votes, History}
use Rattle.simplex_member.specs.Recorded.{record_of, recorded_by}
use Rattle.simplex_member.specs.Setup.{Setup}
use Rattle.simplex_member.proofs.Ballots.{batch-round}
use Rattle.simplex_member.proofs.Lists.{put-mapped, same-number, some-is}
use Rattle.simplex_member.proofs.Raising.{certificate-entry, certificate-stated}

module _ {D : Type 0} where
  -- the kind of certificate that a statement is for
  abbrev pub statement_kind : Statement D → Kind
  statement_kind (notarize p) = kind.Notarization
  statement_kind (nullify r) = kind.Nullification
  statement_kind (finalize p) = kind.Finalization

  -- what an entry says was certified
  abbrev taken_in : Entry D → Option (Statement D)
  taken_in (recorded.taken x) = Some x
  taken_in e = None

  taken-is : (x y : Statement D) → recorded.taken x ≡ recorded.taken y → x ≡ y
  taken-is x y is = some-is x y (ap taken_in is)

  never-taken : (e : Entry D) (x : Statement D) → taken_in e ≡ None → e ≡ recorded.taken x → ⊥
  never-taken e x none is = none-some x (sym none ∙ ap taken_in is)

module _ {S D P G C : Type 0} where
  pub kind-stated : (c : Certificate S D P G C) → statement_kind (certificate_statement c) ≡ certificate_kind c
  kind-stated (certificate.Notarization c) = refl
  kind-stated (certificate.Nullification c) = refl
  kind-stated (certificate.Finalization c) = refl

  vote-untaken : (v : Vote S D P G C) → taken_in (entry (vote_artifact v)) ≡ None
  vote-untaken (vote.Notarize v) = refl
  vote-untaken (vote.Nullify v) = refl
  vote-untaken (vote.Finalize v) = refl

  -- ---- a kind that has its certificate keeps it

  complete-stays : (k : Kind) (e : votes.Event (Vote S D P G C) (Certificate S D P G C)) (r : votes.History S D P G C) → is_complete k r ≡ true → is_complete k (e ∷ r) ≡ true
  complete-stays k (Certified c) r is = go (is_kind k (certificate_kind c))
    where
      go : (b : Bool) → is_some (if b then Some c else find (λ d. is_kind k (certificate_kind d)) (filter_map certificate_in r)) ≡ true
      go true = refl
      go false = is
  complete-stays k e r is = is

  pub complete-new : (c : Certificate S D P G C) (r : votes.History S D P G C) → is_complete (certificate_kind c) (Certified c ∷ r) ≡ true
  complete-new (certificate.Notarization c) r = refl
  complete-new (certificate.Nullification c) r = refl
  complete-new (certificate.Finalization c) r = refl

  stays-at : (b : Bool) (k : Kind) (e : votes.Event (Vote S D P G C) (Certificate S D P G C)) (r : votes.History S D P G C) → is_complete k r ≡ true → is_complete k (if b then e ∷ r else r) ≡ true
  stays-at true k e r is = complete-stays k e r is
  stays-at false k e r is = is

  made-stays : (b : Bool) (k made : Kind) (batch : Batch (Certificate S D P G C)) (r : votes.History S D P G C) → is_complete k r ≡ true → is_complete k (if b then after made (Some batch) r else r) ≡ true
  made-stays true k made batch r is = go batch.certificate refl
    where
      go : (o : Option (Certificate S D P G C)) → batch.certificate ≡ o → is_complete k (after made (Some batch) r) ≡ true
      go None e = rw e (complete-stays k (Judged made batch.invalid.items) r is)
      go (Some c) e = rw e (complete-stays k (Certified c) r is)
  made-stays false k made batch r is = is

  pub complete-on : (p : Point S D P G C) (h : History S D P G C) (view : ℕ) (k : Kind) → is_complete k (all_votes view h) ≡ true → is_complete k (all_votes view (p ∷ h)) ≡ true
  complete-on (Found (artifact.Notarize w) taken) h view k is = stays-at (w.proposal.round.view == view) k (Cast (vote.Notarize w)) (all_votes view h) is
  complete-on (Found (artifact.Notarization c) taken) h view k is = stays-at (c.proposal.round.view == view) k (Certified (certificate.Notarization c)) (all_votes view h) is
  complete-on (Found (artifact.Certification r ok) taken) h view k is = is
  complete-on (Found (artifact.Nullify w) taken) h view k is = stays-at (w.round.view == view) k (Cast (vote.Nullify w)) (all_votes view h) is
  complete-on (Found (artifact.Nullification c) taken) h view k is = stays-at (c.round.view == view) k (Certified (certificate.Nullification c)) (all_votes view h) is
  complete-on (Found (artifact.Finalize w) taken) h view k is = stays-at (w.proposal.round.view == view) k (Cast (vote.Finalize w)) (all_votes view h) is
  complete-on (Found (artifact.Finalization c) taken) h view k is = stays-at (c.proposal.round.view == view) k (Certified (certificate.Finalization c)) (all_votes view h) is
  complete-on (Heard w) h view k is = stays-at ((vote_round w).view == view) k (Taken w) (all_votes view h) is
  complete-on (Came c) h view k is = stays-at ((certificate_round c).view == view) k (Certified c) (all_votes view h) is
  complete-on (Leads at i) h view k is = stays-at (at == view) k (Led i) (all_votes view h) is
  complete-on (Forwards at q) h view k is = stays-at (at == view) k Forwarded (all_votes view h) is
  complete-on (Constructs at made batch) h view k is = made-stays (at == view) k made batch (all_votes view h) is
  complete-on (Votes w) h view k is = stays-at ((vote_round w).view == view) k (Cast w) (all_votes view h) is
  complete-on p h view k is = is

  -- a certificate that is added to its view completes its kind
  added : (c : Certificate S D P G C) (at : ℕ) (r : votes.History S D P G C) → at ≡ (certificate_round c).view → is_complete (certificate_kind c) (if at == (certificate_round c).view then Certified c ∷ r else r) ≡ true
  added c at r is = subst (λ (b : Bool). is_complete (certificate_kind c) (if b then Certified c ∷ r else r) ≡ true) (sym (same-number at (certificate_round c).view is)) (complete-new c r)

module _ {S D P G C : Type 0} (g : Ghosts S D P G C) (f : Formats S D P G C) (s : Setup S D C) where
  -- of a statement the votes of its view have the certificate of its kind
  abbrev pub IsCompleted : History S D P G C → Statement D → Type 0
  IsCompleted h x = is_complete (statement_kind x) (all_votes (statement_round x).view h) ≡ true

  by-certificate : (h : History S D P G C) (c : Certificate S D P G C) (x : Statement D) → is_complete (certificate_kind c) (all_votes (certificate_round c).view h) ≡ true → entry (certificate_artifact c) ≡ recorded.taken x → IsCompleted h x
  by-certificate h c x complete is = subst (λ (y : Statement D). IsCompleted h y) (taken-is (certificate_statement c) x (sym (certificate-entry c) ∙ is))
      (subst (λ (k : Kind). is_complete k (all_votes (statement_round (certificate_statement c)).view h) ≡ true) (sym (kind-stated c))
      (subst (λ (r : Round). is_complete (certificate_kind c) (all_votes r.view h) ≡ true) (sym (certificate-stated c)) complete))

  found-here : (h : History S D P G C) (a : Artifact S D P G C) (taken : Bool) (x : Statement D) → entry a ≡ recorded.taken x → IsCompleted (Found a taken ∷ h) x
  found-here h (artifact.Notarization c) taken x is = by-certificate (Found (artifact.Notarization c) taken ∷ h) (certificate.Notarization c) x (added (certificate.Notarization c) c.proposal.round.view (all_votes c.proposal.round.view h) refl) is
  found-here h (artifact.Nullification c) taken x is = by-certificate (Found (artifact.Nullification c) taken ∷ h) (certificate.Nullification c) x (added (certificate.Nullification c) c.round.view (all_votes c.round.view h) refl) is
  found-here h (artifact.Finalization c) taken x is = by-certificate (Found (artifact.Finalization c) taken ∷ h) (certificate.Finalization c) x (added (certificate.Finalization c) c.proposal.round.view (all_votes c.proposal.round.view h) refl) is
  found-here h (artifact.Notarize v) taken x is = absurd (never-taken (recorded.voted (notarize v.proposal)) x refl is)
  found-here h (artifact.Nullify v) taken x is = absurd (never-taken (recorded.voted (nullify v.round)) x refl is)
  found-here h (artifact.Finalize v) taken x is = absurd (never-taken (recorded.voted (finalize v.proposal)) x refl is)
  found-here h (artifact.Certification r ok) taken x is = absurd (never-taken (recorded.judged r ok) x refl is)

  -- the certificate that a construction made was added to its view
  made-added : (h : History S D P G C) (view : ℕ) (k : Kind) (batch : Batch (Certificate S D P G C)) (c : Certificate S D P G C) → Allowed g f s h (Constructs view k batch) → batch.certificate ≡ Some c
      → is_complete (certificate_kind c) (all_votes (certificate_round c).view (Constructs view k batch ∷ h)) ≡ true
  made-added h view k batch c a e =
      let at : view ≡ (certificate_round c).view = sym (ap (λ (r : Round). r.view) (batch-round g f s (votes_setup s g h view) k (votes_of s h view) batch c a.due.2 e)) in
      subst (λ (l : votes.History S D P G C). is_complete (certificate_kind c) (if view == (certificate_round c).view then l else all_votes (certificate_round c).view h) ≡ true) (sym (after-is (all_votes (certificate_round c).view h)))
      (added c view (all_votes (certificate_round c).view h) at)
    where
      after-is : (r : votes.History S D P G C) → after k (Some batch) r ≡ Certified c ∷ r
      after-is r = rw e refl

  taken-here : (p : Point S D P G C) (h : History S D P G C) → Allowed g f s h p → (a : Artifact S D P G C) (x : Statement D) → recorded_by p ≡ Some a → entry a ≡ recorded.taken x → IsCompleted (p ∷ h) x
  taken-here (Found y taken) h allowed a x records is = found-here h y taken x (ap entry (some-is y a records) ∙ is)
  taken-here (Came c) h allowed a x records is = by-certificate (Came c ∷ h) c x (added c (certificate_round c).view (all_votes (certificate_round c).view h) refl) (ap entry (some-is (certificate_artifact c) a records) ∙ is)
  taken-here (Constructs view k batch) h allowed a x records is = go batch.certificate refl records
    where
      go : (o : Option (Certificate S D P G C)) → batch.certificate ≡ o → option_map certificate_artifact o ≡ Some a → IsCompleted (Constructs view k batch ∷ h) x
      go None e none = absurd (none-some a none)
      go (Some c) e some = by-certificate (Constructs view k batch ∷ h) c x (made-added h view k batch c allowed e) (ap entry (some-is (certificate_artifact c) a some) ∙ is)
  taken-here (Votes v) h allowed a x records is = absurd (never-taken (entry (vote_artifact v)) x (vote-untaken v) (ap entry (some-is (vote_artifact v) a records) ∙ is))
  taken-here (point.Judged r ok) h allowed a x records is = absurd (never-taken (recorded.judged r ok) x refl (ap entry (some-is (artifact.Certification r ok) a records) ∙ is))
  taken-here p h allowed a x records is = absurd (none-some a records)

  pub taken-completes : (h : History S D P G C) → AreAllowed g f s h → (x : Statement D) → HasTaken (entries (record_of h)) x → IsCompleted h x
  taken-completes [] all x here = absurd (Contains-nil (recorded.taken x) here)
  taken-completes (p ∷ h) all x here = ⊎_elim
      (λ before. complete-on p h (statement_round x).view (statement_kind x) (taken-completes h all.1 x before))
      (λ now. taken-here p h all.0 now.0 x now.1 now.2)
      (put-mapped entry (record_of h) (recorded_by p) (recorded.taken x) here)
