-- A certificate that is made lists attestations of votes that were heard, or are recorded, that state what it states.
use Rattle.std.proofs.Common.{◌≡◌, ◌⊎◌, inl, inr, ⊎_elim, ℕ, ◌==◌, Bool, true, false, List, [], ◌∷◌, Option, Some, None, refl, sym, ◌∙◌, ap, subst, arith}
use Rattle.std.specs.Prelude.{Contains, IfSome, if◌then◌else◌}
use Rattle.std.proofs.lemmas.Bool.{eqb-true}
use Rattle.std.proofs.lemmas.Option.{none-some}
use Rattle.types_quorum.specs.Counting.{Contains-cases, Contains-head, Contains-rest}
use Rattle.types_core.specs.declared.position.Round.{Round}
use Rattle.types_core.specs.declared.scheme.Scheme.{Ghosts}
use Rattle.messages_certificates.specs.declared.artifact.Artifact.TheVariants as artifact
use Rattle.messages_certificates.specs.declared.certificate.Certificate.{Certificate}
use Rattle.messages_certificates.specs.declared.certificate.Certificate.TheVariants as certificate
use Rattle.simplex_messages.specs.declared.vote.Vote.{Vote}
use Rattle.simplex_messages.specs.declared.vote.Vote.TheVariants as vote
use Rattle.simplex_messages.specs.VoteParts.{vote_artifact}
use Rattle.messages_certificates.specs.Certificate.{certificate_round}
use Rattle.simplex_messages.specs.VoteParts.{vote_round, vote_signer}
use Rattle.simplex_record.specs.Record.{entry, voted}
use Rattle.types_terms.specs.declared.kind.Kind.{Kind}
use Rattle.batcher_verifier.specs.declared.batch.Batch.{Batch}
use Rattle.batcher_verifier.specs.Votes.{vote_attestation, vote_statement}
use Rattle.batcher_verifier.specs.History as votes
use Rattle.batcher_verifier.specs.History.{Taken, Cast, Certified, Led, Judged, Forwarded, accepted, context, is_candidate, is_complete, is_ready, selected, verified, vote_in, waiting}
use Rattle.batcher_verifier.specs.ConstructionResult.{after}
use Rattle.simplex_member.specs.Allowed.{Allowed, AreAllowed, MayRecord}
use Rattle.simplex_member.specs.Laws.{IsKnownVote}
use Rattle.simplex_member.specs.Layers.{all_votes}
use Rattle.simplex_member.specs.Packet.{Formats}
use Rattle.simplex_member.specs.Point.{Point, Found, Heard, Came, Constructs, Leads, Forwards, Votes, History}
use Rattle.simplex_member.specs.Recorded.{record_of, recorded_by}
use Rattle.simplex_member.specs.Setup.{Setup}
use Rattle.simplex_member.proofs.Lists.{if-some, put-before, put-here, some-is}

-- a round is its epoch and its view
pub round-of : (r : Round) (epoch view : ℕ) → r.epoch ≡ epoch → r.view ≡ view → r ≡ record { epoch = epoch; view = view }
round-of r epoch view e at = λ i. record { epoch = e i; view = at i }

module _ {S D P G C : Type 0} where
  -- an attestation's signer is the vote's
  pub signer-of : (v : Vote S D P G C) → (vote_attestation v).signer ≡ vote_signer v
  signer-of (vote.Notarize v) = refl
  signer-of (vote.Nullify v) = refl
  signer-of (vote.Finalize v) = refl

  pub vote-entry : (v : Vote S D P G C) → entry (vote_artifact v) ≡ voted (vote_statement v)
  vote-entry (vote.Notarize v) = refl
  vote-entry (vote.Nullify v) = refl
  vote-entry (vote.Finalize v) = refl

  -- an accepted vote was accepted before, or it is brought by what happened last, in the view
  abbrev IsBrought : ℕ → ℕ → votes.Event (Vote S D P G C) (Certificate S D P G C) → Vote S D P G C → Type 0
  IsBrought view at e v = (at ≡ view) × (vote_in e ≡ Some v)

  brought : (e : votes.Event (Vote S D P G C) (Certificate S D P G C)) (r : votes.History S D P G C) (v : Vote S D P G C) → Contains (accepted (e ∷ r)) v → Contains (accepted r) v ⊎ (vote_in e ≡ Some v)
  brought (Taken u) r v here = ⊎_elim (λ is. inr (ap (λ (x : Vote S D P G C). Some x) is)) (λ later. inl later) (Contains-cases u (accepted r) v here)
  brought (Cast u) r v here = ⊎_elim (λ is. inr (ap (λ (x : Vote S D P G C). Some x) is)) (λ later. inl later) (Contains-cases u (accepted r) v here)
  brought (Certified c) r v here = inl here
  brought (Led i) r v here = inl here
  brought (Judged kind failing) r v here = inl here
  brought Forwarded r v here = inl here

  add-cases : (view at : ℕ) (e : votes.Event (Vote S D P G C) (Certificate S D P G C)) (r : votes.History S D P G C) (v : Vote S D P G C)
      → Contains (accepted (if at == view then e ∷ r else r)) v → Contains (accepted r) v ⊎ IsBrought view at e v
  add-cases view at e r v = go (at == view) (eqb-true at view)
    where
      go : (b : Bool) → (b ≡ true → at ≡ view) → Contains (accepted (if b then e ∷ r else r)) v → Contains (accepted r) v ⊎ IsBrought view at e v
      go true is here = ⊎_elim (λ before. inl before) (λ now. inr (is refl, now)) (brought e r v here)
      go false is here = inl here

  -- where what happened brings no vote, none is new
  add-none : (view at : ℕ) (e : votes.Event (Vote S D P G C) (Certificate S D P G C)) (r : votes.History S D P G C) (v : Vote S D P G C)
      → vote_in e ≡ None → Contains (accepted (if at == view then e ∷ r else r)) v → Contains (accepted r) v
  add-none view at e r v none here = ⊎_elim (λ before. before) (λ now. absurd (none-some v (sym none ∙ now.1))) (add-cases view at e r v here)

  -- a construction brings no vote
  pub after-none : (kind : Kind) (batch : Batch (Certificate S D P G C)) (r : votes.History S D P G C) → accepted (after kind (Some batch) r) ≡ accepted r
  after-none kind batch r = go batch.certificate refl
    where
      go : (o : Option (Certificate S D P G C)) → batch.certificate ≡ o → accepted (after kind (Some batch) r) ≡ accepted r
      go None e = rw e refl
      go (Some c) e = rw e refl

  made-none : (b : Bool) (kind : Kind) (batch : Batch (Certificate S D P G C)) (r : votes.History S D P G C) (v : Vote S D P G C) → Contains (accepted (if b then after kind (Some batch) r else r)) v → Contains (accepted r) v
  made-none true kind batch r v here = subst (λ (l : List (Vote S D P G C)). Contains l v) (after-none kind batch r) here
  made-none false kind batch r v here = here

  pub kept-only : (b : Bool) (r : votes.History S D P G C) (v : Vote S D P G C) → Contains (accepted (if b then [] else r)) v → Contains (accepted r) v
  kept-only true r v here = absurd (omega (arith, here.1))
  kept-only false r v here = here

module _ {S D P G C : Type 0} (g : Ghosts S D P G C) (f : Formats S D P G C) (s : Setup S D C) where
  -- a vote of the view, and of the epoch, that is known
  pub record IsFrom (h : History S D P G C) (view : ℕ) (v : Vote S D P G C) : Type 0 where
    pub ours : vote_round v ≡ record { epoch = s.voter.epoch; view = view }
    pub known : IsKnownVote g f s h v

  pub known-on : (p : Point S D P G C) (h : History S D P G C) (v : Vote S D P G C) → IsKnownVote g f s h v → IsKnownVote g f s (p ∷ h) v
  known-on p h v known = ⊎_elim
      (λ heard. inl (Contains-rest p h (Heard v) heard))
      (λ own. inr (own.0, put-before (record_of h) (recorded_by p) (vote_artifact v) own.1))
      known

  from-on : (p : Point S D P G C) (h : History S D P G C) (view : ℕ) (v : Vote S D P G C) → IsFrom h view v → IsFrom (p ∷ h) view v
  from-on p h view v is = record {
    ours = is.ours;
    known = known-on p h v is.known;
  }

  -- an own vote that may be recorded is of the epoch, and in the own name
  pub own-epoch : (h : History S D P G C) (v : Vote S D P G C) → MayRecord g f s h (vote_artifact v) → (vote_round v).epoch ≡ s.voter.epoch
  own-epoch h (vote.Notarize v) may = may.verifies.epoch
  own-epoch h (vote.Nullify v) may = may.verifies.epoch
  own-epoch h (vote.Finalize v) may = may.verifies.epoch

  pub own-signer : (h : History S D P G C) (v : Vote S D P G C) → MayRecord g f s h (vote_artifact v) → vote_signer v ≡ s.me
  own-signer h (vote.Notarize v) may = may.verifies.own
  own-signer h (vote.Nullify v) may = may.verifies.own
  own-signer h (vote.Finalize v) may = may.verifies.own

  -- an own vote at a point
  own-here : (p : Point S D P G C) (h : History S D P G C) (view : ℕ) (v : Vote S D P G C) → recorded_by p ≡ Some (vote_artifact v) → IfSome (recorded_by p) (MayRecord g f s h) → (vote_round v).view ≡ view → IsFrom (p ∷ h) view v
  own-here p h view v is all at =
      let may = if-some (MayRecord g f s h) (recorded_by p) (vote_artifact v) all is in
      record {
        ours = round-of (vote_round v) s.voter.epoch view (own-epoch h v may) at;
        known = inr (own-signer h v may, put-here (record_of h) (recorded_by p) (vote_artifact v) is);
      }

  module _ (h : History S D P G C) (view : ℕ) (v : Vote S D P G C) (known : Contains (accepted (all_votes view h)) v → IsFrom h view v) where
    before : (q : Point S D P G C) → Contains (accepted (all_votes view h)) v → IsFrom (q ∷ h) view v
    before q there = from-on q h view v (known there)

    own : (q : Point S D P G C) (w : Vote S D P G C) → Allowed g f s h q → recorded_by q ≡ Some (vote_artifact w) → Contains (accepted (all_votes view h)) v ⊎ IsBrought view (vote_round w).view (Cast w) v → IsFrom (q ∷ h) view v
    own q w a is cases = ⊎_elim
        (λ there. before q there)
        (λ now. subst (λ (x : Vote S D P G C). IsFrom (q ∷ h) view x) (some-is w v now.1) (own-here q h view w is a.fits now.0))
        cases

    heard : (w : Vote S D P G C) → Allowed g f s h (Heard w) → Contains (accepted (all_votes view h)) v ⊎ IsBrought view (vote_round w).view (Taken w) v → IsFrom (Heard w ∷ h) view v
    heard w a cases = ⊎_elim
        (λ there. before (Heard w) there)
        (λ now. subst (λ (x : Vote S D P G C). IsFrom (Heard w ∷ h) view x) (some-is w v now.1)
        (record { ours = round-of (vote_round w) s.voter.epoch view a.due.epoch now.0; known = inl (Contains-head (Heard w) h) }))
        cases

    known-here : (q : Point S D P G C) → Allowed g f s h q → Contains (accepted (all_votes view (q ∷ h))) v → IsFrom (q ∷ h) view v
    known-here (Found (artifact.Notarize w) taken) a here = own (Found (artifact.Notarize w) taken) (vote.Notarize w) a refl (add-cases view w.proposal.round.view (Cast (vote.Notarize w)) (all_votes view h) v here)
    known-here (Found (artifact.Nullify w) taken) a here = own (Found (artifact.Nullify w) taken) (vote.Nullify w) a refl (add-cases view w.round.view (Cast (vote.Nullify w)) (all_votes view h) v here)
    known-here (Found (artifact.Finalize w) taken) a here = own (Found (artifact.Finalize w) taken) (vote.Finalize w) a refl (add-cases view w.proposal.round.view (Cast (vote.Finalize w)) (all_votes view h) v here)
    known-here (Found (artifact.Notarization c) taken) a here = before _ (add-none view c.proposal.round.view (Certified (certificate.Notarization c)) (all_votes view h) v refl here)
    known-here (Found (artifact.Nullification c) taken) a here = before _ (add-none view c.round.view (Certified (certificate.Nullification c)) (all_votes view h) v refl here)
    known-here (Found (artifact.Finalization c) taken) a here = before _ (add-none view c.proposal.round.view (Certified (certificate.Finalization c)) (all_votes view h) v refl here)
    known-here (Found (artifact.Certification r ok) taken) a here = before _ here
    known-here (Heard w) a here = heard w a (add-cases view (vote_round w).view (Taken w) (all_votes view h) v here)
    known-here (Came c) a here = before _ (add-none view (certificate_round c).view (Certified c) (all_votes view h) v refl here)
    known-here (Leads at i) a here = before _ (add-none view at (Led i) (all_votes view h) v refl here)
    known-here (Forwards at q) a here = before _ (add-none view at Forwarded (all_votes view h) v refl here)
    known-here (Constructs at kind batch) a here = before _ (made-none (at == view) kind batch (all_votes view h) v here)
    known-here (Votes w) a here = own (Votes w) w a refl (add-cases view (vote_round w).view (Cast w) (all_votes view h) v here)
    known-here q a here = before q here

  -- each accepted vote of a view is known
  pub accepted-known : (h : History S D P G C) → AreAllowed g f s h → (view : ℕ) (v : Vote S D P G C) → Contains (accepted (all_votes view h)) v → IsFrom h view v
  accepted-known [] all view v here = absurd (omega (arith, here.1))
  accepted-known (p ∷ h) all view v here = known-here h view v (λ there. accepted-known h all.1 view v there) p all.0 here
