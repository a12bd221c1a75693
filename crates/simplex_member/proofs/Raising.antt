-- How often a step raises the current view: by each view whose votes were heard, once.
use Rattle.std.proofs.Common.{◌≡◌, ◌≢◌, ⊎_elim, inl, inr, ℕ, suc, ◌+◌, ◌≤◌, ◌<◌, ◌==◌, Bool, true, false, List, [], ◌∷◌, length, Option, Some, None, refl, sym, ◌∙◌, ap, subst, arith}
use Rattle.std.specs.Prelude.{All, Contains, IfSome, ◌⊎◌, ◌^◌, find, if◌then◌else◌, nat_lt, option_map}
use Rattle.std.proofs.lemmas.Bool.{le-ltb, lt-ltb, ltb-false, ltb-true}
use Rattle.std.proofs.lemmas.Option.{none-some}
use Rattle.types_quorum.specs.Counting.{Contains-cases, Contains-head, Contains-rest, NoneTwice, NoneTwice-cons, escapes, no_longer}
use Rattle.types_core.specs.declared.attestation.Attestation.{Attestation}
use Rattle.types_core.specs.declared.position.Round.{Round}
use Rattle.types_core.specs.declared.scheme.Scheme.{Ghosts}
use Rattle.types_core.specs.Overlap.{AttestsIn, signers, signers-AreQuorum, two_quorums_attest}
use Rattle.types_core.specs.Quorum.{IsQuorum}
use Rattle.types_core.specs.Subject.{Statement, notarize, nullify, finalize, statement_round}
use Rattle.messages_certificates.specs.declared.artifact.Artifact.TheVariants as artifact
use Rattle.messages_certificates.specs.declared.certificate.Certificate.{Certificate}
use Rattle.messages_certificates.specs.declared.certificate.Certificate.TheVariants as certificate
use Rattle.messages_certificates.specs.Artifact.{certificate_artifact}
use Rattle.messages_certificates.specs.Certificate.{certificate_round, certificate_statement, certified_by}
use Rattle.simplex_messages.specs.declared.vote.Vote.{Vote}
use Rattle.simplex_messages.specs.declared.vote.Vote.TheVariants as vote
use Rattle.simplex_messages.specs.VoteParts.{vote_round, vote_signer}
use Rattle.simplex_record.specs.Record as recorded
use Rattle.simplex_record.specs.Record.{Entry, entry, entries, HasTaken}
use Rattle.simplex_record.specs.Rules.{AreAlike, MayTake}
use Rattle.types_terms.specs.declared.kind.Kind.{Kind}
use Rattle.batcher_verifier.specs.declared.batch.Batch.{Batch}
use Rattle.batcher_verifier.specs.ConstructionResult.{after}
use Rattle.batcher_verifier.specs.History as votes
use Rattle.batcher_verifier.specs.History.{Taken, Cast, Certified, Led, Judged, Forwarded, accepted}
use Rattle.batcher_verifier.specs.Votes.{is_in_way, vote_statement}
use Rattle.simplex_member.specs.declared.event.Event.{Event}
use Rattle.simplex_member.specs.Allowed.{Allowed, AreAllowed, MayRecord}
use Rattle.simplex_member.specs.Laws.{IsKnownVote, IsOfVote, RecordLaws, RoundLaws, raises}
use Rattle.simplex_member.specs.Layers.{all_votes, current_of, finalized_of, floor_of, opened, opens, passes_over, stage, votes_of, votes_setup, Stage, Unopened, Collected, PassedOver, IsUp, first_up}
use Rattle.simplex_member.specs.Member.{AreStep, Goes, IsPointOf}
use Rattle.simplex_member.specs.Packet.{Formats}
use Rattle.simplex_member.specs.Point as point
use Rattle.simplex_member.specs.Point.{AreActs, Point, Found, Began, Opened, Told, Heard, Came, Wanted, Built, Checked, Leads, Forwards, Constructs, Votes, History, is_act}
use Rattle.simplex_member.specs.Recorded.{record_of, recorded_by}
use Rattle.simplex_member.specs.Setup.{Setup}
use Rattle.simplex_member.proofs.Ballots.{batch-round, heard-another, made-lists, collected-up, stage-kept, taken-allowed}
use Rattle.simplex_member.proofs.Going.{allowed-lawful}
use Rattle.simplex_member.proofs.Listed.{after-none, known-on, signer-of}
use Rattle.simplex_member.proofs.Lists.{Contains-map, Contains-mapped, mapped-before, put-here, same-number, some-is}
use Rattle.simplex_member.proofs.Peace.{one-a-way, way-turned}
use Rattle.simplex_member.proofs.Rising.{goes-rise}
use Rattle.simplex_member.proofs.Telling.{apart}

no-less : (n : ℕ) → nat_lt n n ≡ true → ⊥
no-less n less = let below = ltb-true n n less in absurd (omega (arith, below))

-- where nothing is found, nothing that passes is there
none-passes : {X : Type 0} (p : X → Bool) (xs : List X) (x : X) → find p xs ≡ None → Contains xs x → p x ≡ true → ⊥
none-passes p [] x none here is = absurd (omega (arith, here.1))
none-passes {X} p (y ∷ xs) x none here is = go (p y) refl none (λ found later. none-passes p xs x found later is)
  where
    go : (b : Bool) → p y ≡ b → (if b then Some y else find p xs) ≡ None → (find p xs ≡ None → Contains xs x → ⊥) → ⊥
    go true e found rest = none-some y (sym found)
    go false e found rest = ⊎_elim (λ same. apart (sym e ∙ (ap p same ∙ is))) (λ later. rest found later) (Contains-cases y xs x here)

-- the first of a list that has one
pick : (P : ℕ → Type 0) (xs : List ℕ) → 1 ≤ length xs → All P xs → (i : ℕ) × P i
pick P [] some all = absurd (omega (arith, some))
pick P (i ∷ xs) some all = (i, all 0 i (omega arith))

-- one more, or none
either : (b : Bool) (n rounds : ℕ) → n ≤ rounds + 1 → (if b then 1 else 0) + n ≤ rounds + 2
either true n rounds few = omega (arith, few)
either false n rounds few = omega (arith, few)

pub up-first : (o : Stage) (d : Bool) → IsUp (first_up o d)
up-first Unopened true = refl
up-first Unopened false = refl
up-first Collected d = refl
up-first PassedOver d = refl

pub up-either : (b : Bool) (o : Stage) (d : Bool) → IsUp o → IsUp (if b then first_up o d else o)
up-either true o d up = up-first o d
up-either false o d up = up

module _ {D : Type 0} where
  -- what gives a view up, or says that it is final
  abbrev is_other : Statement D → Bool
  is_other (notarize p) = false
  is_other (nullify r) = true
  is_other (finalize p) = true

  same-alike : (x : Statement D) → AreAlike x x
  same-alike (notarize p) = refl
  same-alike (nullify r) = refl
  same-alike (finalize p) = refl

module _ {S D P G C : Type 0} where
  -- a certificate that may lead to a new view
  abbrev pub leads_on : Certificate S D P G C → Bool
  leads_on (certificate.Notarization c) = false
  leads_on (certificate.Nullification c) = true
  leads_on (certificate.Finalization c) = true

  leads-other : (c : Certificate S D P G C) → leads_on c ≡ true → is_other (certificate_statement c) ≡ true
  leads-other (certificate.Notarization c) leads = leads
  leads-other (certificate.Nullification c) leads = leads
  leads-other (certificate.Finalization c) leads = leads

  pub certificate-entry : (c : Certificate S D P G C) → entry (certificate_artifact c) ≡ recorded.taken (certificate_statement c)
  certificate-entry (certificate.Notarization c) = refl
  certificate-entry (certificate.Nullification c) = refl
  certificate-entry (certificate.Finalization c) = refl

  vote-stated : (v : Vote S D P G C) → statement_round (vote_statement v) ≡ vote_round v
  vote-stated (vote.Notarize v) = refl
  vote-stated (vote.Nullify v) = refl
  vote-stated (vote.Finalize v) = refl

  pub certificate-stated : (c : Certificate S D P G C) → statement_round (certificate_statement c) ≡ certificate_round c
  certificate-stated (certificate.Notarization c) = refl
  certificate-stated (certificate.Nullification c) = refl
  certificate-stated (certificate.Finalization c) = refl

  -- votes of one signer of these kinds stand in each other's way
  in-way : (v u : Vote S D P G C) → is_other (vote_statement v) ≡ true → is_other (vote_statement u) ≡ true → vote_signer u ≡ vote_signer v → is_in_way v u ≡ true
  in-way (vote.Notarize v) u is too same = absurd (apart is)
  in-way (vote.Nullify v) (vote.Notarize u) is too same = absurd (apart too)
  in-way (vote.Nullify v) (vote.Nullify u) is too same = same-number u.attestation.signer v.attestation.signer same
  in-way (vote.Nullify v) (vote.Finalize u) is too same = same-number u.attestation.signer v.attestation.signer same
  in-way (vote.Finalize v) (vote.Notarize u) is too same = absurd (apart too)
  in-way (vote.Finalize v) (vote.Nullify u) is too same = same-number u.attestation.signer v.attestation.signer same
  in-way (vote.Finalize v) (vote.Finalize u) is too same = same-number u.attestation.signer v.attestation.signer same

  -- ---- what was accepted stays so

  stays-at : (b : Bool) (e : votes.Event (Vote S D P G C) (Certificate S D P G C)) (r : votes.History S D P G C) (v : Vote S D P G C) → Contains (accepted r) v → Contains (accepted (if b then e ∷ r else r)) v
  stays-at false e r v here = here
  stays-at true (Taken u) r v here = Contains-rest u (accepted r) v here
  stays-at true (Cast u) r v here = Contains-rest u (accepted r) v here
  stays-at true (Certified c) r v here = here
  stays-at true (Led i) r v here = here
  stays-at true (Judged kind failing) r v here = here
  stays-at true Forwarded r v here = here

  made-stays : (b : Bool) (kind : Kind) (batch : Batch (Certificate S D P G C)) (r : votes.History S D P G C) (v : Vote S D P G C) → Contains (accepted r) v → Contains (accepted (if b then after kind (Some batch) r else r)) v
  made-stays true kind batch r v here = subst (λ (l : List (Vote S D P G C)). Contains l v) (sym (after-none kind batch r)) here
  made-stays false kind batch r v here = here

  accepted-stays : (p : Point S D P G C) (h : History S D P G C) (view : ℕ) (v : Vote S D P G C) → Contains (accepted (all_votes view h)) v → Contains (accepted (all_votes view (p ∷ h))) v
  accepted-stays (Found (artifact.Notarize w) taken) h view v here = stays-at (w.proposal.round.view == view) (Cast (vote.Notarize w)) (all_votes view h) v here
  accepted-stays (Found (artifact.Notarization c) taken) h view v here = stays-at (c.proposal.round.view == view) (Certified (certificate.Notarization c)) (all_votes view h) v here
  accepted-stays (Found (artifact.Certification r ok) taken) h view v here = here
  accepted-stays (Found (artifact.Nullify w) taken) h view v here = stays-at (w.round.view == view) (Cast (vote.Nullify w)) (all_votes view h) v here
  accepted-stays (Found (artifact.Nullification c) taken) h view v here = stays-at (c.round.view == view) (Certified (certificate.Nullification c)) (all_votes view h) v here
  accepted-stays (Found (artifact.Finalize w) taken) h view v here = stays-at (w.proposal.round.view == view) (Cast (vote.Finalize w)) (all_votes view h) v here
  accepted-stays (Found (artifact.Finalization c) taken) h view v here = stays-at (c.proposal.round.view == view) (Certified (certificate.Finalization c)) (all_votes view h) v here
  accepted-stays (Heard w) h view v here = stays-at ((vote_round w).view == view) (Taken w) (all_votes view h) v here
  accepted-stays (Came c) h view v here = stays-at ((certificate_round c).view == view) (Certified c) (all_votes view h) v here
  accepted-stays (Leads at i) h view v here = stays-at (at == view) (Led i) (all_votes view h) v here
  accepted-stays (Forwards at q) h view v here = stays-at (at == view) Forwarded (all_votes view h) v here
  accepted-stays (Constructs at kind batch) h view v here = made-stays (at == view) kind batch (all_votes view h) v here
  accepted-stays (Votes w) h view v here = stays-at ((vote_round w).view == view) (Cast w) (all_votes view h) v here
  accepted-stays p h view v here = here

  -- a vote that was heard was accepted in its view
  heard-accepted : (h : History S D P G C) (v : Vote S D P G C) → Contains h (Heard v) → Contains (accepted (all_votes (vote_round v).view h)) v
  heard-accepted [] v here = absurd (omega (arith, here.1))
  heard-accepted (p ∷ h) v here = ⊎_elim
      (λ is. subst (λ (q : Point S D P G C). Contains (accepted (all_votes (vote_round v).view (q ∷ h))) v) (sym is)
      (subst (λ (b : Bool). Contains (accepted (if b then Taken v ∷ all_votes (vote_round v).view h else all_votes (vote_round v).view h)) v) (sym (same-number (vote_round v).view (vote_round v).view refl)) (Contains-head v (accepted (all_votes (vote_round v).view h)))))
      (λ later. accepted-stays p h (vote_round v).view v (heard-accepted h v later))
      (Contains-cases p h (Heard v) here)

  -- the vote that a point heard, and the view of one, and that of a construction
  abbrev heard_in : Point S D P G C → Option (Vote S D P G C)
  heard_in (Heard v) = Some v
  heard_in p = None

  abbrev heard_view : Point S D P G C → ℕ
  heard_view (Heard v) = (vote_round v).view
  heard_view p = 0

  abbrev pub view_of : Point S D P G C → ℕ
  view_of (Constructs view kind batch) = view
  view_of p = 0

  act-hears-none : (p : Point S D P G C) (v : Vote S D P G C) → is_act p ≡ true → p ≡ Heard v → ⊥
  act-hears-none p v act is = apart (subst (λ (q : Point S D P G C). is_act q ≡ true) is act)

module _ {S D P G C : Type 0} (g : Ghosts S D P G C) (f : Formats S D P G C) (s : Setup S D C) where
  may-take : (h : History S D P G C) (c : Certificate S D P G C) → MayRecord g f s h (certificate_artifact c) → MayTake s.voter.length (entries (record_of h)) (certificate_statement c)
  may-take h (certificate.Notarization c) may = may.follows
  may-take h (certificate.Nullification c) may = may.follows
  may-take h (certificate.Finalization c) may = may.follows

  does-certify : (h : History S D P G C) (c : Certificate S D P G C) → MayRecord g f s h (certificate_artifact c) → g.certifies s.voter.scheme (certificate_statement c) (certified_by c)
  does-certify h (certificate.Notarization c) may = may.verifies.verifies
  does-certify h (certificate.Nullification c) may = may.verifies.verifies
  does-certify h (certificate.Finalization c) may = may.verifies.verifies

  -- the votes of the view of a vote that was heard came up
  heard-opened : (h : History S D P G C) → AreAllowed g f s h → (v : Vote S D P G C) → Contains h (Heard v) → IsUp (opened s h (vote_round v).view)
  heard-opened [] all v here = absurd (omega (arith, here.1))
  heard-opened (p ∷ h) all v here = ⊎_elim
      (λ is. subst (λ (q : Point S D P G C). IsUp (opened s (q ∷ h) (vote_round v).view)) (sym is) (now (subst (λ (q : Point S D P G C). Allowed g f s h q) is all.0)))
      (λ later. up-either (opens s h p (vote_round v).view) (opened s h (vote_round v).view) (passes_over s h (vote_round v).view) (heard-opened h all.1 v later))
      (Contains-cases p h (Heard v) here)
    where
      opens-now : Allowed g f s h (Heard v) → opens s h (Heard v) (vote_round v).view ≡ true
      opens-now a = rw (same-number (vote_round v).view (vote_round v).view refl) (lt-ltb _ (2 ^ 64) a.due.room)

      now : Allowed g f s h (Heard v) → IsUp (opened s (Heard v ∷ h) (vote_round v).view)
      now a = subst (λ (b : Bool). IsUp (if b then first_up (opened s h (vote_round v).view) (passes_over s h (vote_round v).view) else opened s h (vote_round v).view)) (sym (opens-now a)) (up-first (opened s h (vote_round v).view) (passes_over s h (vote_round v).view))

  -- a vote that is heard has none heard before in its way
  heard-free : (h : History S D P G C) (v u : Vote S D P G C) → Allowed g f s h (Heard v) → Contains h (Heard u) → (vote_round u).view ≡ (vote_round v).view → is_in_way v u ≡ true → ⊥
  heard-free h v u a there at way = none-passes (is_in_way v) (accepted (all_votes (vote_round v).view h)) u (taken-allowed g f s h (vote_round v).view false v a refl).free
      (subst (λ (n : ℕ). Contains (accepted (all_votes n h)) u) at (heard-accepted h u there)) way

  heard-apart : (h : History S D P G C) → AreAllowed g f s h → (v u : Vote S D P G C) → Contains h (Heard v) → Contains h (Heard u) → (vote_round u).view ≡ (vote_round v).view → is_in_way v u ≡ true → u ≡ v
  heard-apart [] all v u here there at way = absurd (omega (arith, here.1))
  heard-apart (p ∷ h) all v u here there at way = ⊎_elim
      (λ first. ⊎_elim
      (λ too. some-is u v (ap heard_in (sym too ∙ first)))
      (λ before. absurd (heard-free h v u (subst (λ (q : Point S D P G C). Allowed g f s h q) first all.0) before at way))
      (Contains-cases p h (Heard u) there))
      (λ later. ⊎_elim
      (λ last. absurd (heard-free h u v (subst (λ (q : Point S D P G C). Allowed g f s h q) last all.0) later (sym at) (way-turned v u way)))
      (λ before. heard-apart h all.1 v u later before at way)
      (Contains-cases p h (Heard u) there))
      (Contains-cases p h (Heard v) here)

  -- two known votes of which one stands in the other's way are one
  known-apart : RecordLaws g → (h : History S D P G C) → AreAllowed g f s h → (v u : Vote S D P G C) → IsKnownVote g f s h v → IsKnownVote g f s h u → (vote_round u).view ≡ (vote_round v).view → vote_signer u ≡ vote_signer v → is_in_way v u ≡ true → u ≡ v
  known-apart grows h all v u known too at signer way = ⊎_elim
      (λ heard. ⊎_elim
      (λ also. heard-apart h all v u heard also at way)
      (λ own. absurd (heard-another g f s h all v heard (sym signer ∙ own.0)))
      too)
      (λ own. ⊎_elim
      (λ heard. absurd (heard-another g f s h all u heard (signer ∙ own.0)))
      (λ also. one-a-way g f s (record_of h) (allowed-lawful g f s grows h all) v u own.1 also.1 at way)
      too)
      known

  -- a view that a certificate led on from: it is recorded, and lists a quorum of known votes
  record IsWay (h : History S D P G C) (view : ℕ) : Type 0 where
    pub c : Certificate S D P G C
    pub at : (certificate_round c).view ≡ view
    pub leads : leads_on c ≡ true
    pub taken : HasTaken (entries (record_of h)) (certificate_statement c)
    pub voted : (a : Attestation G) → Contains (g.lists (certified_by c)) a → IsOfVote g f s h (certificate_statement c) a
    pub listed : IsQuorum (g.size s.voter.scheme) (λ i a. g.attests s.voter.scheme i (certificate_statement c) a) (g.lists (certified_by c))

  vote-on : (p : Point S D P G C) (h : History S D P G C) (x : Statement D) (a : Attestation G) → IsOfVote g f s h x a → IsOfVote g f s (p ∷ h) x a
  vote-on p h x a is = record { vote = is.vote; known = known-on g f s p h is.vote is.known; attestation_is = is.attestation_is; states = is.states }

  way-on : (p : Point S D P G C) (h : History S D P G C) (view : ℕ) → IsWay h view → IsWay (p ∷ h) view
  way-on p h view way = record {
    c = way.c;
    at = way.at;
    leads = way.leads;
    taken = mapped-before entry (record_of h) (recorded_by p) (recorded.taken (certificate_statement way.c)) way.taken;
    voted = λ a here. vote-on p h (certificate_statement way.c) a (way.voted a here);
    listed = way.listed;
  }

  -- a construction that raises the current view
  pub record IsRise (p : Point S D P G C) : Type 0 where
    pub view : ℕ
    pub kind : Kind
    pub batch : Batch (Certificate S D P G C)
    pub is : p ≡ Constructs view kind batch
    pub c : Certificate S D P G C
    pub made : batch.certificate ≡ Some c
    pub leads : leads_on c ≡ true

  -- of the acts constructions alone raise it
  pub rise-of : (p : Point S D P G C) (h : History S D P G C) → is_act p ≡ true → nat_lt (current_of s h) (current_of s (p ∷ h)) ≡ true → IsRise p
  rise-of (Opened now) h act up = absurd (apart act)
  rise-of (Found x taken) h act up = absurd (apart act)
  rise-of Began h act up = absurd (apart act)
  rise-of (Told now) h act up = absurd (apart act)
  rise-of (Heard v) h act up = absurd (apart act)
  rise-of (Came c) h act up = absurd (apart act)
  rise-of (Wanted member view) h act up = absurd (apart act)
  rise-of (Built number handoff context payload took) h act up = absurd (apart act)
  rise-of (Checked number view answer outcome) h act up = absurd (apart act)
  rise-of (point.Judged r ok) h act up = absurd (apart act)
  rise-of (Constructs view kind batch) h act up = go batch.certificate refl
    where
      go : (o : Option (Certificate S D P G C)) → batch.certificate ≡ o → IsRise (Constructs view kind batch)
      go None e = absurd (no-less (current_of s h) (rw e at up))
      go (Some (certificate.Notarization c)) e = absurd (no-less (current_of s h) (rw e at up))
      go (Some (certificate.Nullification c)) e = record { view = view; kind = kind; batch = batch; is = refl; c = certificate.Nullification c; made = e; leads = refl }
      go (Some (certificate.Finalization c)) e = record { view = view; kind = kind; batch = batch; is = refl; c = certificate.Finalization c; made = e; leads = refl }
  rise-of (Votes (vote.Notarize v)) h act up = absurd (no-less (current_of s h) up)
  rise-of (Votes (vote.Nullify v)) h act up = absurd (no-less (current_of s h) up)
  rise-of (Votes (vote.Finalize v)) h act up = absurd (no-less (current_of s h) up)
  rise-of p h act up = absurd (no-less (current_of s h) up)

  -- ---- counting

  -- the views of the constructions that raise the current view
  abbrev pub ways : History S D P G C → List (Point S D P G C) → List ℕ
  ways h [] = []
  ways h (p ∷ points) = if nat_lt (current_of s h) (current_of s (p ∷ h)) then view_of p ∷ ways (p ∷ h) points else ways (p ∷ h) points

  ways-length : (h : History S D P G C) (points : List (Point S D P G C)) → raises g f s h points ≡ length (ways h points)
  ways-length h [] = refl
  ways-length h (p ∷ points) = go (nat_lt (current_of s h) (current_of s (p ∷ h))) (ways-length (p ∷ h) points)
    where
      go : (b : Bool) → raises g f s (p ∷ h) points ≡ length (ways (p ∷ h) points) → (if b then 1 else 0) + raises g f s (p ∷ h) points ≡ length (if b then view_of p ∷ ways (p ∷ h) points else ways (p ∷ h) points)
      go true e = omega (arith, e)
      go false e = omega (arith, e)

  pub way-cases : (h : History S D P G C) (p : Point S D P G C) (points : List (Point S D P G C)) (x : ℕ) → Contains (ways h (p ∷ points)) x
      → ((nat_lt (current_of s h) (current_of s (p ∷ h)) ≡ true) × (view_of p ≡ x)) ⊎ Contains (ways (p ∷ h) points) x
  way-cases h p points x here = go (nat_lt (current_of s h) (current_of s (p ∷ h))) refl here
    where
      go : (b : Bool) → nat_lt (current_of s h) (current_of s (p ∷ h)) ≡ b → Contains (if b then view_of p ∷ ways (p ∷ h) points else ways (p ∷ h) points) x
          → ((nat_lt (current_of s h) (current_of s (p ∷ h)) ≡ true) × (view_of p ≡ x)) ⊎ Contains (ways (p ∷ h) points) x
      go true e there = ⊎_elim (λ is. inl (e, is)) (λ later. inr later) (Contains-cases (view_of p) (ways (p ∷ h) points) x there)
      go false e there = inr there

  pub acts-head : (p : Point S D P G C) (points : List (Point S D P G C)) → AreActs (p ∷ points) → is_act p ≡ true
  acts-head p points acts = acts 0 p (omega arith)

  pub acts-rest : (p : Point S D P G C) (points : List (Point S D P G C)) → AreActs (p ∷ points) → AreActs points
  acts-rest p points acts = λ k d l. acts (suc k) d (omega (arith, l))

  module _ (grows : RecordLaws g) (laws : RoundLaws g f.same) (backed : (x : Statement D) (certificate : C) → g.certifies s.voter.scheme x certificate → IsQuorum (g.size s.voter.scheme) (λ i a. g.attests s.voter.scheme i x a) (g.lists certificate)) (some : 0 < g.size s.voter.scheme) where
    module _ (h : History S D P G C) (all : AreAllowed g f s h) (view : ℕ) (kind : Kind) (batch : Batch (Certificate S D P G C)) (a : Allowed g f s h (Constructs view kind batch)) (c : Certificate S D P G C) (made : batch.certificate ≡ Some c) (leads : leads_on c ≡ true) where
      may : MayRecord g f s h (certificate_artifact c)
      may = subst (λ (o : Option (Certificate S D P G C)). IfSome (option_map certificate_artifact o) (MayRecord g f s h)) made a.fits

      pub at : (certificate_round c).view ≡ view
      at = ap (λ (r : Round). r.view) (batch-round g f s (votes_setup s g h view) kind (votes_of s h view) batch c a.due.2 made)

      pub voted : (x : Attestation G) → Contains (g.lists (certified_by c)) x → IsOfVote g f s h (certificate_statement c) x
      voted x here = made-lists g f s laws h all view kind batch a c made x here

      pub listed : IsQuorum (g.size s.voter.scheme) (λ i x. g.attests s.voter.scheme i (certificate_statement c) x) (g.lists (certified_by c))
      listed = backed (certificate_statement c) (certified_by c) (does-certify h c may)

      -- a listed vote is of the view
      pub of-view : (x : Attestation G) (is : IsOfVote g f s h (certificate_statement c) x) → (vote_round is.vote).view ≡ view
      of-view x is = ap (λ (r : Round). r.view) (sym (vote-stated is.vote) ∙ (ap statement_round is.states ∙ certificate-stated c)) ∙ at

      -- behind it the view is one that a certificate led on from
      new-way : IsWay (Constructs view kind batch ∷ h) view
      new-way = record {
        c = c;
        at = at;
        leads = leads;
        taken = subst (λ (e : Entry D). Contains (entries (record_of (Constructs view kind batch ∷ h))) e) (certificate-entry c)
            (Contains-map entry (record_of (Constructs view kind batch ∷ h)) (certificate_artifact c) (put-here (record_of h) (recorded_by (Constructs view kind batch)) (certificate_artifact c) (ap (option_map certificate_artifact) made)));
        voted = λ x here. vote-on (Constructs view kind batch) h (certificate_statement c) x (voted x here);
        listed = listed;
      }

      -- and it wasn't before
      way-again : IsWay h view → ⊥
      way-again way =
          let this : ℕ → G → Type 0 = λ i x. g.attests s.voter.scheme i (certificate_statement c) x in
          let that : ℕ → G → Type 0 = λ i x. g.attests s.voter.scheme i (certificate_statement way.c) x in
          let both = two_quorums_attest (g.size s.voter.scheme) this that (g.lists (certified_by c)) (g.lists (certified_by way.c)) (omega (arith, some)) listed way.listed in
          let one = pick (λ i. AttestsIn this (g.lists (certified_by c)) i × AttestsIn that (g.lists (certified_by way.c)) i) both.0 (omega (arith, both.3)) both.4 in
          let x = one.1.0 in
          let y = one.1.1 in
          let v = voted x.0 x.1 in
          let u = way.voted y.0 y.1 in
          let v_signer : vote_signer v.vote ≡ one.0 = sym (signer-of v.vote) ∙ (ap (λ (b : Attestation G). b.signer) v.attestation_is ∙ x.2) in
          let u_signer : vote_signer u.vote ≡ one.0 = sym (signer-of u.vote) ∙ (ap (λ (b : Attestation G). b.signer) u.attestation_is ∙ y.2) in
          let u_at : (vote_round u.vote).view ≡ view = ap (λ (r : Round). r.view) (sym (vote-stated u.vote) ∙ (ap statement_round u.states ∙ certificate-stated way.c)) ∙ way.at in
          let v_other : is_other (vote_statement v.vote) ≡ true = ap is_other v.states ∙ leads-other c leads in
          let u_other : is_other (vote_statement u.vote) ≡ true = ap is_other u.states ∙ leads-other way.c way.leads in
          let signer : vote_signer u.vote ≡ vote_signer v.vote = u_signer ∙ sym v_signer in
          let same : u.vote ≡ v.vote = known-apart grows h all v.vote u.vote v.known u.known (u_at ∙ sym (of-view x.0 v)) signer (in-way v.vote u.vote v_other u_other signer) in
          let alike : certificate_statement c ≡ certificate_statement way.c = sym v.states ∙ (ap vote_statement (sym same) ∙ u.states) in
          (may-take h c may).first (certificate_statement way.c) (subst (λ (z : Statement D). AreAlike (certificate_statement c) z) alike (same-alike (certificate_statement c))) way.taken

    -- no view leads on twice
    none-again : (h : History S D P G C) → AreAllowed g f s h → (points : List (Point S D P G C)) (end : History S D P G C) → Goes g f s h points end → AreActs points → (x : ℕ) → IsWay h x → Contains (ways h points) x → ⊥
    none-again h all [] end goes acts x way here = absurd (omega (arith, here.1))
    none-again h all (p ∷ points) end goes acts x way here = ⊎_elim
        (λ up.
        let rise = rise-of p h (acts-head p points acts) up.0 in
        let view_is : rise.view ≡ x = sym (ap view_of rise.is) ∙ up.1 in
        way-again h all rise.view rise.kind rise.batch (subst (λ (q : Point S D P G C). Allowed g f s h q) rise.is goes.0) rise.c rise.made rise.leads (subst (λ (n : ℕ). IsWay h n) (sym view_is) way))
        (λ later. none-again (p ∷ h) (goes.0, all) points end goes.1 (acts-rest p points acts) x (way-on p h x way) later)
        (way-cases h p points x here)

    ways-once : (h : History S D P G C) → AreAllowed g f s h → (points : List (Point S D P G C)) (end : History S D P G C) → Goes g f s h points end → AreActs points → NoneTwice (ways h points)
    ways-once h all [] end goes acts = λ i j d before below. absurd (omega (arith, below))
    ways-once h all (p ∷ points) end goes acts = go (nat_lt (current_of s h) (current_of s (p ∷ h))) refl (ways-once (p ∷ h) (goes.0, all) points end goes.1 (acts-rest p points acts))
      where
        go : (b : Bool) → nat_lt (current_of s h) (current_of s (p ∷ h)) ≡ b → NoneTwice (ways (p ∷ h) points) → NoneTwice (if b then view_of p ∷ ways (p ∷ h) points else ways (p ∷ h) points)
        go true up once =
            let rise = rise-of p h (acts-head p points acts) up in
            let a = subst (λ (q : Point S D P G C). Allowed g f s h q) rise.is goes.0 in
            let way = subst (λ (q : Point S D P G C). IsWay (q ∷ h) (view_of q)) (sym rise.is) (new-way h all rise.view rise.kind rise.batch a rise.c rise.made rise.leads) in
            NoneTwice-cons (view_of p) (ways (p ∷ h) points) (λ there. none-again (p ∷ h) (goes.0, all) points end goes.1 (acts-rest p points acts) (view_of p) way there) once
        go false up once = once

    -- ---- a step

    -- where each view that leads on is one of these, acts raise the current view no more often than there are of these
    acts-few : (h : History S D P G C) → AreAllowed g f s h → (acts : List (Point S D P G C)) (end : History S D P G C) → Goes g f s h acts end → AreActs acts → (these : List ℕ)
        → ((x : ℕ) → Contains (ways h acts) x → Contains these x) → raises g f s h acts ≤ length these
    acts-few h all acts end goes own these within =
        let few = no_longer (ways h acts) these (ways-once h all acts end goes own) within in
        omega (arith, few, ways-length h acts)

    -- so a step raises it no more often than there are others beside one, and one by its event, and that one
    pub step-few : (h : History S D P G C) → AreAllowed g f s h → (e : Event D) (more : List (Point S D P G C)) (end : History S D P G C) → AreStep g f s h e more → Goes g f s h more end
        → (one : Point S D P G C → ℕ) (others : List ℕ)
        → ((first : Point S D P G C) (acts : List (Point S D P G C)) → Allowed g f s h first → IsPointOf g f s e first → Goes g f s (first ∷ h) acts end → AreActs acts → (x : ℕ) → Contains (ways (first ∷ h) acts) x → Contains (one first ∷ others) x)
        → raises g f s h more ≤ length others + 2
    step-few h all e more end step goes one others within =
        let gone = subst (λ (l : List (Point S D P G C)). Goes g f s h l end) step.split goes in
        let few = acts-few (step.first ∷ h) (gone.0, all) step.acts end gone.1 step.own (one step.first ∷ others) (within step.first step.acts gone.0 step.of_it gone.1 step.own) in
        let less : raises g f s (step.first ∷ h) step.acts ≤ length others + 1 = omega (arith, few) in
        subst (λ (l : List (Point S D P G C)). raises g f s h l ≤ length others + 2) (sym step.split)
        (either (nat_lt (current_of s h) (current_of s (step.first ∷ h))) (raises g f s (step.first ∷ h) step.acts) (length others) less)

    -- ---- where each quorum has another member

    module _ (other : (x : Statement D) (listed : List (Attestation G)) → IsQuorum (g.size s.voter.scheme) (λ i a. g.attests s.voter.scheme i x a) listed → (i : ℕ) × Contains (signers listed) i × (i ≢ s.me)) where
      -- a vote of the view was heard
      some-heard : (h : History S D P G C) → AreAllowed g f s h → (view : ℕ) (kind : Kind) (batch : Batch (Certificate S D P G C)) → Allowed g f s h (Constructs view kind batch) → (c : Certificate S D P G C) → batch.certificate ≡ Some c → leads_on c ≡ true
          → (v : Vote S D P G C) × Contains h (Heard v) × ((vote_round v).view ≡ view)
      some-heard h all view kind batch a c made leads =
          let one = other (certificate_statement c) (g.lists (certified_by c)) (listed h all view kind batch a c made leads) in
          let x = Contains-mapped (λ (b : Attestation G). b.signer) (g.lists (certified_by c)) one.0 one.1 in
          let is = voted h all view kind batch a c made leads x.0 x.1 in
          let signer : vote_signer is.vote ≡ one.0 = sym (signer-of is.vote) ∙ (ap (λ (b : Attestation G). b.signer) is.attestation_is ∙ x.2) in
          ⊎_elim
          (λ heard. (is.vote, heard, of-view h all view kind batch a c made leads x.0 is))
          (λ own. absurd (one.2 (sym signer ∙ own.0)))
          is.known

      module _ (start : History S D P G C) (begun : AreAllowed g f s start) (first : Point S D P G C) (numbers : List ℕ) (kept : (x : ℕ) → IsUp (stage s start x) → Contains numbers x) where
        -- of a view that leads on votes were kept when the step began, or the event was its first
        ways-listed : (h : History S D P G C) → AreAllowed g f s h → (points : List (Point S D P G C)) (end : History S D P G C) → Goes g f s h points end → AreActs points
            → ((v : Vote S D P G C) → Contains h (Heard v) → Contains (first ∷ start) (Heard v)) → finalized_of s start ≤ finalized_of s h
            → (x : ℕ) → Contains (ways h points) x → Contains (heard_view first ∷ numbers) x
        ways-listed h all [] end goes acts heard final x here = absurd (omega (arith, here.1))
        ways-listed h all (p ∷ points) end goes acts heard final x here = ⊎_elim
            (λ up.
            let rise = rise-of p h (acts-head p points acts) up.0 in
            let view_is : rise.view ≡ x = sym (ap view_of rise.is) ∙ up.1 in
            let a = subst (λ (q : Point S D P G C). Allowed g f s h q) rise.is goes.0 in
            let some_vote = some-heard h all rise.view rise.kind rise.batch a rise.c rise.made rise.leads in
            let at_view : (vote_round some_vote.0).view ≡ x = some_vote.2 ∙ view_is in
            ⊎_elim
            (λ now. subst (λ (n : ℕ). Contains (heard_view first ∷ numbers) n) (ap heard_view now ∙ at_view) (Contains-head (heard_view first) numbers))
            (λ before.
            let high = ltb-false rise.view (floor_of s h) (stage-kept g f s h rise.view (collected-up a.due.0)) in
            let low : floor_of s start ≤ (vote_round some_vote.0).view = omega (arith, high, final, some_vote.2) in
            let there : IsUp (stage s start (vote_round some_vote.0).view) = rw (le-ltb (vote_round some_vote.0).view (floor_of s start) low) (heard-opened start begun some_vote.0 before) in
            Contains-rest (heard_view first) numbers x (kept x (subst (λ (n : ℕ). IsUp (stage s start n)) at_view there)))
            (Contains-cases first start (Heard some_vote.0) (heard some_vote.0 some_vote.1)))
            (λ later. ways-listed (p ∷ h) (goes.0, all) points end goes.1 (acts-rest p points acts)
            (λ v there. ⊎_elim (λ is. absurd (act-hears-none p v (acts-head p points acts) is)) (λ before. heard v before) (Contains-cases p h (Heard v) there))
            (let rises = (goes-rise g f s h (p ∷ h) (p ∷ []) (goes.0, refl)).1 in omega (arith, final, rises)) x later)
            (way-cases h p points x here)

      -- a step raises it at most once by its event, once by the view of a vote that it brings, and once by each view whose votes were kept
      pub step-raises : (h : History S D P G C) → AreAllowed g f s h → (e : Event D) (more : List (Point S D P G C)) (end : History S D P G C) → AreStep g f s h e more → Goes g f s h more end
          → (numbers : List ℕ) → ((x : ℕ) → IsUp (stage s h x) → Contains numbers x) → raises g f s h more ≤ length numbers + 2
      step-raises h all e more end step goes numbers kept = step-few h all e more end step goes heard_view numbers
          (λ first acts a of_it gone own x here. ways-listed h all first numbers kept (first ∷ h) (a, all) acts end gone own (λ v there. there) (goes-rise g f s h (first ∷ h) (first ∷ []) (a, refl)).1 x here)

-- in a committee of more than one each quorum has another member
pub of-several : {G : Type 0} (n me : ℕ) (attests : ℕ → G → Type 0) (listed : List (Attestation G)) → 1 < n → IsQuorum n attests listed → (i : ℕ) × Contains (signers listed) i × (i ≢ me)
of-several n me attests listed several quorate =
    let q = signers-AreQuorum n attests listed quorate in
    let other = escapes (signers listed) (me ∷ []) q.once (omega (arith, q.enough, several)) in
    (other.0, other.1, λ same. other.2 (subst (λ (i : ℕ). Contains (me ∷ []) i) (sym same) (Contains-head me [])))
