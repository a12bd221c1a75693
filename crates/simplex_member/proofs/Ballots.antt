-- The votes of each view are lawful, and no quorum of them is lost.
use Rattle.std.proofs.Common.{◌≡◌, ◌≢◌, ◌⊎◌, inl, inr, ⊎_elim, ℕ, ◌==◌, ◌&&◌, Bool, true, false, List, [], ◌∷◌, Option, Some, None, refl, sym, ◌∙◌, ap, subst, arith}
use Rattle.std.specs.Prelude.{Contains, IfSome, IsSome, MatchBool, find, if◌then◌else◌, is_none, is_some, nat_lt, option_map}
use Rattle.std.proofs.lemmas.Bool.{and_parts, eqb-true, le-ltb}
use Rattle.std.proofs.lemmas.Option.{none-some}
use Rattle.types_quorum.specs.Counting.{Contains-cases, Contains-head, Contains-rest}
use Rattle.types_core.specs.declared.attestation.Attestation.{Attestation}
use Rattle.types_core.specs.declared.position.Round.{Round}
use Rattle.types_core.specs.declared.scheme.Scheme.{Ghosts}
use Rattle.types_quorum.specs.Committee.{quorum}
use Rattle.types_core.specs.Subject.{notarize, nullify, finalize}
use Rattle.messages_certificates.specs.declared.artifact.Artifact.TheVariants as artifact
use Rattle.messages_certificates.specs.declared.certificate.Certificate.{Certificate}
use Rattle.messages_certificates.specs.declared.certificate.Certificate.TheVariants as certificate
use Rattle.simplex_messages.specs.declared.vote.Vote.{Vote}
use Rattle.simplex_messages.specs.declared.vote.Vote.TheVariants as vote
use Rattle.messages_certificates.specs.Artifact.{certificate_artifact}
use Rattle.simplex_messages.specs.VoteParts.{vote_artifact}
use Rattle.messages_certificates.specs.Certificate.{certificate_round, certificate_statement, certified_by}
use Rattle.simplex_messages.specs.VoteParts.{vote_round, vote_signer}
use Rattle.simplex_record.specs.Record.{Entry, entry, entries, HasVoted}
use Rattle.simplex_record.specs.Rules.{MayFollow}
use Rattle.types_terms.specs.declared.kind.Kind.{Kind}
use Rattle.batcher_verifier.specs.declared.batch.Batch.{Batch}
use Rattle.batcher_verifier.specs.Votes.{is_in_way, vote_attestation, vote_statement}
use Rattle.batcher_verifier.specs.History as votes
use Rattle.batcher_verifier.specs.History.{Taken, Cast, Certified, Led, Forwarded, accepted, forwardable, has_forwarded, is_ready, leader_of, recorded}
use Rattle.batcher_verifier.specs.Lawful as lawful
use Rattle.batcher_verifier.specs.Lawful.{IsLawful, IsRight}
use Rattle.batcher_verifier.specs.ConstructionResult.{IsBatch, IsCertificateOn, IsFounded, IsOfVerified, IsOfWaiting, after}
use Rattle.batcher_verifier.specs.Quorums.{AllCertified}
use Rattle.simplex_member.specs.Allowed.{Allowed, AreAllowed, MayRecord}
use Rattle.simplex_member.specs.Laws.{IsOfVote, RoundLaws}
use Rattle.simplex_member.specs.Layers.{all_votes, floor_of, opened, opens, passes_over, stage, votes_of, votes_setup, Stage, Unopened, Collected, PassedOver, is_up, IsUp, first_up, skips}
use Rattle.simplex_member.specs.Member.{NoneDue}
use Rattle.simplex_member.specs.Packet.{Formats}
use Rattle.simplex_member.specs.Point.{Point, Found, Heard, Came, Leads, Forwards, Constructs, Votes, History}
use Rattle.simplex_member.specs.Recorded.{record_of}
use Rattle.simplex_member.specs.Setup.{Setup}
use Rattle.simplex_member.proofs.Listed.{accepted-known, kept-only, own-epoch, own-signer, round-of, vote-entry}
use Rattle.simplex_member.proofs.Telling.{apart}
use Rattle.simplex_member.proofs.Lists.{Contains-map, if-some, some-is}

find-none : {X : Type 0} (p : X → Bool) (xs : List X) → ((x : X) → Contains xs x → p x ≡ true → ⊥) → find p xs ≡ None
find-none p [] none = refl
find-none {X} p (x ∷ xs) none = go (p x) refl (find-none p xs (λ y there is. none y (Contains-rest x xs y there) is))
  where
    go : (b : Bool) → p x ≡ b → find p xs ≡ None → (if b then Some x else find p xs) ≡ None
    go true e rest = absurd (none x (Contains-head x xs) e)
    go false e rest = rest

none-is : {X : Type 0} (o : Option X) → is_none o ≡ true → o ≡ None
none-is None e = refl
none-is (Some x) e = absurd (apart e)

-- a view came up so, if it did
abbrev IsOpenAs : Stage → Bool → Type 0
IsOpenAs at b = (at ≡ first_up Unopened b) ⊎ (at ≡ Unopened)

open-before : (c : Bool) (a : Stage) (d b : Bool) → IsOpenAs (if c then first_up a d else a) b → IsOpenAs a b
open-before false a d b is = is
open-before true Unopened d b is = inr refl
open-before true Collected d b is = is
open-before true PassedOver d b is = is

-- a view is passed over as its votes came up
skipped-as : (b c : Bool) → first_up Unopened b ≡ first_up Unopened c → b ≡ c
skipped-as true true is = refl
skipped-as true false is = ap (λ (at : Stage). skips at false) is
skipped-as false true is = ap (λ (at : Stage). skips at false) is
skipped-as false false is = refl

never-unopened : (b : Bool) → Unopened ≡ first_up Unopened b → ⊥
never-unopened true is = apart (ap is_up is)
never-unopened false is = apart (ap is_up is)

pub collected-up : {at : Stage} → at ≡ Collected → IsUp at
collected-up is = subst (λ (x : Stage). IsUp x) (sym is) refl

module _ {S D P G C : Type 0} where
  pub way-signer : (v u : Vote S D P G C) → is_in_way v u ≡ true → vote_signer u ≡ vote_signer v
  way-signer (vote.Notarize v) (vote.Notarize u) way = eqb-true u.attestation.signer v.attestation.signer way
  way-signer (vote.Nullify v) (vote.Nullify u) way = eqb-true u.attestation.signer v.attestation.signer way
  way-signer (vote.Nullify v) (vote.Finalize u) way = eqb-true u.attestation.signer v.attestation.signer way
  way-signer (vote.Finalize v) (vote.Nullify u) way = eqb-true u.attestation.signer v.attestation.signer way
  way-signer (vote.Finalize v) (vote.Finalize u) way = eqb-true u.attestation.signer v.attestation.signer way
  way-signer (vote.Notarize v) (vote.Nullify u) way = absurd (apart way)
  way-signer (vote.Notarize v) (vote.Finalize u) way = absurd (apart way)
  way-signer (vote.Nullify v) (vote.Notarize u) way = absurd (apart way)
  way-signer (vote.Finalize v) (vote.Notarize u) way = absurd (apart way)

  -- no recorded vote stands in the way of one that may be recorded
  pub none-in-way : (length : ℕ) (r : List (Entry D)) (v u : Vote S D P G C) → MayFollow length r (entry (vote_artifact v)) → HasVoted r (vote_statement u) → (vote_round u).view ≡ (vote_round v).view → is_in_way v u ≡ true → ⊥
  none-in-way length r (vote.Notarize v) (vote.Notarize u) may voted at way = may.first (notarize u.proposal) (sym at) voted
  none-in-way length r (vote.Nullify v) (vote.Nullify u) may voted at way = may.first (nullify u.round) (sym at) voted
  none-in-way length r (vote.Nullify v) (vote.Finalize u) may voted at way = may.not_finalized u.proposal at voted
  none-in-way length r (vote.Finalize v) (vote.Nullify u) may voted at way = may.not_given_up (nullify u.round) (sym at) voted
  none-in-way length r (vote.Finalize v) (vote.Finalize u) may voted at way = may.first (finalize u.proposal) (sym at) voted
  none-in-way length r (vote.Notarize v) (vote.Nullify u) may voted at way = absurd (apart way)
  none-in-way length r (vote.Notarize v) (vote.Finalize u) may voted at way = absurd (apart way)
  none-in-way length r (vote.Nullify v) (vote.Notarize u) may voted at way = absurd (apart way)
  none-in-way length r (vote.Finalize v) (vote.Notarize u) may voted at way = absurd (apart way)

  not-forwarded : (r : votes.History S D P G C) (me : ℕ) (b : Bool) → has_forwarded r ≡ b → is_some (forwardable r me) ≡ true → b ≡ false
  not-forwarded r me false e is = refl
  not-forwarded r me true e is = absurd (apart (rw e at is))

module _ {S D P G C : Type 0} (g : Ghosts S D P G C) (f : Formats S D P G C) (s : Setup S D C) where
  -- what stays the same of the votes of a view that came up so
  abbrev setup_as : ℕ → Bool → votes.Setup S
  setup_as view b = record {
    round = record { epoch = s.voter.epoch; view = view };
    scheme = s.voter.scheme;
    members = g.size s.voter.scheme;
    needed = quorum (g.size s.voter.scheme);
    batchable = g.batchable s.voter.scheme;
    tracks = s.tracks;
    is_skipped = b;
  }

  abbrev Lawful : ℕ → Bool → votes.History S D P G C → Type 0
  Lawful view b r = IsLawful f.same g.attests (setup_as view b) r

  -- heard votes are those of others
  pub heard-another : (h : History S D P G C) → AreAllowed g f s h → (v : Vote S D P G C) → Contains h (Heard v) → vote_signer v ≢ s.me
  heard-another [] all v here = absurd (omega (arith, here.1))
  heard-another (p ∷ h) all v here = ⊎_elim
      (λ is. let a : Allowed g f s h (Heard v) = subst (λ (q : Point S D P G C). Allowed g f s h q) is all.0 in a.due.another)
      (λ later. heard-another h all.1 v later)
      (Contains-cases p h (Heard v) here)

  -- ---- a view that is kept

  pub stage-kept : (h : History S D P G C) (view : ℕ) → IsUp (stage s h view) → nat_lt view (floor_of s h) ≡ false
  stage-kept h view some = go (nat_lt view (floor_of s h)) some
    where
      go : (b : Bool) → IsUp (if b then Unopened else opened s h view) → b ≡ false
      go false is = refl
      go true is = absurd (apart is)

  stage-opened : (h : History S D P G C) (view : ℕ) (b : Bool) → stage s h view ≡ first_up Unopened b → opened s h view ≡ first_up Unopened b
  stage-opened h view b is = go (nat_lt view (floor_of s h)) is
    where
      go : (c : Bool) → (if c then Unopened else opened s h view) ≡ first_up Unopened b → opened s h view ≡ first_up Unopened b
      go false e = e
      go true e = absurd (never-unopened b e)

  pub kept-all : (h : History S D P G C) (view : ℕ) → nat_lt view (floor_of s h) ≡ false → votes_of s h view ≡ all_votes view h
  kept-all h view e = ap (λ (c : Bool). if c then [] else all_votes view h) e

  pub some-from : {X : Type 0} (o : Option X) (x : X) → o ≡ Some x → IsSome o
  some-from o x e = rw e refl

  -- ---- what happens is allowed

  add-lawful : (view at : ℕ) (b : Bool) (e : votes.Event (Vote S D P G C) (Certificate S D P G C)) (r : votes.History S D P G C)
      → (at ≡ view → lawful.Allowed f.same g.attests (setup_as view b) r e) → Lawful view b r → Lawful view b (if at == view then e ∷ r else r)
  add-lawful view at b e r may before = go (at == view) (eqb-true at view)
    where
      go : (c : Bool) → (c ≡ true → at ≡ view) → Lawful view b (if c then e ∷ r else r)
      go true is = (may (is refl), before)
      go false is = before

  own-attests : (h : History S D P G C) (v : Vote S D P G C) → MayRecord g f s h (vote_artifact v) → g.attests s.voter.scheme (vote_signer v) (vote_statement v) (vote_attestation v).signature
  own-attests h (vote.Notarize v) may = may.verifies.verifies
  own-attests h (vote.Nullify v) may = may.verifies.verifies
  own-attests h (vote.Finalize v) may = may.verifies.verifies

  pub certificate-epoch : (h : History S D P G C) (c : Certificate S D P G C) → MayRecord g f s h (certificate_artifact c) → (certificate_round c).epoch ≡ s.voter.epoch
  certificate-epoch h (certificate.Notarization c) may = may.verifies.epoch
  certificate-epoch h (certificate.Nullification c) may = may.verifies.epoch
  certificate-epoch h (certificate.Finalization c) may = may.verifies.epoch

  -- no accepted vote stands in the way of an own one that may be recorded
  own-free : (h : History S D P G C) → AreAllowed g f s h → (view : ℕ) (v : Vote S D P G C) → MayRecord g f s h (vote_artifact v) → (vote_round v).view ≡ view
      → (u : Vote S D P G C) → Contains (accepted (all_votes view h)) u → is_in_way v u ≡ true → ⊥
  own-free h all view v may at u there way =
      let from = accepted-known g f s h all view u there in
      ⊎_elim
      (λ heard. heard-another h all u heard (way-signer v u way ∙ own-signer g f s h v may))
      (λ own. none-in-way s.voter.length (entries (record_of h)) v u may.follows
      (subst (λ (e : Entry D). Contains (entries (record_of h)) e) (vote-entry u) (Contains-map entry (record_of h) (vote_artifact u) own.1))
      (ap (λ (r : Round). r.view) from.ours ∙ sym at) way)
      from.known

  cast-allowed : (h : History S D P G C) → AreAllowed g f s h → (view : ℕ) (b : Bool) (v : Vote S D P G C) → MayRecord g f s h (vote_artifact v) → (vote_round v).view ≡ view
      → lawful.Allowed f.same g.attests (setup_as view b) (all_votes view h) (Cast v)
  cast-allowed h all view b v may at = (
    record {
      ours = round-of (vote_round v) s.voter.epoch view (own-epoch g f s h v may) at;
      free = find-none (is_in_way v) (accepted (all_votes view h)) (λ u there way. own-free h all view v may at u there way);
    },
    own-attests h v may,
  )

  pub taken-allowed : (h : History S D P G C) (view : ℕ) (b : Bool) (v : Vote S D P G C) → Allowed g f s h (Heard v) → (vote_round v).view ≡ view
      → lawful.Allowed f.same g.attests (setup_as view b) (all_votes view h) (Taken v)
  taken-allowed h view b v a at =
      let kept = kept-all h (vote_round v).view (le-ltb (vote_round v).view (floor_of s h) a.due.window.0.1) in
      let r = votes_of s h (vote_round v).view in
      let parts = and_parts (vote_signer v == vote_signer v) (nat_lt (vote_signer v) (g.size s.voter.scheme) && is_none (recorded r v)) a.due.free in
      let free = none-is (recorded r v) (and_parts (nat_lt (vote_signer v) (g.size s.voter.scheme)) (is_none (recorded r v)) parts.1).1 in
      let here = subst (λ (x : votes.History S D P G C). recorded x v ≡ None) kept free in
      record {
        ours = round-of (vote_round v) s.voter.epoch view a.due.epoch at;
        free = subst (λ (n : ℕ). recorded (all_votes n h) v ≡ None) at here;
      }

  led-allowed : (h : History S D P G C) (view at i : ℕ) → Allowed g f s h (Leads at i) → at ≡ view → leader_of (all_votes view h) ≡ None
  led-allowed h view at i a is =
      subst (λ (n : ℕ). leader_of (all_votes n h) ≡ None) is
      (subst (λ (x : votes.History S D P G C). leader_of x ≡ None) (kept-all h at (stage-kept h at a.due.0)) a.due.1)

  -- ---- constructions

  pub batch-round : (setup : votes.Setup S) (kind : Kind) (r : votes.History S D P G C) (batch : Batch (Certificate S D P G C)) (c : Certificate S D P G C) → IsBatch g f.same setup kind r batch → batch.certificate ≡ Some c → certificate_round c ≡ setup.round
  batch-round setup kind r batch c is e = go (is_ready f.same setup kind r) is
    where
      go : (b : Bool) → MatchBool b (IsOfVerified g f.same setup kind r batch) (IsOfWaiting g f.same setup kind r batch) → certificate_round c ≡ setup.round
      go true it = subst (λ (x : Certificate S D P G C). certificate_round x ≡ setup.round) (some-is it.certificate c (sym it.made ∙ e)) it.certificate_is.round_is
      go false it =
          let on = subst (λ (o : Option (Certificate S D P G C)). IfSome o (λ x. IsCertificateOn setup kind it.states x)) e it.certificate_is in
          on.round_is

  module _ (laws : RoundLaws g f.same) where
    -- what no certificate came of was judged rightly
    batch-right : (setup : votes.Setup S) (kind : Kind) (r : votes.History S D P G C) (batch : Batch (Certificate S D P G C)) → IsLawful f.same g.attests setup r → IsBatch g f.same setup kind r batch → batch.certificate ≡ None
        → IsRight f.same g.attests setup r kind batch.invalid.items
    batch-right setup kind r batch before is e = go (is_ready f.same setup kind r) is
      where
        go : (b : Bool) → MatchBool b (IsOfVerified g f.same setup kind r batch) (IsOfWaiting g f.same setup kind r batch) → IsRight f.same g.attests setup r kind batch.invalid.items
        go true it = absurd (none-some it.certificate (sym e ∙ it.made))
        go false it = ⊎_elim
            (λ once. absurd (none-some once.certificate (sym (ap (option_map certified_by) e) ∙ once.made)))
            (λ each. laws.verdicts setup r kind it.states batch.invalid.items before it.context_is each.invalid_are)
            it.judged

    after-lawful : (h : History S D P G C) (view : ℕ) (b : Bool) (kind : Kind) (batch : Batch (Certificate S D P G C)) → Allowed g f s h (Constructs view kind batch) → IsOpenAs (opened s h view) b
        → Lawful view b (all_votes view h) → Lawful view b (after kind (Some batch) (all_votes view h))
    after-lawful h view b kind batch a open_ before = subst (λ (c : Bool). Lawful view c (after kind (Some batch) (all_votes view h))) (sym is_false) (go batch.certificate refl)
      where
        is_false : b ≡ false
        is_false = ⊎_elim
            (λ some. skipped-as b false (sym some ∙ stage-opened h view false a.due.0))
            (λ none. absurd (never-unopened false (sym none ∙ stage-opened h view false a.due.0)))
            open_

        r : votes.History S D P G C
        r = all_votes view h

        mine : Lawful view false r
        mine = subst (λ (c : Bool). Lawful view c r) is_false before

        batch_is : IsBatch g f.same (setup_as view false) kind r batch
        batch_is = subst (λ (x : votes.History S D P G C). IsBatch g f.same (setup_as view false) kind x batch) (kept-all h view (stage-kept h view (collected-up a.due.0)))
            (subst (λ (o : Stage). IsBatch g f.same (setup_as view (skips o (passes_over s h view))) kind (votes_of s h view) batch) a.due.0 a.due.2)

        go : (o : Option (Certificate S D P G C)) → batch.certificate ≡ o → Lawful view false (after kind (Some batch) r)
        go (Some c) e = rw e (batch-round (setup_as view false) kind r batch c batch_is e, mine)
        go None e = rw e (batch-right (setup_as view false) kind r batch mine batch_is e, mine)

    made-lawful : (h : History S D P G C) (view at : ℕ) (b : Bool) (kind : Kind) (batch : Batch (Certificate S D P G C)) → Allowed g f s h (Constructs at kind batch) → IsOpenAs (opened s h view) b
        → Lawful view b (all_votes view h) → Lawful view b (if at == view then after kind (Some batch) (all_votes view h) else all_votes view h)
    made-lawful h view at b kind batch a open_ before = go (at == view) (eqb-true at view)
      where
        go : (c : Bool) → (c ≡ true → at ≡ view) → Lawful view b (if c then after kind (Some batch) (all_votes view h) else all_votes view h)
        go true is = after-lawful h view b kind batch (subst (λ (n : ℕ). Allowed g f s h (Constructs n kind batch)) (is refl) a) open_ before
        go false is = before

    step-lawful : (p : Point S D P G C) (h : History S D P G C) (view : ℕ) (b : Bool) → Allowed g f s h p → AreAllowed g f s h → IsOpenAs (opened s h view) b → Lawful view b (all_votes view h) → Lawful view b (all_votes view (p ∷ h))
    step-lawful (Found (artifact.Notarize w) taken) h view b a all open_ before =
        add-lawful view w.proposal.round.view b (Cast (vote.Notarize w)) (all_votes view h) (λ at. cast-allowed h all view b (vote.Notarize w) a.fits at) before
    step-lawful (Found (artifact.Nullify w) taken) h view b a all open_ before =
        add-lawful view w.round.view b (Cast (vote.Nullify w)) (all_votes view h) (λ at. cast-allowed h all view b (vote.Nullify w) a.fits at) before
    step-lawful (Found (artifact.Finalize w) taken) h view b a all open_ before =
        add-lawful view w.proposal.round.view b (Cast (vote.Finalize w)) (all_votes view h) (λ at. cast-allowed h all view b (vote.Finalize w) a.fits at) before
    step-lawful (Found (artifact.Notarization c) taken) h view b a all open_ before =
        add-lawful view c.proposal.round.view b (Certified (certificate.Notarization c)) (all_votes view h) (λ at. round-of c.proposal.round s.voter.epoch view a.fits.verifies.epoch at) before
    step-lawful (Found (artifact.Nullification c) taken) h view b a all open_ before =
        add-lawful view c.round.view b (Certified (certificate.Nullification c)) (all_votes view h) (λ at. round-of c.round s.voter.epoch view a.fits.verifies.epoch at) before
    step-lawful (Found (artifact.Finalization c) taken) h view b a all open_ before =
        add-lawful view c.proposal.round.view b (Certified (certificate.Finalization c)) (all_votes view h) (λ at. round-of c.proposal.round s.voter.epoch view a.fits.verifies.epoch at) before
    step-lawful (Found (artifact.Certification r ok) taken) h view b a all open_ before = before
    step-lawful (Heard v) h view b a all open_ before = add-lawful view (vote_round v).view b (Taken v) (all_votes view h) (λ at. taken-allowed h view b v a at) before
    step-lawful (Came c) h view b a all open_ before =
        add-lawful view (certificate_round c).view b (Certified c) (all_votes view h) (λ at. round-of (certificate_round c) s.voter.epoch view (certificate-epoch h c a.fits) at) before
    step-lawful (Leads at i) h view b a all open_ before = add-lawful view at b (Led i) (all_votes view h) (λ is. led-allowed h view at i a is) before
    step-lawful (Forwards at p) h view b a all open_ before = add-lawful view at b Forwarded (all_votes view h)
        (λ is. subst (λ (n : ℕ). has_forwarded (all_votes n h) ≡ false) is
        (subst (λ (x : votes.History S D P G C). has_forwarded x ≡ false) (kept-all h at (stage-kept h at a.due.0))
        (not-forwarded (votes_of s h at) s.me (has_forwarded (votes_of s h at)) refl (some-from (forwardable (votes_of s h at) s.me) p a.due.1)))) before
    step-lawful (Constructs at kind batch) h view b a all open_ before = made-lawful h view at b kind batch a open_ before
    step-lawful (Votes w) h view b a all open_ before = add-lawful view (vote_round w).view b (Cast w) (all_votes view h) (λ at. cast-allowed h all view b w a.fits at) before
    step-lawful p h view b a all open_ before = before

    all-lawful : (h : History S D P G C) → AreAllowed g f s h → (view : ℕ) (b : Bool) → IsOpenAs (opened s h view) b → Lawful view b (all_votes view h)
    all-lawful [] all view b open_ = tt
    all-lawful (p ∷ h) all view b open_ =
        let before = open-before (opens s h p view) (opened s h view) (passes_over s h view) b open_ in
        step-lawful p h view b all.0 all.1 before (all-lawful h all.1 view b before)

    -- the votes of each view that is kept are lawful
    pub votes-lawful : (h : History S D P G C) → AreAllowed g f s h → (view : ℕ) → IsUp (stage s h view) → IsLawful f.same g.attests (votes_setup s g h view) (votes_of s h view)
    votes-lawful h all view some = go (stage s h view) refl some
      where
        lawful-as : (b : Bool) → stage s h view ≡ first_up Unopened b → Lawful view b (votes_of s h view)
        lawful-as b e = subst (λ (x : votes.History S D P G C). Lawful view b x) (sym (kept-all h view (stage-kept h view some))) (all-lawful h all view b (inl (stage-opened h view b e)))

        go : (o : Stage) → stage s h view ≡ o → IsUp o → IsLawful f.same g.attests (votes_setup s g h view) (votes_of s h view)
        go Unopened e is = absurd (apart is)
        go Collected e is =
            subst (λ (o : Stage). IsLawful f.same g.attests (setup_as view (skips o (passes_over s h view))) (votes_of s h view)) (sym e) (lawful-as false e)
        go PassedOver e is =
            subst (λ (o : Stage). IsLawful f.same g.attests (setup_as view (skips o (passes_over s h view))) (votes_of s h view)) (sym e) (lawful-as true e)

    -- where nothing is due, each kind with a valid quorum has its certificate
    pub no-quorum-lost : (h : History S D P G C) → AreAllowed g f s h → NoneDue g f s h → (view : ℕ) → stage s h view ≡ Collected → AllCertified g.attests (votes_setup s g h view) (votes_of s h view)
    no-quorum-lost h all none view is =
        laws.no_quorum_lost (votes_setup s g h view) (votes_of s h view) (ap (λ (o : Stage). skips o (passes_over s h view)) is)
        (votes-lawful h all view (collected-up is)) (none.constructions.no_construction view is)

    -- each attestation that a made certificate lists is that of a known vote that states what the certificate states
    pub made-lists : (h : History S D P G C) → AreAllowed g f s h → (view : ℕ) (kind : Kind) (batch : Batch (Certificate S D P G C)) → Allowed g f s h (Constructs view kind batch) → (c : Certificate S D P G C) → batch.certificate ≡ Some c
        → (a : Attestation G) → Contains (g.lists (certified_by c)) a → IsOfVote g f s h (certificate_statement c) a
    made-lists h all view kind batch allowed c made a here =
        let sound = votes-lawful h all view (collected-up allowed.due.0) in
        let is = if-some (IsFounded g (votes_setup s g h view) kind (votes_of s h view)) batch.certificate c (laws.founded (votes_setup s g h view) (votes_of s h view) kind batch sound allowed.due.2) made in
        let v = is.listed a here in
        let from = accepted-known g f s h all view v.vote (kept-only (nat_lt view (floor_of s h)) (all_votes view h) v.vote v.accepted_is) in
        record { vote = v.vote; known = from.known; attestation_is = v.attestation_is; states = v.states }
