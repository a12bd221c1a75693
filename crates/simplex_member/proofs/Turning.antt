-- What acts do to the votes of a view, to its retry, and to what its proposal lacks.
use Rattle.std.proofs.Common.{◌≡◌, ◌≢◌, inl, inr, ℕ, ◌+◌, ◌<◌, ◌==◌, ◌&&◌, ◌||◌, Bool, true, false, List, [], ◌∷◌, length, Option, Some, None, refl, sym, ◌∙◌, ap, subst, arith}
use Rattle.std.specs.Prelude.{IsSome, MatchBool, filter, if◌then◌else◌, is_some, nat_lt, nat_le, not, option_map}
use Rattle.std.specs.Option.{option_or}
use Rattle.std.proofs.lemmas.Bool.{and_parts, ltb-true}
use Rattle.std.proofs.lemmas.Option.{none-some}
use Rattle.types_core.specs.declared.proposal.Proposal.{Proposal}
use Rattle.types_core.specs.declared.scheme.Scheme.{Ghosts}
use Rattle.messages_certificates.specs.declared.certificate.Certificate.{Certificate}
use Rattle.simplex_messages.specs.declared.vote.Vote.{Vote}
use Rattle.simplex_messages.specs.VoteParts.{vote_round}
use Rattle.types_terms.specs.declared.kind.Kind.{Kind}
use Rattle.types_terms.specs.declared.kind.Kind.TheVariants as kinds
use Rattle.voter_history.specs.declared.timeout_reason.TimeoutReason.{TimeoutReason}
use Rattle.voter_history.specs.declared.timeout_reason.TimeoutReason.TheVariants as reason
use Rattle.voter_history.specs.Held as offer
use Rattle.voter_history.specs.Held.{Offer, held, IsVerifyAsked}
use Rattle.voter_history.specs.Past as past
use Rattle.voter_history.specs.Past.{Item}
use Rattle.voter_rules.specs.GivingUp.{earlier, timeout_of}
use Rattle.batcher_verifier.specs.declared.batch.Batch.{Batch}
use Rattle.batcher_verifier.specs.Votes.{certificate_kind, is_kind}
use Rattle.batcher_verifier.specs.History as votes
use Rattle.batcher_verifier.specs.History.{Taken, Cast, Certified, Led, Judged, Forwarded, counting, has_forwarded, is_candidate, is_complete, is_due, is_ready, is_worth_judging, leader_of, selected, taken_in, waiting, verified}
use Rattle.batcher_verifier.specs.ConstructionResult.{IsBatch, IsCertificateOn, IsOfVerified, IsOfWaiting, after}
use Rattle.simplex_member.specs.Layers.{all_votes}
use Rattle.simplex_member.specs.Point.{Point, Found, Heard, Came, Leads, Forwards, Constructs, Votes, History, is_act}
use Rattle.simplex_member.proofs.Lists.{if-some, some-is}
use Rattle.simplex_member.proofs.Telling.{apart}

kind-itself : (k : Kind) → is_kind k k ≡ true
kind-itself kinds.Notarization = refl
kind-itself kinds.Nullification = refl
kind-itself kinds.Finalization = refl

either-is : (b c : Bool) → (b || c) ≡ true → b ≡ false → c ≡ true
either-is true c either not_first = absurd (apart (sym not_first))
either-is false c either not_first = either

-- ---- the votes of a view

module _ {S D P G C : Type 0} where
  module _ (R : votes.History S D P G C → Type 0) (step : (e : votes.Event (Vote S D P G C) (Certificate S D P G C)) (r : votes.History S D P G C) → taken_in e ≡ None → R r → R (e ∷ r)) where
    stays-at : (b : Bool) (e : votes.Event (Vote S D P G C) (Certificate S D P G C)) (r : votes.History S D P G C) → taken_in e ≡ None → R r → R (if b then e ∷ r else r)
    stays-at true e r own holds = step e r own holds
    stays-at false e r own holds = holds

    stays-made : (b : Bool) (k : Kind) (batch : Batch (Certificate S D P G C)) (r : votes.History S D P G C) → R r → R (if b then after k (Some batch) r else r)
    stays-made true k batch r holds = go batch.certificate refl
      where
        go : (o : Option (Certificate S D P G C)) → batch.certificate ≡ o → R (after k (Some batch) r)
        go None e = rw e (step (Judged k batch.invalid.items) r refl holds)
        go (Some c) e = rw e (step (Certified c) r refl holds)
    stays-made false k batch r holds = holds

    -- an act hears nothing: what holds of the votes of a view stays so, where each event that isn't heard leaves it
    pub votes-stay : (p : Point S D P G C) (h : History S D P G C) (view : ℕ) → is_act p ≡ true → R (all_votes view h) → R (all_votes view (p ∷ h))
    votes-stay (Found x taken) h view own holds = absurd (apart own)
    votes-stay (Heard v) h view own holds = absurd (apart own)
    votes-stay (Came c) h view own holds = absurd (apart own)
    votes-stay (Leads at i) h view own holds = stays-at (at == view) (Led i) (all_votes view h) refl holds
    votes-stay (Forwards at p) h view own holds = stays-at (at == view) Forwarded (all_votes view h) refl holds
    votes-stay (Constructs at k batch) h view own holds = stays-made (at == view) k batch (all_votes view h) holds
    votes-stay (Votes v) h view own holds = stays-at ((vote_round v).view == view) (Cast v) (all_votes view h) refl holds
    votes-stay p h view own holds = holds

  -- who leads, and that the proposal was forwarded
  pub leader-still : (e : votes.Event (Vote S D P G C) (Certificate S D P G C)) (r : votes.History S D P G C) → taken_in e ≡ None → IsSome (leader_of r) → IsSome (leader_of (e ∷ r))
  leader-still (Led i) r own is = refl
  leader-still e r own is = is

  pub forwarded-still : (e : votes.Event (Vote S D P G C) (Certificate S D P G C)) (r : votes.History S D P G C) → taken_in e ≡ None → has_forwarded r ≡ true → has_forwarded (e ∷ r) ≡ true
  forwarded-still Forwarded r own is = refl
  forwarded-still e r own is = is

  module _ (same : D → D → Bool) (t : votes.Setup S) (k : Kind) where
    none-counts : (e : votes.Event (Vote S D P G C) (Certificate S D P G C)) (r : votes.History S D P G C) (xs : List (Vote S D P G C)) → xs ≡ [] → counting same t k (e ∷ r) xs ≡ []
    none-counts e r xs none = rw none (go (t.is_skipped || is_complete k (e ∷ r)))
      where
        go : (b : Bool) → (if b then [] else filter (λ (v : Vote S D P G C). is_candidate same (selected (e ∷ r)) v) []) ≡ []
        go true = refl
        go false = refl

    -- none waits, as long as none is heard
    pub waiting-still : (e : votes.Event (Vote S D P G C) (Certificate S D P G C)) (r : votes.History S D P G C) → taken_in e ≡ None → waiting same t k r ≡ [] → waiting same t k (e ∷ r) ≡ []
    waiting-still (Taken v) r own none = absurd (none-some v (sym own))
    waiting-still (Judged kind failing) r own none = go (is_kind k kind)
      where
        go : (b : Bool) → (if b then [] else waiting same t k r) ≡ []
        go true = refl
        go false = none
    waiting-still (Led i) r own none = none-counts (Led i) r (waiting same t k r) none
    waiting-still (Cast v) r own none = none-counts (Cast v) r (waiting same t k r) none
    waiting-still (Certified c) r own none = none-counts (Certified c) r (waiting same t k r) none
    waiting-still Forwarded r own none = none-counts Forwarded r (waiting same t k r) none

    -- all that waited were judged
    pub waiting-none : (failing : List ℕ) (r : votes.History S D P G C) → waiting same t k (Judged k failing ∷ r) ≡ []
    waiting-none failing r = ap (λ (b : Bool). if b then [] else waiting same t k r) (kind-itself k)

  -- the certificate of a batch is of its kind
  pub batch-kind : (g : Ghosts S D P G C) (same : D → D → Bool) (t : votes.Setup S) (k : Kind) (r : votes.History S D P G C) (batch : Batch (Certificate S D P G C)) (c : Certificate S D P G C)
      → IsBatch g same t k r batch → batch.certificate ≡ Some c → certificate_kind c ≡ k
  batch-kind g same t k r batch c is made = go (is_ready same t k r) is
    where
      go : (b : Bool) → MatchBool b (IsOfVerified g same t k r batch) (IsOfWaiting g same t k r batch) → certificate_kind c ≡ k
      go true of = subst (λ (d : Certificate S D P G C). certificate_kind d ≡ k) (some-is of.certificate c (sym of.made ∙ made)) of.certificate_is.kind_is
      go false of = (if-some (λ (d : Certificate S D P G C). IsCertificateOn t k of.states d) batch.certificate c of.certificate_is made).kind_is

  -- where none waits, a construction that is due makes a certificate
  pub batch-makes : (g : Ghosts S D P G C) (same : D → D → Bool) (t : votes.Setup S) (k : Kind) (r : votes.History S D P G C) (batch : Batch (Certificate S D P G C))
      → IsBatch g same t k r batch → is_due same t k r ≡ true → waiting same t k r ≡ [] → batch.certificate ≡ None → ⊥
  batch-makes g same t k r batch is due none unmade = go (is_ready same t k r) refl is
    where
      go : (b : Bool) → is_ready same t k r ≡ b → MatchBool b (IsOfVerified g same t k r batch) (IsOfWaiting g same t k r batch) → ⊥
      go true ready of = none-some of.certificate (sym unmade ∙ of.made)
      go false ready of =
          let worth = either-is (is_ready same t k r) (is_worth_judging same t k r) due ready in
          let enough : Bool = not t.batchable || nat_le t.needed (length (verified same t k r) + length (waiting same t k r)) in
          let some = (and_parts (nat_lt 0 (length (waiting same t k r))) enough (and_parts (is_some (votes.context t k r)) (nat_lt 0 (length (waiting same t k r)) && enough) worth).1).0 in
          let waits : 0 < length (waiting same t k r) = ltb-true 0 (length (waiting same t k r)) some in
          let empty : length (waiting same t k r) ≡ 0 = ap (λ (l : List (Vote S D P G C)). length l) none in
          absurd (omega (arith, waits, empty))

-- ---- the retry

or-first : (o p : Option ℕ) (m : ℕ) → o ≡ Some m → option_or o p ≡ Some m
or-first o p m e = rw e refl

retry-cases : (now moment : ℕ) (o : Option ℕ) → now < moment → ((m : ℕ) → o ≡ Some m → now < m) → (m : ℕ) → option_or o (Some moment) ≡ Some m → now < m
retry-cases now moment None ahead before m e = subst (λ (n : ℕ). now < n) (some-is moment m e) ahead
retry-cases now moment (Some n) ahead before m e = before m e

pick : {X : Type 0} (a b c : Bool) (x y : X) → c ≡ true → (if a || b || c then x else y) ≡ x
pick true b c x y is = refl
pick false true c x y is = refl
pick false false true x y is = refl
pick false false false x y is = absurd (apart is)

only-retry : (a c : Bool) (o : Option ℕ) (w : Option (ℕ × TimeoutReason)) (t : ℕ × TimeoutReason) → c ≡ true → (if a then None else (if c then option_map (λ moment. (moment, reason.Retry)) o else w)) ≡ Some t → o ≡ Some t.0
only-retry true c o w t is e = absurd (none-some t e)
only-retry false false o w t is e = absurd (apart is)
only-retry false true None w t is e = absurd (none-some t e)
only-retry false true (Some m) w t is e = ap (λ (q : ℕ × TimeoutReason). Some q.0) (some-is (m, reason.Retry) t e)

module _ {S D P G C : Type 0} where
  -- a nullify was voted, and when it is due again is known to lie ahead
  pub record WaitsAhead (now : ℕ) (l : List (Item S D P G C)) : Type 0 where
    pub voted : past.has_nullified l ≡ true
    pub moment : ℕ
    pub is : past.retry l ≡ Some moment
    pub ahead : now < moment

  -- a nullify was voted, and when it is due again lies ahead, if it is known
  pub record IsNotYet (now : ℕ) (l : List (Item S D P G C)) : Type 0 where
    pub voted : past.has_nullified l ≡ true
    pub ahead : (moment : ℕ) → past.retry l ≡ Some moment → now < moment

  retry-more : (moment : ℕ) (l : List (Item S D P G C)) → past.has_nullified l ≡ true → past.retry (past.polled moment ∷ l) ≡ option_or (past.retry l) (Some moment)
  retry-more moment l voted = ap (λ (b : Bool). if b then option_or (past.retry l) (Some moment) else past.retry l) voted

  pub waits-still : (now : ℕ) (y : Item S D P G C) (l : List (Item S D P G C)) → WaitsAhead now l → y ≢ past.voted_nullify → WaitsAhead now (y ∷ l)
  waits-still now past.voted_nullify l w other = absurd (other refl)
  waits-still now (past.polled moment) l w other = record { voted = w.voted; moment = w.moment; is = retry-more moment l w.voted ∙ or-first (past.retry l) (Some moment) w.moment w.is; ahead = w.ahead }
  waits-still now y l w other = record { voted = w.voted; moment = w.moment; is = w.is; ahead = w.ahead }

  -- the first poll behind a nullify tells it
  pub waits-new : (now moment : ℕ) (l : List (Item S D P G C)) → now < moment → past.has_nullified l ≡ true → past.retry l ≡ None → WaitsAhead now (past.polled moment ∷ l)
  waits-new now moment l ahead voted none = record { voted = voted; moment = moment; is = retry-more moment l voted ∙ ap (λ (o : Option ℕ). option_or o (Some moment)) none; ahead = ahead }

  pub not-yet-new : (now : ℕ) (l : List (Item S D P G C)) → IsNotYet now (past.voted_nullify ∷ l)
  not-yet-new now l = record { voted = refl; ahead = λ m e. absurd (none-some m e) }

  pub yet-polled : (now moment : ℕ) (l : List (Item S D P G C)) → now < moment → IsNotYet now l → IsNotYet now (past.polled moment ∷ l)
  yet-polled now moment l ahead w = record { voted = w.voted; ahead = λ m e. retry-cases now moment (past.retry l) ahead w.ahead m (sym (retry-more moment l w.voted) ∙ e) }

  -- the retry of a view that was given up is its timeout
  pub retry-of : (now : ℕ) (counts : Bool) (stall : Option ℕ) (l : List (Item S D P G C)) (t : ℕ × TimeoutReason) → past.has_nullified l ≡ true → timeout_of now counts stall l ≡ Some t → past.retry l ≡ Some t.0
  retry-of now counts stall l t voted e =
      only-retry (is_some (past.finalization l) || past.has_finalized l) (past.has_nullified l) (past.retry l) (past.first_timeout l counts) t voted
      (sym (pick (is_some (past.finalization l)) (past.has_finalized l) (past.has_nullified l) (past.next_timeout l counts) (earlier now (past.next_timeout l counts) stall) voted) ∙ e)

-- ---- what is held, and what is latched

module _ {D : Type 0} where
  -- a verification was asked for, or this proposal is held: not neither
  abbrev pub StillHolds : Proposal D → List (Offer D) → Type 0
  StillHolds p l = (IsVerifyAsked l → ⊥) → (held l ≡ Some p → ⊥) → ⊥

  pub holds-offer : (p : Proposal D) (o : Offer D) (l : List (Offer D)) → StillHolds p l → StillHolds p (o ∷ l)
  holds-offer p (offer.forwarded q) l is first other = is first (λ e. other (rw e refl))
  holds-offer p (offer.certified q) l is first other =
      is (λ asked. first (inl asked)) (λ e. first (inr (rw e (λ same. other (ap (λ (x : Proposal D). Some x) (sym same))))))
  holds-offer p (offer.recorded q) l is first other = first tt
  holds-offer p offer.confirmed l is first other = is first other
  holds-offer p offer.building l is first other = is first other
  holds-offer p offer.released l is first other = is first other
  holds-offer p offer.verifying l is first other = first tt
