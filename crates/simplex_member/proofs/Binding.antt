-- A proposal on which a notarize is due was bound.
use Rattle.std.proofs.Common.{◌≡◌, ◌≢◌, ◌⊎◌, inl, inr, ⊎_elim, ℕ, ◌≤◌, ◌==◌, Bool, true, false, List, [], ◌∷◌, ◌++◌, Option, Some, None, refl, sym, ◌∙◌, ap, subst, arith}
use Rattle.std.specs.Prelude.{IsSome, if◌then◌else◌, is_some, not, ◌&&◌, option_map, unwrap_or, ⊤}
use Rattle.std.proofs.lemmas.Bool.{eqb-true}
use Rattle.std.proofs.lemmas.Option.{none-some}
use Rattle.types_core.specs.declared.context.Context.{Context}
use Rattle.types_core.specs.declared.position.Round.{Round}
use Rattle.types_core.specs.declared.proposal.Proposal.{Proposal}
use Rattle.types_core.specs.declared.scheme.Scheme.{Ghosts}
use Rattle.messages_certificates.specs.declared.artifact.Artifact.TheVariants as artifact
use Rattle.messages_certificates.specs.declared.certificate.Certificate.{Certificate}
use Rattle.messages_certificates.specs.declared.certificate.Certificate.TheVariants as certificate
use Rattle.simplex_messages.specs.declared.vote.Vote.TheVariants as vote
use Rattle.voter_history.specs.Held.{IsVerifyAsked}
use Rattle.voter_history.specs.Past as past
use Rattle.types_terms.specs.declared.kind.Kind.TheVariants as kind
use Rattle.voter_history.specs.History as views
use Rattle.voter_history.specs.History.{finalized, last_finalized, pruned, seen, sent}
use Rattle.voter_history.specs.Leaders.{leader}
use Rattle.voter_rules.specs.Ancestry.{held_at}
use Rattle.voter_rules.specs.VotesDue.{NotarizeIsDue}
use Rattle.voter_rules.specs.GivingUp.{IsTracked}
use Rattle.voter_laws.specs.Matching.{IsBound}
use Rattle.voter_rules.specs.Building.{proposal_on}
use Rattle.batcher_verifier.specs.History as votes
use Rattle.batcher_verifier.specs.History.{forwardable, has_forwarded, is_another, leader_of, selected}
use Rattle.simplex_member.specs.Allowed.{Allowed, AreAllowed}
use Rattle.simplex_member.specs.Asked.{build_at, check_at}
use Rattle.simplex_member.specs.Laws.{AreTracked, RoundLaws}
use Rattle.simplex_member.specs.Layers.{finalizes_above, floor_of, known_of, latest, takes_certificate, voter_of, voter_points, votes_of, votes_setup}
use Rattle.simplex_member.specs.Packet.{Formats}
use Rattle.simplex_member.specs.Point.{Outcome, Counts, Falls, Passes, Point, Opened, Found, Began, Came, Built, Checked, Judged, Forwards, Constructs, Latches, Polls, AsksBuild, AsksVerify, AsksCertify, GivesBack, LeavesBehind, PutsOff, Resolves, Votes, Repeats, Rewrote, History}
use Rattle.simplex_member.specs.Setup.{Setup, member_of}
use Rattle.simplex_member.proofs.Ballots.{votes-lawful}
use Rattle.simplex_member.proofs.Bound.{Inv, ArePlain, all-plain, built-inv, confirm-inv, inv-less, inv-nil, leader-stays-all, unbind-inv, verify-inv}
use Rattle.simplex_member.proofs.Rising.{all-rise}
use Rattle.simplex_member.proofs.Telling.{apart}
use Rattle.simplex_member.proofs.Lists.{if-some, same-number, some-is}

pub is-some : {X : Type 0} (o : Option X) → IsSome o → (x : X) × (o ≡ Some x)
is-some None some = absurd (apart some)
is-some (Some x) some = (x, refl)

-- a test that is false of what it names
differ : (a b : ℕ) → (a == b) ≡ false → a ≡ b → ⊥
differ a b e is = apart (sym e ∙ same-number a b is)

module _ {X : Type 0} where
  -- under a number stands what was put there, or what stood there
  pub under : (n m : ℕ) (x y : X) (o : Option X) → (if n == m then Some x else o) ≡ Some y → ((n ≡ m) × (x ≡ y)) ⊎ (o ≡ Some y)
  under n m x y o e = go (n == m) (eqb-true n m) e
    where
      go : (b : Bool) → (b ≡ true → n ≡ m) → (if b then Some x else o) ≡ Some y → ((n ≡ m) × (x ≡ y)) ⊎ (o ≡ Some y)
      go true is e = inl (is refl, some-is x y e)
      go false is e = inr e

  -- or nothing any more
  pub gone : (n m : ℕ) (y : X) (o : Option X) → (if n == m then None else o) ≡ Some y → (n ≢ m) × (o ≡ Some y)
  gone n m y o e = go (n == m) refl e
    where
      go : (b : Bool) → (n == m) ≡ b → (if b then None else o) ≡ Some y → (n ≢ m) × (o ≡ Some y)
      go true is e = absurd (none-some y e)
      go false is e = (λ same. differ n m is same, e)

module _ {S D P G C : Type 0} (Pending : Type 0) (In : Proposal D → Type 0) (view : ℕ) (into : (p : Proposal D) → p.round.view ≡ view → In p) where
  plain-pruned : (b : Bool) (xs : List (views.Point S D P G C)) → ArePlain Pending In view into xs → ArePlain Pending In view into ((if b then pruned ∷ [] else []) ++ xs)
  plain-pruned true xs plain = (tt, plain)
  plain-pruned false xs plain = plain

  plain-certificate : (now low : ℕ) (c : Certificate S D P G C) → ArePlain Pending In view into (takes_certificate now low c)
  plain-certificate now low (certificate.Notarization c) = (tt, (tt, tt))
  plain-certificate now low (certificate.Nullification c) = (tt, (tt, tt))
  plain-certificate now low (certificate.Finalization c) =
      plain-pruned (finalizes_above low (certificate.Finalization c)) (sent kind.Finalization c.proposal.round.view ∷ finalized now c ∷ []) (tt, (tt, tt))

  plain-option : (now low : ℕ) (o : Option (Certificate S D P G C)) → ArePlain Pending In view into (unwrap_or (option_map (takes_certificate now low) o) [])
  plain-option now low None = tt
  plain-option now low (Some c) = plain-certificate now low c

module _ {S D P G C : Type 0} where
  selected-of : (r : votes.History S D P G C) (me : ℕ) (p : Proposal D) → forwardable r me ≡ Some p → selected r ≡ Some p
  selected-of r me p e = go (not (has_forwarded r) && is_another (leader_of r) me) e
    where
      go : (b : Bool) → (if b then selected r else None) ≡ Some p → selected r ≡ Some p
      go true e = e
      go false e = absurd (none-some p e)

-- of views that are kept; that a held proposal lies in its view is asked as far as In goes
module _ {S D P G C : Type 0} (g : Ghosts S D P G C) (f : Formats S D P G C) (s : Setup S D C) (In : ℕ → Proposal D → Type 0) (into : (view : ℕ) (p : Proposal D) → p.round.view ≡ view → In view p) where
  -- a proposal of the view is being checked
  abbrev Pending : History S D P G C → ℕ → Type 0
  Pending h view = (n : ℕ) × (check_at h n ≡ Some view)

  -- another leads, or this member does
  abbrev LedByAnother : History S D P G C → ℕ → Type 0
  LedByAnother h view = (i : ℕ) × (leader s.voter (voter_of s h) view ≡ Some i) × (Some i ≢ s.voter.me)

  abbrev LedHere : History S D P G C → ℕ → Type 0
  LedHere h view = (i : ℕ) × (leader s.voter (voter_of s h) view ≡ Some i) × (Some i ≡ s.voter.me)

  -- of a view that is kept: what is found good was bound; one check at most is under way, of another's proposal; and builds are own ones
  record AtView (h : History S D P G C) (view : ℕ) : Type 0 where
    pub inv : Inv (Pending h view) (In view) (seen s.voter (voter_of s h) view)
    pub one : (n m : ℕ) → check_at h n ≡ Some view → check_at h m ≡ Some view → n ≡ m
    pub led : (n : ℕ) → check_at h n ≡ Some view → LedByAnother h view
    pub mine : (n : ℕ) (handoff : Bool) (context : Context D P) → build_at h n ≡ Some (handoff, context) → context.round.view ≡ view → LedHere h view

  abbrev points_at : Point S D P G C → History S D P G C → List (views.Point S D P G C)
  points_at p h = voter_points s (latest (p ∷ h)) (last_finalized (voter_of s h)) p

  another-stays : (p : Point S D P G C) (h : History S D P G C) (view : ℕ) → floor_of s (p ∷ h) ≤ view → LedByAnother h view → LedByAnother (p ∷ h) view
  another-stays p h view kept l = (l.0, leader-stays-all s.voter (points_at p h) (voter_of s h) view l.0 kept l.1, l.2)

  here-stays : (p : Point S D P G C) (h : History S D P G C) (view : ℕ) → floor_of s (p ∷ h) ≤ view → LedHere h view → LedHere (p ∷ h) view
  here-stays p h view kept l = (l.0, leader-stays-all s.voter (points_at p h) (voter_of s h) view l.0 kept l.1, l.2)

  -- where no check and no build is new
  stays : (p : Point S D P G C) (h : History S D P G C) (view : ℕ) → floor_of s (p ∷ h) ≤ view → ((n v : ℕ) → check_at (p ∷ h) n ≡ Some v → check_at h n ≡ Some v)
      → ((n : ℕ) (b : Bool × Context D P) → build_at (p ∷ h) n ≡ Some b → build_at h n ≡ Some b) → AtView h view → Inv (Pending (p ∷ h) view) (In view) (seen s.voter (voter_of s (p ∷ h)) view) → AtView (p ∷ h) view
  stays p h view kept checks builds i inv = record {
    inv = inv;
    one = λ n m a b. i.one n m (checks n view a) (checks m view b);
    led = λ n a. another-stays p h view kept (i.led n (checks n view a));
    mine = λ n handoff context a at. here-stays p h view kept (i.mine n handoff context (builds n (handoff, context) a) at);
  }

  -- and all that the voter sees is plain
  plainly : (p : Point S D P G C) (h : History S D P G C) (view : ℕ) → floor_of s (p ∷ h) ≤ view → ((n v : ℕ) → check_at (p ∷ h) n ≡ Some v → check_at h n ≡ Some v)
      → ((n : ℕ) (b : Bool × Context D P) → build_at (p ∷ h) n ≡ Some b → build_at h n ≡ Some b) → ArePlain (Pending (p ∷ h) view) (In view) view (into view) (points_at p h) → AtView h view → AtView (p ∷ h) view
  plainly p h view kept checks builds plain i = stays p h view kept checks builds i
      (all-plain (Pending (p ∷ h) view) (In view) view (into view) s.voter (points_at p h) (voter_of s h) plain kept
      (inv-less (Pending h view) (Pending (p ∷ h) view) (In view) (seen s.voter (voter_of s h) view) (λ x. (x.0, checks x.0 view x.1)) i.inv))

  -- ---- requests and answers

  verify-step : (h : History S D P G C) (n : ℕ) (context : Context D P) (p : Proposal D) (view : ℕ) → floor_of s (AsksVerify n context p ∷ h) ≤ view → Allowed g f s h (AsksVerify n context p) → AtView h view → AtView (AsksVerify n context p ∷ h) view
  verify-step h n context p view kept a i = record {
    inv = verify-inv (Pending h view) (In view) view (into view) (Pending (AsksVerify n context p ∷ h) view) context.round.view p context.parent.1 (seen s.voter (voter_of s h)) first
        (λ other x. ⊎_elim (λ new. absurd (differ context.round.view view other new.1)) (λ old. (x.0, old)) (under n x.0 context.round.view view (check_at h x.0) x.1)) i.inv;
    one = λ k m x y. ⊎_elim
        (λ new. ⊎_elim (λ again. sym new.0 ∙ again.0) (λ old. absurd (first new.1 (i.inv.asked (m, old)))) (under n m context.round.view view (check_at h m) y))
        (λ old. ⊎_elim (λ new. absurd (first new.1 (i.inv.asked (k, old)))) (λ both. i.one k m old both) (under n m context.round.view view (check_at h m) y))
        (under n k context.round.view view (check_at h k) x);
    led = λ k x. ⊎_elim
        (λ new.
        let l = is-some (leader s.voter (voter_of s h) context.round.view) a.due.due.waits.led.0 in
        another-stays (AsksVerify n context p) h view kept (l.0, subst (λ (u : ℕ). leader s.voter (voter_of s h) u ≡ Some l.0) new.1 l.1, λ same. a.due.due.waits.led.1 (l.1 ∙ same)))
        (λ old. another-stays (AsksVerify n context p) h view kept (i.led k old))
        (under n k context.round.view view (check_at h k) x);
    mine = λ k handoff c b at. here-stays (AsksVerify n context p) h view kept (i.mine k handoff c b at);
  }
    where
      first : context.round.view ≡ view → IsVerifyAsked (past.offers (seen s.voter (voter_of s h) view)) → ⊥
      first is = subst (λ (u : ℕ). IsVerifyAsked (past.offers (seen s.voter (voter_of s h) u)) → ⊥) is a.due.due.waits.first

  build-step : (h : History S D P G C) (n : ℕ) (handoff : Bool) (context : Context D P) (view : ℕ) → floor_of s (AsksBuild n handoff context ∷ h) ≤ view → Allowed g f s h (AsksBuild n handoff context) → AtView h view → AtView (AsksBuild n handoff context ∷ h) view
  build-step h n handoff context view kept a i = record {
    inv = all-plain (Pending h view) (In view) view (into view) s.voter (points_at (AsksBuild n handoff context) h) (voter_of s h) (tt, tt) kept i.inv;
    one = i.one;
    led = λ k x. another-stays (AsksBuild n handoff context) h view kept (i.led k x);
    mine = λ k ho c x at. here-stays (AsksBuild n handoff context) h view kept (⊎_elim
        (λ new.
        let me = is-some s.voter.me a.due.due.leads.some in
        let here : context.round.view ≡ view = ap (λ (b : Bool × Context D P). b.1.round.view) new.1 ∙ at in
        (me.0, subst (λ (u : ℕ). leader s.voter (voter_of s h) u ≡ Some me.0) here (a.due.due.leads.known ∙ me.1), sym me.1))
        (λ old. i.mine k ho c old at)
        (under n k (handoff, context) (ho, c) (build_at h k) x));
  }

  built-step : (h : History S D P G C) (n : ℕ) (handoff : Bool) (context : Context D P) (payload : Option D) (took : Bool) (view : ℕ) → floor_of s (Built n handoff context payload took ∷ h) ≤ view
      → Allowed g f s h (Built n handoff context payload took) → AtView h view → AtView (Built n handoff context payload took ∷ h) view
  built-step h n handoff context (Some d) true view kept a i = stays (Built n handoff context (Some d) true) h view kept (λ k v e. e) (λ k b e. (gone n k b (build_at h k) e).1) i
      (built-inv (Pending h view) (In view) view (into view) (latest h) (proposal_on context d) context.parent.1 (seen s.voter (voter_of s h))
      (λ at x.
      let other = i.led x.0 x.1 in
      let own = i.mine n handoff context a.due.0 at in
      other.2 (sym other.1 ∙ (own.1 ∙ own.2))) i.inv)
  built-step h n handoff context None true view kept a i = plainly (Built n handoff context None true) h view kept (λ k v e. e) (λ k b e. (gone n k b (build_at h k) e).1) (tt, tt) i
  built-step h n handoff context payload false view kept a i = plainly (Built n handoff context payload false) h view kept (λ k v e. e) (λ k b e. (gone n k b (build_at h k) e).1) tt i

  module _ (h : History S D P G C) (n at : ℕ) (view : ℕ) (i : AtView h view) (asked : check_at h n ≡ Some at) where
    ends : (answer : Option Bool) (outcome : Outcome) → at ≡ view → Pending h view × (Pending (Checked n at answer outcome ∷ h) view → ⊥)
    ends answer outcome is =
        let mine : check_at h n ≡ Some view = asked ∙ ap (λ (u : ℕ). Some u) is in
        ((n, mine), λ x. let left = gone n x.0 view (check_at h x.0) x.1 in left.0 (i.one n x.0 mine left.1))

    less : (answer : Option Bool) (outcome : Outcome) → Pending (Checked n at answer outcome ∷ h) view → Pending h view
    less answer outcome x = (x.0, (gone n x.0 view (check_at h x.0) x.1).1)

  checked-step : (h : History S D P G C) (n at : ℕ) (answer : Option Bool) (outcome : Outcome) (view : ℕ) → floor_of s (Checked n at answer outcome ∷ h) ≤ view
      → Allowed g f s h (Checked n at answer outcome) → AtView h view → AtView (Checked n at answer outcome ∷ h) view
  checked-step h n at (Some true) Counts view kept a i = stays (Checked n at (Some true) Counts) h view kept (λ k v e. (gone n k v (check_at h k) e).1) (λ k b e. e) i
      (confirm-inv (Pending h view) (In view) view (into view) (Pending (Checked n at (Some true) Counts ∷ h) view) at (past.has_nullified (seen s.voter (voter_of s h) at)) (seen s.voter (voter_of s h))
      (ends h n at view i a.due.0 (Some true) Counts) (less h n at view i a.due.0 (Some true) Counts) i.inv)
  checked-step h n at (Some false) Counts view kept a i = plainly (Checked n at (Some false) Counts) h view kept (λ k v e. (gone n k v (check_at h k) e).1) (λ k b e. e) (tt, tt) i
  checked-step h n at None Counts view kept a i = plainly (Checked n at None Counts) h view kept (λ k v e. (gone n k v (check_at h k) e).1) (λ k b e. e) (tt, tt) i
  checked-step h n at answer Falls view kept a i = stays (Checked n at answer Falls) h view kept (λ k v e. (gone n k v (check_at h k) e).1) (λ k b e. e) i
      (unbind-inv (Pending h view) (In view) view (into view) (Pending (Checked n at answer Falls ∷ h) view) at (seen s.voter (voter_of s h)) (ends h n at view i a.due.0 answer Falls) (less h n at view i a.due.0 answer Falls) i.inv)
  checked-step h n at answer Passes view kept a i = plainly (Checked n at answer Passes) h view kept (λ k v e. (gone n k v (check_at h k) e).1) (λ k b e. e) tt i

  -- ---- all points

  module _ (forwards : (h : History S D P G C) → AreAllowed g f s h → (at : ℕ) (p : Proposal D) → Allowed g f s h (Forwards at p) → In at p) where
    step : (p : Point S D P G C) (h : History S D P G C) (view : ℕ) → floor_of s (p ∷ h) ≤ view → Allowed g f s h p → AreAllowed g f s h → AtView h view → AtView (p ∷ h) view
    step (Opened t) h view kept a all i = plainly (Opened t) h view kept (λ k v e. e) (λ k b e. e) (tt, tt) i
    step (Found (artifact.Notarize w) taken) h view kept a all i = plainly (Found (artifact.Notarize w) taken) h view kept (λ k v e. e) (λ k b e. e) (tt, tt) i
    step (Found (artifact.Notarization c) taken) h view kept a all i = plainly (Found (artifact.Notarization c) taken) h view kept (λ k v e. e) (λ k b e. e) (tt, (tt, tt)) i
    step (Found (artifact.Certification r ok) taken) h view kept a all i = plainly (Found (artifact.Certification r ok) taken) h view kept (λ k v e. e) (λ k b e. e) (tt, (tt, tt)) i
    step (Found (artifact.Nullify w) taken) h view kept a all i = plainly (Found (artifact.Nullify w) taken) h view kept (λ k v e. e) (λ k b e. e) (tt, tt) i
    step (Found (artifact.Nullification c) taken) h view kept a all i = plainly (Found (artifact.Nullification c) taken) h view kept (λ k v e. e) (λ k b e. e) (tt, (tt, tt)) i
    step (Found (artifact.Finalize w) taken) h view kept a all i = plainly (Found (artifact.Finalize w) taken) h view kept (λ k v e. e) (λ k b e. e) (tt, tt) i
    step (Found (artifact.Finalization c) taken) h view kept a all i = plainly (Found (artifact.Finalization c) taken) h view kept (λ k v e. e) (λ k b e. e) (tt, (tt, tt)) i
    step Began h view kept a all i = plainly Began h view kept (λ k v e. e) (λ k b e. e) (tt, tt) i
    step (Came c) h view kept a all i = plainly (Came c) h view kept (λ k v e. e) (λ k b e. e) (plain-certificate (Pending (Came c ∷ h) view) (In view) view (into view) (latest h) (last_finalized (voter_of s h)) c) i
    step (Built n handoff context payload took) h view kept a all i = built-step h n handoff context payload took view kept a i
    step (Checked n at answer outcome) h view kept a all i = checked-step h n at answer outcome view kept a i
    step (Judged r ok) h view kept a all i = plainly (Judged r ok) h view kept (λ k v e. e) (λ k b e. e) (tt, tt) i
    step (Forwards at p) h view kept a all i = plainly (Forwards at p) h view kept (λ k v e. e) (λ k b e. e) (λ is. subst (λ (u : ℕ). In u p) is (forwards h all at p a), tt) i
    step (Constructs at kind batch) h view kept a all i = plainly (Constructs at kind batch) h view kept (λ k v e. e) (λ k b e. e) (plain-option (Pending (Constructs at kind batch ∷ h) view) (In view) view (into view) (latest h) (last_finalized (voter_of s h)) batch.certificate) i
    step (Latches at why) h view kept a all i = plainly (Latches at why) h view kept (λ k v e. e) (λ k b e. e) (tt, tt) i
    step Polls h view kept a all i = plainly Polls h view kept (λ k v e. e) (λ k b e. e) (tt, tt) i
    step (AsksBuild n handoff context) h view kept a all i = build-step h n handoff context view kept a i
    step (AsksVerify n context p) h view kept a all i = verify-step h n context p view kept a i
    step (AsksCertify p) h view kept a all i = plainly (AsksCertify p) h view kept (λ k v e. e) (λ k b e. e) (tt, tt) i
    step (GivesBack n at) h view kept a all i = plainly (GivesBack n at) h view kept (λ k v e. e) (λ k b e. (gone n k b (build_at h k) e).1) (tt, tt) i
    step (LeavesBehind n) h view kept a all i = plainly (LeavesBehind n) h view kept (λ k v e. e) (λ k b e. (gone n k b (build_at h k) e).1) tt i
    step (PutsOff at) h view kept a all i = plainly (PutsOff at) h view kept (λ k v e. e) (λ k b e. e) (tt, tt) i
    step (Resolves at k u) h view kept a all i = plainly (Resolves at k u) h view kept (λ k v e. e) (λ k b e. e) (tt, tt) i
    step (Votes (vote.Notarize w)) h view kept a all i = plainly (Votes (vote.Notarize w)) h view kept (λ k v e. e) (λ k b e. e) (tt, tt) i
    step (Votes (vote.Nullify w)) h view kept a all i = plainly (Votes (vote.Nullify w)) h view kept (λ k v e. e) (λ k b e. e) (tt, tt) i
    step (Votes (vote.Finalize w)) h view kept a all i = plainly (Votes (vote.Finalize w)) h view kept (λ k v e. e) (λ k b e. e) (tt, tt) i
    step (Repeats w best) h view kept a all i = plainly (Repeats w best) h view kept (λ k v e. e) (λ k b e. e) (tt, tt) i
    step (Rewrote c) h view kept a all i = plainly (Rewrote c) h view kept (λ k v e. e) (λ k b e. e) (tt, tt) i
    step p h view kept a all i = plainly p h view kept (λ k v e. e) (λ k b e. e) tt i

    -- of each view that is kept
    at-view : (h : History S D P G C) → AreAllowed g f s h → (view : ℕ) → floor_of s h ≤ view → AtView h view
    at-view [] all view kept = record {
      inv = inv-nil (Pending [] view) (In view) (λ x. none-some view x.1);
      one = λ n m x y. absurd (none-some view x);
      led = λ n x. absurd (none-some view x);
      mine = λ n handoff context x at. absurd (none-some (handoff, context) x);
    }
    at-view (p ∷ h) all view kept =
        let rises = (all-rise s.voter (points_at p h) (voter_of s h)).1 in
        step p h view kept all.0 all.1 (at-view h all.1 view (omega (arith, kept, rises)))

-- a proposal of each view is taken for what it is, wherever it lies
module _ {S D P G C : Type 0} (g : Ghosts S D P G C) (f : Formats S D P G C) (s : Setup S D C) where
  -- what is due was bound, however payloads are compared
  pub due-binds : (h : History S D P G C) → AreAllowed g f s h → (view : ℕ) (p : Proposal D) → NotarizeIsDue (member_of s) (known_of s h) view → held_at (member_of s) (known_of s h) view ≡ Some p
      → (payload : D) × (past.binding (seen s.voter (voter_of s h) view) ≡ Some (p, payload))
  due-binds h all view p due holds =
      let i = at-view g f s (λ u q. ⊤) (λ u q e. tt) (λ k before at q a. tt) h all view due.kept.1 in
      let some = ⊎_elim (λ voted. absurd (apart (sym due.first ∙ voted))) (λ is. is) (i.inv.bound due.verified.1) in
      let b = is-some (past.binding (seen s.voter (voter_of s h) view)) some in
      let same : b.0.0 ≡ p = some-is b.0.0 p (sym (due.steady b.0 b.1).held ∙ holds) in
      (b.0.1, b.1 ∙ ap (λ (q : Proposal D). Some (q, b.0.1)) same)

module _ {S D P G C : Type 0} (g : Ghosts S D P G C) (f : Formats S D P G C) (s : Setup S D C) (laws : RoundLaws g f.same) where
  -- what is forwarded lies in its view, and in the epoch
  pub forwarded-round : (h : History S D P G C) → AreAllowed g f s h → (at : ℕ) (p : Proposal D) → Allowed g f s h (Forwards at p) → p.round ≡ record { epoch = s.voter.epoch; view = at }
  forwarded-round h all at p a = if-some (λ (q : Proposal D). q.round ≡ (votes_setup s g h at).round) (selected (votes_of s h at)) p
      (laws.selected (votes_setup s g h at) (votes_of s h at) (votes-lawful g f s laws h all at a.due.0)) (selected-of (votes_of s h at) s.me p a.due.1)

  forwarded-in : (h : History S D P G C) → AreAllowed g f s h → (at : ℕ) (p : Proposal D) → Allowed g f s h (Forwards at p) → p.round.view ≡ at
  forwarded-in h all at p a = ap (λ (r : Round). r.view) (forwarded-round h all at p a)

  kept-view : (h : History S D P G C) → AreAllowed g f s h → (view : ℕ) → floor_of s h ≤ view → AtView g f s (λ u p. p.round.view ≡ u) (λ u p e. e) h view
  kept-view h all view kept = at-view g f s (λ u p. p.round.view ≡ u) (λ u p e. e) forwarded-in h all view kept

  -- what is due was bound
  pub due-bound : (h : History S D P G C) → AreAllowed g f s h → (view : ℕ) (p : Proposal D) → NotarizeIsDue (member_of s) (known_of s h) view → held_at (member_of s) (known_of s h) view ≡ Some p → IsBound (member_of s) (known_of s h) view p
  due-bound h all view p due holds =
      let i = kept-view h all view due.kept.1 in
      let some = ⊎_elim (λ voted. absurd (apart (sym due.first ∙ voted))) (λ is. is) (i.inv.bound due.verified.1) in
      let b = is-some (past.binding (seen s.voter (voter_of s h) view)) some in
      let stands = due.steady b.0 b.1 in
      let same : b.0.0 ≡ p = some-is b.0.0 p (sym stands.held ∙ holds) in
      record {
        held = holds;
        at = i.inv.in_view p holds;
        payload = b.0.1;
        bound = b.1 ∙ ap (λ (q : Proposal D). Some (q, b.0.1)) same;
      }

  -- and the views of requests are tracked
  led-tracked : (h : History S D P G C) (view i : ℕ) → leader s.voter (voter_of s h) view ≡ Some i → IsTracked s.voter (voter_of s h) view
  led-tracked h view i is = inr (ap (λ (o : Option ℕ). is_some o) is)

  pub requests-tracked : (h : History S D P G C) → AreAllowed g f s h → AreTracked g f s h
  requests-tracked h all = record {
    builds = λ n handoff context asked kept. let l = (kept-view h all context.round.view kept).mine n handoff context asked refl in led-tracked h context.round.view l.0 l.1;
    checks = λ n view asked kept. let l = (kept-view h all view kept).led n asked in led-tracked h view l.0 l.1;
  }
