-- Points that change nothing of what is known.
use Rattle.std.proofs.Common.{◌≡◌, true, false, ℕ, suc, List, ◌∷◌, refl, sym, ap, ◌∙◌, subst, ◌+◌, arith, if◌then◌else◌}
use Rattle.std.proofs.lemmas.Bool.Decides.{Decides-eqb}
use Rattle.std.specs.Prelude.{◌==◌, nat_lt, Bool, Option, Some, None, IsSome, option_map}
use Rattle.types_core.specs.declared.proposal.Proposal.{Proposal}
use Rattle.messages_certificates.specs.ProposalCertificate.{Notarization, Finalization}
use Rattle.types_terms.specs.declared.kind.Kind.TheVariants as kind
use Rattle.voter_history.specs.Held.{Offer}
use Rattle.voter_history.specs.Past as past
use Rattle.voter_history.specs.Past.{Item}
use Rattle.voter_history.specs.Pasts.{put, is_direct}
use Rattle.voter_history.specs.History.{Setup, Point, based, latched, polled, sent, voted_nullify, is_marked, was_nullified, current, last_finalized, floor, genesis, seen}
use Rattle.voter_history.specs.Leaders.{leader, inherits, named, was_forwarded}
use Rattle.voter_history.specs.Leading.{HandsOn, leader_named}
use Rattle.voter_history.specs.Known.{known, backs, waits}
use Rattle.voter_laws.specs.Matching.{LatchChangesNothing, PollChangesNothing, SendChangesNothing, RepetitionChangesNothing, BaseChangesFloorAlone, LeadersAreClosed}
use Rattle.voter_laws.proofs.Closed.{closed, inherits_still, still_led}

-- what is known of a view
record Facts (D : Type 0) : Type 0 where
  offers : List (Offer D)
  direct : Bool
  notarized : Option (Proposal D)
  finalized : Option (Proposal D)
  verdict : Option Bool
  has_notarized : Bool
  has_nullified : Bool
  has_finalized : Bool
  last_asked : Option ℕ
  binding : Option (Proposal D × D)
  certify_asked : Bool

module _ {S D P G C : Type 0} where
  abbrev facts : List (Item S D P G C) → Facts D
  facts l = record {
    offers = past.offers l;
    direct = is_direct l;
    notarized = option_map (λ (c : Notarization S D P G C). c.proposal) (past.notarization l);
    finalized = option_map (λ (c : Finalization S D P G C). c.proposal) (past.finalization l);
    verdict = past.verdict l;
    has_notarized = past.has_notarized l;
    has_nullified = past.has_nullified l;
    has_finalized = past.has_finalized l;
    last_asked = past.last_asked l;
    binding = past.binding l;
    certify_asked = past.is_certify_asked l;
  }

  -- an item that changes none of them
  quiet_put : (at : ℕ) (x : Item S D P G C) (t : ℕ → List (Item S D P G C)) → facts (x ∷ t at) ≡ facts (t at) → (view : ℕ) → facts (put at x t view) ≡ facts (t view)
  quiet_put at x t same view = by (at == view) (λ here. subst (λ (v : ℕ). facts (x ∷ t v) ≡ facts (t v)) ((Decides-eqb at view).0 here) same)
    where
      by : (b : Bool) → (b ≡ true → facts (x ∷ t view) ≡ facts (t view)) → facts (if b then x ∷ t view else t view) ≡ facts (t view)
      by true is = is refl
      by false is = refl

  -- a point that names no leader, and changes nothing of what is known of any view
  record IsQuiet (s : Setup S C) (h : List (Point S D P G C)) (x : Point S D P G C) : Type 0 where
    current : current s (x ∷ h) ≡ current s h
    last_finalized : last_finalized (x ∷ h) ≡ last_finalized h
    genesis : genesis (x ∷ h) ≡ genesis h
    nullified : was_nullified (x ∷ h) ≡ was_nullified h
    backed : is_marked s backs (x ∷ h) ≡ is_marked s backs h
    waited : is_marked s waits (x ∷ h) ≡ is_marked s waits h
    forwarded : (view : ℕ) → was_forwarded s (x ∷ h) view ≡ was_forwarded s h view
    hands : HandsOn s h x
    nobody : (view : ℕ) → named s x view ≡ None
    facts : (view : ℕ) → facts (seen s (x ∷ h) view) ≡ facts (seen s h view)

  -- who leads stays
  same_leader : (s : Setup S C) (h : List (Point S D P G C)) (x : Point S D P G C) → IsQuiet s h x → (view : ℕ) → leader s (x ∷ h) view ≡ leader s h view
  same_leader s h x quiet view =
      leader_named s h x quiet.hands (λ v. ap (λ (f : Facts D). f.has_notarized) (quiet.facts v)) view ∙ still_led (named s x) (inherits s (x ∷ h)) (leader s h) quiet.nobody shut view
    where
      shut : (w i : ℕ) → inherits s (x ∷ h) (suc w) ≡ true → leader s h w ≡ Some i → IsSome (leader s h (suc w))
      shut w i passes led = closed s h w i
          (inherits_still s (x ∷ h) h (λ v is. sym (ap (λ (f : Facts D). f.direct) (quiet.facts v)) ∙ is) (λ v is. sym (quiet.forwarded v) ∙ is)
          (λ v is. sym (ap (λ (f : Facts D). f.has_notarized) (quiet.facts v)) ∙ is) (suc w) passes)
          led

  -- the floor alone may be another behind it
  quiet_but : (s : Setup S C) (h : List (Point S D P G C)) (x : Point S D P G C) → IsQuiet s h x → known s (x ∷ h) ≡ record (known s h) { floor = floor s (x ∷ h) }
  quiet_but s h x quiet = λ i. record {
    current = quiet.current i;
    last_finalized = quiet.last_finalized i;
    floor = floor s (x ∷ h);
    genesis = quiet.genesis i;
    leader = λ u. same_leader s h x quiet u i;
    offers = λ u. ap (λ (f : Facts D). f.offers) (quiet.facts u) i;
    nullified = quiet.nullified i;
    notarized = λ u. ap (λ (f : Facts D). f.notarized) (quiet.facts u) i;
    finalized = λ u. ap (λ (f : Facts D). f.finalized) (quiet.facts u) i;
    verdict = λ u. ap (λ (f : Facts D). f.verdict) (quiet.facts u) i;
    has_notarized = λ u. ap (λ (f : Facts D). f.has_notarized) (quiet.facts u) i;
    has_nullified = λ u. ap (λ (f : Facts D). f.has_nullified) (quiet.facts u) i;
    has_finalized = λ u. ap (λ (f : Facts D). f.has_finalized) (quiet.facts u) i;
    is_backed = quiet.backed i;
    last_asked = λ u. ap (λ (f : Facts D). f.last_asked) (quiet.facts u) i;
    binding = λ u. ap (λ (f : Facts D). f.binding) (quiet.facts u) i;
    certify_asked = λ u. ap (λ (f : Facts D). f.certify_asked) (quiet.facts u) i;
    certify_waited = quiet.waited i;
  }

  quiet_known : (s : Setup S C) (h : List (Point S D P G C)) (x : Point S D P G C) → IsQuiet s h x → floor s (x ∷ h) ≡ floor s h → known s (x ∷ h) ≡ known s h
  quiet_known s h x quiet same = quiet_but s h x quiet ∙ ap (λ (n : ℕ). record (known s h) { floor = n }) same

  pub latch_changes_nothing : LatchChangesNothing S D P G C
  latch_changes_nothing s h now view why = quiet_known s h (latched now view why) (record {
    current = refl;
    last_finalized = refl;
    genesis = refl;
    nullified = refl;
    backed = refl;
    waited = refl;
    forwarded = λ v. refl;
    hands = refl;
    nobody = λ v. refl;
    facts = quiet_put view (past.latched now why) (seen s h) refl;
  }) refl

  pub poll_changes_nothing : PollChangesNothing S D P G C
  poll_changes_nothing s h now = quiet_known s h (polled now) (record {
    current = refl;
    last_finalized = refl;
    genesis = refl;
    nullified = refl;
    backed = refl;
    waited = refl;
    forwarded = λ v. refl;
    hands = refl;
    nobody = λ v. refl;
    facts = λ v. by (nat_lt 0 (current s h)) v;
  }) refl
    where
      by : (b : Bool) (v : ℕ) → facts ((if b then put (current s h) (past.polled (past.deadline now s.timeout_retry)) (seen s h) else seen s h) v) ≡ facts (seen s h v)
      by true v = quiet_put (current s h) (past.polled (past.deadline now s.timeout_retry)) (seen s h) refl v
      by false v = refl

  pub send_changes_nothing : SendChangesNothing S D P G C
  send_changes_nothing s h kind.Notarization view = quiet_known s h (sent kind.Notarization view) (record {
    current = refl;
    last_finalized = refl;
    genesis = refl;
    nullified = refl;
    backed = refl;
    waited = refl;
    forwarded = λ v. refl;
    hands = refl;
    nobody = λ v. refl;
    facts = quiet_put view past.sent_notarization (seen s h) refl;
  }) refl
  send_changes_nothing s h kind.Nullification view = quiet_known s h (sent kind.Nullification view) (record {
    current = refl;
    last_finalized = refl;
    genesis = refl;
    nullified = refl;
    backed = refl;
    waited = refl;
    forwarded = λ v. refl;
    hands = refl;
    nobody = λ v. refl;
    facts = quiet_put view past.sent_nullification (seen s h) refl;
  }) refl
  send_changes_nothing s h kind.Finalization view = quiet_known s h (sent kind.Finalization view) (record {
    current = refl;
    last_finalized = refl;
    genesis = refl;
    nullified = refl;
    backed = refl;
    waited = refl;
    forwarded = λ v. refl;
    hands = refl;
    nobody = λ v. refl;
    facts = quiet_put view past.sent_finalization (seen s h) refl;
  }) refl

  pub repetition_changes_nothing : RepetitionChangesNothing S D P G C
  repetition_changes_nothing s h view voted = quiet_known s h (voted_nullify view) (record {
    current = refl;
    last_finalized = refl;
    genesis = refl;
    nullified = refl;
    backed = refl;
    waited = refl;
    forwarded = λ v. refl;
    hands = refl;
    nobody = λ v. refl;
    facts = quiet_put view past.voted_nullify (seen s h) again;
  }) refl
    where
      again : facts (past.voted_nullify ∷ seen s h view) ≡ facts (seen s h view)
      again = λ i. record {
        offers = past.offers (seen s h view);
        direct = is_direct (seen s h view);
        notarized = option_map (λ (c : Notarization S D P G C). c.proposal) (past.notarization (seen s h view));
        finalized = option_map (λ (c : Finalization S D P G C). c.proposal) (past.finalization (seen s h view));
        verdict = past.verdict (seen s h view);
        has_notarized = past.has_notarized (seen s h view);
        has_nullified = sym voted i;
        has_finalized = past.has_finalized (seen s h view);
        last_asked = past.last_asked (seen s h view);
        binding = past.binding (seen s h view);
        certify_asked = past.is_certify_asked (seen s h view);
      }

  pub base_changes_floor_alone : BaseChangesFloorAlone S D P G C
  base_changes_floor_alone s h view = quiet_but s h (based view) (record {
    current = refl;
    last_finalized = refl;
    genesis = refl;
    nullified = refl;
    backed = refl;
    waited = refl;
    forwarded = λ v. refl;
    hands = refl;
    nobody = λ v. refl;
    facts = λ v. refl;
  })

  pub leaders_are_closed : LeadersAreClosed S D P G C
  leaders_are_closed s h view i passes led =
      let next : suc view ≡ view + 1 = omega arith in
      subst (λ (v : ℕ). IsSome (leader s h v)) next (closed s h view i (subst (λ (v : ℕ). inherits s h v ≡ true) (sym next) passes) led)
