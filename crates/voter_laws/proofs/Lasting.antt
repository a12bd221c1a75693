-- What stays known as a history goes on.
use Rattle.std.proofs.Common.{◌≡◌, inl, inr, true, false, ℕ, zero, suc, List, ◌∷◌, refl, sym, ◌∙◌, subst, ◌<◌, ◌≤◌, arith, if◌then◌else◌}
use mathlib.Core.Bool.{true≢false}
use Rattle.std.proofs.lemmas.Bool.{or_right}
use Rattle.std.proofs.lemmas.Bool.Decides.{nat_tests}
use Rattle.std.proofs.lemmas.Option.{none-some}
use Rattle.std.specs.Prelude.{nat_lt, Bool, Option, Some, None, IsSome, option_map}
use Rattle.std.specs.List.{cons_option}
use Rattle.std.specs.Option.{option_or}
use Rattle.messages_certificates.specs.ProposalCertificate.{Notarization, Finalization}
use Rattle.voter_history.specs.Held as offer
use Rattle.voter_history.specs.Held.{Offer, IsConfirmed, IsTainted, held}
use Rattle.voter_history.specs.Past as past
use Rattle.voter_history.specs.Past.{Item, offers}
use Rattle.voter_history.specs.Leaders.{extend}
use Rattle.voter_history.specs.History.{Setup, Point, started, nullified, finalized, judged, pruned, current, min_active, is_marked, seen, was_nullified}
use Rattle.voter_history.specs.Leaders.{inherits, leader, named, named_early}
use Rattle.voter_history.specs.Known.{Known, known, backs, waits}
use Rattle.voter_rules.specs.Ancestry.{Member, member}
use Rattle.voter_rules.specs.Requests.{IsCaptured}
use Rattle.voter_laws.specs.Matching.{AgreeAbove}
use Rattle.voter_laws.specs.StaysKnown.{AreUsedAlike, IsLeft, WhatIsKnownStays, ViewsNeverFall, PruneKeepsUses}
use Rattle.voter_laws.proofs.Agreeing.{turned, steady, preferred, parent_rule, verdict_is_open, required, same_explicit}
use Rattle.voter_laws.proofs.Growing.{StaysKept, grows, grown, finalized_rises}
use Rattle.voter_laws.proofs.Pruning.{held_more, pruned_agrees}

-- what was there first stays
first_stays : {A : Type 0} (o : Option A) (x y : A) → o ≡ Some y → option_or o (Some x) ≡ Some y
first_stays None x y is = absurd (none-some y is)
first_stays (Some z) x y is = is

mapped : {A B : Type 0} (f : A → B) (o q : Option A) (y : B) → ((x : A) → o ≡ Some x → q ≡ Some x) → option_map f o ≡ Some y → option_map f q ≡ Some y
mapped f None q y same is = absurd (none-some y is)
mapped f (Some x) q y same is = subst (λ o. option_map f o ≡ Some y) (sym (same x refl)) is

extends : (here known : ℕ → Option ℕ) (from_before : ℕ → Bool) (view i : ℕ) → known view ≡ Some i → extend here from_before known view ≡ Some i
extends here known from_before zero i is = is
extends here known from_before (suc w) i is = by (known (suc w)) is
  where
    by : (o : Option ℕ) → o ≡ Some i → option_or o (option_or (here (suc w)) (if from_before (suc w) then extend here from_before known w else None)) ≡ Some i
    by None none = absurd (none-some i none)
    by (Some j) there = there

-- what is kept stays
unforgotten : {A : Type 0} (view floor : ℕ) (gone was : A) → floor ≤ view → was ≡ (if nat_lt view floor then gone else was)
unforgotten view floor gone was at = by (nat_lt view floor) (grind (arith, nat_tests, at))
  where
    by : (b : Bool) → b ≡ false → was ≡ (if b then gone else was)
    by true never = absurd (true≢false never)
    by false is = refl

module _ {D : Type 0} where
  tainted_more : (o : Offer D) (l : List (Offer D)) → IsTainted l → IsTainted (o ∷ l)
  tainted_more (offer.forwarded p) l is = inl is
  tainted_more (offer.certified p) l is = inl is
  tainted_more o l is = is

  confirmed_more : (o : Offer D) (l : List (Offer D)) → IsConfirmed l → IsConfirmed (o ∷ l)
  confirmed_more (offer.recorded p) l is = tt
  confirmed_more offer.confirmed l is = inl is
  confirmed_more o l is = is

module _ {S D P G C : Type 0} where
  -- what holds of what was offered, where one more leaves it
  offered : (Q : List (Offer D) → Type 0) → ((o : Offer D) (l : List (Offer D)) → Q l → Q (o ∷ l)) → (x : Item S D P G C) (l : List (Item S D P G C)) → Q (offers l) → Q (offers (x ∷ l))
  offered Q more x l q = by (past.offer_in x)
    where
      by : (o : Option (Offer D)) → Q (cons_option o (offers l))
      by None = q
      by (Some o) = more o (offers l) q

  module _ (s : Setup S C) (h : List (Point S D P G C)) (view : ℕ) (x : Point S D P G C) (left : IsLeft s h view x) where
    kept : (y : Point S D P G C) → IsLeft s h view y → StaysKept s h view y
    kept pruned is = is
    kept y is = tt

    more : {Q : List (Item S D P G C) → Type 0} → ((y : Item S D P G C) (l : List (Item S D P G C)) → Q l → Q (y ∷ l)) → Q (seen s h view) → Q (seen s (x ∷ h) view)
    more {Q} step q = grown {Q = Q} step (grows s h view x (kept x left)) q

    notarization_more : (c : Notarization S D P G C) (y : Item S D P G C) (l : List (Item S D P G C)) → past.notarization l ≡ Some c → past.notarization (y ∷ l) ≡ Some c
    notarization_more c (past.notarized d) l is = first_stays (past.notarization l) d c is
    notarization_more c y l is = is

    finalization_more : (c : Finalization S D P G C) (y : Item S D P G C) (l : List (Item S D P G C)) → past.finalization l ≡ Some c → past.finalization (y ∷ l) ≡ Some c
    finalization_more c (past.finalized d) l is = first_stays (past.finalization l) d c is
    finalization_more c y l is = is

    verdict_more : (ok : Bool) (y : Item S D P G C) (l : List (Item S D P G C)) → past.verdict l ≡ Some ok → past.verdict (y ∷ l) ≡ Some ok
    verdict_more ok (past.judged other) l is = first_stays (past.verdict l) other ok is
    verdict_more ok y l is = is

    notarized_more : (y : Item S D P G C) (l : List (Item S D P G C)) → past.has_notarized l ≡ true → past.has_notarized (y ∷ l) ≡ true
    notarized_more past.voted_notarize l is = refl
    notarized_more y l is = is

    nullified_more : (y : Item S D P G C) (l : List (Item S D P G C)) → past.has_nullified l ≡ true → past.has_nullified (y ∷ l) ≡ true
    nullified_more past.voted_nullify l is = refl
    nullified_more y l is = is

    finalized_more : (y : Item S D P G C) (l : List (Item S D P G C)) → past.has_finalized l ≡ true → past.has_finalized (y ∷ l) ≡ true
    finalized_more past.voted_finalize l is = refl
    finalized_more y l is = is

    asked_more : (y : Item S D P G C) (l : List (Item S D P G C)) → past.is_certify_asked l ≡ true → past.is_certify_asked (y ∷ l) ≡ true
    asked_more (past.certifying handle) l is = refl
    asked_more past.aborted l is = refl
    asked_more y l is = is

  -- a mark stays
  mark_stays : (s : Setup S C) (sets : Point S D P G C → ℕ → Bool) (h : List (Point S D P G C)) (view : ℕ) (x : Point S D P G C) → IsLeft s h view x → is_marked s sets h view ≡ true → is_marked s sets (x ∷ h) view ≡ true
  mark_stays s sets h view pruned at is = sym (unforgotten view (min_active s h) false (is_marked s sets h view) at) ∙ is
  mark_stays s sets h view x at is = or_right (sets x view) (is_marked s sets h view) is

  leader_stays : (s : Setup S C) (h : List (Point S D P G C)) (view i : ℕ) (x : Point S D P G C) → IsLeft s h view x → leader s h view ≡ Some i → leader s (x ∷ h) view ≡ Some i
  leader_stays s h view i pruned at is = sym (unforgotten view (min_active s h) None (leader s h view) at) ∙ is
  leader_stays s h view i x at is = extends (λ v. option_or (named s x v) (named_early s (x ∷ h) v)) (leader s h) (inherits s (x ∷ h)) view i is

  nullified_stays : (h : List (Point S D P G C)) (view : ℕ) (x : Point S D P G C) → was_nullified h view ≡ true → was_nullified (x ∷ h) view ≡ true
  nullified_stays h view (nullified now c) is = or_right _ (was_nullified h view) is
  nullified_stays h view x is = is

  pub what_is_known_stays : WhatIsKnownStays S D P G C
  what_is_known_stays s h view x left = record {
    leader = λ i is. leader_stays s h view i x left is;
    holds = more s h view x left {Q = λ l. IsSome (held (offers l))} (offered (λ l. IsSome (held l)) held_more);
    tainted = more s h view x left {Q = λ l. IsTainted (offers l)} (offered IsTainted tainted_more);
    confirmed = more s h view x left {Q = λ l. IsConfirmed (offers l)} (offered IsConfirmed confirmed_more);
    nullified = nullified_stays h view x;
    notarized = λ p. mapped (λ (c : Notarization S D P G C). c.proposal) (past.notarization (seen s h view)) (past.notarization (seen s (x ∷ h) view)) p
        (λ c. more s h view x left {Q = λ l. past.notarization l ≡ Some c} (notarization_more s h view x left c));
    finalized = λ p. mapped (λ (c : Finalization S D P G C). c.proposal) (past.finalization (seen s h view)) (past.finalization (seen s (x ∷ h) view)) p
        (λ c. more s h view x left {Q = λ l. past.finalization l ≡ Some c} (finalization_more s h view x left c));
    verdict = λ ok. more s h view x left {Q = λ l. past.verdict l ≡ Some ok} (verdict_more s h view x left ok);
    has_notarized = more s h view x left {Q = λ l. past.has_notarized l ≡ true} (notarized_more s h view x left);
    has_nullified = more s h view x left {Q = λ l. past.has_nullified l ≡ true} (nullified_more s h view x left);
    has_finalized = more s h view x left {Q = λ l. past.has_finalized l ≡ true} (finalized_more s h view x left);
    is_backed = mark_stays s backs h view x left;
    certify_asked = more s h view x left {Q = λ l. past.is_certify_asked l ≡ true} (asked_more s h view x left);
    certify_waited = mark_stays s waits h view x left;
  }

  current_rises : (s : Setup S C) (h : List (Point S D P G C)) (x : Point S D P G C) → current s h ≤ current s (x ∷ h)
  current_rises s h (started now payload) = omega arith
  current_rises s h (nullified now c) = omega arith
  current_rises s h (finalized now c) = omega arith
  current_rises s h (judged now view true) = omega arith
  current_rises s h (judged now view false) = omega arith
  current_rises s h x = omega arith

  pub views_never_fall : ViewsNeverFall S D P G C
  views_never_fall s h x = let rises = finalized_rises x h in (current_rises s h x, rises, omega (arith, rises))

module _ {D : Type 0} (m : Member) (k j : Known D) (a : AgreeAbove m k j) where
  used_alike : (view : ℕ) → k.last_finalized < view → AreUsedAlike m k j view
  used_alike view above = record {
    steady = steady m k j a view above;
    captured = captured;
    put_off = λ u off. record {
      waits = record {
        proposal = off.waits.proposal;
        opens = verdict_is_open m k j a view off.waits.proposal off.waits.opens;
        requires_it = required m k j a view off.waits.proposal.parent u above off.waits.requires_it;
        missing = sym (same_explicit m k j a u (omega (arith, above, off.waits.requires_it.next))) ∙ off.waits.missing;
      };
      first = sym (a.certify_waited view (omega (arith, above))) ∙ off.first;
    };
  }
    where
      captured : (parent : ℕ) (payload : D) → IsCaptured m k view parent payload → IsCaptured m j view parent payload
      captured parent payload (inl built) = inl (preferred m k j a view parent payload above built)
      captured parent payload (inr rule) = inr (parent_rule m k j a view parent payload above rule)

pub prune_keeps_uses : {S D P G C : Type 0} → PruneKeepsUses S D P G C
prune_keeps_uses s h view above = (
  used_alike (member s) (known s h) (known s (pruned ∷ h)) (pruned_agrees s h) view above,
  used_alike (member s) (known s (pruned ∷ h)) (known s h) (turned (member s) (known s h) (known s (pruned ∷ h)) (pruned_agrees s h)) view above,
)
