-- What events that select nothing leave as it is.
use Rattle.std.proofs.Common.{◌≡◌, ℕ, Bool, true, false, not, ◌||◌, List, [], ◌∷◌, ◌++◌, refl, ap, sym, ◌∙◌}
use Rattle.std.specs.Prelude.{◌==◌, Option, None, Some, filter, find, if◌then◌else◌}
use Rattle.std.specs.Option.{option_and_then}
use Rattle.std.specs.List.{All}
use Rattle.std.proofs.lemmas.List.Elements.{filter_passes, All-head, All-tail, All-filter, All-same, filter-append}
use Rattle.types_core.specs.declared.proposal.Proposal.{Proposal}
use Rattle.simplex_messages.specs.declared.vote.Vote.{Vote}
use Rattle.simplex_messages.specs.declared.vote.Vote.TheVariants as vote
use Rattle.messages_certificates.specs.declared.certificate.Certificate.{Certificate}
use Rattle.types_terms.specs.declared.kind.Kind.{Kind}
use Rattle.simplex_messages.specs.VoteParts.{vote_signer}
use Rattle.batcher_assembly.specs.Judging.{is_among}
use Rattle.batcher_verifier.specs.Votes.{is_kind, vote_kind, notarized_proposal, fixed_proposal, is_notarize_of, certificate_proposal}
use Rattle.batcher_verifier.specs.Keeping.{led_by}
use Rattle.batcher_verifier.specs.History.{History, accepted, notarized_by, leader_of, Event, Taken, Cast, Certified, Led, Judged, Forwarded, Setup, Selection, Unknown, Leads, Fixed, select, proposal_of, selection, selected, led, fixed_by, is_complete, is_candidate, counting, waiting, verified}

-- a selection that was made with a leader's proposal in sight stays where nothing is fixed
select-again : {D : Type 0} (old : Selection D) (fixed l : Option (Proposal D)) → select (select old fixed l) None l ≡ select old fixed l
select-again (Fixed p) fixed l = refl
select-again (Leads p) (Some q) l = refl
select-again (Leads p) None l = refl
select-again Unknown (Some q) l = refl
select-again Unknown None (Some q) = refl
select-again Unknown None None = refl

if-nil : {X : Type 0} (b : Bool) (xs : List X) → xs ≡ [] → (if b then [] else xs) ≡ xs
if-nil true xs e = sym e
if-nil false xs e = refl

if-true : {X : Type 0} (b : Bool) (xs : List X) → [] ≡ (if b || true then [] else xs)
if-true true xs = refl
if-true false xs = refl

-- what passes once passes again
filter-again : {X : Type 0} (p : X → Bool) (xs : List X) → All (λ x. p x ≡ true) xs → filter p xs ≡ xs
filter-again p [] all = refl
filter-again p (x ∷ xs) all =
    let here : p x ≡ true = All-head (λ y. p y ≡ true) x xs all in
    rw here (ap (λ ys. x ∷ ys) (filter-again p xs (All-tail (λ y. p y ≡ true) x xs all)))

-- what passed stays so where some go
filter-fewer : {X : Type 0} (p q : X → Bool) (xs : List X) → filter p xs ≡ xs → filter p (filter q xs) ≡ filter q xs
filter-fewer p q xs e = filter-again p (filter q xs) (All-filter q (λ x. p x ≡ true) xs (All-same (λ x. p x ≡ true) xs (filter p xs) (sym e) (filter_passes p xs)))

-- one that is selected is fixed
pub select-fixes : {D : Type 0} (old : Selection D) (p : Proposal D) (l : Option (Proposal D)) → proposal_of old ≡ Some p → Fixed p ≡ select old (Some p) l
select-fixes Unknown p l e = absurd (cc e)
select-fixes (Leads q) p l e = refl
select-fixes (Fixed q) p l e = ap Fixed (cc e)

-- what is selected next does not depend on a leader's proposal that was in sight already
select-unled : {D : Type 0} (old : Selection D) (fixed l : Option (Proposal D)) → select old None l ≡ old → select old fixed l ≡ select old fixed None
select-unled (Fixed p) fixed l e = refl
select-unled (Leads p) (Some q) l e = refl
select-unled (Leads p) None l e = refl
select-unled Unknown (Some q) l e = refl
select-unled Unknown None None e = refl
select-unled Unknown None (Some q) e = absurd (cc e)

module _ {S D P G C : Type 0} where
  -- an event that brings no vote, no certificate and no leader leaves the selection
  pub selection-stays : (h : History S D P G C) → select (selection h) None (led h) ≡ selection h
  selection-stays [] = refl
  selection-stays (e ∷ h) = select-again (selection h) (fixed_by e) (led (e ∷ h))

  -- of a new vote only its own part in the leader's proposal counts
  led-new : (old : Selection D) (fixed : Option (Proposal D)) (h : History S D P G C) (v : Vote S D P G C) (leader : Option ℕ) → select old None (option_and_then (notarized_by h) leader) ≡ old
      → select old fixed (option_and_then (λ i. option_and_then notarized_proposal (if is_notarize_of i v then Some v else find (is_notarize_of i) (accepted h))) leader) ≡ select old fixed (led_by leader v)
  led-new old fixed h (vote.Notarize n) None e = refl
  led-new old fixed h (vote.Nullify n) None e = refl
  led-new old fixed h (vote.Finalize n) None e = refl
  led-new old fixed h (vote.Notarize n) (Some i) e = go (n.attestation.signer == i)
    where
      go : (b : Bool) → select old fixed (option_and_then notarized_proposal (if b then Some (vote.Notarize n) else find (is_notarize_of i) (accepted h))) ≡ select old fixed (if b then Some n.proposal else None)
      go true = refl
      go false = select-unled old fixed (notarized_by h i) e
  led-new old fixed h (vote.Nullify n) (Some i) e = select-unled old fixed (notarized_by h i) e
  led-new old fixed h (vote.Finalize n) (Some i) e = select-unled old fixed (notarized_by h i) e

  pub selection-taken : (h : History S D P G C) (v : Vote S D P G C) → selection (Taken v ∷ h) ≡ select (selection h) None (led_by (leader_of h) v)
  selection-taken h v = led-new (selection h) None h v (leader_of h) (selection-stays h)

  pub selection-cast : (h : History S D P G C) (v : Vote S D P G C) → selection (Cast v ∷ h) ≡ select (selection h) (fixed_proposal v) (led_by (leader_of h) v)
  selection-cast h v = led-new (selection h) (fixed_proposal v) h v (leader_of h) (selection-stays h)

  pub selection-certified : (h : History S D P G C) (c : Certificate S D P G C) → selection (Certified c ∷ h) ≡ select (selection h) (certificate_proposal c) None
  selection-certified h c = select-unled (selection h) (certificate_proposal c) (led h) (selection-stays h)

  module _ (same : D → D → Bool) (s : Setup S) (kind : Kind) where
    -- counting once more counts the same
    counting-again : (h : History S D P G C) (votes : List (Vote S D P G C)) → counting same s kind h (counting same s kind h votes) ≡ counting same s kind h votes
    counting-again h votes = go (s.is_skipped || is_complete kind h)
      where
        go : (b : Bool) → (if b then [] else filter (is_candidate same (selected h)) (if b then [] else filter (is_candidate same (selected h)) votes)) ≡ (if b then [] else filter (is_candidate same (selected h)) votes)
        go true = refl
        go false = filter-again (is_candidate same (selected h)) (filter (is_candidate same (selected h)) votes) (filter_passes (is_candidate same (selected h)) votes)

    counting-judged : (k : Kind) (failing : List ℕ) (h : History S D P G C) (votes : List (Vote S D P G C)) → counting same s kind (Judged k failing ∷ h) votes ≡ counting same s kind h votes
    counting-judged k failing h votes = ap (λ (x : Selection D). if s.is_skipped || is_complete kind h then [] else filter (is_candidate same (proposal_of x)) votes) (selection-stays h)

    counting-nil : (h : History S D P G C) → counting same s kind h [] ≡ []
    counting-nil h = if-nil (s.is_skipped || is_complete kind h) [] refl

    -- the votes that wait all count
    pub waiting-count : (h : History S D P G C) → counting same s kind h (waiting same s kind h) ≡ waiting same s kind h
    waiting-count [] = counting-nil []
    waiting-count (Taken v ∷ h) = counting-again (Taken v ∷ h) (if is_kind kind (vote_kind v) then waiting same s kind h ++ v ∷ [] else waiting same s kind h)
    waiting-count (Cast v ∷ h) = counting-again (Cast v ∷ h) (waiting same s kind h)
    waiting-count (Certified c ∷ h) = counting-again (Certified c ∷ h) (waiting same s kind h)
    waiting-count (Led i ∷ h) = counting-again (Led i ∷ h) (waiting same s kind h)
    waiting-count (Forwarded ∷ h) = counting-again (Forwarded ∷ h) (waiting same s kind h)
    waiting-count (Judged k failing ∷ h) = counting-judged k failing h (waiting same s kind (Judged k failing ∷ h)) ∙ go (is_kind kind k) (waiting-count h)
      where
        go : (b : Bool) → counting same s kind h (waiting same s kind h) ≡ waiting same s kind h → counting same s kind h (if b then [] else waiting same s kind h) ≡ (if b then [] else waiting same s kind h)
        go true rest = counting-nil h
        go false rest = rest

    -- the votes that are verified all count
    pub verified-count : (h : History S D P G C) → counting same s kind h (verified same s kind h) ≡ verified same s kind h
    verified-count [] = counting-nil []
    verified-count (Taken v ∷ h) = counting-again (Taken v ∷ h) (verified same s kind h)
    verified-count (Cast v ∷ h) = counting-again (Cast v ∷ h) (if is_kind kind (vote_kind v) then verified same s kind h ++ v ∷ [] else verified same s kind h)
    verified-count (Certified c ∷ h) = counting-again (Certified c ∷ h) (verified same s kind h)
    verified-count (Led i ∷ h) = counting-again (Led i ∷ h) (verified same s kind h)
    verified-count (Forwarded ∷ h) = counting-again (Forwarded ∷ h) (verified same s kind h)
    verified-count (Judged k failing ∷ h) = counting-judged k failing h (verified same s kind (Judged k failing ∷ h)) ∙ go (is_kind kind k) (s.is_skipped || is_complete kind h) (verified-count h) (waiting-count h)
      where
        q : Vote S D P G C → Bool
        q = λ v. not (is_among failing (vote_signer v))

        go : (a b : Bool) → (if b then [] else filter (is_candidate same (selected h)) (verified same s kind h)) ≡ verified same s kind h
            → (if b then [] else filter (is_candidate same (selected h)) (waiting same s kind h)) ≡ waiting same s kind h
            → (if b then [] else filter (is_candidate same (selected h)) (if a then verified same s kind h ++ filter q (waiting same s kind h) else verified same s kind h)) ≡ (if a then verified same s kind h ++ filter q (waiting same s kind h) else verified same s kind h)
        go false b v w = v
        go true true v w = rw (← v, ← w) refl
        go true false v w = filter-append (is_candidate same (selected h)) (verified same s kind h) (filter q (waiting same s kind h)) ∙ rw (v, filter-fewer (is_candidate same (selected h)) q (waiting same s kind h) w) refl

    -- an event that changes neither the selected proposal nor whether the kind is complete counts as before
    pub counting-stays : (e : Event (Vote S D P G C) (Certificate S D P G C)) (h : History S D P G C) (votes : List (Vote S D P G C)) → selected (e ∷ h) ≡ selected h → is_complete kind (e ∷ h) ≡ is_complete kind h → counting same s kind h votes ≡ votes → counting same s kind (e ∷ h) votes ≡ votes
    counting-stays e h votes one two counts = rw (one, two) counts

    -- where the kind is complete nothing counts
    pub counting-complete : (h : History S D P G C) (votes : List (Vote S D P G C)) → is_complete kind h ≡ true → [] ≡ counting same s kind h votes
    counting-complete h votes e = rw e (if-true s.is_skipped (filter (is_candidate same (selected h)) votes))
