-- What is due may be recorded, by the voter's laws.
use Rattle.std.proofs.Common.{◌≡◌, ◌≢◌, ⊎_elim, ℕ, ◌≤◌, Bool, true, false, List, [], ◌∷◌, ◌++◌, Option, Some, None, refl, sym, ap, subst, arith}
use Rattle.std.specs.Prelude.{Contains, if◌then◌else◌, option_map, unwrap_or}
use Rattle.std.proofs.lemmas.Option.{none-some}
use Rattle.std.proofs.lemmas.List.Elements.{Contains-append_cases, Contains-append_left, Contains-append_right}
use Rattle.types_quorum.specs.Counting.{Contains-cases, Contains-head}
use Rattle.types_core.specs.declared.proposal.Proposal.{Proposal}
use Rattle.types_core.specs.declared.scheme.Scheme.{Ghosts}
use Rattle.messages_certificates.specs.declared.artifact.Artifact.TheVariants as artifact
use Rattle.messages_certificates.specs.declared.certificate.Certificate.{Certificate}
use Rattle.messages_certificates.specs.declared.certificate.Certificate.TheVariants as certificate
use Rattle.messages_certificates.specs.Artifact.{certificate_artifact}
use Rattle.voter_views.specs.Views.{recalls}
use Rattle.simplex_messages.specs.declared.vote.Vote.TheVariants as vote
use Rattle.messages_certificates.specs.declared.nullify.Nullify.{Nullify}
use Rattle.messages_certificates.specs.ProposalVote.{Finalize}
use Rattle.simplex_record.specs.Record.{Entry, entry, entries}
use Rattle.simplex_record.specs.Rules.{MayFollow, MayNullify, MayFinalize, MayNotarize}
use Rattle.voter_history.specs.Past as past
use Rattle.voter_history.specs.History as views
use Rattle.voter_history.specs.History.{judged, recalled_verdict, seen, voted_notarize, voted_finalize}
use Rattle.voter_rules.specs.VotesDue.{NotarizeIsDue, FinalizeIsDue}
use Rattle.voter_rules.specs.Ancestry.{held_at}
use Rattle.voter_laws.specs.Matching as matching
use Rattle.voter_laws.specs.Matching.{IsOrderly, Matches, IsBound, EachHistoryMatches, DueMayBeNotarized, DueMayBeNullified, DueMayBeFinalized}
use Rattle.simplex_member.specs.Allowed.{Allowed, AreAllowed, GivesUp, VoteIsDue}
use Rattle.simplex_member.specs.Layers.{current_of, finalizes_above, given, known_of, latest, takes_certificate, takes_outcome, voter_of, voter_points}
use Rattle.simplex_member.specs.Packet.{Formats}
use Rattle.simplex_member.specs.Point.{Outcome, Counts, Falls, Passes, Point, Opened, Found, Began, Told, Heard, Came, Wanted, Built, Checked, Judged, Forwards, Constructs, Latches, Polls, AsksBuild, AsksVerify, AsksCertify, GivesBack, PutsOff, Resolves, Votes, Repeats, Rewrote, History}
use Rattle.simplex_member.specs.Recorded.{record_of}
use Rattle.simplex_member.specs.Setup.{Setup, member_of}
use Rattle.simplex_member.proofs.Orderly.{AreInPlace, all-taken, place-behind}
use Rattle.simplex_member.proofs.Rising.{all-rise}
use Rattle.simplex_member.proofs.Lists.{Lacks, lacks-absurd, lacks-cons, lacks-nil, lacks-one}
use Rattle.simplex_member.proofs.Telling.{apart, tells-record}

module _ {S D P G C : Type 0} where
  -- the verdict that a point recalls
  abbrev recall_in : views.Point S D P G C → Option (ℕ × Bool)
  recall_in (recalled_verdict view ok) = Some (view, ok)
  recall_in x = None

  -- the verdict that a recalled one is of
  abbrev given_of : ℕ → views.Point S D P G C → views.Point S D P G C
  given_of now (recalled_verdict view ok) = judged now view ok
  given_of now x = x

  none-pruned : (b : Bool) (xs : List (views.Point S D P G C)) → Lacks recall_in xs → Lacks recall_in ((if b then views.pruned ∷ [] else []) ++ xs)
  none-pruned true xs none = lacks-cons recall_in views.pruned xs refl none
  none-pruned false xs none = none

  none-certificate : (now low : ℕ) (c : Certificate S D P G C) → Lacks recall_in (takes_certificate now low c)
  none-certificate now low (certificate.Notarization c) = lacks-cons recall_in _ _ refl (lacks-one recall_in _ refl)
  none-certificate now low (certificate.Nullification c) = lacks-cons recall_in _ _ refl (lacks-one recall_in _ refl)
  none-certificate now low (certificate.Finalization c) = none-pruned (finalizes_above low (certificate.Finalization c)) (recalls false (certificate_artifact (certificate.Finalization c)) ∷ given now (certificate.Finalization c) ∷ []) (lacks-cons recall_in _ _ refl (lacks-one recall_in _ refl))

  none-option : (now low : ℕ) (o : Option (Certificate S D P G C)) → Lacks recall_in (unwrap_or (option_map (takes_certificate now low) o) [])
  none-option now low None = lacks-nil recall_in
  none-option now low (Some c) = none-certificate now low c

  none-outcome : (now view : ℕ) (answer : Option Bool) (outcome : Outcome) → Lacks recall_in (takes_outcome {S = S} {D = D} {P = P} {G = G} {C = C} now view answer outcome)
  none-outcome now view (Some true) Counts = lacks-one recall_in _ refl
  none-outcome now view (Some false) Counts = lacks-one recall_in _ refl
  none-outcome now view None Counts = lacks-one recall_in _ refl
  none-outcome now view answer Falls = lacks-one recall_in _ refl
  none-outcome now view answer Passes = lacks-nil recall_in

  module _ (s : Setup S D C) where
    -- a verdict is recalled by no point but one that gives it too
    recalled-here : (now low : ℕ) (p : Point S D P G C) (view : ℕ) (ok : Bool) → Contains (voter_points s now low p) (recalled_verdict view ok) → (t : ℕ) × Contains (voter_points s now low p) (judged t view ok)
    recalled-here now low (Opened t) view ok here = absurd (lacks-absurd recall_in (voter_points s now low (Opened t)) (recalled_verdict view ok) (view, ok) (lacks-one recall_in _ refl) refl here)
    recalled-here now low (Found (artifact.Notarize v) taken) view ok here = absurd (lacks-absurd recall_in (voter_points s now low (Found (artifact.Notarize v) taken)) (recalled_verdict view ok) (view, ok) (lacks-one recall_in _ refl) refl here)
    recalled-here now low (Found (artifact.Notarization c) taken) view ok here = absurd (lacks-absurd recall_in (voter_points s now low (Found (artifact.Notarization c) taken)) (recalled_verdict view ok) (view, ok) (lacks-cons recall_in _ _ refl (lacks-one recall_in _ refl)) refl here)
    recalled-here now low (Found (artifact.Certification r verdict) taken) view ok here = ⊎_elim
        (λ first. absurd (none-some (view, ok) (ap recall_in first)))
        (λ later. ⊎_elim
        (λ is. (now, subst (λ (x : views.Point S D P G C). Contains (judged now r.view verdict ∷ recalled_verdict r.view verdict ∷ []) x) (ap (given_of now) is) (Contains-head (judged now r.view verdict) (recalled_verdict r.view verdict ∷ []))))
        (λ none. absurd (omega (arith, none.1)))
        (Contains-cases (recalled_verdict r.view verdict) [] (recalled_verdict view ok) later))
        (Contains-cases (judged now r.view verdict) (recalled_verdict r.view verdict ∷ []) (recalled_verdict view ok) here)
    recalled-here now low (Found (artifact.Nullify v) taken) view ok here = absurd (lacks-absurd recall_in (voter_points s now low (Found (artifact.Nullify v) taken)) (recalled_verdict view ok) (view, ok) (lacks-one recall_in _ refl) refl here)
    recalled-here now low (Found (artifact.Nullification c) taken) view ok here = absurd (lacks-absurd recall_in (voter_points s now low (Found (artifact.Nullification c) taken)) (recalled_verdict view ok) (view, ok) (lacks-cons recall_in _ _ refl (lacks-one recall_in _ refl)) refl here)
    recalled-here now low (Found (artifact.Finalize v) taken) view ok here = absurd (lacks-absurd recall_in (voter_points s now low (Found (artifact.Finalize v) taken)) (recalled_verdict view ok) (view, ok) (lacks-one recall_in _ refl) refl here)
    recalled-here now low (Found (artifact.Finalization c) taken) view ok here = absurd (lacks-absurd recall_in (voter_points s now low (Found (artifact.Finalization c) taken)) (recalled_verdict view ok) (view, ok) (lacks-cons recall_in _ _ refl (lacks-one recall_in _ refl)) refl here)
    recalled-here now low Began view ok here = absurd (lacks-absurd recall_in (voter_points s now low Began) (recalled_verdict view ok) (view, ok) (lacks-one recall_in _ refl) refl here)
    recalled-here now low (Came c) view ok here = absurd (lacks-absurd recall_in (voter_points s now low (Came c)) (recalled_verdict view ok) (view, ok) (none-certificate now low c) refl here)
    recalled-here now low (Built number handoff context (Some d) true) view ok here = absurd (lacks-absurd recall_in (voter_points s now low (Built number handoff context (Some d) true)) (recalled_verdict view ok) (view, ok) (lacks-one recall_in _ refl) refl here)
    recalled-here now low (Built number handoff context None true) view ok here = absurd (lacks-absurd recall_in (voter_points s now low (Built number handoff context None true)) (recalled_verdict view ok) (view, ok) (lacks-one recall_in _ refl) refl here)
    recalled-here now low (Built number handoff context payload false) view ok here = absurd (omega (arith, here.1))
    recalled-here now low (Checked number v answer outcome) view ok here = absurd (lacks-absurd recall_in (voter_points s now low (Checked number v answer outcome)) (recalled_verdict view ok) (view, ok) (none-outcome now v answer outcome) refl here)
    recalled-here now low (Judged r verdict) view ok here = absurd (lacks-absurd recall_in (voter_points s now low (Judged r verdict)) (recalled_verdict view ok) (view, ok) (lacks-one recall_in _ refl) refl here)
    recalled-here now low (Forwards v p) view ok here = absurd (lacks-absurd recall_in (voter_points s now low (Forwards v p)) (recalled_verdict view ok) (view, ok) (lacks-one recall_in _ refl) refl here)
    recalled-here now low (Constructs v kind batch) view ok here = absurd (lacks-absurd recall_in (voter_points s now low (Constructs v kind batch)) (recalled_verdict view ok) (view, ok) (none-option now low batch.certificate) refl here)
    recalled-here now low (Latches v why) view ok here = absurd (lacks-absurd recall_in (voter_points s now low (Latches v why)) (recalled_verdict view ok) (view, ok) (lacks-one recall_in _ refl) refl here)
    recalled-here now low Polls view ok here = absurd (lacks-absurd recall_in (voter_points s now low Polls) (recalled_verdict view ok) (view, ok) (lacks-one recall_in _ refl) refl here)
    recalled-here now low (AsksBuild number handoff context) view ok here = absurd (lacks-absurd recall_in (voter_points s now low (AsksBuild number handoff context)) (recalled_verdict view ok) (view, ok) (lacks-one recall_in _ refl) refl here)
    recalled-here now low (AsksVerify number context p) view ok here = absurd (lacks-absurd recall_in (voter_points s now low (AsksVerify number context p)) (recalled_verdict view ok) (view, ok) (lacks-one recall_in _ refl) refl here)
    recalled-here now low (AsksCertify p) view ok here = absurd (lacks-absurd recall_in (voter_points s now low (AsksCertify p)) (recalled_verdict view ok) (view, ok) (lacks-one recall_in _ refl) refl here)
    recalled-here now low (GivesBack number v) view ok here = absurd (lacks-absurd recall_in (voter_points s now low (GivesBack number v)) (recalled_verdict view ok) (view, ok) (lacks-one recall_in _ refl) refl here)
    recalled-here now low (PutsOff v) view ok here = absurd (lacks-absurd recall_in (voter_points s now low (PutsOff v)) (recalled_verdict view ok) (view, ok) (lacks-one recall_in _ refl) refl here)
    recalled-here now low (Resolves v kind u) view ok here = absurd (lacks-absurd recall_in (voter_points s now low (Resolves v kind u)) (recalled_verdict view ok) (view, ok) (lacks-one recall_in _ refl) refl here)
    recalled-here now low (Votes (vote.Notarize v)) view ok here = absurd (lacks-absurd recall_in (voter_points s now low (Votes (vote.Notarize v))) (recalled_verdict view ok) (view, ok) (lacks-one recall_in _ refl) refl here)
    recalled-here now low (Votes (vote.Nullify v)) view ok here = absurd (lacks-absurd recall_in (voter_points s now low (Votes (vote.Nullify v))) (recalled_verdict view ok) (view, ok) (lacks-one recall_in _ refl) refl here)
    recalled-here now low (Votes (vote.Finalize v)) view ok here = absurd (lacks-absurd recall_in (voter_points s now low (Votes (vote.Finalize v))) (recalled_verdict view ok) (view, ok) (lacks-one recall_in _ refl) refl here)
    recalled-here now low (Repeats v best) view ok here = absurd (lacks-absurd recall_in (voter_points s now low (Repeats v best)) (recalled_verdict view ok) (view, ok) (lacks-one recall_in _ refl) refl here)
    recalled-here now low (Rewrote c) view ok here = absurd (lacks-absurd recall_in (voter_points s now low (Rewrote c)) (recalled_verdict view ok) (view, ok) (lacks-one recall_in _ refl) refl here)
    recalled-here now low p view ok here = absurd (omega (arith, here.1))

    recalled-given : (h : History S D P G C) (view : ℕ) (ok : Bool) → Contains (voter_of s h) (recalled_verdict view ok) → (t : ℕ) × Contains (voter_of s h) (judged t view ok)
    recalled-given [] view ok here = absurd (omega (arith, here.1))
    recalled-given (p ∷ h) view ok here = ⊎_elim
        (λ now. let given = recalled-here _ _ p view ok now in (given.0, Contains-append_left _ (voter_of s h) _ given.1))
        (λ before. let given = recalled-given h view ok before in (given.0, Contains-append_right _ (voter_of s h) _ given.1))
        (Contains-append_cases _ (voter_of s h) _ here)

  -- votes stand in their views
  notarize-in-place : (h : List (views.Point S D P G C)) → AreInPlace h → (view : ℕ) (p : Proposal D) → Contains h (voted_notarize view p) → p.round.view ≡ view
  notarize-in-place [] place view p here = absurd (omega (arith, here.1))
  notarize-in-place (x ∷ h) place view p here = ⊎_elim
      (λ is. let at : AreInPlace (voted_notarize view p ∷ h) = subst (λ (y : views.Point S D P G C). AreInPlace (y ∷ h)) is place in at.0)
      (λ later. notarize-in-place h (place-behind x h place) view p later)
      (Contains-cases x h (voted_notarize view p) here)

  finalize-in-place : (h : List (views.Point S D P G C)) → AreInPlace h → (view : ℕ) (p : Proposal D) → Contains h (voted_finalize view p) → p.round.view ≡ view
  finalize-in-place [] place view p here = absurd (omega (arith, here.1))
  finalize-in-place (x ∷ h) place view p here = ⊎_elim
      (λ is. let at : AreInPlace (voted_finalize view p ∷ h) = subst (λ (y : views.Point S D P G C). AreInPlace (y ∷ h)) is place in at.0)
      (λ later. finalize-in-place h (place-behind x h place) view p later)
      (Contains-cases x h (voted_finalize view p) here)

module _ {S D P G C : Type 0} (g : Ghosts S D P G C) (f : Formats S D P G C) (s : Setup S D C) where
  -- the oldest point is the opening
  first-opens : (p : Point S D P G C) → Allowed g f s [] p → 1 ≤ current_of s (p ∷ [])
  first-opens (Opened now) a = omega arith
  first-opens (Found x taken) a = absurd (a.order.0 refl)
  first-opens Began a = absurd (a.order.0 refl)
  first-opens (Told now) a = absurd (apart a.order)
  first-opens (Heard v) a = absurd (apart a.order)
  first-opens (Came c) a = absurd (apart a.order)
  first-opens (Wanted member view) a = absurd (apart a.order)
  first-opens (Built number handoff context payload took) a = absurd (apart a.order)
  first-opens (Checked number view answer outcome) a = absurd (apart a.order)
  first-opens (Judged r ok) a = absurd (apart a.order)
  first-opens p a = absurd (apart a.order)

  -- a history that isn't empty began
  has-begun : (p : Point S D P G C) (h : History S D P G C) → AreAllowed g f s (p ∷ h) → 1 ≤ current_of s (p ∷ h)
  has-begun p [] all = first-opens p all.0
  has-begun p (q ∷ h) all =
      let before = has-begun q h all.1 in
      let rises = all-rise s.voter (voter_points s (latest (p ∷ q ∷ h)) (views.last_finalized (voter_of s (q ∷ h))) p) (voter_of s (q ∷ h)) in
      omega (arith, before, rises.0)

  -- the voter's part of a history is orderly
  pub orderly : (p : Point S D P G C) (h : History S D P G C) → AreAllowed g f s (p ∷ h) → IsOrderly s.voter (voter_of s (p ∷ h))
  orderly p h all = record {
    began = has-begun p h all;
    taken = (all-taken g f s (p ∷ h) all).0;
    notarizes = λ view q here. notarize-in-place (voter_of s (p ∷ h)) (all-taken g f s (p ∷ h) all).1 view q here;
    finalizes = λ view q here. finalize-in-place (voter_of s (p ∷ h)) (all-taken g f s (p ∷ h) all).1 view q here;
    verdicts = λ view ok here. recalled-given s (p ∷ h) view ok here;
  }

  pub orderly-any : (h : History S D P G C) → AreAllowed g f s h → h ≢ [] → IsOrderly s.voter (voter_of s h)
  orderly-any [] all some = absurd (some refl)
  orderly-any (p ∷ h) all some = orderly p h all

  -- what the node knows is what it recorded
  pub matches : EachHistoryMatches S D P G C → (p : Point S D P G C) (h : History S D P G C) → AreAllowed g f s (p ∷ h) → Matches (member_of s) (known_of s (p ∷ h)) (entries (record_of (p ∷ h)))
  matches law p h all = subst (λ (r : List (Entry D)). Matches (member_of s) (known_of s (p ∷ h)) r) (tells-record g f s (p ∷ h) all) (law s.voter (voter_of s (p ∷ h)) (orderly p h all))

  -- so a finalize that is due may be recorded, and so may a nullify that is no repetition; a notarize, where its proposal was bound
  pub finalize-may : EachHistoryMatches S D P G C → DueMayBeFinalized D → (p : Point S D P G C) (h : History S D P G C) → AreAllowed g f s (p ∷ h) → (view : ℕ) (q : Proposal D)
      → held_at (member_of s) (known_of s (p ∷ h)) view ≡ Some q → FinalizeIsDue (member_of s) (known_of s (p ∷ h)) view → MayFinalize s.voter.length (entries (record_of (p ∷ h))) q
  finalize-may law due p h all view q held is = due (member_of s) (known_of s (p ∷ h)) (entries (record_of (p ∷ h))) view q (matches law p h all) held is

  pub nullify-may : EachHistoryMatches S D P G C → DueMayBeNullified S D P G C → (p : Point S D P G C) (h : History S D P G C) → AreAllowed g f s (p ∷ h) → GivesUp g f s (p ∷ h) (current_of s (p ∷ h)) false
      → MayNullify s.voter.length (entries (record_of (p ∷ h))) (matching.round_of s.voter (current_of s (p ∷ h)))
  nullify-may law due p h all is = due s.voter (voter_of s (p ∷ h)) (entries (record_of (p ∷ h))) (latest (p ∷ h)) (matches law p h all) is.1 is.2

  pub notarize-may : EachHistoryMatches S D P G C → DueMayBeNotarized D → (p : Point S D P G C) (h : History S D P G C) → AreAllowed g f s (p ∷ h) → (view : ℕ) (q : Proposal D)
      → IsBound (member_of s) (known_of s (p ∷ h)) view q → NotarizeIsDue (member_of s) (known_of s (p ∷ h)) view → MayNotarize s.voter.length (entries (record_of (p ∷ h))) q
  notarize-may law due p h all view q bound is = due (member_of s) (known_of s (p ∷ h)) (entries (record_of (p ∷ h))) view q (matches law p h all) bound is

  -- an own nullify or finalize that is due may be recorded
  pub nullify-follows : EachHistoryMatches S D P G C → DueMayBeNullified S D P G C → (p : Point S D P G C) (h : History S D P G C) → AreAllowed g f s (p ∷ h) → (v : Nullify S D P G C)
      → VoteIsDue g f s (p ∷ h) (vote.Nullify v) → MayFollow s.voter.length (entries (record_of (p ∷ h))) (entry (artifact.Nullify v))
  nullify-follows law due p h all v is =
      let may = subst (λ (u : ℕ). MayNullify s.voter.length (entries (record_of (p ∷ h))) (matching.round_of s.voter u)) (sym is.0)
      (nullify-may law due p h all (refl, is.1, subst (λ (u : ℕ). past.has_nullified (seen s.voter (voter_of s (p ∷ h)) u) ≡ false) is.0 is.2)) in
      record { room = may.room; current = may.current; first = may.first; not_finalized = may.not_finalized }

  pub finalize-follows : EachHistoryMatches S D P G C → DueMayBeFinalized D → (p : Point S D P G C) (h : History S D P G C) → AreAllowed g f s (p ∷ h) → (v : Finalize S D P G C)
      → VoteIsDue g f s (p ∷ h) (vote.Finalize v) → MayFollow s.voter.length (entries (record_of (p ∷ h))) (entry (artifact.Finalize v))
  finalize-follows law due p h all v is = finalize-may law due p h all v.proposal.round.view v.proposal is.1 is.0
