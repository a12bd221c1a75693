-- How often a step of a member alone raises its current view: by views that it gave up, each of which was kept before, or is where the event led.
use Rattle.std.proofs.Common.{◌≡◌, ◌≢◌, ◌⊎◌, inl, inr, ⊎_elim, ℕ, zero, suc, ◌+◌, ◌≤◌, ◌<◌, ◌==◌, Bool, true, false, List, [], ◌∷◌, ◌++◌, length, Option, Some, None, refl, sym, ◌∙◌, ap, subst, arith}
use Rattle.std.specs.Prelude.{◌-◌, Contains, IfSome, IsSome, nat_eq, ◌&&◌, find, if◌then◌else◌, is_some, max, nat_lt, option_map, unwrap_or}
use Rattle.std.specs.Option.{option_eq, option_or}
use Rattle.std.proofs.lemmas.Bool.{cases_lt, eqb-true, le-ltb, ltb-false, ltb-true}
use Rattle.std.proofs.lemmas.Grind.{common_steps}
use Rattle.std.proofs.lemmas.List.Elements.{All-contains, Contains-append_left}
use Rattle.std.proofs.lemmas.Option.{none-some}
use Rattle.types_quorum.specs.Committee.{faults-few}
use Rattle.types_quorum.specs.Counting.{Contains-cases, Contains-head, Contains-nil, Contains-rest, in_or_not}
use Rattle.types_core.specs.declared.attestation.Attestation.{Attestation}
use Rattle.types_core.specs.declared.position.Round.{Round}
use Rattle.types_core.specs.declared.scheme.Scheme.{Ghosts}
use Rattle.types_core.specs.Overlap.{signers}
use Rattle.types_core.specs.Positions.{next_term_start, term_end, term_start}
use Rattle.types_core.specs.Quorum.{IsQuorum}
use Rattle.types_core.specs.Subject.{Statement}
use Rattle.messages_certificates.specs.declared.artifact.Artifact.{Artifact}
use Rattle.messages_certificates.specs.declared.artifact.Artifact.TheVariants as artifact
use Rattle.messages_certificates.specs.declared.certificate.Certificate.{Certificate}
use Rattle.messages_certificates.specs.declared.certificate.Certificate.TheVariants as certificate
use Rattle.messages_certificates.specs.declared.nullify.Nullify.{Nullify}
use Rattle.messages_certificates.specs.Artifact.{certificate_artifact}
use Rattle.messages_certificates.specs.Certificate.{certificate_round, certificate_statement, certified_by}
use Rattle.messages_certificates.specs.ProposalCertificate.{Finalization, Notarization}
use Rattle.messages_certificates.specs.ProposalVote.{Finalize}
use Rattle.simplex_messages.specs.declared.vote.Vote.{Vote}
use Rattle.simplex_messages.specs.declared.vote.Vote.TheVariants as vote
use Rattle.simplex_messages.specs.VoteParts.{vote_artifact, vote_round, vote_signer}
use Rattle.types_terms.specs.declared.kind.Kind.TheVariants as sent_kind
use Rattle.types_terms.specs.Spans.{ends-before, term_end-above, term_end-le}
use Rattle.simplex_record.specs.Record as recorded
use Rattle.simplex_record.specs.Record.{Entry, entries, entry, enters, greatest}
use Rattle.types_terms.specs.declared.kind.Kind.{Kind}
use Rattle.batcher_verifier.specs.declared.batch.Batch.{Batch}
use Rattle.batcher_verifier.specs.History.{accepted}
use Rattle.batcher_verifier.specs.Votes.{vote_statement}
use Rattle.simplex_batcher.specs.Queries.{is_nullify}
use Rattle.voter_history.specs.declared.timeout_reason.TimeoutReason.{TimeoutReason}
use Rattle.voter_history.specs.declared.timeout_reason.TimeoutReason.TheVariants as reason
use Rattle.voter_history.specs.Leaders.{extend}
use Rattle.voter_history.specs.History as views
use Rattle.voter_history.specs.History.{current, last_finalized, scheduled_leader, seen}
use Rattle.voter_history.specs.Leaders.{handoff_leader, inherits, leader, named, named_early}
use Rattle.voter_history.specs.Past as past
use Rattle.voter_rules.specs.GivingUp.{IsTracked, NullifyIsDue}
use Rattle.voter_laws.specs.Matching.{EachHistoryMatches}
use Rattle.voter_laws.specs.Recording.{EachRecordIsKnown, IsKnown}
use Rattle.simplex_member.specs.declared.event.Event.{Event}
use Rattle.simplex_member.specs.declared.event.Event.TheVariants as event
use Rattle.simplex_member.specs.Allowed.{Allowed, AreAllowed, HasReason}
use Rattle.simplex_member.specs.Laws.{IsKeptView, RecordLaws, RoundLaws, raises}
use Rattle.simplex_member.specs.Layers.{all_votes, current_of, finalized_of, finalizes_above, floor_of, has_room, known_of, latest, opened, opens, passes_over, stage, takes_certificate, voter_of, voter_points, votes_of, IsUp, first_up}
use Rattle.simplex_member.specs.Member.{AreStep, Goes, IsPacketPoint, IsPointOf}
use Rattle.simplex_member.specs.Packet.{Formats, Packet, of_ask, of_certificate, of_vote}
use Rattle.simplex_member.specs.Point.{Counts, Falls, Passes, AreActs, Point, Opened, Found, Began, Told, Heard, Came, Wanted, Built, Checked, Judged, Leads, Forwards, Constructs, Latches, Polls, AsksBuild, AsksVerify, AsksCertify, GivesBack, LeavesBehind, PutsOff, Asks, Resolves, Votes, Repeats, Rewrote, History, is_act}
use Rattle.simplex_member.specs.Recorded.{record_of, recorded_by}
use Rattle.simplex_member.specs.Setup.{Setup, DeadlinesLieAhead, GoesByMembers, IsInTime, member_of}
use Rattle.simplex_member.proofs.Ballots.{collected-up, stage-kept}
use Rattle.simplex_member.proofs.Blame.{placed}
use Rattle.simplex_member.proofs.Coming.{staged-room}
use Rattle.simplex_member.proofs.Going.{allowed-lawful}
use Rattle.simplex_member.proofs.Judgeable.{asked-taken}
use Rattle.simplex_member.proofs.Listed.{accepted-known, kept-only}
use Rattle.simplex_member.proofs.Lists.{Contains-map, Contains-mapped, put-cases, same-number, some-is, some-of}
use Rattle.simplex_member.proofs.Peace.{find-there}
use Rattle.simplex_member.proofs.Raising.{acts-head, acts-rest, leads_on, listed, of-view, rise-of, step-few, up-either, up-first, view_of, voted, way-cases, ways}
use Rattle.simplex_member.proofs.Raising as raising
use Rattle.simplex_member.proofs.Recordable.{matches, orderly}
use Rattle.simplex_member.proofs.Rising.{goes-rise}
use Rattle.simplex_member.proofs.Seeing.{AllPut, AreGood, Enters, all-seen-good}
use Rattle.simplex_member.proofs.Telling.{apart, tells-record}
use Rattle.simplex_member.proofs.Waiting.{IsAhead, entered-ahead, not-given-up}

-- ---- terms

-- a term ends where the term of its end does
ends-once : (views u x : ℕ) → 0 < views → term_end views (suc u) ≡ suc x → term_end views (suc x) ≤ suc x
ends-once views u x some is = ⊎_elim
    (λ later.
    let further = (term_end-le views x (suc x) some).0 (omega (arith, later)) in
    let within = (term_end-le views u x some).0 (omega (arith, is)) in
    let over = (term_end-le views u (suc x) some).1 (omega (arith, further, within)) in
    absurd (omega (arith, over, is)))
    (λ ends. ends)
    (cases_lt (suc x) (term_end views (suc x)))

ends-there : (views u : ℕ) → 0 < views → term_end views (term_end views u) ≤ term_end views u
ends-there views zero some =
    let none : term_end views zero ≡ 0 = grind (arith, common_steps) in
    subst (λ (n : ℕ). term_end views n ≤ n) (sym none) (omega (arith, none))
ends-there views (suc u) some = go (term_end views (suc u)) refl
  where
    go : (n : ℕ) → term_end views (suc u) ≡ n → term_end views n ≤ n
    go zero e = absurd (let above = term_end-above views (suc u) some in omega (arith, above, e))
    go (suc x) e = ends-once views u x some e

-- the next term starts where it is said to
next-starts : (views u : ℕ) → next_term_start views u ≤ term_start views (next_term_start views u)
next-starts views u = ⊎_elim
    (λ some. let starts = (ends-before views (term_end views u) (term_end views u) some).1 (ends-there views u some) in omega (arith, starts))
    (λ none.
    let zero_is : views ≡ 0 = omega (arith, none) in
    subst (λ (n : ℕ). next_term_start n u ≤ term_start n (next_term_start n u)) (sym zero_is)
    (let first : next_term_start 0 u ≡ 1 = omega arith in subst (λ (n : ℕ). n ≤ term_start 0 n) (sym first) (omega arith)))
    (cases_lt 0 views)

-- ---- lists

left-true : (b c : Bool) → (b && c) ≡ true → b ≡ true
left-true true c e = refl
left-true false c e = e

greatest-ge : {X : Type 0} (least : ℕ) (k : X → ℕ) (xs : List X) (x : X) → Contains xs x → k x ≤ greatest least k xs
greatest-ge least k [] x here = absurd (Contains-nil x here)
greatest-ge least k (y ∷ xs) x here = ⊎_elim
    (λ is. omega (arith, ap k is))
    (λ later. let rest = greatest-ge least k xs x later in omega (arith, rest))
    (Contains-cases y xs x here)

-- a quorum has a member, and if this one is none of the committee, another
quorum-some : {G : Type 0} (n : ℕ) (attests : ℕ → G → Type 0) (all : List (Attestation G)) → 0 < n → IsQuorum n attests all → 1 ≤ length all
quorum-some n attests all some quorate = let few = faults-few n (omega (arith, some)) in omega (arith, few, quorate.enough)

of-outsider : {G : Type 0} (n me : ℕ) (attests : ℕ → G → Type 0) (all : List (Attestation G)) → 0 < n → n ≤ me → IsQuorum n attests all → (i : ℕ) × Contains (signers all) i × (i ≢ me)
of-outsider {G} n me attests all some out quorate =
    let one = some-of all (quorum-some n attests all some quorate) in
    let member = All-contains (λ (a : Attestation G). a.signer < n) all one.0 quorate.members one.1 in
    (one.0.signer, Contains-map (λ (a : Attestation G). a.signer) all one.0 one.1, λ same. omega (arith, member, out, same))

-- ---- leaders

module _ (n : ℕ) where
  abbrev Below : Option ℕ → Type 0
  Below o = IfSome o (λ i. i < n)

  below-or : (a b : Option ℕ) → Below a → Below b → Below (option_or a b)
  below-or None b first second = second
  below-or (Some i) b first second = first

  below-if : (c : Bool) (o : Option ℕ) → Below o → Below (if c then o else None)
  below-if true o first = first
  below-if false o first = tt

  below-kept : (c : Bool) (o : Option ℕ) → Below o → Below (if c then None else o)
  below-kept true o first = tt
  below-kept false o first = first

  below-extend : (here : ℕ → Option ℕ) (from_before : ℕ → Bool) (known : ℕ → Option ℕ) → ((view : ℕ) → Below (here view)) → ((view : ℕ) → Below (known view)) → (view : ℕ) → Below (extend here from_before known view)
  below-extend here from_before known names knows zero = knows zero
  below-extend here from_before known names knows (suc w) =
      below-or (known (suc w)) (option_or (here (suc w)) (if from_before (suc w) then extend here from_before known w else None)) (knows (suc w))
      (below-or (here (suc w)) (if from_before (suc w) then extend here from_before known w else None) (names (suc w))
      (below-if (from_before (suc w)) (extend here from_before known w) (below-extend here from_before known names knows w)))

module _ {S D P G C : Type 0} (s : views.Setup S C) (n me : ℕ) (own : s.me ≡ Some me) (member : me < n) (elects : (view : ℕ) (c : Option C) → s.elect view c < n) where
  below-named : (x : views.Point S D P G C) (view : ℕ) → Below n (named s x view)
  below-named (views.started now payload) view = below-if n (view == 1) (Some (s.elect 1 None)) (elects 1 None)
  below-named (views.notarized c) view = below-if n (view == c.proposal.round.view + 1) (Some (s.elect view (Some c.certificate))) (elects view (Some c.certificate))
  below-named (views.nullified now c) view = below-if n (view == next_term_start s.length c.round.view) (Some (s.elect view (Some c.certificate))) (elects view (Some c.certificate))
  below-named (views.finalized now c) view = below-if n (view == c.proposal.round.view + 1) (Some (s.elect view (Some c.certificate))) (elects view (Some c.certificate))
  below-named x view = tt

  below-early : (h : List (views.Point S D P G C)) (view : ℕ) → Below n (named_early s h view)
  below-early h view = below-if n (past.has_notarized (seen s h (view - 1))) (handoff_leader s view)
      (below-if n ((view == term_start s.length view) && option_eq nat_eq s.me (scheduled_leader s view)) s.me (subst (λ (o : Option ℕ). Below n o) (sym own) member))

  -- whoever leads a view is a member
  pub leader-below : (h : List (views.Point S D P G C)) (view : ℕ) → Below n (leader s h view)
  leader-below [] view = tt
  leader-below (views.pruned ∷ h) view = below-kept n (nat_lt view (views.min_active s h)) (leader s h view) (leader-below h view)
  leader-below (x ∷ h) view = below-extend n (λ v. option_or (named s x v) (named_early s (x ∷ h) v)) (inherits s (x ∷ h)) (leader s h)
      (λ v. below-or n (named s x v) (named_early s (x ∷ h) v) (below-named x v) (below-early (x ∷ h) v)) (λ v. leader-below h v) view

-- ---- points

module _ {S D P G C : Type 0} where
  -- a point may be an event that is taken
  abbrev comes : Point S D P G C → Bool
  comes (Told now) = true
  comes (Heard v) = true
  comes (Came c) = true
  comes (Wanted member view) = true
  comes (Built number handoff context payload took) = true
  comes (Checked number view answer outcome) = true
  comes (Judged r ok) = true
  comes p = false

  packet-comes : (sender : ℕ) (o : Option (Packet S D P G C)) (p : Point S D P G C) → IsPacketPoint sender o p → comes p ≡ true
  packet-comes sender (Some (of_vote v)) (Heard w) is = refl
  packet-comes sender (Some (of_certificate c)) (Came d) is = refl
  packet-comes sender (Some (of_ask view)) (Wanted member asked) is = refl
  packet-comes sender (Some (of_vote v)) p is = absurd is
  packet-comes sender (Some (of_certificate c)) p is = absurd is
  packet-comes sender (Some (of_ask view)) p is = absurd is
  packet-comes sender None p is = absurd is

  event-comes : (g : Ghosts S D P G C) (f : Formats S D P G C) (s : Setup S D C) (e : Event D) (p : Point S D P G C) → IsPointOf g f s e p → comes p ≡ true
  event-comes g f s (event.Packet sender by bytes) p is = packet-comes sender (f.packet_in by bytes.items) p is
  event-comes g f s (event.Built number payload) (Built n handoff context d took) is = refl
  event-comes g f s (event.Checked number answer) (Checked n view a outcome) is = refl
  event-comes g f s (event.Verdict view ok) (Judged r verdict) is = refl
  event-comes g f s (event.Moment now) (Told t) is = refl
  event-comes g f s (event.Built number payload) p is = absurd is
  event-comes g f s (event.Checked number answer) p is = absurd is
  event-comes g f s (event.Verdict view ok) p is = absurd is
  event-comes g f s (event.Moment now) p is = absurd is

  certificate-apart : (c : Certificate S D P G C) (w : Nullify S D P G C) → certificate_artifact c ≡ artifact.Nullify w → ⊥
  certificate-apart (certificate.Notarization c) w is = cc is
  certificate-apart (certificate.Nullification c) w is = cc is
  certificate-apart (certificate.Finalization c) w is = cc is

  made-apart : (o : Option (Certificate S D P G C)) (w : Nullify S D P G C) → option_map certificate_artifact o ≡ Some (artifact.Nullify w) → ⊥
  made-apart None w is = none-some (artifact.Nullify w) is
  made-apart (Some c) w is = certificate-apart c w (some-is (certificate_artifact c) (artifact.Nullify w) is)

  -- no event is an own nullify, and of the acts votes alone are
  comes-apart : (p : Point S D P G C) (w : Nullify S D P G C) → comes p ≡ true → recorded_by p ≡ Some (artifact.Nullify w) → ⊥
  comes-apart (Came c) w came is = certificate-apart c w (some-is (certificate_artifact c) (artifact.Nullify w) is)
  comes-apart (Judged r ok) w came is = cc (some-is (artifact.Certification r ok) (artifact.Nullify w) is)
  comes-apart (Found x taken) w came is = apart came
  comes-apart (Constructs view kind batch) w came is = apart came
  comes-apart (Votes v) w came is = apart came
  comes-apart p w came is = none-some (artifact.Nullify w) is

  nullify-is : (v w : Nullify S D P G C) → artifact.Nullify v ≡ artifact.Nullify w → v ≡ w
  nullify-is v w is = cc is

  voted-now : (p : Point S D P G C) (w : Nullify S D P G C) → is_act p ≡ true → recorded_by p ≡ Some (artifact.Nullify w) → p ≡ Votes (vote.Nullify w)
  voted-now (Votes (vote.Nullify v)) w act is = ap (λ (x : Nullify S D P G C). Votes (vote.Nullify x)) (nullify-is v w (some-is (artifact.Nullify v) (artifact.Nullify w) is))
  voted-now (Votes (vote.Notarize v)) w act is = absurd (cc (some-is (artifact.Notarize v) (artifact.Nullify w) is))
  voted-now (Votes (vote.Finalize v)) w act is = absurd (cc (some-is (artifact.Finalize v) (artifact.Nullify w) is))
  voted-now (Constructs view kind batch) w act is = absurd (made-apart batch.certificate w is)
  voted-now (Found x taken) w act is = absurd (apart act)
  voted-now (Came c) w act is = absurd (apart act)
  voted-now (Judged r ok) w act is = absurd (apart act)
  voted-now p w act is = absurd (none-some (artifact.Nullify w) is)

  pub act-latest : (p : Point S D P G C) (h : History S D P G C) → is_act p ≡ true → latest (p ∷ h) ≡ latest h
  act-latest (Opened now) h act = absurd (apart act)
  act-latest (Told now) h act = absurd (apart act)
  act-latest p h act = refl

  -- ---- a certificate that is taken

  module _ (s : views.Setup S C) (now low : ℕ) (h : List (views.Point S D P G C)) where
    -- a finalization enters the view behind its own, and finalizes that
    final-current : (c : Finalization S D P G C) → current s (takes_certificate now low (certificate.Finalization c) ++ h) ≡ max (c.proposal.round.view + 1) (current s h)
    final-current c = go (finalizes_above low (certificate.Finalization c))
      where
        go : (b : Bool) → current s (((if b then views.pruned ∷ [] else []) ++ views.sent sent_kind.Finalization c.proposal.round.view ∷ views.finalized now c ∷ []) ++ h) ≡ max (c.proposal.round.view + 1) (current s h)
        go true = refl
        go false = refl

    final-last : (c : Finalization S D P G C) → last_finalized (takes_certificate now low (certificate.Finalization c) ++ h) ≡ max c.proposal.round.view (last_finalized h)
    final-last c = go (finalizes_above low (certificate.Finalization c))
      where
        go : (b : Bool) → last_finalized (((if b then views.pruned ∷ [] else []) ++ views.sent sent_kind.Finalization c.proposal.round.view ∷ views.finalized now c ∷ []) ++ h) ≡ max c.proposal.round.view (last_finalized h)
        go true = refl
        go false = refl

    -- the view that it leads to is the first of its term, or right behind the last finalized one
    abbrev StandsFirst : List (views.Point S D P G C) → Type 0
    StandsFirst k = current s k ≤ max (last_finalized k + 1) (term_start s.length (current s k))

    taken-first : (c : Certificate S D P G C) → leads_on c ≡ true → current s h < current s (takes_certificate now low c ++ h) → StandsFirst (takes_certificate now low c ++ h)
    taken-first (certificate.Notarization c) leads up = absurd (apart leads)
    taken-first (certificate.Nullification c) leads up =
        let is : max (next_term_start s.length c.round.view) (current s h) ≡ next_term_start s.length c.round.view = omega (arith, up) in
        let starts = next-starts s.length c.round.view in
        subst (λ (n : ℕ). n ≤ max (last_finalized h + 1) (term_start s.length n)) (sym is) (omega (arith, starts))
    taken-first (certificate.Finalization c) leads up = omega (arith, up, final-current c, final-last c)

module _ {S D P G C : Type 0} (g : Ghosts S D P G C) (f : Formats S D P G C) (s : Setup S D C) where
  -- the latest moment lies early enough
  pub latest-early : (h : History S D P G C) → AreAllowed g f s h → h ≢ [] → IsInTime s (latest h)
  latest-early [] all some = absurd (some refl)
  latest-early (Opened now ∷ h) all some = all.0.due
  latest-early (Told now ∷ h) all some = all.0.due.1
  latest-early (Found x taken ∷ h) all some = latest-early h all.1 all.0.order.0
  latest-early (Began ∷ h) all some = latest-early h all.1 all.0.order.0
  latest-early (p ∷ []) all some = absurd (apart all.0.order)
  latest-early (p ∷ q ∷ h) all some = latest-early (q ∷ h) all.1 (λ none. cc none)

  -- ---- views whose votes came up

  -- an own nullify of a view with room brought them up
  opened-here : (p : Point S D P G C) (h : History S D P G C) (view : ℕ) → opens s h p view ≡ true → IsUp (opened s (p ∷ h) view)
  opened-here p h view is = subst (λ (b : Bool). IsUp (if b then first_up (opened s h view) (passes_over s h view) else opened s h view)) (sym is) (up-first (opened s h view) (passes_over s h view))

  own-opened : (h : History S D P G C) (w : Nullify S D P G C) → has_room s.voter.length w.round.view ≡ true → Contains (record_of h) (artifact.Nullify w) → IsUp (opened s h w.round.view)
  own-opened [] w room here = absurd (Contains-nil (artifact.Nullify w) here)
  own-opened (p ∷ h) w room here = ⊎_elim
      (λ before. up-either (opens s h p w.round.view) (opened s h w.round.view) (passes_over s h w.round.view) (own-opened h w room before))
      (λ now. brought p now)
      (put-cases (record_of h) (recorded_by p) (artifact.Nullify w) here)
    where
      at-own : (v : Nullify S D P G C) → artifact.Nullify v ≡ artifact.Nullify w → (v.round.view == w.round.view) ≡ true
      at-own v is = same-number v.round.view w.round.view (ap (λ (x : Nullify S D P G C). x.round.view) (nullify-is v w is))

      brought : (q : Point S D P G C) → recorded_by q ≡ Some (artifact.Nullify w) → IsUp (opened s (q ∷ h) w.round.view)
      brought (Votes (vote.Nullify v)) is = opened-here (Votes (vote.Nullify v)) h w.round.view (rw (at-own v (some-is (artifact.Nullify v) (artifact.Nullify w) is)) room)
      brought (Votes (vote.Notarize v)) is = absurd (cc (some-is (artifact.Notarize v) (artifact.Nullify w) is))
      brought (Votes (vote.Finalize v)) is = absurd (cc (some-is (artifact.Finalize v) (artifact.Nullify w) is))
      brought (Found (artifact.Nullify v) taken) is = opened-here (Found (artifact.Nullify v) taken) h w.round.view (rw (at-own v (some-is (artifact.Nullify v) (artifact.Nullify w) is)) room)
      brought (Found (artifact.Notarize v) taken) is = absurd (cc (some-is (artifact.Notarize v) (artifact.Nullify w) is))
      brought (Found (artifact.Notarization v) taken) is = absurd (cc (some-is (artifact.Notarization v) (artifact.Nullify w) is))
      brought (Found (artifact.Certification r ok) taken) is = absurd (cc (some-is (artifact.Certification r ok) (artifact.Nullify w) is))
      brought (Found (artifact.Nullification v) taken) is = absurd (cc (some-is (artifact.Nullification v) (artifact.Nullify w) is))
      brought (Found (artifact.Finalize v) taken) is = absurd (cc (some-is (artifact.Finalize v) (artifact.Nullify w) is))
      brought (Found (artifact.Finalization v) taken) is = absurd (cc (some-is (artifact.Finalization v) (artifact.Nullify w) is))
      brought (Came c) is = absurd (certificate-apart c w (some-is (certificate_artifact c) (artifact.Nullify w) is))
      brought (Judged r ok) is = absurd (cc (some-is (artifact.Certification r ok) (artifact.Nullify w) is))
      brought (Constructs view kind batch) is = absurd (made-apart batch.certificate w is)
      brought q is = absurd (none-some (artifact.Nullify w) is)

  module _ (grows : RecordLaws g) (laws : RoundLaws g f.same) (backed : (x : Statement D) (c : C) → g.certifies s.voter.scheme x c → IsQuorum (g.size s.voter.scheme) (λ i a. g.attests s.voter.scheme i x a) (g.lists c))
      (known : EachHistoryMatches S D P G C) where
    -- ---- a view that was finalized here

    -- lies below the current one: its verdict is true
    finalized-behind : (h : History S D P G C) → AreAllowed g f s h → (w : Finalize S D P G C) → Contains (record_of h) (artifact.Finalize w) → w.proposal.round.view + 1 ≤ current_of s h
    finalized-behind [] all w here = absurd (Contains-nil (artifact.Finalize w) here)
    finalized-behind (q ∷ h) all w here =
        let r = record_of (q ∷ h) in
        let at = placed g f s r (allowed-lawful g f s grows (q ∷ h) all) (artifact.Finalize w) here in
        let of = at.3.follows.certified in
        let x = Contains-mapped entry at.0 (recorded.judged of.0 true) of.2 in
        let there : Contains r x.0 = subst (λ (l : List (Artifact S D P G C)). Contains l x.0) (sym at.2) (Contains-append_left at.0 (artifact.Finalize w ∷ at.1) x.0 x.1) in
        let said : Contains (entries r) (recorded.judged of.0 true) = subst (λ (e : Entry D). Contains (entries r) e) x.2 (Contains-map entry r x.0 there) in
        let high = greatest-ge 1 (enters s.voter.length) (entries r) (recorded.judged of.0 true) said in
        omega (arith, high, of.1, (matches g f s known q h all).current)

    -- so no finalization of it raises that
    finalized-lower : (h : History S D P G C) → AreAllowed g f s h → (w : Finalize S D P G C) → Contains (record_of h) (artifact.Finalize w) → (view : ℕ) (kind : Kind) (batch : Batch (Certificate S D P G C)) (c : Finalization S D P G C)
        → batch.certificate ≡ Some (certificate.Finalization c) → c.proposal.round.view ≡ w.proposal.round.view → nat_lt (current_of s h) (current_of s (Constructs view kind batch ∷ h)) ≡ true → ⊥
    finalized-lower h all w here view kind batch c made same up =
        let raised = subst (λ (o : Option (Certificate S D P G C)). nat_lt (current_of s h) (current s.voter (unwrap_or (option_map (takes_certificate (latest h) (finalized_of s h)) o) [] ++ voter_of s h)) ≡ true) made up in
        let less = ltb-true (current_of s h) (current s.voter (takes_certificate (latest h) (finalized_of s h) (certificate.Finalization c) ++ voter_of s h)) raised in
        omega (arith, less, final-current s.voter (latest h) (finalized_of s h) (voter_of s h) c, same, finalized-behind h all w here)

    module _ (there : EachRecordIsKnown S D P G C) (one : g.size s.voter.scheme ≡ 1) (waits : DeadlinesLieAhead s) (by : GoesByMembers s (g.size s.voter.scheme)) (mine : s.me ≡ 0) where
      -- ---- nobody else is there

      none-heard : (h : History S D P G C) → AreAllowed g f s h → (v : Vote S D P G C) → Contains h (Heard v) → ⊥
      none-heard [] all v here = Contains-nil (Heard v) here
      none-heard (p ∷ h) all v here = ⊎_elim
          (λ is.
          let a = subst (λ (q : Point S D P G C). Allowed g f s h q) is all.0 in
          let member : vote_signer v < g.size s.voter.scheme = a.due.member in
          a.due.another (omega (arith, member, one, mine)))
          (λ later. none-heard h all.1 v later)
          (Contains-cases p h (Heard v) here)

      led-by-me : (h : List (views.Point S D P G C)) (view i : ℕ) → leader s.voter h view ≡ Some i → i ≡ s.me
      led-by-me h view i is =
          let low : i < g.size s.voter.scheme = subst (λ (o : Option ℕ). IfSome o (λ j. j < g.size s.voter.scheme)) is (leader-below s.voter (g.size s.voter.scheme) s.me by.own (omega (arith, one, mine)) by.named h view) in
          omega (arith, low, one, mine)

      -- so there is no reason to give a view up
      no-reason : (h : History S D P G C) → AreAllowed g f s h → (view : ℕ) (why : TimeoutReason) → HasReason g f s h view why → ⊥
      no-reason h all view reason.LeaderNullify r = go (find passes (accepted (votes_of s h view))) refl r.gave_up
        where
          passes : Vote S D P G C → Bool
          passes v = (vote_signer v == r.index) && is_nullify v

          go : (o : Option (Vote S D P G C)) → find passes (accepted (votes_of s h view)) ≡ o → is_some o ≡ true → ⊥
          go None e some = apart some
          go (Some v) e some =
              let found = find-there passes (accepted (votes_of s h view)) v e in
              let from = accepted-known g f s h all view v (kept-only (nat_lt view (floor_of s h)) (all_votes view h) v found.0) in
              let signer : vote_signer v ≡ r.index = eqb-true (vote_signer v) r.index (left-true (vote_signer v == r.index) (is_nullify v) found.1) in
              ⊎_elim (λ heard. none-heard h all v heard) (λ own. r.another (sym signer ∙ own.0)) from.known
      no-reason h all view reason.Inactivity r = r.1.another (led-by-me (voter_of s h) (current_of s h) r.1.index r.1.known)
      no-reason h all view reason.InvalidProposal r = go (leader s.voter (voter_of s h) view) refl r.1.waits.led.0
        where
          go : (o : Option ℕ) → leader s.voter (voter_of s h) view ≡ o → IsSome o → ⊥
          go None e some = apart some
          go (Some i) e some = r.1.waits.led.1 (e ∙ (ap (λ (j : ℕ). Some j) (led-by-me (voter_of s h) view i e) ∙ sym by.own))
      no-reason h all view why r = absurd r

      -- ---- a step

      module _ (start : History S D P G C) (begun : AreAllowed g f s start) (first : Point S D P G C) (a : Allowed g f s start first) (came : comes first ≡ true)
          (these : List ℕ) (current_there : Contains these (current_of s (first ∷ start))) (kept : (x : ℕ) → IsKeptView g f s start x → Contains these x) where
        abbrev moment : ℕ
        moment = latest (first ∷ start)

        abbrev Ahead : List (past.Item S D P G C) → Type 0
        Ahead items = AreGood (IsAhead moment) items

        abbrev Put : List (views.Point S D P G C) → ℕ → Type 0
        Put points view = AllPut (IsAhead moment) s.voter points view

        abbrev Entered : ℕ → Type 0
        Entered now = Enters (IsAhead {S = S} {D = D} {P = P} {G = G} {C = C} moment) s.voter now

        entered : Entered moment
        entered = (tt, entered-ahead s moment (latest-early (first ∷ start) (a, begun) (λ none. cc none)) waits)

        -- of a view that wasn't kept nothing was seen
        unseen : (view : ℕ) → (IsKeptView g f s start view → ⊥) → Ahead (seen s.voter (voter_of s start) view)
        unseen view unkept = go (seen s.voter (voter_of s start) view) refl
          where
            go : (items : List (past.Item S D P G C)) → seen s.voter (voter_of s start) view ≡ items → Ahead items
            go [] e = tt
            go (x ∷ items) e = absurd (unkept (inr (inl (λ none. cc (sym e ∙ none)))))

        certificate-puts : (now low : ℕ) (c : Certificate S D P G C) (view : ℕ) → Entered now → Put (takes_certificate now low c) view
        certificate-puts now low (certificate.Notarization c) view enters_so = (tt, (tt, tt))
        certificate-puts now low (certificate.Nullification c) view enters_so = (tt, ((tt, enters_so), tt))
        certificate-puts now low (certificate.Finalization c) view enters_so = go (finalizes_above low (certificate.Finalization c))
          where
            go : (b : Bool) → Put ((if b then views.pruned ∷ [] else []) ++ views.sent sent_kind.Finalization c.proposal.round.view ∷ views.finalized now c ∷ []) view
            go true = (tt, (tt, ((tt, enters_so), tt)))
            go false = (tt, ((tt, enters_so), tt))

        made-puts : (now low : ℕ) (o : Option (Certificate S D P G C)) (view : ℕ) → Entered now → Put (unwrap_or (option_map (takes_certificate now low) o) []) view
        made-puts now low None view enters_so = tt
        made-puts now low (Some c) view enters_so = certificate-puts now low c view enters_so

        -- no act puts a reason to give a view up, nor a deadline that is reached
        act-puts : (p : Point S D P G C) (h : History S D P G C) → AreAllowed g f s h → Allowed g f s h p → is_act p ≡ true → (now low view : ℕ) → Entered now → Put (voter_points s now low p) view
        act-puts (Opened t) h all q act now low view enters_so = absurd (apart act)
        act-puts (Found x taken) h all q act now low view enters_so = absurd (apart act)
        act-puts Began h all q act now low view enters_so = absurd (apart act)
        act-puts (Told t) h all q act now low view enters_so = absurd (apart act)
        act-puts (Heard v) h all q act now low view enters_so = absurd (apart act)
        act-puts (Came c) h all q act now low view enters_so = absurd (apart act)
        act-puts (Wanted member asked) h all q act now low view enters_so = absurd (apart act)
        act-puts (Built number handoff context payload took) h all q act now low view enters_so = absurd (apart act)
        act-puts (Checked number at answer outcome) h all q act now low view enters_so = absurd (apart act)
        act-puts (Judged r ok) h all q act now low view enters_so = absurd (apart act)
        act-puts (Leads at index) h all q act now low view enters_so = tt
        act-puts (Forwards at x) h all q act now low view enters_so = (tt, tt)
        act-puts (Constructs at kind batch) h all q act now low view enters_so = made-puts now low batch.certificate view enters_so
        act-puts (Latches at why) h all q act now low view enters_so = absurd (no-reason h all at why q.due.there)
        act-puts Polls h all q act now low view enters_so = (tt, tt)
        act-puts (AsksBuild number handoff context) h all q act now low view enters_so = (tt, tt)
        act-puts (AsksVerify number context x) h all q act now low view enters_so = ((tt, tt), tt)
        act-puts (AsksCertify x) h all q act now low view enters_so = (tt, tt)
        act-puts (GivesBack number at) h all q act now low view enters_so = (tt, tt)
        act-puts (LeavesBehind number) h all q act now low view enters_so = tt
        act-puts (PutsOff at) h all q act now low view enters_so = (tt, tt)
        act-puts (Asks at ask to) h all q act now low view enters_so = tt
        act-puts (Resolves at kind u) h all q act now low view enters_so = (tt, tt)
        act-puts (Votes (vote.Notarize v)) h all q act now low view enters_so = (tt, tt)
        act-puts (Votes (vote.Nullify v)) h all q act now low view enters_so = (λ e. tt, tt)
        act-puts (Votes (vote.Finalize v)) h all q act now low view enters_so = (tt, tt)
        act-puts (Repeats v best) h all q act now low view enters_so = (λ e. tt, tt)
        act-puts (Rewrote c) h all q act now low view enters_so = absurd (apart act)

        -- a view that is judged was tracked
        judged-tracked : (r : Round) (ok : Bool) → Allowed g f s start (Judged r ok) → IsTracked s.voter (voter_of s start) r.view
        judged-tracked r ok q = go start begun q
          where
            go : (h : History S D P G C) → AreAllowed g f s h → Allowed g f s h (Judged r ok) → IsTracked s.voter (voter_of s h) r.view
            go [] all x = absurd (apart x.order)
            go (b ∷ h) all x =
                let taken = asked-taken g f s known (b ∷ h) all x.due.proposal x.due.asked in
                let knows = subst (λ (l : List (Entry D)). IsKnown (member_of s) (known_of s (b ∷ h)) l) (tells-record g f s (b ∷ h) all) (there s.voter (voter_of s (b ∷ h)) (orderly g f s b h all)) in
                let last = (matches g f s known b h all).last_finalized in
                let some = knows.notarized x.due.proposal taken (omega (arith, x.due.above, x.due.at, last)) in
                let noted : IsSome (option_map (λ (c : Notarization S D P G C). c.proposal) (past.notarization (seen s.voter (voter_of s (b ∷ h)) r.view))) =
                subst (λ (n : ℕ). IsSome ((known_of s (b ∷ h)).notarized n)) x.due.at some in
                inl (λ none. apart (subst (λ (items : List (past.Item S D P G C)). IsSome (option_map (λ (c : Notarization S D P G C). c.proposal) (past.notarization items))) none noted))

        -- nor does the event put such on a view that wasn't kept
        event-puts : (p : Point S D P G C) → comes p ≡ true → Allowed g f s start p → (now low view : ℕ) → Entered now → (IsKeptView g f s start view → ⊥) → Put (voter_points s now low p) view
        event-puts (Told t) came_so q now low view enters_so unkept = tt
        event-puts (Heard v) came_so q now low view enters_so unkept = tt
        event-puts (Wanted member asked) came_so q now low view enters_so unkept = tt
        event-puts (Came c) came_so q now low view enters_so unkept = certificate-puts now low c view enters_so
        event-puts (Built number handoff context (Some payload) true) came_so q now low view enters_so unkept = ((tt, tt), tt)
        event-puts (Built number handoff context None true) came_so q now low view enters_so unkept =
            (λ e. unkept (inr (subst (λ (n : ℕ). IsTracked s.voter (voter_of s start) n) e (q.due.1.0 refl).tracked)), tt)
        event-puts (Built number handoff context payload false) came_so q now low view enters_so unkept = tt
        event-puts (Checked number at (Some true) Counts) came_so q now low view enters_so unkept = (tt, tt)
        event-puts (Checked number at (Some false) Counts) came_so q now low view enters_so unkept = (λ e. unkept (inr (subst (λ (n : ℕ). IsTracked s.voter (voter_of s start) n) e q.due.1.1.tracked)), tt)
        event-puts (Checked number at None Counts) came_so q now low view enters_so unkept = (λ e. unkept (inr (subst (λ (n : ℕ). IsTracked s.voter (voter_of s start) n) e q.due.1.1.tracked)), tt)
        event-puts (Checked number at answer Falls) came_so q now low view enters_so unkept = (tt, tt)
        event-puts (Checked number at answer Passes) came_so q now low view enters_so unkept = tt
        event-puts (Judged r true) came_so q now low view enters_so unkept = ((tt, enters_so), tt)
        event-puts (Judged r false) came_so q now low view enters_so unkept = ((tt, λ e. unkept (inr (subst (λ (n : ℕ). IsTracked s.voter (voter_of s start) n) e (judged-tracked r false q)))), tt)
        event-puts p came_so q now low view enters_so unkept = absurd (apart came_so)

        -- ---- what holds from the event on

        record Holds (h : History S D P G C) : Type 0 where
          -- the moment stays
          pub latest_is : latest h ≡ moment
          -- the current view is where the event led, or the first of its term, or right behind the last finalized one
          pub stands : (current_of s h ≡ current_of s (first ∷ start)) ⊎ (current_of s h ≤ max (finalized_of s h + 1) (term_start s.voter.length (current_of s h)))
          -- of a view that wasn't kept there is no reason to give it up, nor is a deadline reached
          pub ahead : (view : ℕ) → (IsKeptView g f s start view → ⊥) → Ahead (seen s.voter (voter_of s h) view)
          -- a view that was given up is one of these, or was given up before
          pub given_up : (w : Nullify S D P G C) → Contains (record_of h) (artifact.Nullify w) → Contains these w.round.view ⊎ Contains (record_of start) (artifact.Nullify w)

        begins : Holds (first ∷ start)
        begins = record {
          latest_is = refl;
          stands = inl refl;
          ahead = λ view unkept. all-seen-good (IsAhead moment) s.voter (voter_points s moment (last_finalized (voter_of s start)) first) (voter_of s start) view
              (event-puts first came a moment (last_finalized (voter_of s start)) view entered unkept) (unseen view unkept);
          given_up = λ w here. ⊎_elim (λ before. inr before) (λ now. absurd (comes-apart first w came now)) (put-cases (record_of start) (recorded_by first) (artifact.Nullify w) here);
        }

        -- a view that is given up is one of these
        gives-up : (h : History S D P G C) → Holds h → (w : Nullify S D P G C) → Allowed g f s h (Votes (vote.Nullify w)) → Contains these w.round.view
        gives-up h holds w q = ⊎_elim
            (λ there_so. there_so)
            (λ missing. absurd (⊎_elim
            (λ same. missing (subst (λ (n : ℕ). Contains these n) (sym (q.due.0 ∙ same)) current_there))
            (λ low. not-given-up moment s.voter (voter_of s h)
            (subst (λ (n : ℕ). Ahead (seen s.voter (voter_of s h) n)) q.due.0 (holds.ahead w.round.view (λ k. missing (kept w.round.view k)))) low
            (subst (λ (n : ℕ). past.has_nullified (seen s.voter (voter_of s h) n) ≡ false) q.due.0 q.due.2)
            (subst (λ (n : ℕ). NullifyIsDue s.voter (voter_of s h) n) holds.latest_is q.due.1))
            holds.stands))
            (in_or_not these w.round.view)

        made-stands : (h : History S D P G C) (view : ℕ) (kind : Kind) (batch : Batch (Certificate S D P G C)) (c : Certificate S D P G C) → batch.certificate ≡ Some c → leads_on c ≡ true
            → nat_lt (current_of s h) (current_of s (Constructs view kind batch ∷ h)) ≡ true → StandsFirst s.voter (latest h) (finalized_of s h) (voter_of s h) (voter_of s (Constructs view kind batch ∷ h))
        made-stands h view kind batch c made leads up =
            let points : Option (Certificate S D P G C) → List (views.Point S D P G C) = λ o. unwrap_or (option_map (takes_certificate (latest h) (finalized_of s h)) o) [] in
            let raised = subst (λ (o : Option (Certificate S D P G C)). nat_lt (current_of s h) (current s.voter (points o ++ voter_of s h)) ≡ true) made up in
            let less = ltb-true (current_of s h) (current s.voter (points (Some c) ++ voter_of s h)) raised in
            subst (λ (o : Option (Certificate S D P G C)). StandsFirst s.voter (latest h) (finalized_of s h) (voter_of s h) (points o ++ voter_of s h)) (sym made)
            (taken-first s.voter (latest h) (finalized_of s h) (voter_of s h) c leads less)

        stands-on : (h : History S D P G C) → Holds h → (p : Point S D P G C) → Allowed g f s h p → is_act p ≡ true
            → (current_of s (p ∷ h) ≡ current_of s (first ∷ start)) ⊎ (current_of s (p ∷ h) ≤ max (finalized_of s (p ∷ h) + 1) (term_start s.voter.length (current_of s (p ∷ h))))
        stands-on h holds p q act = go (nat_lt (current_of s h) (current_of s (p ∷ h))) refl
          where
            rises : (current_of s h ≤ current_of s (p ∷ h)) × (finalized_of s h ≤ finalized_of s (p ∷ h))
            rises = goes-rise g f s h (p ∷ h) (p ∷ []) (q, refl)

            go : (b : Bool) → nat_lt (current_of s h) (current_of s (p ∷ h)) ≡ b
                → (current_of s (p ∷ h) ≡ current_of s (first ∷ start)) ⊎ (current_of s (p ∷ h) ≤ max (finalized_of s (p ∷ h) + 1) (term_start s.voter.length (current_of s (p ∷ h))))
            go true up =
                let rise = rise-of g f s p h act up in
                inr (subst (λ (x : Point S D P G C). current_of s (x ∷ h) ≤ max (finalized_of s (x ∷ h) + 1) (term_start s.voter.length (current_of s (x ∷ h)))) (sym rise.is)
                (made-stands h rise.view rise.kind rise.batch rise.c rise.made rise.leads (subst (λ (x : Point S D P G C). nat_lt (current_of s h) (current_of s (x ∷ h)) ≡ true) rise.is up)))
            go false still =
                let low = ltb-false (current_of s h) (current_of s (p ∷ h)) still in
                let same : current_of s (p ∷ h) ≡ current_of s h = omega (arith, low, rises.0) in
                ⊎_elim
                (λ there_so. inl (same ∙ there_so))
                (λ early. inr (subst (λ (n : ℕ). n ≤ max (finalized_of s (p ∷ h) + 1) (term_start s.voter.length n)) (sym same) (omega (arith, early, rises.1))))
                holds.stands

        goes-on : (h : History S D P G C) → AreAllowed g f s h → Holds h → (p : Point S D P G C) → Allowed g f s h p → is_act p ≡ true → Holds (p ∷ h)
        goes-on h all holds p q act =
            let at : latest (p ∷ h) ≡ moment = act-latest p h act ∙ holds.latest_is in
            record {
              latest_is = at;
              stands = stands-on h holds p q act;
              ahead = λ view unkept. all-seen-good (IsAhead moment) s.voter (voter_points s (latest (p ∷ h)) (last_finalized (voter_of s h)) p) (voter_of s h) view
                  (act-puts p h all q act (latest (p ∷ h)) (last_finalized (voter_of s h)) view (subst (λ (n : ℕ). Entered n) (sym at) entered)) (holds.ahead view unkept);
              given_up = λ w here. ⊎_elim
                  (λ before. holds.given_up w before)
                  (λ now. inl (gives-up h holds w (subst (λ (x : Point S D P G C). Allowed g f s h x) (voted-now p w act now) q)))
                  (put-cases (record_of h) (recorded_by p) (artifact.Nullify w) here);
            }

        -- ---- which views lead on

        -- a view that was given up before the step was kept when that began
        given-kept : (h : History S D P G C) (w : Nullify S D P G C) → finalized_of s start ≤ finalized_of s h → IsUp (stage s h w.round.view) → Contains (record_of start) (artifact.Nullify w) → Contains these w.round.view
        given-kept h w final up here =
            let high = ltb-false w.round.view (floor_of s h) (stage-kept g f s h w.round.view up) in
            let room = staged-room s h w.round.view up in
            let low : floor_of s start ≤ w.round.view = omega (arith, high, final) in
            let up_before : IsUp (stage s start w.round.view) = rw (le-ltb w.round.view (floor_of s start) low) (own-opened start w room here) in
            kept w.round.view (inl up_before)

        -- a certificate that leads on, of an own vote: a nullification of a view of these
        by-own : (h : History S D P G C) → AreAllowed g f s h → Holds h → finalized_of s start ≤ finalized_of s h → (view : ℕ) (kind : Kind) (batch : Batch (Certificate S D P G C)) (c : Certificate S D P G C) → batch.certificate ≡ Some c
            → IsUp (stage s h view) → (certificate_round c).view ≡ view → nat_lt (current_of s h) (current_of s (Constructs view kind batch ∷ h)) ≡ true
            → (v : Vote S D P G C) → Contains (record_of h) (vote_artifact v) → vote_statement v ≡ certificate_statement c → leads_on c ≡ true → (vote_round v).view ≡ view → Contains these view
        by-own h all holds final view kind batch c made up at raises_so (vote.Nullify w) here states leads of_view = ⊎_elim
            (λ there_so. subst (λ (n : ℕ). Contains these n) of_view there_so)
            (λ before. subst (λ (n : ℕ). Contains these n) of_view (given-kept h w final (subst (λ (n : ℕ). IsUp (stage s h n)) (sym of_view) up) before))
            (holds.given_up w here)
        by-own h all holds final view kind batch (certificate.Finalization c) made up at raises_so (vote.Finalize w) here states leads of_view =
            absurd (finalized-lower h all w here view kind batch c made (at ∙ sym of_view) raises_so)
        by-own h all holds final view kind batch (certificate.Nullification c) made up at raises_so (vote.Finalize w) here states leads of_view = absurd (cc states)
        by-own h all holds final view kind batch (certificate.Notarization c) made up at raises_so (vote.Finalize w) here states leads of_view = absurd (apart leads)
        by-own h all holds final view kind batch (certificate.Finalization c) made up at raises_so (vote.Notarize w) here states leads of_view = absurd (cc states)
        by-own h all holds final view kind batch (certificate.Nullification c) made up at raises_so (vote.Notarize w) here states leads of_view = absurd (cc states)
        by-own h all holds final view kind batch (certificate.Notarization c) made up at raises_so (vote.Notarize w) here states leads of_view = absurd (apart leads)

        ways-own : (h : History S D P G C) → AreAllowed g f s h → Holds h → finalized_of s start ≤ finalized_of s h → (points : List (Point S D P G C)) (end : History S D P G C) → Goes g f s h points end → AreActs points
            → (x : ℕ) → Contains (ways g f s h points) x → Contains these x
        ways-own h all holds final [] end goes acts x here = absurd (Contains-nil x here)
        ways-own h all holds final (p ∷ points) end goes acts x here = ⊎_elim
            (λ up.
            let rise = rise-of g f s p h (acts-head g f s p points acts) up.0 in
            let q = subst (λ (y : Point S D P G C). Allowed g f s h y) rise.is goes.0 in
            let raised = subst (λ (y : Point S D P G C). nat_lt (current_of s h) (current_of s (y ∷ h)) ≡ true) rise.is up.0 in
            let some : 0 < g.size s.voter.scheme = omega (arith, one) in
            let quorate = listed g f s grows laws backed some h all rise.view rise.kind rise.batch q rise.c rise.made rise.leads in
            let y = some-of (g.lists (certified_by rise.c)) (quorum-some (g.size s.voter.scheme) (λ i b. g.attests s.voter.scheme i (certificate_statement rise.c) b) (g.lists (certified_by rise.c)) some quorate) in
            let is = voted g f s grows laws backed some h all rise.view rise.kind rise.batch q rise.c rise.made rise.leads y.0 y.1 in
            let of_view = of-view g f s grows laws backed some h all rise.view rise.kind rise.batch q rise.c rise.made rise.leads y.0 is in
            let at = raising.at g f s grows laws backed some h all rise.view rise.kind rise.batch q rise.c rise.made rise.leads in
            subst (λ (n : ℕ). Contains these n) (sym (ap view_of rise.is) ∙ up.1)
            (⊎_elim
            (λ heard. absurd (none-heard h all is.vote heard))
            (λ own. by-own h all holds final rise.view rise.kind rise.batch rise.c rise.made (collected-up q.due.0) at raised is.vote own.1 is.states rise.leads of_view)
            is.known))
            (λ later.
            let rises = (goes-rise g f s h (p ∷ h) (p ∷ []) (goes.0, refl)).1 in
            ways-own (p ∷ h) (goes.0, all) (goes-on h all holds p goes.0 (acts-head g f s p points acts)) (omega (arith, final, rises)) points end goes.1 (acts-rest g f s p points acts) x later)
            (way-cases g f s h p points x here)

      -- a step of a member alone raises its current view at most once by its event, once from there, and once by each view that was kept
      pub lone-raises : (h : History S D P G C) → AreAllowed g f s h → (e : Event D) (more : List (Point S D P G C)) (end : History S D P G C) → AreStep g f s h e more → Goes g f s h more end
          → (numbers : List ℕ) → ((x : ℕ) → IsKeptView g f s h x → Contains numbers x) → raises g f s h more ≤ length numbers + 2
      lone-raises h all e more end step goes numbers held = step-few g f s grows laws backed (omega (arith, one)) h all e more end step goes (λ first. current_of s (first ∷ h)) numbers
          (λ first acts a of_it gone own x here.
          ways-own h all first a (event-comes g f s e first of_it) (current_of s (first ∷ h) ∷ numbers) (Contains-head (current_of s (first ∷ h)) numbers) (λ y is. Contains-rest (current_of s (first ∷ h)) numbers y (held y is))
          (first ∷ h) (a, all) (begins h all first a (event-comes g f s e first of_it) (current_of s (first ∷ h) ∷ numbers) (Contains-head (current_of s (first ∷ h)) numbers) (λ y is. Contains-rest (current_of s (first ∷ h)) numbers y (held y is)))
          (goes-rise g f s h (first ∷ h) (first ∷ []) (a, refl)).1 acts end gone own x here)

    -- in a committee of any size: of more than one by the votes of others, and so where this member is none of it
    pub any-raises : EachRecordIsKnown S D P G C → 0 < g.size s.voter.scheme → DeadlinesLieAhead s → GoesByMembers s (g.size s.voter.scheme) → (h : History S D P G C) → AreAllowed g f s h → (e : Event D) (more : List (Point S D P G C)) (end : History S D P G C)
        → AreStep g f s h e more → Goes g f s h more end → (numbers : List ℕ) → ((x : ℕ) → IsKeptView g f s h x → Contains numbers x) → raises g f s h more ≤ length numbers + 2
    any-raises there some waits by h all e more end step goes numbers held = ⊎_elim
        (λ several. raising.step-raises g f s grows laws backed some (λ x all_listed quorate. raising.of-several (g.size s.voter.scheme) s.me (λ i b. g.attests s.voter.scheme i x b) all_listed several quorate) h all e more end step goes numbers (λ x up. held x (inl up)))
        (λ few. ⊎_elim
        (λ member. lone-raises there (omega (arith, some, few)) waits by (omega (arith, member, few)) h all e more end step goes numbers held)
        (λ out. raising.step-raises g f s grows laws backed some (λ x all_listed quorate. of-outsider (g.size s.voter.scheme) s.me (λ i b. g.attests s.voter.scheme i x b) all_listed some out quorate) h all e more end step goes numbers (λ x up. held x (inl up)))
        (cases_lt s.me (g.size s.voter.scheme)))
        (cases_lt 1 (g.size s.voter.scheme))
