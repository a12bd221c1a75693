-- A notarize that is due names a parent at or above the view behind which the record begins: what its proposal was bound to does.
use Rattle.std.proofs.Common.{◌≡◌, ◌≢◌, ◌⊎◌, inl, inr, ⊎_elim, ℕ, ◌+◌, ◌≤◌, ◌<◌, ◌==◌, Bool, true, false, List, [], ◌∷◌, ◌++◌, Option, Some, None, refl, sym, ◌∙◌, ap, subst, arith}
use Rattle.std.specs.Prelude.{◌||◌, Contains, IsSome, if◌then◌else◌, is_some, option_map, unwrap_or}
use Rattle.std.specs.Option.{option_or}
use Rattle.std.proofs.lemmas.Bool.{cases_lt}
use Rattle.std.proofs.lemmas.Option.{none-some}
use Rattle.types_quorum.specs.Counting.{Contains-head, Contains-nil, Contains-rest}
use Rattle.types_core.specs.declared.context.Context.{Context}
use Rattle.types_core.specs.declared.proposal.Proposal.{Proposal}
use Rattle.types_core.specs.declared.scheme.Scheme.{Ghosts}
use Rattle.types_core.specs.Subject.{notarize, nullify, finalize}
use Rattle.messages_certificates.specs.declared.artifact.Artifact.{Artifact}
use Rattle.messages_certificates.specs.declared.artifact.Artifact.TheVariants as artifact
use Rattle.messages_certificates.specs.declared.certificate.Certificate.{Certificate}
use Rattle.messages_certificates.specs.declared.certificate.Certificate.TheVariants as certificate
use Rattle.messages_certificates.specs.ProposalCertificate.{Finalization}
use Rattle.simplex_messages.specs.declared.vote.Vote.TheVariants as vote
use Rattle.simplex_record.specs.Record as recorded
use Rattle.simplex_record.specs.Record.{Entry, entries, finalizes, floor, last_finalized, current_view, HasTaken}
use Rattle.types_terms.specs.declared.kind.Kind.TheVariants as kind
use Rattle.voter_history.specs.Held as offer
use Rattle.voter_history.specs.Held.{Offer, held}
use Rattle.voter_history.specs.History as views
use Rattle.voter_history.specs.History.{finalized, pruned, seen, sent}
use Rattle.voter_history.specs.Past as past
use Rattle.voter_history.specs.Past.{Item}
use Rattle.voter_rules.specs.Ancestry.{AreCoveredBetween, IsSpan, explicit, held_at}
use Rattle.voter_rules.specs.Requests.{BuildIsDue}
use Rattle.voter_rules.specs.VotesDue.{NotarizeIsDue}
use Rattle.voter_laws.specs.Matching.{EachHistoryMatches}
use Rattle.voter_laws.specs.Recording.{EachRecordIsKnown, IsKnown}
use Rattle.simplex_member.specs.Allowed.{Allowed, AreAllowed}
use Rattle.simplex_member.specs.Asked.{build_at}
use Rattle.simplex_member.specs.Layers.{finalizes_above, floor_of, known_of, latest, takes_certificate, takes_outcome, voter_of, voter_points}
use Rattle.simplex_member.specs.Packet.{Formats}
use Rattle.simplex_member.specs.Point.{Outcome, Counts, Falls, Passes, Point, Opened, Found, Began, Came, Built, Checked, Judged, Forwards, Constructs, Latches, Polls, AsksBuild, AsksVerify, AsksCertify, GivesBack, LeavesBehind, PutsOff, Resolves, Votes, Repeats, Rewrote, History}
use Rattle.simplex_member.specs.Recorded.{record_of, recorded_by}
use Rattle.simplex_member.specs.Setup.{Setup, member_of}
use Rattle.simplex_member.proofs.Binding.{due-binds, gone, under}
use Rattle.simplex_member.proofs.Kept.{floor-final, floor-put, put-nothing}
use Rattle.simplex_member.proofs.Low.{AreLow, Binds, all-bind, binds-less}
use Rattle.simplex_member.proofs.Recordable.{matches, orderly}
use Rattle.simplex_member.proofs.Rising.{all-rise}
use Rattle.simplex_member.proofs.Telling.{apart, tells-record}

module _ {D : Type 0} where
  -- the last finalized view lies behind the current one, and one that isn't the start was finalized
  pub final-behind : (views : ℕ) (r : List (Entry D)) → last_finalized r < current_view views r
  final-behind views [] = omega arith
  final-behind views (recorded.voted s ∷ r) = let rest = final-behind views r in omega (arith, rest)
  final-behind views (recorded.taken (notarize p) ∷ r) = let rest = final-behind views r in omega (arith, rest)
  final-behind views (recorded.taken (nullify x) ∷ r) = let rest = final-behind views r in omega (arith, rest)
  final-behind views (recorded.taken (finalize p) ∷ r) = let rest = final-behind views r in omega (arith, rest)
  final-behind views (recorded.judged x true ∷ r) = let rest = final-behind views r in omega (arith, rest)
  final-behind views (recorded.judged x false ∷ r) = let rest = final-behind views r in omega (arith, rest)

  abbrev IsFinal : List (Entry D) → ℕ → Type 0
  IsFinal r view = (p : Proposal D) × (p.round.view ≡ view) × HasTaken r (finalize p)

  final-there : (r : List (Entry D)) → 0 < last_finalized r → IsFinal r (last_finalized r)
  final-there [] some = absurd (omega (arith, some))
  final-there (e ∷ r) some = ⊎_elim
      (λ less. later e (omega (arith, less)) (final-there r (omega (arith, some, less))))
      (λ most. here e (omega (arith, some, most)) (omega (arith, most)))
      (cases_lt (finalizes e) (last_finalized r))
    where
      later : (x : Entry D) → last_finalized (x ∷ r) ≡ last_finalized r → IsFinal r (last_finalized r) → IsFinal (x ∷ r) (last_finalized (x ∷ r))
      later x same rest = (rest.0, rest.1 ∙ sym same, Contains-rest x r (recorded.taken (finalize rest.0)) rest.2)

      here : (x : Entry D) → 0 < finalizes x → last_finalized (x ∷ r) ≡ finalizes x → IsFinal (x ∷ r) (last_finalized (x ∷ r))
      here (recorded.voted s) above same = absurd (omega (arith, above))
      here (recorded.taken (notarize p)) above same = absurd (omega (arith, above))
      here (recorded.taken (nullify y)) above same = absurd (omega (arith, above))
      here (recorded.taken (finalize p)) above same = (p, sym same, Contains-head (recorded.taken (finalize p)) r)
      here (recorded.judged y ok) above same = absurd (omega (arith, above))

  or-held : (o : Option (Proposal D)) (p : Proposal D) → IsSome (option_or o (Some p))
  or-held None p = refl
  or-held (Some q) p = refl

  -- what is offered is held, once anything is
  held-on : (o : Offer D) (h : List (Offer D)) → IsSome (held h) → IsSome (held (o ∷ h))
  held-on (offer.forwarded p) h some = or-held (held h) p
  held-on (offer.certified p) h some = refl
  held-on (offer.recorded p) h some = refl
  held-on offer.confirmed h some = some
  held-on offer.building h some = some
  held-on offer.released h some = some
  held-on offer.verifying h some = some

module _ {S D P G C : Type 0} where
  final-held : (x : List (Item S D P G C)) → IsSome (past.finalization x) → IsSome (held (past.offers x))
  final-held [] some = absurd (apart some)
  final-held (past.finalized c ∷ x) some = refl
  final-held (past.notarized c ∷ x) some = refl
  final-held (past.built moment p ∷ x) some = refl
  final-held (past.offered o ∷ x) some = held-on o (past.offers x) (final-held x some)
  final-held (y ∷ x) some = final-held x some

  some-mapped : (o : Option (Finalization S D P G C)) → IsSome (option_map (λ (c : Finalization S D P G C). c.proposal) o) → IsSome o
  some-mapped None some = absurd (apart some)
  some-mapped (Some c) some = refl

  low-pruned : (Q : ℕ → Type 0) (view : ℕ) (b : Bool) (xs : List (views.Point S D P G C)) → AreLow Q view xs → AreLow Q view ((if b then pruned ∷ [] else []) ++ xs)
  low-pruned Q view true xs low = (tt, low)
  low-pruned Q view false xs low = low

  low-certificate : (Q : ℕ → Type 0) (view now low : ℕ) (c : Certificate S D P G C) → AreLow Q view (takes_certificate now low c)
  low-certificate Q view now low (certificate.Notarization c) = (tt, (tt, tt))
  low-certificate Q view now low (certificate.Nullification c) = (tt, (tt, tt))
  low-certificate Q view now low (certificate.Finalization c) =
      low-pruned Q view (finalizes_above low (certificate.Finalization c)) (sent kind.Finalization c.proposal.round.view ∷ finalized now c ∷ []) (tt, (tt, tt))

  low-option : (Q : ℕ → Type 0) (view now low : ℕ) (o : Option (Certificate S D P G C)) → AreLow Q view (unwrap_or (option_map (takes_certificate now low) o) [])
  low-option Q view now low None = tt
  low-option Q view now low (Some c) = low-certificate Q view now low c

-- what is explicit, by its tests
some-explicit : {D : Type 0} (zero_is first second : Bool) (genesis : Option D) (o : Option (Proposal D)) → zero_is ≡ false → first ≡ true → IsSome o
    → IsSome (if zero_is then genesis else (if first || second then option_map (λ (p : Proposal D). p.payload) o else None))
some-explicit false true second genesis (Some p) a b some = refl
some-explicit false true second genesis None a b some = absurd (apart some)
some-explicit false false second genesis o a b some = absurd (apart b)
some-explicit true first second genesis o a b some = absurd (apart (sym a))

is-positive : (n : ℕ) → 0 < n → (n == 0) ≡ false
is-positive n some = grind (arith, some)

module _ {S D P G C : Type 0} (g : Ghosts S D P G C) (f : Formats S D P G C) (s : Setup S D C) (law : EachHistoryMatches S D P G C) (knows : EachRecordIsKnown S D P G C) where
  abbrev Begins : History S D P G C → ℕ
  Begins h = floor (entries (record_of h))

  -- a view may name this parent: it lies at or above the view behind which the record begins, or is the view before, or no earlier
  abbrev Low : History S D P G C → ℕ → ℕ → Type 0
  Low h view parent = ((record_of h ≢ []) × (Begins h ≤ parent)) ⊎ (view ≤ parent + 1)

  low-on : (p : Point S D P G C) (h : History S D P G C) (view parent : ℕ) → Low h view parent → Low (p ∷ h) view parent
  low-on p h view parent low = ⊎_elim
      (λ above.
      let same = floor-put (record_of h) (recorded_by p) above.0 in
      inl ((λ none. above.0 (put-nothing (record_of h) (recorded_by p) none)), omega (arith, same, above.1)))
      (λ next. inr next)
      low

  -- ---- what is asked for

  -- where nothing is recorded, nothing is covered
  bare : (q : Point S D P G C) (h : History S D P G C) → AreAllowed g f s (q ∷ h) → (view parent : ℕ) → AreCoveredBetween (member_of s) (known_of s (q ∷ h)) parent view → record_of (q ∷ h) ≡ [] → view ≤ parent + 1
  bare q h all view parent covered none = ⊎_elim
      (λ more.
      let c = (matches g f s law q h all).covered (parent + 1) (covered (parent + 1) (omega arith) more) in
      absurd (Contains-nil (recorded.taken (nullify c.0)) (subst (λ (l : List (Artifact S D P G C)). Contains (entries l) (recorded.taken (nullify c.0))) none c.2)))
      (λ next. next)
      (cases_lt (parent + 1) view)

  -- either nothing is recorded, or a parent that lies at or above the last finalized view lies at or above where the record begins
  above-final : (q : Point S D P G C) (h : History S D P G C) → AreAllowed g f s (q ∷ h) → (view parent : ℕ) → AreCoveredBetween (member_of s) (known_of s (q ∷ h)) parent view
      → (record_of (q ∷ h) ≢ [] → views.last_finalized (voter_of s (q ∷ h)) ≤ parent) → Low (q ∷ h) view parent
  above-final q h all view parent covered high = by (record_of (q ∷ h)) refl
    where
      by : (xs : List (Artifact S D P G C)) → record_of (q ∷ h) ≡ xs → Low (q ∷ h) view parent
      by [] none = inr (bare q h all view parent covered none)
      by (x ∷ xs) is =
          let some : record_of (q ∷ h) ≢ [] = λ none. Contains-nil x (subst (λ (l : List (Artifact S D P G C)). Contains l x) (sym is ∙ none) (Contains-head x xs)) in
          let most = floor-final (entries (record_of (q ∷ h))) in
          let same = (matches g f s law q h all).last_finalized in
          let over = high some in
          inl (some, omega (arith, most, same, over))

  verified-low : (q : Point S D P G C) (h : History S D P G C) → AreAllowed g f s (q ∷ h) → (view parent : ℕ) → IsSpan (member_of s) (known_of s (q ∷ h)) view parent → Low (q ∷ h) view parent
  verified-low q h all view parent span = above-final q h all view parent span.covered (λ some. span.above)

  -- the last finalized view is explicit
  final-explicit : (q : Point S D P G C) (h : History S D P G C) → AreAllowed g f s (q ∷ h) → 0 < views.last_finalized (voter_of s (q ∷ h))
      → IsSome (explicit (member_of s) (known_of s (q ∷ h)) (views.last_finalized (voter_of s (q ∷ h))))
  final-explicit q h all some =
      let v = voter_of s (q ∷ h) in
      let last = views.last_finalized v in
      let same = (matches g f s law q h all).last_finalized in
      let p = final-there (entries (record_of (q ∷ h))) (omega (arith, some, same)) in
      let known : IsKnown (member_of s) (known_of s (q ∷ h)) (entries (record_of (q ∷ h))) =
      subst (λ (r : List (Entry D)). IsKnown (member_of s) (known_of s (q ∷ h)) r) (tells-record g f s (q ∷ h) all) (knows s.voter v (orderly g f s q h all)) in
      let there = known.finalized p.0 p.2 (omega (arith, p.1)) in
      let at : IsSome (option_map (λ (c : Finalization S D P G C). c.proposal) (past.finalization (seen s.voter v last))) =
      subst (λ (u : ℕ). IsSome (option_map (λ (c : Finalization S D P G C). c.proposal) (past.finalization (seen s.voter v u)))) (p.1 ∙ sym same) there in
      some-explicit (last == 0) (is_some (option_map (λ (c : Finalization S D P G C). c.proposal) (past.finalization (seen s.voter v last)))) (past.verdict_is_true (past.verdict (seen s.voter v last)))
      (views.genesis v) (held (past.offers (seen s.voter v last))) (is-positive last some) at (final-held (seen s.voter v last) (some-mapped (past.finalization (seen s.voter v last)) at))

  -- so a build on the highest explicit view is on none below it
  asked-low : (q : Point S D P G C) (h : History S D P G C) → AreAllowed g f s (q ∷ h) → (view parent : ℕ) (payload : D) → BuildIsDue (member_of s) (known_of s (q ∷ h)) view parent payload → Low (q ∷ h) view parent
  asked-low q h all view parent payload due = ⊎_elim
      (λ before. inr (omega (arith, before.next)))
      (λ other. ⊎_elim
      (λ last. above-final q h all view parent last.covered (λ some. ⊎_elim
      (λ less.
      let m = matches g f s law q h all in
      let behind = final-behind s.voter.length (entries (record_of (q ∷ h))) in
      let same = m.last_finalized in
      let now = m.current in
      let there = final-explicit q h all (omega (arith, less)) in
      let from = due.opens.from in
      absurd (apart (sym (ap (λ (o : Option D). is_some o) (last.highest (views.last_finalized (voter_of s (q ∷ h))) less (omega (arith, behind, same, now, from)))) ∙ there)))
      (λ most. most)
      (cases_lt parent (views.last_finalized (voter_of s (q ∷ h))))))
      (λ over. inr (omega (arith, over.next)))
      other)
      due.preferred

  -- ---- of views that are kept

  record LowAt (h : History S D P G C) (view : ℕ) : Type 0 where
    pub binds : Binds (Low h view) (seen s.voter (voter_of s h) view)
    pub builds : (n : ℕ) (handoff : Bool) (context : Context D P) → build_at h n ≡ Some (handoff, context) → context.round.view ≡ view → Low h view context.parent.0

  abbrev points_at : Point S D P G C → History S D P G C → List (views.Point S D P G C)
  points_at p h = voter_points s (latest (p ∷ h)) (views.last_finalized (voter_of s h)) p

  stays : (p : Point S D P G C) (h : History S D P G C) (view : ℕ) → floor_of s (p ∷ h) ≤ view → ((n : ℕ) (b : Bool × Context D P) → build_at (p ∷ h) n ≡ Some b → build_at h n ≡ Some b)
      → AreLow (Low (p ∷ h) view) view (points_at p h) → LowAt h view → LowAt (p ∷ h) view
  stays p h view kept builds low i = record {
    binds = all-bind (Low (p ∷ h) view) view s.voter (points_at p h) (voter_of s h) low kept
        (binds-less (Low h view) (Low (p ∷ h) view) (λ n at. low-on p h view n at) (seen s.voter (voter_of s h) view) i.binds);
    builds = λ n handoff context a at. low-on p h view context.parent.0 (i.builds n handoff context (builds n (handoff, context) a) at);
  }

  low-outcome : (Q : ℕ → Type 0) (view now at : ℕ) (answer : Option Bool) (outcome : Outcome) → AreLow {S = S} {D = D} {P = P} {G = G} {C = C} Q view (takes_outcome now at answer outcome)
  low-outcome Q view now at (Some true) Counts = (tt, tt)
  low-outcome Q view now at (Some false) Counts = (tt, tt)
  low-outcome Q view now at None Counts = (tt, tt)
  low-outcome Q view now at answer Falls = (tt, tt)
  low-outcome Q view now at answer Passes = tt

  verify-step : (h : History S D P G C) (n : ℕ) (context : Context D P) (p : Proposal D) (view : ℕ) → floor_of s (AsksVerify n context p ∷ h) ≤ view → Allowed g f s h (AsksVerify n context p) → AreAllowed g f s h → LowAt h view → LowAt (AsksVerify n context p ∷ h) view
  verify-step [] n context p view kept a all i = absurd (apart a.order)
  verify-step (q ∷ h) n context p view kept a all i = stays (AsksVerify n context p) (q ∷ h) view kept (λ k b e. e) (
    (λ at. low-on (AsksVerify n context p) (q ∷ h) view p.parent
        (subst (λ (u : ℕ). Low (q ∷ h) u p.parent) at (verified-low q h all context.round.view p.parent a.due.due.parent.span))),
    tt,
  ) i

  build-step : (h : History S D P G C) (n : ℕ) (handoff : Bool) (context : Context D P) (view : ℕ) → floor_of s (AsksBuild n handoff context ∷ h) ≤ view → Allowed g f s h (AsksBuild n handoff context) → AreAllowed g f s h → LowAt h view → LowAt (AsksBuild n handoff context ∷ h) view
  build-step [] n handoff context view kept a all i = absurd (apart a.order)
  build-step (q ∷ h) n handoff context view kept a all i =
      let more = stays-binds in
      record {
        binds = more;
        builds = λ k ho c x at. low-on (AsksBuild n handoff context) (q ∷ h) view c.parent.0 (⊎_elim
            (λ new.
            let mine = asked-low q h all context.round.view context.parent.0 context.parent.1 a.due.due in
            let here : Low (q ∷ h) c.round.view c.parent.0 = subst (λ (b : Bool × Context D P). Low (q ∷ h) b.1.round.view b.1.parent.0) new.1 mine in
            subst (λ (u : ℕ). Low (q ∷ h) u c.parent.0) at here)
            (λ old. i.builds k ho c old at)
            (under n k (handoff, context) (ho, c) (build_at (q ∷ h) k) x));
      }
    where
      stays-binds : Binds (Low (AsksBuild n handoff context ∷ q ∷ h) view) (seen s.voter (voter_of s (AsksBuild n handoff context ∷ q ∷ h)) view)
      stays-binds = all-bind (Low (AsksBuild n handoff context ∷ q ∷ h) view) view s.voter (points_at (AsksBuild n handoff context) (q ∷ h)) (voter_of s (q ∷ h)) (tt, tt) kept
          (binds-less (Low (q ∷ h) view) (Low (AsksBuild n handoff context ∷ q ∷ h) view) (λ k at. low-on (AsksBuild n handoff context) (q ∷ h) view k at) (seen s.voter (voter_of s (q ∷ h)) view) i.binds)

  built-step : (h : History S D P G C) (n : ℕ) (handoff : Bool) (context : Context D P) (payload : Option D) (took : Bool) (view : ℕ) → floor_of s (Built n handoff context payload took ∷ h) ≤ view
      → Allowed g f s h (Built n handoff context payload took) → LowAt h view → LowAt (Built n handoff context payload took ∷ h) view
  built-step h n handoff context (Some d) true view kept a i = stays (Built n handoff context (Some d) true) h view kept (λ k b e. (gone n k b (build_at h k) e).1)
      ((λ at. low-on (Built n handoff context (Some d) true) h view context.parent.0 (i.builds n handoff context a.due.0 at)), tt) i
  built-step h n handoff context None true view kept a i = stays (Built n handoff context None true) h view kept (λ k b e. (gone n k b (build_at h k) e).1) (tt, tt) i
  built-step h n handoff context payload false view kept a i = stays (Built n handoff context payload false) h view kept (λ k b e. (gone n k b (build_at h k) e).1) tt i

  step : (p : Point S D P G C) (h : History S D P G C) (view : ℕ) → floor_of s (p ∷ h) ≤ view → Allowed g f s h p → AreAllowed g f s h → LowAt h view → LowAt (p ∷ h) view
  step (Opened t) h view kept a all i = stays (Opened t) h view kept (λ k b e. e) (tt, tt) i
  step (Found (artifact.Notarize w) taken) h view kept a all i = stays (Found (artifact.Notarize w) taken) h view kept (λ k b e. e) (tt, tt) i
  step (Found (artifact.Notarization c) taken) h view kept a all i = stays (Found (artifact.Notarization c) taken) h view kept (λ k b e. e) (tt, (tt, tt)) i
  step (Found (artifact.Certification r ok) taken) h view kept a all i = stays (Found (artifact.Certification r ok) taken) h view kept (λ k b e. e) (tt, (tt, tt)) i
  step (Found (artifact.Nullify w) taken) h view kept a all i = stays (Found (artifact.Nullify w) taken) h view kept (λ k b e. e) (tt, tt) i
  step (Found (artifact.Nullification c) taken) h view kept a all i = stays (Found (artifact.Nullification c) taken) h view kept (λ k b e. e) (tt, (tt, tt)) i
  step (Found (artifact.Finalize w) taken) h view kept a all i = stays (Found (artifact.Finalize w) taken) h view kept (λ k b e. e) (tt, tt) i
  step (Found (artifact.Finalization c) taken) h view kept a all i = stays (Found (artifact.Finalization c) taken) h view kept (λ k b e. e) (tt, (tt, tt)) i
  step Began h view kept a all i = stays Began h view kept (λ k b e. e) (tt, tt) i
  step (Came c) h view kept a all i = stays (Came c) h view kept (λ k b e. e) (low-certificate (Low (Came c ∷ h) view) view (latest h) (views.last_finalized (voter_of s h)) c) i
  step (Built n handoff context payload took) h view kept a all i = built-step h n handoff context payload took view kept a i
  step (Checked n at answer outcome) h view kept a all i = stays (Checked n at answer outcome) h view kept (λ k b e. e) (low-outcome (Low (Checked n at answer outcome ∷ h) view) view (latest h) at answer outcome) i
  step (Judged r ok) h view kept a all i = stays (Judged r ok) h view kept (λ k b e. e) (tt, tt) i
  step (Forwards at p) h view kept a all i = stays (Forwards at p) h view kept (λ k b e. e) (tt, tt) i
  step (Constructs at kind batch) h view kept a all i = stays (Constructs at kind batch) h view kept (λ k b e. e) (low-option (Low (Constructs at kind batch ∷ h) view) view (latest h) (views.last_finalized (voter_of s h)) batch.certificate) i
  step (Latches at why) h view kept a all i = stays (Latches at why) h view kept (λ k b e. e) (tt, tt) i
  step Polls h view kept a all i = stays Polls h view kept (λ k b e. e) (tt, tt) i
  step (AsksBuild n handoff context) h view kept a all i = build-step h n handoff context view kept a all i
  step (AsksVerify n context p) h view kept a all i = verify-step h n context p view kept a all i
  step (AsksCertify p) h view kept a all i = stays (AsksCertify p) h view kept (λ k b e. e) (tt, tt) i
  step (GivesBack n at) h view kept a all i = stays (GivesBack n at) h view kept (λ k b e. (gone n k b (build_at h k) e).1) (tt, tt) i
  step (LeavesBehind n) h view kept a all i = stays (LeavesBehind n) h view kept (λ k b e. (gone n k b (build_at h k) e).1) tt i
  step (PutsOff at) h view kept a all i = stays (PutsOff at) h view kept (λ k b e. e) (tt, tt) i
  step (Resolves at k u) h view kept a all i = stays (Resolves at k u) h view kept (λ k b e. e) (tt, tt) i
  step (Votes (vote.Notarize w)) h view kept a all i = stays (Votes (vote.Notarize w)) h view kept (λ k b e. e) (tt, tt) i
  step (Votes (vote.Nullify w)) h view kept a all i = stays (Votes (vote.Nullify w)) h view kept (λ k b e. e) (tt, tt) i
  step (Votes (vote.Finalize w)) h view kept a all i = stays (Votes (vote.Finalize w)) h view kept (λ k b e. e) (tt, tt) i
  step (Repeats w best) h view kept a all i = stays (Repeats w best) h view kept (λ k b e. e) (tt, tt) i
  step (Rewrote c) h view kept a all i = stays (Rewrote c) h view kept (λ k b e. e) (tt, tt) i
  step p h view kept a all i = stays p h view kept (λ k b e. e) tt i

  low-at : (h : History S D P G C) → AreAllowed g f s h → (view : ℕ) → floor_of s h ≤ view → LowAt h view
  low-at [] all view kept = record {
    binds = λ none b is. absurd (none-some b is);
    builds = λ n handoff context x at. absurd (none-some (handoff, context) x);
  }
  low-at (p ∷ h) all view kept =
      let rises = (all-rise s.voter (points_at p h) (voter_of s h)).1 in
      step p h view kept all.0 all.1 (low-at h all.1 view (omega (arith, kept, rises)))

  -- what is due names a parent no lower than where the record begins
  pub due-from : (h : History S D P G C) → AreAllowed g f s h → (view : ℕ) (p : Proposal D) → NotarizeIsDue (member_of s) (known_of s h) view → held_at (member_of s) (known_of s h) view ≡ Some p
      → floor (entries (record_of h)) ≤ p.parent
  due-from [] all view p due holds = omega arith
  due-from (q ∷ h) all view p due holds =
      let b = due-binds g f s (q ∷ h) all view p due holds in
      let low = (low-at (q ∷ h) all view due.kept.1).binds due.first (p, b.0) b.1 in
      let begins = (matches g f s law q h all).floor in
      let behind = due.behind in
      ⊎_elim (λ above. above.1) (λ next. omega (arith, next, begins, behind)) low
