-- A member that is alone: what it records stands on ground, since each notarization is of a proposal that it voted for.
use Rattle.std.proofs.Common.{◌≡◌, ◌⊎◌, inl, inr, ⊎_elim, ℕ, zero, suc, ◌≤◌, ◌<◌, ◌==◌, Bool, true, false, List, [], ◌∷◌, ◌++◌, Option, Some, None, length, refl, sym, ◌∙◌, ap, subst, arith, append_assoc}
use Rattle.std.specs.Prelude.{Contains, IfSome, option_map, ⊤}
use Rattle.std.proofs.lemmas.Bool.{cases_Bool, eqb-true}
use Rattle.std.proofs.lemmas.List.{append-nil, map-append}
use Rattle.std.proofs.lemmas.List.Elements.{Contains-append_cases, Contains-append_left, Contains-append_right, Contains-push_cases}
use Rattle.std.proofs.lemmas.Option.{none-some}
use Rattle.types_quorum.specs.Counting.{Contains-cases, Contains-head, Contains-nil}
use Rattle.types_core.specs.declared.position.Round.{Round}
use Rattle.types_core.specs.declared.proposal.Proposal.{Proposal}
use Rattle.types_core.specs.declared.scheme.Scheme.{Ghosts}
use Rattle.types_core.specs.Positions.{term_start}
use Rattle.types_core.specs.Quorum.{IsQuorum}
use Rattle.types_core.specs.Subject.{Statement, notarize, nullify, finalize}
use Rattle.messages_certificates.specs.declared.artifact.Artifact.{Artifact}
use Rattle.messages_certificates.specs.declared.artifact.Artifact.TheVariants as artifact
use Rattle.messages_certificates.specs.declared.certificate.Certificate.{Certificate}
use Rattle.messages_certificates.specs.declared.certificate.Certificate.TheVariants as certificate
use Rattle.messages_certificates.specs.ProposalCertificate.{Notarization}
use Rattle.messages_certificates.specs.Artifact.{certificate_artifact}
use Rattle.simplex_messages.specs.declared.vote.Vote.{Vote}
use Rattle.simplex_messages.specs.declared.vote.Vote.TheVariants as vote
use Rattle.simplex_messages.specs.VoteParts.{vote_artifact}
use Rattle.simplex_record.specs.Chain.{JudgesOnGround, MayFollowOnGround, StandsOnGround}
use Rattle.simplex_record.specs.Record.{Entry, entry, entries, HasJudged, HasTaken, HasVoted}
use Rattle.simplex_record.specs.Record as recorded
use Rattle.simplex_record.specs.Rules.{reach}
use Rattle.voter_history.specs.History.{scheduled_leader}
use Rattle.types_terms.specs.declared.kind.Kind.{Kind}
use Rattle.batcher_verifier.specs.declared.batch.Batch.{Batch}
use Rattle.voter_laws.specs.Alone.{DueNotarizeIsOnGroundOrNext, DueVerdictOfOneIsOnGround, VotesOnGroundOrNext}
use Rattle.voter_laws.specs.Matching.{EachHistoryMatches}
use Rattle.simplex_member.specs.declared.event.Event.{Event}
use Rattle.simplex_member.specs.declared.event.Event.TheVariants as event
use Rattle.simplex_member.specs.declared.refusal.Refusal.TheVariants as refusal
use Rattle.simplex_member.specs.Allowed.{Allowed, AreAllowed, MayRecord}
use Rattle.simplex_member.specs.First.{IsFirst}
use Rattle.simplex_member.specs.Layers.{finalized_of, is_begun, known_of}
use Rattle.simplex_member.specs.Laws.{IsEverAt, RoundLaws}
use Rattle.simplex_member.specs.Lives.{Course, Life, Broken, Lasting, Turn, Refuses, Rewrites, Went, IsCut, Lived, Lives, Turns, points_of, turn_points}
use Rattle.simplex_member.specs.Member.{AreFound, AreOpening, AreStep, Goes, IsPointOf, after}
use Rattle.simplex_member.specs.Packet.{Formats, Packet}
use Rattle.simplex_member.specs.Point.{Point, Opened, Found, Began, Heard, Came, Judged, Constructs, AsksCertify, Votes, Rewrote, History}
use Rattle.simplex_member.specs.Recorded.{added_by, fresh_of, kept_of, put_behind, record_of, recorded_by}
use Rattle.simplex_member.specs.Refusals.{packet_tests, sender_tests, tests}
use Rattle.simplex_member.specs.Setup.{IsOfOneMember, Setup, member_of}
use Rattle.simplex_member.proofs.Ballots.{made-lists}
use Rattle.simplex_member.proofs.Binding.{due-bound}
use Rattle.simplex_member.proofs.Blame.{after-goes}
use Rattle.simplex_member.proofs.Chaining.{added-then, begun-stays, entries-within, ground-more, known-on, put-append}
use Rattle.simplex_member.proofs.Keeping.{kept-part}
use Rattle.simplex_member.proofs.Kept.{above-kept, kept-last, kept-within}
use Rattle.simplex_member.proofs.Three.{AtMostOne, appends-one}
use Rattle.simplex_member.proofs.Feeding.{Each, acts-each, each-append, opening-each, takes_in}
use Rattle.simplex_member.proofs.Judgeable.{due-taken}
use Rattle.simplex_member.proofs.Listed.{vote-entry}
use Rattle.simplex_member.proofs.Lists.{Contains-map, Contains-mapped, put-before, same-first, same-number, same-rest}
use Rattle.simplex_member.proofs.Recordable.{matches}
use Rattle.simplex_member.proofs.Telling.{apart}
use Rattle.simplex_member.proofs.Sameness.{ground-by, same-turned}
use Rattle.simplex_member.proofs.Walking.{IsLived, cut_points, each-first, ever-at, goes-part, life-goes, lived-first}

some-there : {X : Type 0} (xs : List X) → 1 ≤ length xs → (x : X) × Contains xs x
some-there [] long = absurd (omega (arith, long))
some-there (x ∷ xs) long = (x, Contains-head x xs)

module _ {D : Type 0} where
  -- each notarization above the last finalized view is of a proposal that was voted for
  abbrev pub OwnAbove : List (Entry D) → Type 0
  OwnAbove r = (p : Proposal D) → recorded.last_finalized r < p.round.view → HasTaken r (notarize p) → HasVoted r (notarize p)

  -- an entry is of such a proposal, if it is a notarization
  abbrev MayOwn : List (Entry D) → Entry D → Type 0
  MayOwn r (recorded.taken (notarize p)) = HasVoted r (notarize p)
  MayOwn r e = ⊤

  final-behind : (r : List (Entry D)) (e : Entry D) → recorded.last_finalized r ≤ recorded.last_finalized (r ++ e ∷ [])
  final-behind [] e = omega arith
  final-behind (x ∷ r) e = let rest = final-behind r e in omega (arith, rest)

  own-grows : (r : List (Entry D)) (e : Entry D) → OwnAbove r → MayOwn r e → OwnAbove (r ++ e ∷ [])
  own-grows r e own may p above here = Contains-append_left r (e ∷ []) (recorded.voted (notarize p)) (⊎_elim
      (λ before. let low = final-behind r e in own p (omega (arith, above, low)) before)
      (λ now. subst (λ (x : Entry D). MayOwn r x) now may)
      (Contains-push_cases r e (recorded.taken (notarize p)) here))

module _ {D : Type 0} (views : ℕ) (leader : ℕ → Option ℕ) (member : ℕ) where
  -- what a member alone ever recorded: each vote to notarize stands on ground or was handed over, each true verdict on ground
  pub record StandsAlone (r : List (Entry D)) : Type 0 where
    pub next : (p : Proposal D) → HasVoted r (notarize p) → VotesOnGroundOrNext views leader member r p
    pub good : (t : Round) → HasJudged r t true → JudgesOnGround 1 views r t

  -- one entry more may follow
  abbrev pub MayFollowAlone : List (Entry D) → Entry D → Type 0
  MayFollowAlone before (recorded.voted (notarize p)) = VotesOnGroundOrNext views leader member before p
  MayFollowAlone before (recorded.voted (nullify r)) = ⊤
  MayFollowAlone before (recorded.voted (finalize p)) = ⊤
  MayFollowAlone before (recorded.taken s) = ⊤
  MayFollowAlone before (recorded.judged r true) = JudgesOnGround 1 views before r
  MayFollowAlone before (recorded.judged r false) = ⊤

  module _ (r more : List (Entry D)) (within : (e : Entry D) → Contains r e → Contains more e) where
    pub votes-more : (p : Proposal D) → VotesOnGroundOrNext views leader member r p → VotesOnGroundOrNext views leader member more p
    votes-more p is = λ start. ⊎_elim (λ ground. inl (ground-more r more within p.parent ground)) (λ next. inr next) (is start)

    pub judges-more : (t : Round) → JudgesOnGround 1 views r t → JudgesOnGround 1 views more t
    judges-more t is = (is.0, is.1, within (recorded.taken (notarize is.0)) is.2, λ needed. ground-more r more within is.0.parent (is.3 needed))

  behind : (r : List (Entry D)) (e x : Entry D) → Contains r x → Contains (r ++ e ∷ []) x
  behind r e x here = Contains-append_left r (e ∷ []) x here

  pub alone-grows : (r : List (Entry D)) (e : Entry D) → StandsAlone r → MayFollowAlone r e → StandsAlone (r ++ e ∷ [])
  alone-grows r e is may = record {
    next = λ p here. votes-more r (r ++ e ∷ []) (behind r e) p (⊎_elim
        (λ before. is.next p before)
        (λ now. subst (λ (x : Entry D). MayFollowAlone r x) now may)
        (Contains-push_cases r e (recorded.voted (notarize p)) here));
    good = λ t here. judges-more r (r ++ e ∷ []) (behind r e) t (⊎_elim
        (λ before. is.good t before)
        (λ now. subst (λ (x : Entry D). MayFollowAlone r x) now may)
        (Contains-push_cases r e (recorded.judged t true) here));
  }

  pub nothing-alone : StandsAlone []
  nothing-alone = record {
    next = λ p here. absurd (omega (arith, here.1));
    good = λ t here. absurd (omega (arith, here.1));
  }

  -- what follows so follows on ground
  pub follows-ground : (before : List (Entry D)) (e : Entry D) → MayFollowAlone before e → MayFollowOnGround 1 views leader member before e
  follows-ground before (recorded.voted (notarize p)) may = λ start. ⊎_elim (λ ground. inl ground) (λ next. inr next.0) (may start)
  follows-ground before (recorded.voted (nullify r)) may = tt
  follows-ground before (recorded.voted (finalize p)) may = tt
  follows-ground before (recorded.taken s) may = tt
  follows-ground before (recorded.judged r true) may = may
  follows-ground before (recorded.judged r false) may = tt

  -- such a record stands on ground
  pub alone-stands : (r : List (Entry D)) → StandsAlone r → StandsOnGround 1 views leader member r
  alone-stands r is = record {
    judged = is.good;
    voted = λ p here. λ start. ⊎_elim (λ ground. inl ground) (λ next. inr next.0) (is.next p here start);
  }

module _ {S D P G C : Type 0} where
  abbrev is_certify : Point S D P G C → Bool
  is_certify (AsksCertify p) = true
  is_certify p = false

  -- a point is no certificate that came in
  abbrev pub IsNoneOfOthers : Point S D P G C → Type 0
  IsNoneOfOthers (Came c) = ⊥
  IsNoneOfOthers p = ⊤

  own-or-came : (p : Point S D P G C) → IsNoneOfOthers p ⊎ ((c : Certificate S D P G C) × (p ≡ Came c))
  own-or-came (Came c) = inr (c, refl)
  own-or-came p = inl tt

  pub quiet-none : (p : Point S D P G C) → takes_in p ≡ false → IsNoneOfOthers p
  quiet-none (Came c) none = absurd (apart (sym none))
  quiet-none p none = tt

module _ {S D P G C : Type 0} (g : Ghosts S D P G C) (f : Formats S D P G C) (s : Setup S D C) where
  abbrev pub Alone : List (Artifact S D P G C) → Type 0
  Alone r = StandsAlone s.voter.length (scheduled_leader s.voter) s.me (entries r)

  -- what may follow all that was ever recorded, and what the opening found and was recorded since
  abbrev MayAlone : List (Artifact S D P G C) → History S D P G C → Artifact S D P G C → Type 0
  MayAlone ever h x = MayFollowAlone s.voter.length (scheduled_leader s.voter) s.me (entries (ever ++ fresh_of h)) (entry x) × MayOwn (entries (record_of h)) (entry x)

  abbrev Judges : List (Artifact S D P G C) → Round → Type 0
  Judges r t = JudgesOnGround 1 s.voter.length (entries r) t

  -- what is asked is asked once the record was gone through
  asked-begun : (h : History S D P G C) → AreAllowed g f s h → (p : Proposal D) → Contains h (AsksCertify p) → is_begun h ≡ true
  asked-begun [] all p here = absurd (omega (arith, here.1))
  asked-begun (q ∷ h) all p here = ⊎_elim
      (λ is. begun-stays g f s q h (subst (λ (x : Point S D P G C). Allowed g f s h x) is all.0).order)
      (λ later. begun-stays g f s q h (asked-begun h all.1 p later))
      (Contains-cases q h (AsksCertify p) here)

  came-stands : (r : List (Artifact S D P G C)) (c : Certificate S D P G C) → MayFollowOnGround 1 s.voter.length (scheduled_leader s.voter) s.me (entries r) (entry (certificate_artifact c))
  came-stands r (certificate.Notarization c) = tt
  came-stands r (certificate.Nullification c) = tt
  came-stands r (certificate.Finalization c) = tt

  records-ground : (ever : List (Artifact S D P G C)) (h : History S D P G C) (o : Option (Artifact S D P G C)) → IfSome o (MayAlone ever h)
      → IfSome o (λ x. MayFollowOnGround 1 s.voter.length (scheduled_leader s.voter) s.me (entries (ever ++ fresh_of h)) (entry x))
  records-ground ever h None may = tt
  records-ground ever h (Some x) may = follows-ground s.voter.length (scheduled_leader s.voter) s.me (entries (ever ++ fresh_of h)) (entry x) may.0

  -- of what an opening went through, and more, a part behind which the record was gone through: it has all of that
  begun-part : (h : History S D P G C) (xs : List (Artifact S D P G C)) (read more before behind : List (Point S D P G C)) → AreFound xs read → read ++ (Began ∷ more) ≡ before ++ behind → is_begun h ≡ false → is_begun (after h before) ≡ true
      → (rest : List (Point S D P G C)) × (before ≡ read ++ (Began ∷ rest))
  begun-part h xs read more [] behind are is none begun = absurd (apart (sym none ∙ begun))
  begun-part h [] [] more (p ∷ before) behind are is none begun = (before, ap (λ (q : Point S D P G C). q ∷ before) (sym (same-first Began p more (before ++ behind) is)))
  begun-part h (x ∷ xs) (Found y taken ∷ read) more (p ∷ before) behind are is none begun =
      let first = same-first (Found y taken) p (read ++ (Began ∷ more)) (before ++ behind) is in
      let part = begun-part (p ∷ h) xs read more before behind are.1 (same-rest (Found y taken) p (read ++ (Began ∷ more)) (before ++ behind) is) (subst (λ (q : Point S D P G C). is_begun (q ∷ h) ≡ false) first none) begun in
      (part.0, ap (λ (q : Point S D P G C). q ∷ before) (sym first) ∙ ap (λ (l : List (Point S D P G C)). Found y taken ∷ l) part.1)
  begun-part h [] (q ∷ read) more (p ∷ before) behind never is none begun = absurd never
  begun-part h (x ∷ xs) [] more (p ∷ before) behind never is none begun = absurd never
  begun-part h (x ∷ xs) (q ∷ read) more (p ∷ before) behind never is none begun = absurd never

  opened-part : (now : ℕ) (found : List (Artifact S D P G C)) (read more before behind : List (Point S D P G C)) → AreFound found read → Opened now ∷ (read ++ (Began ∷ more)) ≡ before ++ behind → is_begun (after [] before) ≡ true
      → (rest : List (Point S D P G C)) × (before ≡ Opened now ∷ (read ++ (Began ∷ rest)))
  opened-part now found read more [] behind are is begun = absurd (apart begun)
  opened-part now found read more (p ∷ before) behind are is begun =
      let first = same-first (Opened now) p (read ++ (Began ∷ more)) (before ++ behind) is in
      let part = begun-part (p ∷ []) found read more before behind are (same-rest (Opened now) p (read ++ (Began ∷ more)) (before ++ behind) is) (subst (λ (q : Point S D P G C). is_begun (q ∷ []) ≡ false) first refl) begun in
      (part.0, ap (λ (q : Point S D P G C). q ∷ before) (sym first) ∙ ap (λ (l : List (Point S D P G C)). Opened now ∷ l) part.1)

  -- a history of a member alone that ever recorded these before, once the record was gone through
  pub record IsAlone (ever : List (Artifact S D P G C)) (h : History S D P G C) : Type 0 where
    pub allowed : AreAllowed g f s h
    pub begun : is_begun h ≡ true
    pub known : (x : Artifact S D P G C) → Contains (record_of h) x → Contains (ever ++ fresh_of h) x
    pub own : OwnAbove (entries (record_of h))
    pub alone : Alone (ever ++ fresh_of h)
    pub asked : (p : Proposal D) → Contains h (AsksCertify p) → Judges (ever ++ fresh_of h) p.round

  module _ (law : EachHistoryMatches S D P G C) (notarize_law : DueNotarizeIsOnGroundOrNext D) (verdict : DueVerdictOfOneIsOnGround D) (laws : RoundLaws g f.same)
      (mine : s.voter.me ≡ Some s.me) (one : g.size s.voter.scheme ≡ 1) (first : s.me ≡ 0)
      (backed : (x : Statement D) (c : C) → g.certifies s.voter.scheme x c → IsQuorum (g.size s.voter.scheme) (λ i a. g.attests s.voter.scheme i x a) (g.lists c)) where
    -- no vote of another is heard
    heard-none : (h : History S D P G C) (v : Vote S D P G C) → Allowed g f s h (Heard v) → ⊥
    heard-none h v a = a.due.another (omega (arith, a.due.member, one, first))

    none-heard : (h : History S D P G C) → AreAllowed g f s h → (v : Vote S D P G C) → Contains h (Heard v) → ⊥
    none-heard [] all v here = absurd (omega (arith, here.1))
    none-heard (p ∷ h) all v here = ⊎_elim
        (λ is. heard-none h v (subst (λ (x : Point S D P G C). Allowed g f s h x) is all.0))
        (λ later. none-heard h all.1 v later)
        (Contains-cases p h (Heard v) here)

    -- a notarization that is made is of a proposal that was voted for
    made-own : (h : History S D P G C) → AreAllowed g f s h → (view : ℕ) (kind : Kind) (batch : Batch (Certificate S D P G C)) → Allowed g f s h (Constructs view kind batch)
        → (c : Notarization S D P G C) → batch.certificate ≡ Some (certificate.Notarization c) → HasVoted (entries (record_of h)) (notarize c.proposal)
    made-own h all view kind batch a c made =
        let may : MayRecord g f s h (certificate_artifact (certificate.Notarization c)) = subst (λ (o : Option (Certificate S D P G C)). IfSome (option_map certificate_artifact o) (MayRecord g f s h)) made a.fits in
        let q = subst (λ (n : ℕ). IsQuorum n (λ i x. g.attests s.voter.scheme i (notarize c.proposal) x) (g.lists c.certificate)) one (backed (notarize c.proposal) c.certificate may.verifies.verifies) in
        let some = some-there (g.lists c.certificate) q.enough in
        let of = made-lists g f s laws h all view kind batch a (certificate.Notarization c) made some.0 some.1 in
        ⊎_elim
        (λ heard. absurd (none-heard h all of.vote heard))
        (λ own. subst (λ (e : Entry D). Contains (entries (record_of h)) e) (vote-entry of.vote ∙ ap (λ (x : Statement D). recorded.voted x) of.states)
        (Contains-map entry (record_of h) (vote_artifact of.vote) own.1))
        of.known

    made-may : (ever : List (Artifact S D P G C)) (h : History S D P G C) → AreAllowed g f s h → (view : ℕ) (kind : Kind) (batch : Batch (Certificate S D P G C)) → Allowed g f s h (Constructs view kind batch)
        → (o : Option (Certificate S D P G C)) → batch.certificate ≡ o → IfSome (option_map certificate_artifact o) (MayAlone ever h)
    made-may ever h all view kind batch a None made = tt
    made-may ever h all view kind batch a (Some (certificate.Notarization c)) made = (tt, made-own h all view kind batch a c made)
    made-may ever h all view kind batch a (Some (certificate.Nullification c)) made = (tt, tt)
    made-may ever h all view kind batch a (Some (certificate.Finalization c)) made = (tt, tt)

    -- what is recorded is of what was ever recorded
    all-known : (ever : List (Artifact S D P G C)) (h : History S D P G C) → IsAlone ever h → (e : Entry D) → Contains (entries (record_of h)) e → Contains (entries (ever ++ fresh_of h)) e
    all-known ever h is e here = entries-within (record_of h) (ever ++ fresh_of h) is.known e here

    records-alone : (ever : List (Artifact S D P G C)) (h : History S D P G C) → IsAlone ever h → (p : Point S D P G C) → Allowed g f s h p → IsNoneOfOthers p → IfSome (recorded_by p) (MayAlone ever h)
    records-alone ever h is (Found x taken) a own = absurd (apart (sym a.order.1 ∙ is.begun))
    records-alone ever h is (Came c) a own = absurd own
    records-alone ever h is (Judged r true) a own =
        let on = is.asked a.due.proposal a.due.asked in
        ((on.0, on.1 ∙ a.due.at, on.2, on.3), tt)
    records-alone ever h is (Judged r false) a own = (tt, tt)
    records-alone ever h is (Constructs view kind batch) a own = made-may ever h is.allowed view kind batch a batch.certificate refl
    records-alone ever [] is (Votes (vote.Notarize v)) a own = absurd (apart is.begun)
    records-alone ever (q ∷ h) is (Votes (vote.Notarize v)) a own = (
      votes-more s.voter.length (scheduled_leader s.voter) s.me (entries (record_of (q ∷ h))) (entries (ever ++ fresh_of (q ∷ h))) (all-known ever (q ∷ h) is) v.proposal
          (notarize_law (member_of s) (known_of s (q ∷ h)) (entries (record_of (q ∷ h))) v.proposal.round.view s.me v.proposal mine (matches g f s law q h is.allowed)
          (due-bound g f s laws (q ∷ h) is.allowed v.proposal.round.view v.proposal a.due.0 a.due.1) a.due.0),
      tt,
    )
    records-alone ever h is (Votes (vote.Nullify v)) a own = (tt, tt)
    records-alone ever h is (Votes (vote.Finalize v)) a own = (tt, tt)
    records-alone ever h is p a own = tt

    -- what may come next stands on ground, also where it came in
    allowed-stands : (ever : List (Artifact S D P G C)) (h : History S D P G C) → IsAlone ever h → (p : Point S D P G C) → Allowed g f s h p
        → IfSome (recorded_by p) (λ x. MayFollowOnGround 1 s.voter.length (scheduled_leader s.voter) s.me (entries (ever ++ fresh_of h)) (entry x))
    allowed-stands ever h is p a = ⊎_elim
        (λ own. records-ground ever h (recorded_by p) (records-alone ever h is p a own))
        (λ came. subst (λ (q : Point S D P G C). IfSome (recorded_by q) (λ x. MayFollowOnGround 1 s.voter.length (scheduled_leader s.voter) s.me (entries (ever ++ fresh_of h)) (entry x))) (sym came.1) (came-stands (ever ++ fresh_of h) came.0))
        (own-or-came p)

    -- a verdict that is asked for stands on ground
    due-judges : (ever : List (Artifact S D P G C)) (h : History S D P G C) → IsAlone ever h → (p : Proposal D) → Allowed g f s h (AsksCertify p) → Judges (ever ++ fresh_of h) p.round
    due-judges ever [] is p a = absurd (apart is.begun)
    due-judges ever (q ∷ h) is p a = ⊎_elim
        (λ start. ⊎_elim
        (λ ground. (p, refl, within (recorded.taken (notarize p)) taken, λ needed. ground))
        (λ handed. by-law (λ s_start. inr handed))
        (is.alone.next p (within (recorded.voted (notarize p)) own) (eqb-true p.round.view (term_start s.voter.length p.round.view) start)))
        (λ inside. by-law (λ start. absurd (apart (sym inside ∙ same-number p.round.view (term_start s.voter.length p.round.view) start))))
        (cases_Bool (p.round.view == term_start s.voter.length p.round.view))
      where
        within : (e : Entry D) → Contains (entries (record_of (q ∷ h))) e → Contains (entries (ever ++ fresh_of (q ∷ h))) e
        within = all-known ever (q ∷ h) is

        taken : HasTaken (entries (record_of (q ∷ h))) (notarize p)
        taken = due-taken g f s law (q ∷ h) is.allowed p a

        own : HasVoted (entries (record_of (q ∷ h))) (notarize p)
        own = is.own p (omega (arith, a.due.opens.above, (matches g f s law q h is.allowed).last_finalized)) taken

        by-law : VotesOnGroundOrNext s.voter.length (scheduled_leader s.voter) s.me (entries (record_of (q ∷ h))) p → Judges (ever ++ fresh_of (q ∷ h)) p.round
        by-law next = judges-more s.voter.length (scheduled_leader s.voter) s.me (entries (record_of (q ∷ h))) (entries (ever ++ fresh_of (q ∷ h))) within p.round
            (verdict (member_of s) (known_of s (q ∷ h)) (entries (record_of (q ∷ h))) p.round.view s.me p mine (matches g f s law q h is.allowed) own next a.due)

    put-alone : (xs : List (Artifact S D P G C)) (o : Option (Artifact S D P G C)) → Alone xs → IfSome o (λ x. MayFollowAlone s.voter.length (scheduled_leader s.voter) s.me (entries xs) (entry x)) → Alone (put_behind xs o)
    put-alone xs None is may = is
    put-alone xs (Some x) is may =
        subst (λ (es : List (Entry D)). StandsAlone s.voter.length (scheduled_leader s.voter) s.me es) (sym (map-append entry xs (x ∷ [])))
        (alone-grows s.voter.length (scheduled_leader s.voter) s.me (entries xs) (entry x) is may)

    put-own : (xs : List (Artifact S D P G C)) (o : Option (Artifact S D P G C)) → OwnAbove (entries xs) → IfSome o (λ x. MayOwn (entries xs) (entry x)) → OwnAbove (entries (put_behind xs o))
    put-own xs None is may = is
    put-own xs (Some x) is may = subst (λ (es : List (Entry D)). OwnAbove es) (sym (map-append entry xs (x ∷ []))) (own-grows (entries xs) (entry x) is may)

    first-of : (ever : List (Artifact S D P G C)) (h : History S D P G C) (o : Option (Artifact S D P G C)) → IfSome o (MayAlone ever h)
        → IfSome o (λ x. MayFollowAlone s.voter.length (scheduled_leader s.voter) s.me (entries (ever ++ fresh_of h)) (entry x))
    first-of ever h None may = tt
    first-of ever h (Some x) may = may.0

    second-of : (ever : List (Artifact S D P G C)) (h : History S D P G C) (o : Option (Artifact S D P G C)) → IfSome o (MayAlone ever h) → IfSome o (λ x. MayOwn (entries (record_of h)) (entry x))
    second-of ever h None may = tt
    second-of ever h (Some x) may = may.1

    alone-on : (ever : List (Artifact S D P G C)) (h : History S D P G C) → IsAlone ever h → (p : Point S D P G C) → Allowed g f s h p → IsNoneOfOthers p → IsAlone ever (p ∷ h)
    alone-on ever h is p a own =
        let added = added-then g f s p h is.begun a in
        let may = records-alone ever h is p a own in
        let follows = subst (λ (o : Option (Artifact S D P G C)). IfSome o (λ x. MayFollowAlone s.voter.length (scheduled_leader s.voter) s.me (entries (ever ++ fresh_of h)) (entry x))) (sym added) (first-of ever h (recorded_by p) may) in
        record {
          allowed = (a, is.allowed);
          begun = begun-stays g f s p h is.begun;
          known = known-on ever h p added is.known;
          own = put-own (record_of h) (recorded_by p) is.own (second-of ever h (recorded_by p) may);
          alone = subst Alone (put-append ever (fresh_of h) (added_by p)) (put-alone (ever ++ fresh_of h) (added_by p) is.alone follows);
          asked = λ q here. judges-more s.voter.length (scheduled_leader s.voter) s.me (entries (ever ++ fresh_of h)) (entries (ever ++ fresh_of (p ∷ h)))
              (entries-within (ever ++ fresh_of h) (ever ++ fresh_of (p ∷ h)) (λ x there. subst (λ (l : List (Artifact S D P G C)). Contains l x) (put-append ever (fresh_of h) (added_by p)) (put-before (ever ++ fresh_of h) (added_by p) x there))) q.round
              (⊎_elim
              (λ now. due-judges ever h is q (subst (λ (x : Point S D P G C). Allowed g f s h x) now a))
              (λ later. is.asked q later)
              (Contains-cases p h (AsksCertify q) here));
        }

    goes-alone : (ever : List (Artifact S D P G C)) (h : History S D P G C) (points : List (Point S D P G C)) (end : History S D P G C) → Goes g f s h points end → Each IsNoneOfOthers points → IsAlone ever h → IsAlone ever end
    goes-alone ever h [] end goes own is = subst (λ (k : History S D P G C). IsAlone ever k) (sym goes) is
    goes-alone ever h (p ∷ points) end goes own is = goes-alone ever (p ∷ h) points end goes.1 own.1 (alone-on ever h is p goes.0 own.0)

    -- what was found is of what was ever recorded, and is all that is there once it was gone through
    pub record Begins (ever found : List (Artifact S D P G C)) : Type 0 where
      pub part : (x : Artifact S D P G C) → Contains found x → Contains ever x
      pub own : OwnAbove (entries found)
      pub alone : Alone ever

    read-alone : (ever found : List (Artifact S D P G C)) (h : History S D P G C) (xs : List (Artifact S D P G C)) (read more : List (Point S D P G C)) (end : History S D P G C) → AreFound xs read → Goes g f s h (read ++ (Began ∷ more)) end
        → Each IsNoneOfOthers (read ++ (Began ∷ more)) → AreAllowed g f s h → fresh_of h ≡ [] → record_of h ++ xs ≡ found → Begins ever found → IsAlone ever end
    read-alone ever found h [] [] more end are goes own all none whole is =
        let ever_is : ever ++ fresh_of h ≡ ever = ap (λ (l : List (Artifact S D P G C)). ever ++ l) none ∙ append-nil ever in
        let found_is : record_of h ≡ found = sym (append-nil (record_of h)) ∙ whole in
        goes-alone ever (Began ∷ h) more end goes.1 own.1 (record {
          allowed = (goes.0, all);
          begun = refl;
          known = λ x here. subst (λ (l : List (Artifact S D P G C)). Contains l x) (sym ever_is) (is.part x (subst (λ (l : List (Artifact S D P G C)). Contains l x) found_is here));
          own = subst (λ (l : List (Artifact S D P G C)). OwnAbove (entries l)) (sym found_is) is.own;
          alone = subst Alone (sym ever_is) is.alone;
          asked = λ p here. absurd (⊎_elim
              (λ never. apart (ap is_certify never))
              (λ later. apart (sym goes.0.order.1 ∙ asked-begun h all p later))
              (Contains-cases Began h (AsksCertify p) here));
        })
    read-alone ever found h (x ∷ xs) (Found y taken ∷ read) more end are goes own all none whole is =
        read-alone ever found (Found y taken ∷ h) xs read more end are.1 goes.1 own.1 (goes.0, all) none
        (subst (λ (z : Artifact S D P G C). (record_of h ++ z ∷ []) ++ xs ≡ found) (sym are.0) (append_assoc (record_of h) (x ∷ []) xs ∙ whole)) is
    read-alone ever found h [] (p ∷ read) more end never goes own all none whole is = absurd never
    read-alone ever found h (x ∷ xs) [] more end never goes own all none whole is = absurd never
    read-alone ever found h (x ∷ xs) (p ∷ read) more end never goes own all none whole is = absurd never

    walk-alone : (ever : List (Artifact S D P G C)) (now : ℕ) (found : List (Artifact S D P G C)) (points more all : List (Point S D P G C)) (end : History S D P G C) → AreOpening g f s now found points → all ≡ points ++ more → Goes g f s [] all end
        → Each IsNoneOfOthers all → Begins ever found → IsAlone ever end
    walk-alone ever now found points more all end o is goes own alone =
        let whole : all ≡ Opened now ∷ (o.read ++ (Began ∷ (o.acts ++ more))) =
        is ∙ (ap (λ (l : List (Point S D P G C)). l ++ more) o.split ∙ ap (λ (l : List (Point S D P G C)). Opened now ∷ l) (append_assoc o.read (Began ∷ o.acts) more)) in
        let gone = subst (λ (l : List (Point S D P G C)). Goes g f s [] l end) whole goes in
        let none = subst (λ (l : List (Point S D P G C)). Each IsNoneOfOthers l) whole own in
        read-alone ever found (Opened now ∷ []) found o.read (o.acts ++ more) end o.are gone.1 none.1 (gone.0, tt) refl refl alone

    life-alone : (ever found : List (Artifact S D P G C)) (life : Course S D P G C) (end : History S D P G C) → Lived g f s found life end → Each IsNoneOfOthers (points_of life) → Begins ever found → IsAlone ever end
    life-alone ever found (Broken now points) end lived own alone = walk-alone ever now found points [] points end lived.0 (sym (append-nil points)) lived.1 own alone
    life-alone ever found (Lasting now points turns cut) end lived own alone =
        walk-alone ever now found points (turn_points turns ++ cut_points cut) (points ++ turn_points turns ++ cut_points cut) end lived.2 (append_assoc points (turn_points turns) (cut_points cut)) (life-goes g f s found (Lasting now points turns cut) end lived) own alone

    -- ---- no packet is taken

    no-packet : (sender : ℕ) (h : History S D P G C) (o : Option (Packet S D P G C)) → IsFirst (sender_tests g f s sender ++ packet_tests g f s h sender o) None → ⊥
    no-packet zero h o passes = ⊎_elim (λ t. none-some refusal.UnknownSender t.1) (λ n. ⊎_elim (λ t. none-some refusal.OwnName t.1) (λ another. another.0 (sym first)) n.1) passes
    no-packet (suc k) h o passes = ⊎_elim (λ t. none-some refusal.UnknownSender t.1) (λ n. n.0 (omega (arith, one))) passes

    first-own : (e : Event D) (h : History S D P G C) → IsFirst (tests g f s h e) None → (p : Point S D P G C) → IsPointOf g f s e p → IsNoneOfOthers p
    first-own (event.Packet sender by bytes) h passes p is = absurd (no-packet sender h (f.packet_in by bytes.items) passes)
    first-own (event.Built number payload) h passes (Came c) is = absurd is
    first-own (event.Checked number answer) h passes (Came c) is = absurd is
    first-own (event.Verdict view ok) h passes (Came c) is = absurd is
    first-own (event.Moment now) h passes (Came c) is = absurd is
    first-own e h passes p is = tt

    -- ---- so nothing that came in stands in a life

    step-own : (h : History S D P G C) (e : Event D) (points : List (Point S D P G C)) → AreStep g f s h e points → Each IsNoneOfOthers points
    step-own h e points step = subst (λ (l : List (Point S D P G C)). Each IsNoneOfOthers l) (sym step.split) (first-own e h step.passes step.first step.of_it, acts-each g f s IsNoneOfOthers quiet-none step.acts step.own)

    turns-own : (h : History S D P G C) (turns : List (Turn S D P G C)) (end : History S D P G C) → Turns g f s h turns end → Each IsNoneOfOthers (turn_points turns)
    turns-own h [] end t = tt
    turns-own h (Refuses e r ∷ turns) end t = turns-own h turns end t.1
    turns-own h (Went e points ∷ turns) end t = each-append IsNoneOfOthers points (turn_points turns) (step-own h e points t.1) (turns-own t.0 turns end t.3)
    turns-own h (Rewrites c ∷ turns) end t = (tt, turns-own (Rewrote c ∷ h) turns end t.1)

    cut-own : (h : History S D P G C) (cut : Option (Event D × List (Point S D P G C))) (end : History S D P G C) → IsCut g f s h cut end → Each IsNoneOfOthers (cut_points cut)
    cut-own h None end is = tt
    cut-own h (Some c) end is = step-own h c.0 c.1 is.0

    opening-own : (now : ℕ) (found : List (Artifact S D P G C)) (points : List (Point S D P G C)) → AreOpening g f s now found points → Each IsNoneOfOthers points
    opening-own now found points o = opening-each g f s IsNoneOfOthers quiet-none now found points o (λ x taken there. tt)

    life-own : (found : List (Artifact S D P G C)) (life : Course S D P G C) (end : History S D P G C) → Lived g f s found life end → Each IsNoneOfOthers (points_of life)
    life-own found (Broken now points) end lived = opening-own now found points lived.0
    life-own found (Lasting now points turns cut) end lived = each-append IsNoneOfOthers (points ++ turn_points turns) (cut_points cut)
        (each-append IsNoneOfOthers points (turn_points turns) (opening-own now found points lived.2) (turns-own lived.0 turns lived.1 lived.4)) (cut-own lived.1 cut end lived.5)

    -- ---- on the way

    -- of a life that begins so, up to a place behind which the record was gone through
    part-alone : (ever : List (Artifact S D P G C)) (now : ℕ) (found : List (Artifact S D P G C)) (points more before behind : List (Point S D P G C)) (h : History S D P G C) → AreOpening g f s now found points → points ++ more ≡ before ++ behind
        → Goes g f s [] before h → is_begun h ≡ true → Each IsNoneOfOthers before → Begins ever found → IsAlone ever h
    part-alone ever now found points more before behind h o same goes begun own alone =
        let whole : Opened now ∷ (o.read ++ (Began ∷ (o.acts ++ more))) ≡ before ++ behind =
        ap (λ (l : List (Point S D P G C)). Opened now ∷ l) (sym (append_assoc o.read (Began ∷ o.acts) more)) ∙ (ap (λ (l : List (Point S D P G C)). l ++ more) (sym o.split) ∙ same) in
        let part = opened-part now found o.read (o.acts ++ more) before behind o.are whole (subst (λ (k : History S D P G C). is_begun k ≡ true) (sym (after-goes g f s [] before h goes)) begun) in
        let gone = subst (λ (l : List (Point S D P G C)). Goes g f s [] l h) part.1 goes in
        let none = subst (λ (l : List (Point S D P G C)). Each IsNoneOfOthers l) part.1 own in
        read-alone ever found (Opened now ∷ []) found o.read part.0 h o.are gone.1 none.1 (gone.0, tt) refl refl alone

    life-part : (ever found : List (Artifact S D P G C)) (life : Course S D P G C) (end : History S D P G C) → Lived g f s found life end → Begins ever found
        → (before behind : List (Point S D P G C)) → points_of life ≡ before ++ behind → is_begun (after [] before) ≡ true → IsAlone ever (after [] before)
    life-part ever found life end lived alone before behind split begun =
        let goes = goes-part g f s [] end before behind (subst (λ (l : List (Point S D P G C)). Goes g f s [] l end) split (life-goes g f s found life end lived)) in
        let own = each-first IsNoneOfOthers before behind (subst (λ (l : List (Point S D P G C)). Each IsNoneOfOthers l) split (life-own found life end lived)) in
        go life lived split goes own
      where
        go : (l : Course S D P G C) → Lived g f s found l end → points_of l ≡ before ++ behind → Goes g f s [] before (after [] before) → Each IsNoneOfOthers before → IsAlone ever (after [] before)
        go (Broken now points) is same goes own = part-alone ever now found points [] before behind (after [] before) is.0 (append-nil points ∙ same) goes begun own alone
        go (Lasting now points turns cut) is same goes own = part-alone ever now found points (turn_points turns ++ cut_points cut) before behind (after [] before) is.2 (sym (append_assoc points (turn_points turns) (cut_points cut)) ∙ same) goes begun own alone

    -- ---- what begins so

    -- with the floor that was appended
    founded-begins : (ever found founded : List (Artifact S D P G C)) → AtMostOne founded → Begins ever found → Begins (ever ++ founded) (found ++ founded)
    founded-begins ever found founded which is = record {
      part = λ x here. ⊎_elim (λ before. Contains-append_left ever founded x (is.part x before)) (λ floor. Contains-append_right ever founded x floor) (Contains-append_cases found founded x here);
      own = ⊎_elim
          (λ none. subst (λ (l : List (Artifact S D P G C)). OwnAbove (entries (found ++ l))) (sym none) (subst (λ (l : List (Artifact S D P G C)). OwnAbove (entries l)) (sym (append-nil found)) is.own))
          (λ one. subst (λ (l : List (Artifact S D P G C)). OwnAbove (entries (found ++ l))) (sym one.1) (put-own found (Some (artifact.Finalization one.0)) is.own tt))
          which;
      alone = ⊎_elim
          (λ none. subst (λ (l : List (Artifact S D P G C)). Alone (ever ++ l)) (sym none) (subst Alone (sym (append-nil ever)) is.alone))
          (λ one. subst (λ (l : List (Artifact S D P G C)). Alone (ever ++ l)) (sym one.1) (put-alone ever (Some (artifact.Finalization one.0)) is.alone tt))
          which;
    }

    -- and what is kept at the end of a life
    kept-own : (ever : List (Artifact S D P G C)) (h : History S D P G C) → IsAlone ever h → OwnAbove (entries (kept_of s.voter.length h))
    kept-own ever [] is p above here = absurd (apart is.begun)
    kept-own ever (q ∷ h) is p above here =
        let last = kept-last g f s (q ∷ h) is.allowed in
        let same = (matches g f s law q h is.allowed).last_finalized in
        let x = Contains-mapped entry (kept_of s.voter.length (q ∷ h)) (recorded.taken (notarize p)) here in
        let taken = subst (λ (e : Entry D). Contains (entries (record_of (q ∷ h))) e) x.2 (Contains-map entry (record_of (q ∷ h)) x.0 (kept-within g f s (q ∷ h) is.allowed x.0 x.1)) in
        let voted = is.own p (omega (arith, above, last)) taken in
        let y = Contains-mapped entry (record_of (q ∷ h)) (recorded.voted (notarize p)) voted in
        let high : finalized_of s (q ∷ h) < reach s.voter.length (entry y.0) = subst (λ (e : Entry D). finalized_of s (q ∷ h) < reach s.voter.length e) (sym y.2) (omega (arith, above, last, same)) in
        subst (λ (e : Entry D). Contains (entries (kept_of s.voter.length (q ∷ h))) e) y.2 (Contains-map entry (kept_of s.voter.length (q ∷ h)) y.0 (above-kept g f s law (q ∷ h) is.allowed y.0 y.1 high))

-- ---- lives, each by a setup of its own

module _ {S D P G C : Type 0} (g : Ghosts S D P G C) (f : Formats S D P G C) (s : Setup S D C)
    (law : EachHistoryMatches S D P G C) (notarize_law : DueNotarizeIsOnGroundOrNext D) (verdict : DueVerdictOfOneIsOnGround D) (laws : RoundLaws g f.same)
    (mine : s.voter.me ≡ Some s.me) (one : g.size s.voter.scheme ≡ 1) (first : s.me ≡ 0)
    (backed : (x : Statement D) (c : C) → g.certifies s.voter.scheme x c → IsQuorum (g.size s.voter.scheme) (λ i a. g.attests s.voter.scheme i x a) (g.lists c)) where
  -- between lives: what is kept is of all that was ever recorded, which stands
  record IsBetween (ever found : List (Artifact S D P G C)) : Type 0 where
    pub part : (x : Artifact S D P G C) → Contains found x → Contains ever x
    pub own : OwnAbove (entries found)
    pub alone : Alone g f s ever

  module _ (t : Setup S D C) (same : IsOfOneMember s t) where
    mine-too : t.voter.me ≡ Some t.me
    mine-too = same.voter_me ∙ (mine ∙ ap (λ (n : ℕ). Some n) (sym same.me))

    one-too : g.size t.voter.scheme ≡ 1
    one-too = ap (λ (own : S). g.size own) same.scheme ∙ one

    backed-too : (x : Statement D) (c : C) → g.certifies t.voter.scheme x c → IsQuorum (g.size t.voter.scheme) (λ i a. g.attests t.voter.scheme i x a) (g.lists c)
    backed-too x c = subst (λ (own : S). g.certifies own x c → IsQuorum (g.size own) (λ i a. g.attests own i x a) (g.lists c)) (sym same.scheme) (backed x c)

    alone-there : (r : List (Artifact S D P G C)) → Alone g f s r → Alone g f t r
    alone-there r is = ground-by g t s (same-turned g s t same) (λ n views leader i. StandsAlone views leader i (entries r)) is

    alone-back : (r : List (Artifact S D P G C)) → Alone g f t r → Alone g f s r
    alone-back r is = ground-by g s t same (λ n views leader i. StandsAlone views leader i (entries r)) is

    begins-so : (ever found founded : List (Artifact S D P G C)) → AtMostOne founded → IsBetween ever found
        → Begins g f t law notarize_law verdict laws mine-too one-too (same.me ∙ first) backed-too (ever ++ founded) (found ++ founded)
    begins-so ever found founded which is = founded-begins g f t law notarize_law verdict laws mine-too one-too (same.me ∙ first) backed-too ever found founded which
        (record { part = is.part; own = is.own; alone = alone-there ever is.alone })

    ends-alone : (ever found founded : List (Artifact S D P G C)) (life : Course S D P G C) (end : History S D P G C) → AtMostOne founded → Lived g f t (found ++ founded) life end → IsBetween ever found → IsAlone g f t (ever ++ founded) end
    ends-alone ever found founded life end which lived is =
        life-alone g f t law notarize_law verdict laws mine-too one-too (same.me ∙ first) backed-too (ever ++ founded) (found ++ founded) life end lived
        (life-own g f t law notarize_law verdict laws mine-too one-too (same.me ∙ first) backed-too (found ++ founded) life end lived) (begins-so ever found founded which is)

    part-of : (ever found founded : List (Artifact S D P G C)) (life : Course S D P G C) (end : History S D P G C) → AtMostOne founded → Lived g f t (found ++ founded) life end → IsBetween ever found
        → (before behind : List (Point S D P G C)) → points_of life ≡ before ++ behind → is_begun (after [] before) ≡ true → IsAlone g f t (ever ++ founded) (after [] before)
    part-of ever found founded life end which lived is before behind split begun =
        life-part g f t law notarize_law verdict laws mine-too one-too (same.me ∙ first) backed-too (ever ++ founded) (found ++ founded) life end lived (begins-so ever found founded which is) before behind split begun

    stands-next : (ever : List (Artifact S D P G C)) (h : History S D P G C) → IsAlone g f t ever h → (p : Point S D P G C) → Allowed g f t h p
        → IfSome (recorded_by p) (λ x. MayFollowOnGround 1 s.voter.length (scheduled_leader s.voter) s.me (entries (ever ++ fresh_of h)) (entry x))
    stands-next ever h alone p a = ground-by g s t same (λ n views leader i. IfSome (recorded_by p) (λ x. MayFollowOnGround 1 views leader i (entries (ever ++ fresh_of h)) (entry x)))
        (allowed-stands g f t law notarize_law verdict laws mine-too one-too (same.me ∙ first) backed-too ever h alone p a)

  -- behind a life
  then-between : (ever found : List (Artifact S D P G C)) (life : Life S D P G C) (end : History S D P G C) → IsOfOneMember s life.setup → AtMostOne life.founded → Lived g f life.setup (found ++ life.founded) life.course end → IsBetween ever found
      → IsBetween (ever ++ (life.founded ++ fresh_of end)) (kept_of life.setup.voter.length end)
  then-between ever found life end same which lived is =
      let t = life.setup in
      let ends = ends-alone t same ever found life.founded life.course end which lived is in
      record {
        part = kept-part g f s ever found life end lived is.part;
        own = kept-own g f t law notarize_law verdict laws (mine-too t same) (one-too t same) (same.me ∙ first) (backed-too t same) (ever ++ life.founded) end ends;
        alone = subst (λ (l : List (Artifact S D P G C)). Alone g f s l) (append_assoc ever life.founded (fresh_of end)) (alone-back t same ((ever ++ life.founded) ++ fresh_of end) ends.alone);
      }

  lives-on-alone : (ever found : List (Artifact S D P G C)) (lives : List (Life S D P G C)) (all left : List (Artifact S D P G C)) → Lives g f s ever found lives all left → IsBetween ever found → Alone g f s all
  lives-on-alone ever found [] all left is between = subst (λ (r : List (Artifact S D P G C)). Alone g f s r) (sym is.0) between.alone
  lives-on-alone ever found (life ∷ lives) all left led between =
      lives-on-alone (ever ++ (life.founded ++ fresh_of led.0)) (kept_of life.setup.voter.length led.0) lives all left led.3
      (then-between ever found life led.0 led.4 (appends-one g f life.course life.brought found life.founded led.1.appends) led.2 between)

  nothing-between : IsBetween [] []
  nothing-between = record {
    part = λ x here. here;
    own = λ p above here. absurd (Contains-nil (recorded.taken (notarize p)) here);
    alone = nothing-alone s.voter.length (scheduled_leader s.voter) s.me;
  }

  pub lives-alone : (lives : List (Life S D P G C)) (all left : List (Artifact S D P G C)) → Lives g f s [] [] lives all left → Alone g f s all
  lives-alone lives all left led = lives-on-alone [] [] lives all left led nothing-between

  -- of a life among these, at its beginning
  begun-between : (ever found : List (Artifact S D P G C)) (lives : List (Life S D P G C)) (all left : List (Artifact S D P G C)) (life : Life S D P G C) → Lives g f s ever found lives all left → IsBetween ever found
      → Contains lives life → (was : IsLived g f s all life) × IsBetween was.ever was.found
  unfolding lived-first
  begun-between ever found [] all left life led between here = absurd (omega (arith, here.1))
  begun-between ever found (x ∷ lives) all left life led between here = ⊎_elim
      (λ is. subst (λ (l : Life S D P G C). (was : IsLived g f s all l) × IsBetween was.ever was.found) is (lived-first g f s ever found x lives all left led between.part, between))
      (λ later. begun-between (ever ++ (x.founded ++ fresh_of led.0)) (kept_of x.setup.voter.length led.0) lives all left life led.3
      (then-between ever found x led.0 led.4 (appends-one g f x.course x.brought found x.founded led.1.appends) led.2 between) later)
      (Contains-cases x lives life here)

  -- what may come next on a life's way stands on ground
  pub next-stands : (all left : List (Artifact S D P G C)) (lives : List (Life S D P G C)) → Lives g f s [] [] lives all left → (life : Life S D P G C) → Contains lives life
      → (before behind : List (Point S D P G C)) → points_of life.course ≡ before ++ behind → (h : History S D P G C) → h ≡ after [] before → is_begun h ≡ true
      → (p : Point S D P G C) → Allowed g f life.setup h p
      → (ever : List (Artifact S D P G C)) × IsEverAt g f all life h ever
      × IfSome (recorded_by p) (λ x. MayFollowOnGround 1 s.voter.length (scheduled_leader s.voter) s.me (entries ever) (entry x))
  next-stands all left lives led life here before behind split h is begun p a =
      let was = begun-between [] [] lives all left life led nothing-between here in
      let w = was.0 in
      let at = ever-at g f s all life w before behind split h is in
      let alone = subst (λ (k : History S D P G C). IsAlone g f life.setup (w.ever ++ life.founded) k) (sym is)
      (part-of life.setup w.own w.ever w.found life.founded life.course w.end (appends-one g f life.course life.brought w.found life.founded w.founds.appends) w.lived was.1 before behind split
      (subst (λ (k : History S D P G C). is_begun k ≡ true) is begun)) in (
        w.ever ++ (life.founded ++ fresh_of h),
        at,
        subst (λ (l : List (Artifact S D P G C)). IfSome (recorded_by p) (λ x. MayFollowOnGround 1 s.voter.length (scheduled_leader s.voter) s.me (entries l) (entry x))) (append_assoc w.ever life.founded (fresh_of h))
            (stands-next life.setup w.own (w.ever ++ life.founded) h alone p a),
      )
