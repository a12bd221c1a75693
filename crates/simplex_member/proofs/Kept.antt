-- What is kept of a record, through rewrites: a part of it, and all of it that reaches above the last finalized view.
use Rattle.std.proofs.Common.{◌≡◌, ⊎_elim, ◌⊎◌, inl, inr, ℕ, ◌≤◌, ◌<◌, ◌==◌, Bool, true, false, List, [], ◌∷◌, ◌++◌, Option, Some, None, refl, sym, ◌∙◌, ap, subst, arith}
use Rattle.std.specs.Prelude.{Contains, if◌then◌else◌, max, nat_lt}
use Rattle.std.specs.List.{filter}
use Rattle.std.proofs.lemmas.Bool.{both_ways, eqb-true, lt-ltb, ltb-true}
use Rattle.std.proofs.lemmas.Option.{none-some}
use Rattle.types_quorum.specs.Counting.{Contains-cases, Contains-head, Contains-nil, Contains-rest}
use Rattle.types_core.specs.declared.position.Round.{Round}
use Rattle.types_core.specs.declared.scheme.Scheme.{Ghosts}
use Rattle.types_core.specs.Subject.{finalize}
use Rattle.messages_certificates.specs.declared.artifact.Artifact.{Artifact}
use Rattle.messages_certificates.specs.declared.artifact.Artifact.TheVariants as artifact
use Rattle.messages_certificates.specs.ProposalCertificate.{Finalization}
use Rattle.simplex_record.specs.Record as recorded
use Rattle.simplex_record.specs.Record.{Entry, HasJudged, current_view, entries, entry, finalizes, floor, last_finalized}
use Rattle.simplex_record.specs.Rules.{reach}
use Rattle.simplex_record.specs.Lawful.{rewritten}
use Rattle.voter_history.specs.History as views
use Rattle.voter_laws.specs.Matching.{EachHistoryMatches}
use Rattle.simplex_member.specs.Allowed.{Allowed, AreAllowed, MayRewrite}
use Rattle.simplex_member.specs.declared.event.Event.TheVariants as event
use Rattle.simplex_member.specs.declared.refusal.Refusal.TheVariants as refusal
use Rattle.simplex_member.specs.First.{IsFirst}
use Rattle.simplex_member.specs.Floors.{IsRewriteOf, TellsAll}
use Rattle.simplex_member.specs.Layers.{finalized_of, latest, voter_of, voter_points}
use Rattle.simplex_member.specs.Packet.{Formats}
use Rattle.simplex_member.specs.Point.{Point, Rewrote, History}
use Rattle.simplex_member.specs.Recorded.{finalization_in, keeps, kept_of, next_floor, put_behind, record_of, recorded_by}
use Rattle.simplex_member.specs.Refusals.{tests}
use Rattle.simplex_member.specs.Setup.{Setup}
use Rattle.simplex_member.proofs.Lists.{Contains-mapped, put-before, put-cases, put-here, some-is}
use Rattle.simplex_member.proofs.Recordable.{matches}
use Rattle.simplex_member.proofs.Rising.{all-rise}

-- ---- lists

-- what passes stands in what is left of a list, and whatever does stood in the list
pub filter-there : {X : Type 0} (test : X → Bool) (xs : List X) (x : X) → Contains xs x → test x ≡ true → Contains (filter test xs) x
filter-there test [] x here passes = absurd (Contains-nil x here)
filter-there {X} test (y ∷ xs) x here passes = ⊎_elim
    (λ is. by (test y) refl (ap test is ∙ passes) is)
    (λ later. behind (test y) (filter-there test xs x later passes))
    (Contains-cases y xs x here)
  where
    by : (b : Bool) → test y ≡ b → test y ≡ true → y ≡ x → Contains (if b then y ∷ filter test xs else filter test xs) x
    by true e good is = subst (λ (z : X). Contains (y ∷ filter test xs) z) is (Contains-head y (filter test xs))
    by false e good is = absurd (both_ways (test y) e good)

    behind : (b : Bool) → Contains (filter test xs) x → Contains (if b then y ∷ filter test xs else filter test xs) x
    behind true there = Contains-rest y (filter test xs) x there
    behind false there = there

pub filter-stood : {X : Type 0} (test : X → Bool) (xs : List X) (x : X) → Contains (filter test xs) x → Contains xs x
filter-stood test [] x here = absurd (Contains-nil x here)
filter-stood {X} test (y ∷ xs) x here = go (test y) here (λ later. filter-stood test xs x later)
  where
    go : (b : Bool) → Contains (if b then y ∷ filter test xs else filter test xs) x → (Contains (filter test xs) x → Contains xs x) → Contains (y ∷ xs) x
    go true there stood = ⊎_elim
        (λ is. subst (λ (z : X). Contains (y ∷ xs) z) is (Contains-head y xs))
        (λ later. Contains-rest y xs x (stood later))
        (Contains-cases y (filter test xs) x there)
    go false there stood = Contains-rest y xs x (stood there)

pub filter-passes : {X : Type 0} (test : X → Bool) (xs : List X) (x : X) → Contains (filter test xs) x → test x ≡ true
filter-passes test [] x here = absurd (Contains-nil x here)
filter-passes {X} test (y ∷ xs) x here = go (test y) refl here (λ later. filter-passes test xs x later)
  where
    go : (b : Bool) → test y ≡ b → Contains (if b then y ∷ filter test xs else filter test xs) x → (Contains (filter test xs) x → test x ≡ true) → test x ≡ true
    go true e there passes = ⊎_elim (λ is. ap test (sym is) ∙ e) (λ later. passes later) (Contains-cases y (filter test xs) x there)
    go false e there passes = passes there

pub put-nothing : {X : Type 0} (xs : List X) (o : Option X) → put_behind xs o ≡ [] → xs ≡ []
put-nothing [] o is = refl
put-nothing (x ∷ xs) None is = is
put-nothing {X} (x ∷ xs) (Some y) is = absurd (Contains-nil x (subst (λ (l : List X). Contains l x) is (Contains-head x (xs ++ y ∷ []))))

-- ---- floors and final views

module _ {D : Type 0} where
  final-ge : (r : List (Entry D)) (e : Entry D) → Contains r e → finalizes e ≤ last_finalized r
  final-ge [] e here = absurd (Contains-nil e here)
  final-ge (x ∷ r) e here = ⊎_elim
      (λ is. omega (arith, ap (λ (z : Entry D). finalizes z) is))
      (λ later. let rest = final-ge r e later in omega (arith, rest))
      (Contains-cases x r e here)

  -- a record begins behind no view above the last finalized one
  pub floor-final : (r : List (Entry D)) → floor r ≤ last_finalized r
  floor-final [] = omega arith
  floor-final (e ∷ r) = omega arith

module _ {S D P G C : Type 0} where
  pub finalized-ge : (xs : List (Artifact S D P G C)) (x : Artifact S D P G C) → Contains xs x → finalizes (entry x) ≤ last_finalized (entries xs)
  finalized-ge [] x here = absurd (Contains-nil x here)
  finalized-ge (y ∷ xs) x here = ⊎_elim
      (λ is. omega (arith, ap (λ (z : Artifact S D P G C). finalizes (entry z)) is))
      (λ later. let rest = finalized-ge xs x later in omega (arith, rest))
      (Contains-cases y xs x here)

  final-last : (xs : List (Artifact S D P G C)) (x : Artifact S D P G C) → last_finalized (entries (xs ++ x ∷ [])) ≡ max (last_finalized (entries xs)) (finalizes (entry x))
  final-last [] x = omega arith
  final-last (y ∷ xs) x = let rest = final-last xs x in omega (arith, rest)

  -- what is put behind both keeps the one below the other
  final-put : (xs ys : List (Artifact S D P G C)) (o : Option (Artifact S D P G C)) → last_finalized (entries xs) ≤ last_finalized (entries ys)
      → last_finalized (entries (put_behind xs o)) ≤ last_finalized (entries (put_behind ys o))
  final-put xs ys None low = low
  final-put xs ys (Some x) low = let one = final-last xs x in let two = final-last ys x in omega (arith, low, one, two)

  -- what is put behind some artifacts changes no floor
  pub floor-put : (xs : List (Artifact S D P G C)) (o : Option (Artifact S D P G C)) → (xs ≡ [] → ⊥) → floor (entries (put_behind xs o)) ≡ floor (entries xs)
  floor-put [] o some = absurd (some refl)
  floor-put (x ∷ xs) None some = refl
  floor-put (x ∷ xs) (Some y) some = refl

  -- ---- the next floor

  -- the finalization of a view that a record has is in it, and of that view
  pub in-record : (xs : List (Artifact S D P G C)) (view : ℕ) (c : Finalization S D P G C) → finalization_in xs view ≡ Some c → Contains xs (artifact.Finalization c) × (c.proposal.round.view ≡ view)
  in-record [] view c is = absurd (none-some c is)
  in-record (artifact.Finalization d ∷ xs) view c is = go (d.proposal.round.view == view) (eqb-true d.proposal.round.view view) is (λ later. in-record xs view c later)
    where
      go : (b : Bool) → (b ≡ true → d.proposal.round.view ≡ view) → (if b then Some d else finalization_in xs view) ≡ Some c
          → (finalization_in xs view ≡ Some c → Contains xs (artifact.Finalization c) × (c.proposal.round.view ≡ view))
          → Contains (artifact.Finalization d ∷ xs) (artifact.Finalization c) × (c.proposal.round.view ≡ view)
      go true same found later =
          let one : d ≡ c = some-is d c found in (
            subst (λ (x : Finalization S D P G C). Contains (artifact.Finalization d ∷ xs) (artifact.Finalization x)) one (Contains-head (artifact.Finalization d) xs),
            ap (λ (x : Finalization S D P G C). x.proposal.round.view) (sym one) ∙ same refl,
          )
      go false same found later = let more = later found in (Contains-rest (artifact.Finalization d) xs (artifact.Finalization c) more.0, more.1)
  in-record (x ∷ xs) view c is = let more = in-record xs view c is in (Contains-rest x xs (artifact.Finalization c) more.0, more.1)

  -- the next floor is in the record, of its last finalized view
  pub next-is-last : (kept : List (Artifact S D P G C)) (c : Finalization S D P G C) → next_floor kept ≡ Some c
      → Contains kept (artifact.Finalization c) × (c.proposal.round.view ≡ last_finalized (entries kept))
  next-is-last kept c is = go (nat_lt (floor (entries kept)) (last_finalized (entries kept))) is
    where
      go : (b : Bool) → (if b then finalization_in kept (last_finalized (entries kept)) else None) ≡ Some c
          → Contains kept (artifact.Finalization c) × (c.proposal.round.view ≡ last_finalized (entries kept))
      go true found = in-record kept (last_finalized (entries kept)) c found
      go false none = absurd (none-some c none)

  -- ---- points

  -- a point is a rewrite, or what it records goes behind what is kept
  abbrev pub IsRewrite : Point S D P G C → Type 0
  IsRewrite p = (c : Finalization S D P G C) × (p ≡ Rewrote c)

  abbrev pub PutsBehind : Point S D P G C → Type 0
  PutsBehind p = (views : ℕ) (kept : List (Artifact S D P G C)) → keeps views p kept ≡ put_behind kept (recorded_by p)

  pub ways-of : (p : Point S D P G C) → IsRewrite p ⊎ PutsBehind p
  ways-of (Rewrote c) = inl (c, refl)
  ways-of p = inr (λ views kept. refl)

  -- what is kept through a rewrite: its finalization, and what reaches above that
  pub left-cases : (views : ℕ) (c : Finalization S D P G C) (kept : List (Artifact S D P G C)) (x : Artifact S D P G C) → Contains (rewritten views c kept) x
      → (x ≡ artifact.Finalization c) ⊎ Contains kept x
  left-cases views c kept x here = ⊎_elim
      (λ is. inl (sym is))
      (λ later. inr (filter-stood (λ (y : Artifact S D P G C). nat_lt c.proposal.round.view (reach views (entry y))) kept x later))
      (Contains-cases (artifact.Finalization c) (filter (λ (y : Artifact S D P G C). nat_lt c.proposal.round.view (reach views (entry y))) kept) x here)

  pub left-there : (views : ℕ) (c : Finalization S D P G C) (kept : List (Artifact S D P G C)) (x : Artifact S D P G C) → Contains kept x → c.proposal.round.view < reach views (entry x)
      → Contains (rewritten views c kept) x
  left-there views c kept x here above =
      let passes : List (Artifact S D P G C) = filter (λ (y : Artifact S D P G C). nat_lt c.proposal.round.view (reach views (entry y))) kept in
      Contains-rest (artifact.Finalization c) passes x (filter-there (λ (y : Artifact S D P G C). nat_lt c.proposal.round.view (reach views (entry y))) kept x here (lt-ltb c.proposal.round.view (reach views (entry x)) above))

-- the view behind which the record begins rises
module _ {S D P G C : Type 0} (v : views.Setup S C) where
  floor-rises : (x : views.Point S D P G C) (h : List (views.Point S D P G C)) → views.floor v h ≤ views.floor v (x ∷ h)
  floor-rises (views.based view) h = omega arith
  floor-rises (views.finalized now c) h = go (views.is_blank v h)
    where
      go : (b : Bool) → views.floor v h ≤ (if b then max c.proposal.round.view (views.floor v h) else views.floor v h)
      go true = omega arith
      go false = omega arith
  floor-rises x h = omega arith

  pub floors-rise : (xs h : List (views.Point S D P G C)) → views.floor v h ≤ views.floor v (xs ++ h)
  floors-rise [] h = omega arith
  floors-rise (x ∷ xs) h = let later = floors-rise xs h in let now = floor-rises x (xs ++ h) in omega (arith, later, now)

module _ {S D P G C : Type 0} (g : Ghosts S D P G C) (f : Formats S D P G C) (s : Setup S D C) where
  abbrev kept : History S D P G C → List (Artifact S D P G C)
  kept h = kept_of s.voter.length h

  pub rewrote-kept : (p : Point S D P G C) (h : History S D P G C) (c : Finalization S D P G C) → p ≡ Rewrote c → kept (p ∷ h) ≡ rewritten s.voter.length c (kept h)
  rewrote-kept p h c is = ap (λ (q : Point S D P G C). kept (q ∷ h)) is

  pub may-rewrite : (p : Point S D P G C) (h : History S D P G C) (c : Finalization S D P G C) → p ≡ Rewrote c → Allowed g f s h p → MayRewrite g f s h c
  may-rewrite p h c is a = let b : Allowed g f s h (Rewrote c) = subst (λ (q : Point S D P G C). Allowed g f s h q) is a in b.due

  -- what is kept was recorded
  pub kept-within : (h : History S D P G C) → AreAllowed g f s h → (x : Artifact S D P G C) → Contains (kept h) x → Contains (record_of h) x
  kept-within [] all x here = here
  kept-within (p ∷ h) all x here = ⊎_elim
      (λ rewrote.
      let last = next-is-last (kept h) rewrote.0 (may-rewrite p h rewrote.0 rewrote.1 all.0).next in
      put-before (record_of h) (recorded_by p) x (kept-within h all.1 x (⊎_elim
      (λ is. subst (λ (y : Artifact S D P G C). Contains (kept h) y) (sym is) last.0)
      (λ there. there)
      (left-cases s.voter.length rewrote.0 (kept h) x (subst (λ (l : List (Artifact S D P G C)). Contains l x) (rewrote-kept p h rewrote.0 rewrote.1) here)))))
      (λ puts. ⊎_elim
      (λ before. put-before (record_of h) (recorded_by p) x (kept-within h all.1 x before))
      (λ now. put-here (record_of h) (recorded_by p) x now)
      (put-cases (kept h) (recorded_by p) x (subst (λ (l : List (Artifact S D P G C)). Contains l x) (puts s.voter.length (kept h)) here)))
      (ways-of p)

  -- where nothing is kept nothing was recorded
  pub kept-nothing : (h : History S D P G C) → kept h ≡ [] → record_of h ≡ []
  kept-nothing [] none = refl
  kept-nothing (p ∷ h) none = ⊎_elim
      (λ rewrote. absurd (Contains-nil (artifact.Finalization rewrote.0)
      (subst (λ (l : List (Artifact S D P G C)). Contains l (artifact.Finalization rewrote.0)) (sym (rewrote-kept p h rewrote.0 rewrote.1) ∙ none) (Contains-head (artifact.Finalization rewrote.0) _))))
      (λ puts.
      let put_none : put_behind (kept h) (recorded_by p) ≡ [] = sym (puts s.voter.length (kept h)) ∙ none in
      let before = put-nothing (kept h) (recorded_by p) put_none in
      let recorded = kept-nothing h before in
      ap (λ (l : List (Artifact S D P G C)). put_behind l (recorded_by p)) (recorded ∙ sym before) ∙ put_none)
      (ways-of p)

  -- what is kept is of no lower last finalized view
  pub kept-last : (h : History S D P G C) → AreAllowed g f s h → last_finalized (entries (record_of h)) ≤ last_finalized (entries (kept h))
  kept-last [] all = omega arith
  kept-last (p ∷ h) all = ⊎_elim
      (λ rewrote.
      let last = next-is-last (kept h) rewrote.0 (may-rewrite p h rewrote.0 rewrote.1 all.0).next in
      let was = kept-last h all.1 in
      let none : put_behind (record_of h) (recorded_by p) ≡ record_of h = ap (λ (q : Point S D P G C). put_behind (record_of h) (recorded_by q)) rewrote.1 in
      let most = finalized-ge (kept (p ∷ h)) (artifact.Finalization rewrote.0) (subst (λ (l : List (Artifact S D P G C)). Contains l (artifact.Finalization rewrote.0)) (sym (rewrote-kept p h rewrote.0 rewrote.1)) (Contains-head (artifact.Finalization rewrote.0) _)) in
      subst (λ (l : List (Artifact S D P G C)). last_finalized (entries l) ≤ last_finalized (entries (kept (p ∷ h)))) (sym none) (omega (arith, was, last.1, most)))
      (λ puts. subst (λ (l : List (Artifact S D P G C)). last_finalized (entries (record_of (p ∷ h))) ≤ last_finalized (entries l)) (sym (puts s.voter.length (kept h)))
      (final-put (record_of h) (kept h) (recorded_by p) (kept-last h all.1)))
      (ways-of p)

  module _ (law : EachHistoryMatches S D P G C) where
    -- no recorded finalization is of a view above the last finalized one
    recorded-final : (h : History S D P G C) → AreAllowed g f s h → (x : Artifact S D P G C) → Contains (record_of h) x → finalizes (entry x) ≤ finalized_of s h
    recorded-final [] all x here = absurd (Contains-nil x here)
    recorded-final (p ∷ h) all x here =
        let most = finalized-ge (record_of (p ∷ h)) x here in
        let same = (matches g f s law p h all).last_finalized in
        omega (arith, most, same)

    kept-final : (h : History S D P G C) → AreAllowed g f s h → (x : Artifact S D P G C) → Contains (kept h) x → finalizes (entry x) ≤ finalized_of s h
    kept-final h all x here = recorded-final h all x (kept-within h all x here)

    pub next-final : (h : History S D P G C) → AreAllowed g f s h → (c : Finalization S D P G C) → Contains (kept h) (artifact.Finalization c) → c.proposal.round.view ≤ finalized_of s h
    next-final h all c here = kept-final h all (artifact.Finalization c) here

    -- the record begins behind no view above the last finalized one, also since the last rewrite
    pub kept-floor-final : (h : History S D P G C) → AreAllowed g f s h → floor (entries (kept h)) ≤ finalized_of s h
    kept-floor-final h all = go (kept h) (λ x here. kept-final h all x here)
      where
        go : (xs : List (Artifact S D P G C)) → ((x : Artifact S D P G C) → Contains xs x → finalizes (entry x) ≤ finalized_of s h) → floor (entries xs) ≤ finalized_of s h
        go [] most = omega arith
        go (x ∷ xs) most = most x (Contains-head x xs)

    -- of the views that a rewrite dropped no verdict is kept, and none is awaited
    unjudged : (views : ℕ) (c : Finalization S D P G C) (xs : List (Artifact S D P G C)) (r : Round) (ok : Bool) → r.view ≤ c.proposal.round.view → HasJudged (entries (rewritten views c xs)) r ok → ⊥
    unjudged views c xs r ok low here =
        let x = Contains-mapped entry (rewritten views c xs) (recorded.judged r ok) here in
        ⊎_elim
        (λ is. unlike (ap entry is ∙ x.2))
        (λ later.
        let above = ltb-true c.proposal.round.view (reach views (entry x.0)) (filter-passes (λ (y : Artifact S D P G C). nat_lt c.proposal.round.view (reach views (entry y))) xs x.0 later) in
        let far : reach views (entry x.0) ≡ r.view = ap (reach views) x.2 in
        omega (arith, above, far, low))
        (Contains-cases (artifact.Finalization c) (filter (λ (y : Artifact S D P G C). nat_lt c.proposal.round.view (reach views (entry y))) xs) x.0 x.1)
      where
        unlike : ◌≡◌ {A = Entry D} (recorded.taken (finalize c.proposal)) (recorded.judged r ok) → ⊥
        unlike e = cc e

    pub dropped-unknown : (h : History S D P G C) (c : Finalization S D P G C) (view : ℕ) (ok : Bool) → AreAllowed g f s (Rewrote c ∷ h) → view ≤ c.proposal.round.view
        → IsFirst (tests g f s (Rewrote c ∷ h) (event.Verdict view ok)) (Some refusal.UnknownAnswer)
    dropped-unknown h c view ok all low =
        let most = next-final h all.1 c (next-is-last (kept h) c all.0.due.next).0 in
        inl (
          (
            λ judged. unjudged s.voter.length c (kept h) judged.0 judged.1 (let at = judged.2 in omega (arith, at, low)) judged.3,
            λ awaited. let above = awaited.above in omega (arith, above, most, low),
          ),
          refl,
        )

    finalized-rises : (p : Point S D P G C) (h : History S D P G C) → finalized_of s h ≤ finalized_of s (p ∷ h)
    finalized-rises p h = (all-rise s.voter (voter_points s (latest (p ∷ h)) (views.last_finalized (voter_of s h)) p) (voter_of s h)).1

    -- what reaches above the last finalized view is kept
    pub above-kept : (h : History S D P G C) → AreAllowed g f s h → (x : Artifact S D P G C) → Contains (record_of h) x → finalized_of s h < reach s.voter.length (entry x) → Contains (kept h) x
    above-kept [] all x here above = here
    above-kept (p ∷ h) all x here above =
        let rises = finalized-rises p h in
        ⊎_elim
        (λ before.
        let was = above-kept h all.1 x before (omega (arith, above, rises)) in
        ⊎_elim
        (λ rewrote.
        let last = next-is-last (kept h) rewrote.0 (may-rewrite p h rewrote.0 rewrote.1 all.0).next in
        let low = next-final h all.1 rewrote.0 last.0 in
        subst (λ (l : List (Artifact S D P G C)). Contains l x) (sym (rewrote-kept p h rewrote.0 rewrote.1)) (left-there s.voter.length rewrote.0 (kept h) x was (omega (arith, above, rises, low))))
        (λ puts. subst (λ (l : List (Artifact S D P G C)). Contains l x) (sym (puts s.voter.length (kept h))) (put-before (kept h) (recorded_by p) x was))
        (ways-of p))
        (λ now. ⊎_elim
        (λ rewrote. absurd (none-some x (ap (λ (q : Point S D P G C). recorded_by q) (sym rewrote.1) ∙ now)))
        (λ puts. subst (λ (l : List (Artifact S D P G C)). Contains l x) (sym (puts s.voter.length (kept h))) (put-here (kept h) (recorded_by p) x now))
        (ways-of p))
        (put-cases (record_of h) (recorded_by p) x here)

    pub tells-all : (h : History S D P G C) → AreAllowed g f s h → TellsAll g f s h
    tells-all h all = record { within = kept-within h all; above = above-kept h all; floors = kept-floor-final h all }

    -- the voter knows of no floor below that of what is kept
    pub kept-floor : (h : History S D P G C) → AreAllowed g f s h → floor (entries (kept h)) ≤ views.floor s.voter (voter_of s h)
    kept-floor [] all = omega arith
    kept-floor (p ∷ h) all = ⊎_elim
        (λ rewrote. subst (λ (q : Point S D P G C). floor (entries (kept (q ∷ h))) ≤ views.floor s.voter (voter_of s (q ∷ h))) (sym rewrote.1) (at-rewrite rewrote.0))
        (λ puts. subst (λ (l : List (Artifact S D P G C)). floor (entries l) ≤ views.floor s.voter (voter_of s (p ∷ h))) (sym (puts s.voter.length (kept h))) (by (kept h) refl (kept-floor h all.1)))
        (ways-of p)
      where
        at-rewrite : (c : Finalization S D P G C) → floor (entries (kept (Rewrote c ∷ h))) ≤ views.floor s.voter (voter_of s (Rewrote c ∷ h))
        at-rewrite c = omega arith

        by : (xs : List (Artifact S D P G C)) → kept h ≡ xs → floor (entries (kept h)) ≤ views.floor s.voter (voter_of s h) → floor (entries (put_behind (kept h) (recorded_by p))) ≤ views.floor s.voter (voter_of s (p ∷ h))
        by [] none was =
            let same : kept h ≡ record_of h = none ∙ sym (kept-nothing h none) in
            subst (λ (l : List (Artifact S D P G C)). floor (entries (put_behind l (recorded_by p))) ≤ views.floor s.voter (voter_of s (p ∷ h))) (sym same) (matches g f s law p h all).floor
        by (x ∷ xs) some was =
            let rises = floors-rise s.voter (voter_points s (latest (p ∷ h)) (views.last_finalized (voter_of s h)) p) (voter_of s h) in
            let same = floor-put (kept h) (recorded_by p) (λ none. Contains-nil x (subst (λ (l : List (Artifact S D P G C)). Contains l x) (sym some ∙ none) (Contains-head x xs))) in
            omega (arith, rises, was, same)

  -- ---- what a rewrite does

  pub rewrite-is : ((views : ℕ) (r : List (Artifact S D P G C)) (c : Finalization S D P G C) → c.proposal.round.view ≡ last_finalized (entries r)
      → (last_finalized (entries (rewritten views c r)) ≡ last_finalized (entries r)) × (current_view views (entries (rewritten views c r)) ≡ current_view views (entries r)))
      → (h : History S D P G C) (c : Finalization S D P G C) → Allowed g f s h (Rewrote c) → IsRewriteOf g f s h c
  rewrite-is same h c a =
      let last = next-is-last (kept h) c a.due.next in
      let views_same = same s.voter.length (kept h) c last.1 in
      record {
        was_kept = last.0;
        last = last.1;
        kept = refl;
        begins = refl;
        final = views_same.0;
        entered = views_same.1;
        current = refl;
        finalized = refl;
        record_is = refl;
        silent = refl;
      }
