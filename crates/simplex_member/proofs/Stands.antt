-- What is kept stands for all that the opening found and that was recorded since: what may come next fits behind it, and it is lawful.
use Rattle.std.proofs.Common.{◌≡◌, ◌≢◌, ⊎_elim, inl, inr, ℕ, zero, suc, ◌+◌, ◌*◌, ◌/◌, ◌<◌, ◌≤◌, Bool, true, false, List, [], ◌∷◌, ◌++◌, length, map, Option, Some, None, refl, sym, ◌∙◌, ap, subst, arith}
use Rattle.std.specs.Prelude.{Contains, IfSome, max, option_map}
use Rattle.std.proofs.lemmas.Bool.{cases_lt}
use Rattle.std.proofs.lemmas.Option.{none-some}
use Rattle.types_quorum.specs.Counting.{Contains-head, Contains-nil, Contains-rest}
use Rattle.types_core.specs.declared.position.Round.{Round}
use Rattle.types_core.specs.declared.scheme.Scheme.{Ghosts}
use Rattle.std.proofs.lemmas.Grind.{common_steps}
use Rattle.types_core.specs.Positions.{InCoveringRange, term_end, term_start}
use Rattle.types_core.specs.Subject.{notarize, nullify, finalize}
use Rattle.types_terms.specs.Spans.{term_end-le, term_start-le}
use Rattle.messages_certificates.specs.declared.artifact.Artifact.{Artifact}
use Rattle.messages_certificates.specs.declared.artifact.Artifact.TheVariants as artifact
use Rattle.messages_certificates.specs.declared.certificate.Certificate.{Certificate}
use Rattle.messages_certificates.specs.declared.certificate.Certificate.TheVariants as certificate
use Rattle.messages_certificates.specs.Artifact.{certificate_artifact}
use Rattle.messages_certificates.specs.ProposalCertificate.{Finalization}
use Rattle.simplex_messages.specs.declared.vote.Vote.TheVariants as vote
use Rattle.simplex_record.specs.declared.owner.Owner.{Owner}
use Rattle.simplex_record.specs.Record as recorded
use Rattle.simplex_record.specs.Record.{Entry, current_view, entries, entry, enters, finalizes, floor, last_finalized}
use Rattle.simplex_record.specs.Rules.{MayFollow, reach}
use Rattle.simplex_record.specs.Kept.{IsBehind, StandsForAll}
use Rattle.simplex_record.specs.Lawful.{Fits, IsLawful, rewritten}
use Rattle.voter_laws.specs.Matching.{EachHistoryMatches}
use Rattle.simplex_member.specs.Allowed.{Allowed, AreAllowed, MayRecord}
use Rattle.simplex_member.specs.Floors.{IsOfViews}
use Rattle.simplex_member.specs.Laws.{RecordLaws}
use Rattle.simplex_member.specs.Layers.{is_begun}
use Rattle.simplex_member.specs.Packet.{Formats}
use Rattle.simplex_member.specs.Point.{Point, Found, Began, Came, Judged, Constructs, Votes, Rewrote, History}
use Rattle.simplex_member.specs.Recorded.{kept_of, put_behind, record_of, recorded_by}
use Rattle.simplex_member.specs.Setup.{Setup, owner_of}
use Rattle.simplex_member.proofs.Above.{current-above}
use Rattle.simplex_member.proofs.Growing.{lawful-put}
use Rattle.simplex_member.proofs.Kept.{PutsBehind, finalized-ge, floor-final, floor-put, kept-floor, kept-floor-final, kept-last, kept-nothing, kept-within, left-there, may-rewrite, next-is-last, rewrote-kept, ways-of}
use Rattle.simplex_member.proofs.Lists.{Contains-map, Contains-mapped, if-some, put-before, put-cases, put-here}
use Rattle.simplex_member.proofs.Recordable.{matches}
use Rattle.simplex_member.proofs.Telling.{apart}

-- ---- lists

unmapped : {X Y : Type 0} (f : X → Y) (xs : List X) → map f xs ≡ [] → xs ≡ []
unmapped f [] none = refl
unmapped f (x ∷ xs) none = absurd (omega (arith, ap length none))

each-some : {X : Type 0} (P : X → Type 0) (o : Option X) → ((x : X) → o ≡ Some x → P x) → IfSome o P
each-some P None each = tt
each-some P (Some x) each = each x refl

-- a view that a nullification covers lies in its term
start-suc : (views before : ℕ) → term_start views (suc before) ≡ before / views * views + 1
start-suc views before = grind (arith, common_steps)

start-some : (views view : ℕ) → 1 ≤ view → 1 ≤ term_start views view
start-some views zero some = absurd (omega (arith, some))
start-some views (suc before) some = omega (arith, start-suc views before)

covered-ends : (views view u : ℕ) → 0 < views → InCoveringRange views view u → view ≤ term_end views u
covered-ends views zero u some range = omega arith
covered-ends views (suc v) zero some range = absurd (omega (arith, range.0, start-some views (suc v) (omega arith)))
covered-ends views (suc v) (suc u) some range = (term_end-le views u v some).1 ((term_start-le views u v some).0 range.0)

module _ {D : Type 0} where
  -- what may follow all may follow what is kept of it, behind the view behind which that begins
  follows-kept : (views : ℕ) → 0 < views → (all kept : List (Entry D)) → StandsForAll views all kept → (e : Entry D) → IsBehind (floor kept) e → MayFollow views all e → MayFollow views kept e
  follows-kept views some all kept s (recorded.voted (notarize p)) behind may = record {
    room = may.room;
    behind = behind;
    first = λ t like here. may.first t like (s.within (recorded.voted t) here);
    not_given_up = λ t like here. may.not_given_up t like (s.within (recorded.voted t) here);
    parent_below = may.parent_below;
    covered = λ view above below reaches.
        let c = may.covered view above below (omega (arith, s.floors, reaches)) in
        (c.0, c.1, s.above (recorded.taken (nullify c.0)) c.2 (omega (arith, reaches, covered-ends views view c.0.view some c.1)));
  }
  follows-kept views some all kept s (recorded.voted (nullify r)) behind may = record {
    room = may.room;
    current = may.current ∙ sym s.current;
    first = λ t like here. may.first t like (s.within (recorded.voted t) here);
    not_finalized = λ p same here. may.not_finalized p same (s.within (recorded.voted (finalize p)) here);
  }
  follows-kept views some all kept s (recorded.voted (finalize p)) behind may =
      let above : last_finalized kept < p.round.view = omega (arith, may.above, s.final) in
      let over : floor kept < p.round.view = omega (arith, above, floor-final kept) in
      record {
        above = above;
        not_given_up = λ t like here. may.not_given_up t like (s.within (recorded.voted t) here);
        first = λ t like here. may.first t like (s.within (recorded.voted t) here);
        notarized = s.above (recorded.taken (notarize p)) may.notarized over;
        certified = (may.certified.0, may.certified.1, s.above (recorded.judged may.certified.0 true) may.certified.2 (omega (arith, over, may.certified.1)));
        no_other = λ q same has. may.no_other q same (⊎_elim (λ n. inl (s.within (recorded.taken (notarize q)) n)) (λ f. inr (s.within (recorded.taken (finalize q)) f)) has);
        healed = λ r begun below here. omega (arith, may.healed r begun below (s.within (recorded.voted (nullify r)) here), s.final);
      }
  follows-kept views some all kept s (recorded.taken x) behind may = record {
    from_one = may.from_one;
    room = may.room;
    parent_below = may.parent_below;
    first = λ t like here. may.first t like (s.within (recorded.taken t) here);
  }
  follows-kept views some all kept s (recorded.judged r verdict) behind may = record {
    notarized = (
      may.notarized.0,
      may.notarized.1,
      s.above (recorded.taken (notarize may.notarized.0)) may.notarized.2 (omega (arith, behind, ap (λ (t : Round). t.view) may.notarized.1)),
    );
    first = λ t ok same here. may.first t ok same (s.within (recorded.judged t ok) here);
  }

module _ {S D P G C : Type 0} where
  -- what no entry finalizes above is no last finalized view
  final-most : (n : ℕ) (xs : List (Artifact S D P G C)) → ((x : Artifact S D P G C) → Contains xs x → finalizes (entry x) ≤ n) → last_finalized (entries xs) ≤ n
  final-most n [] most = omega arith
  final-most n (x ∷ xs) most =
      let first = most x (Contains-head x xs) in
      let rest = final-most n xs (λ y here. most y (Contains-rest x xs y here)) in
      omega (arith, first, rest)

  -- what is put behind both leaves them of one current view
  enters-last : (views : ℕ) (xs : List (Artifact S D P G C)) (x : Artifact S D P G C) → current_view views (entries (xs ++ x ∷ [])) ≡ max (current_view views (entries xs)) (enters views (entry x))
  enters-last views [] x = omega arith
  enters-last views (y ∷ xs) x = let rest = enters-last views xs x in omega (arith, rest)

  current-put : (views : ℕ) (xs ys : List (Artifact S D P G C)) (o : Option (Artifact S D P G C)) → current_view views (entries xs) ≡ current_view views (entries ys)
      → current_view views (entries (put_behind xs o)) ≡ current_view views (entries (put_behind ys o))
  current-put views xs ys None same = same
  current-put views xs ys (Some x) same = let one = enters-last views xs x in let two = enters-last views ys x in omega (arith, same, one, two)

  begun-before : (p : Point S D P G C) (h : History S D P G C) → is_begun (p ∷ h) ≡ false → is_begun h ≡ false
  begun-before Began h unbegun = absurd (apart (sym unbegun))
  begun-before p h unbegun = unbegun

module _ {S D P G C : Type 0} (g : Ghosts S D P G C) (f : Formats S D P G C) (s : Setup S D C) where
  abbrev kept : History S D P G C → List (Artifact S D P G C)
  kept h = kept_of s.voter.length h

  -- ---- where it begins

  floor-on : (p : Point S D P G C) (h : History S D P G C) → PutsBehind p → (kept h ≡ [] → ⊥) → floor (entries (kept (p ∷ h))) ≡ floor (entries (kept h))
  floor-on p h puts some = ap (λ (l : List (Artifact S D P G C)). floor (entries l)) (puts s.voter.length (kept h)) ∙ floor-put (kept h) (recorded_by p) some

  floor-rewrote : (p : Point S D P G C) (h : History S D P G C) (c : Finalization S D P G C) → p ≡ Rewrote c → floor (entries (kept (p ∷ h))) ≡ c.proposal.round.view
  floor-rewrote p h c is = ap (λ (l : List (Artifact S D P G C)). floor (entries l)) (rewrote-kept g f s p h c is)

  nothing-new : (p : Point S D P G C) (h : History S D P G C) (c : Finalization S D P G C) → p ≡ Rewrote c → record_of (p ∷ h) ≡ record_of h
  nothing-new p h c is = ap (λ (q : Point S D P G C). record_of (q ∷ h)) is

  kept-some : (h : History S D P G C) (x : Artifact S D P G C) → Contains (record_of h) x → kept h ≡ [] → ⊥
  kept-some h x here none = Contains-nil x (subst (λ (l : List (Artifact S D P G C)). Contains l x) (kept-nothing g f s h none) here)

  -- what reaches above that view is kept
  above-floor : (h : History S D P G C) → AreAllowed g f s h → (x : Artifact S D P G C) → Contains (record_of h) x → floor (entries (kept h)) < reach s.voter.length (entry x) → Contains (kept h) x
  above-floor [] all x here above = here
  above-floor (p ∷ h) all x here above = ⊎_elim
      (λ before. ⊎_elim
      (λ rewrote.
      let last = next-is-last (kept h) rewrote.0 (may-rewrite g f s p h rewrote.0 rewrote.1 all.0).next in
      let most = floor-final (entries (kept h)) in
      let now = floor-rewrote p h rewrote.0 rewrote.1 in
      let was = above-floor h all.1 x before (omega (arith, above, last.1, most, now)) in
      subst (λ (l : List (Artifact S D P G C)). Contains l x) (sym (rewrote-kept g f s p h rewrote.0 rewrote.1)) (left-there s.voter.length rewrote.0 (kept h) x was (omega (arith, above, now))))
      (λ puts.
      let same = floor-on p h puts (kept-some h x before) in
      let was = above-floor h all.1 x before (omega (arith, above, same)) in
      subst (λ (l : List (Artifact S D P G C)). Contains l x) (sym (puts s.voter.length (kept h))) (put-before (kept h) (recorded_by p) x was))
      (ways-of p))
      (λ now. ⊎_elim
      (λ rewrote. absurd (none-some x (ap (λ (q : Point S D P G C). recorded_by q) (sym rewrote.1) ∙ now)))
      (λ puts. subst (λ (l : List (Artifact S D P G C)). Contains l x) (sym (puts s.voter.length (kept h))) (put-here (kept h) (recorded_by p) x now))
      (ways-of p))
      (put-cases (record_of h) (recorded_by p) x here)

  -- it begins behind no earlier view than all does
  floors-put : (h : History S D P G C) → AreAllowed g f s h → (p : Point S D P G C) → PutsBehind p → floor (entries (record_of h)) ≤ floor (entries (kept h)) → (xs : List (Artifact S D P G C)) → kept h ≡ xs
      → floor (entries (record_of (p ∷ h))) ≤ floor (entries (kept (p ∷ h)))
  floors-put h all p puts low [] none =
      let same : kept h ≡ record_of h = none ∙ sym (kept-nothing g f s h none) in
      let one = ap (λ (l : List (Artifact S D P G C)). floor (entries (put_behind l (recorded_by p)))) same in
      let two = ap (λ (l : List (Artifact S D P G C)). floor (entries l)) (puts s.voter.length (kept h)) in
      omega (arith, one, two)
  floors-put h all p puts low (x ∷ xs) some =
      let there : Contains (kept h) x = subst (λ (l : List (Artifact S D P G C)). Contains l x) (sym some) (Contains-head x xs) in
      let one = floor-on p h puts (λ none. Contains-nil x (subst (λ (l : List (Artifact S D P G C)). Contains l x) none there)) in
      let two = floor-put (record_of h) (recorded_by p) (λ none. Contains-nil x (subst (λ (l : List (Artifact S D P G C)). Contains l x) none (kept-within g f s h all x there))) in
      omega (arith, low, one, two)

  floors-le : (h : History S D P G C) → AreAllowed g f s h → floor (entries (record_of h)) ≤ floor (entries (kept h))
  floors-le [] all = omega arith
  floors-le (p ∷ h) all =
      let was = floors-le h all.1 in
      ⊎_elim
      (λ rewrote.
      let last = next-is-last (kept h) rewrote.0 (may-rewrite g f s p h rewrote.0 rewrote.1 all.0).next in
      let most = floor-final (entries (kept h)) in
      let now = floor-rewrote p h rewrote.0 rewrote.1 in
      let same = ap (λ (l : List (Artifact S D P G C)). floor (entries l)) (nothing-new p h rewrote.0 rewrote.1) in
      omega (arith, was, last.1, most, now, same))
      (λ puts. floors-put h all.1 p puts was (kept h) refl)
      (ways-of p)

  finals : (h : History S D P G C) → AreAllowed g f s h → last_finalized (entries (kept h)) ≡ last_finalized (entries (record_of h))
  finals h all =
      let low = final-most (last_finalized (entries (record_of h))) (kept h) (λ x here. finalized-ge (record_of h) x (kept-within g f s h all x here)) in
      let high = kept-last g f s h all in
      omega (arith, low, high)

  -- ---- before the record was gone through, and where terms have no views, nothing is rewritten

  unbegun-kept : (h : History S D P G C) → AreAllowed g f s h → is_begun h ≡ false → kept h ≡ record_of h
  unbegun-kept [] all unbegun = refl
  unbegun-kept (p ∷ h) all unbegun =
      let before = begun-before p h unbegun in
      ⊎_elim
      (λ rewrote.
      let a : Allowed g f s h (Rewrote rewrote.0) = subst (λ (q : Point S D P G C). Allowed g f s h q) rewrote.1 all.0 in
      absurd (apart (sym before ∙ a.order)))
      (λ puts. puts s.voter.length (kept h) ∙ ap (λ (l : List (Artifact S D P G C)). put_behind l (recorded_by p)) (unbegun-kept h all.1 before))
      (ways-of p)

  termless-kept : s.voter.length ≡ 0 → (h : History S D P G C) → AreAllowed g f s h → kept h ≡ record_of h
  termless-kept none [] all = refl
  termless-kept none (p ∷ h) all = ⊎_elim
      (λ rewrote. let some = (may-rewrite g f s p h rewrote.0 rewrote.1 all.0).terms in absurd (omega (arith, some, none)))
      (λ puts. puts s.voter.length (kept h) ∙ ap (λ (l : List (Artifact S D P G C)). put_behind l (recorded_by p)) (termless-kept none h all.1))
      (ways-of p)

  module _ (same : (views : ℕ) (r : List (Artifact S D P G C)) (c : Finalization S D P G C) → c.proposal.round.view ≡ last_finalized (entries r)
      → (last_finalized (entries (rewritten views c r)) ≡ last_finalized (entries r)) × (current_view views (entries (rewritten views c r)) ≡ current_view views (entries r))) where
    currents : (h : History S D P G C) → AreAllowed g f s h → current_view s.voter.length (entries (kept h)) ≡ current_view s.voter.length (entries (record_of h))
    currents [] all = refl
    currents (p ∷ h) all =
        let was = currents h all.1 in
        ⊎_elim
        (λ rewrote.
        let last = next-is-last (kept h) rewrote.0 (may-rewrite g f s p h rewrote.0 rewrote.1 all.0).next in
        ap (λ (l : List (Artifact S D P G C)). current_view s.voter.length (entries l)) (rewrote-kept g f s p h rewrote.0 rewrote.1)
        ∙ ((same s.voter.length (kept h) rewrote.0 last.1).1
        ∙ (was ∙ sym (ap (λ (l : List (Artifact S D P G C)). current_view s.voter.length (entries l)) (nothing-new p h rewrote.0 rewrote.1)))))
        (λ puts. ap (λ (l : List (Artifact S D P G C)). current_view s.voter.length (entries l)) (puts s.voter.length (kept h)) ∙ current-put s.voter.length (kept h) (record_of h) (recorded_by p) was)
        (ways-of p)

    pub kept-stands : (h : History S D P G C) → AreAllowed g f s h → StandsForAll s.voter.length (entries (record_of h)) (entries (kept h))
    kept-stands h all = record {
      within = λ e here.
          let x = Contains-mapped entry (kept h) e here in
          subst (λ (y : Entry D). Contains (entries (record_of h)) y) x.2 (Contains-map entry (record_of h) x.0 (kept-within g f s h all x.0 x.1));
      above = λ e here reaches.
          let x = Contains-mapped entry (record_of h) e here in
          subst (λ (y : Entry D). Contains (entries (kept h)) y) x.2
          (Contains-map entry (kept h) x.0 (above-floor h all x.0 x.1 (subst (λ (y : Entry D). floor (entries (kept h)) < reach s.voter.length y) (sym x.2) reaches)));
      floors = floors-le h all;
      final = finals h all;
      current = currents h all;
      nothing = λ none. ap entries (kept-nothing g f s h (unmapped entry (kept h) none));
    }

    module _ (law : EachHistoryMatches S D P G C) where
      pub kept-views : (h : History S D P G C) → AreAllowed g f s h → h ≢ [] → IsOfViews g f s h
      kept-views [] all some = absurd (some refl)
      kept-views (q ∷ h) all some =
          let m = matches g f s law q h all in
          record { current = m.current ∙ sym (currents (q ∷ h) all); final = m.last_finalized ∙ sym (finals (q ∷ h) all); ahead = current-above g f s law q h all }

      -- ---- what may come next

      certificate-behind : (h : History S D P G C) (c : Certificate S D P G C) → IsBehind (floor (entries (kept h))) (entry (certificate_artifact c))
      certificate-behind h (certificate.Notarization c) = tt
      certificate-behind h (certificate.Nullification c) = tt
      certificate-behind h (certificate.Finalization c) = tt

      made-behind : (h : History S D P G C) (o : Option (Certificate S D P G C)) → IfSome (option_map certificate_artifact o) (λ x. IsBehind (floor (entries (kept h))) (entry x))
      made-behind h None = tt
      made-behind h (Some c) = certificate-behind h c

      -- a vote to notarize and a verdict are of views behind that
      next-behind : (h : History S D P G C) → AreAllowed g f s h → is_begun h ≡ true → (p : Point S D P G C) → Allowed g f s h p → IfSome (recorded_by p) (λ x. IsBehind (floor (entries (kept h))) (entry x))
      next-behind h all begun (Found x taken) a = absurd (apart (sym a.order.1 ∙ begun))
      next-behind h all begun (Came c) a = certificate-behind h c
      next-behind h all begun (Judged r ok) a =
          let low = kept-floor-final g f s law h all in
          let above = a.due.above in
          omega (arith, low, above)
      next-behind h all begun (Constructs view kind batch) a = made-behind h batch.certificate
      next-behind h all begun (Votes (vote.Notarize v)) a =
          let low = kept-floor g f s law h all in
          let behind = a.due.0.behind in
          omega (arith, low, behind)
      next-behind h all begun (Votes (vote.Nullify v)) a = tt
      next-behind h all begun (Votes (vote.Finalize v)) a = tt
      next-behind h all begun p a = tt

      pub fits-kept : (h : History S D P G C) (p : Point S D P G C) (x : Artifact S D P G C) → AreAllowed g f s (p ∷ h) → recorded_by p ≡ Some x
          → Fits (g.attests s.voter.scheme) (g.certifies s.voter.scheme) (owner_of s) (kept h) x
      fits-kept h p x all is = by (is_begun h) refl
        where
          fits : Fits (g.attests s.voter.scheme) (g.certifies s.voter.scheme) (owner_of s) (record_of h) x
          fits = if-some (MayRecord g f s h) (recorded_by p) x all.0.fits is

          by : (b : Bool) → is_begun h ≡ b → Fits (g.attests s.voter.scheme) (g.certifies s.voter.scheme) (owner_of s) (kept h) x
          by false unbegun = subst (λ (l : List (Artifact S D P G C)). Fits (g.attests s.voter.scheme) (g.certifies s.voter.scheme) (owner_of s) l x) (sym (unbegun-kept h all.1 unbegun)) fits
          by true begun = ⊎_elim
              (λ some. record {
                verifies = fits.verifies;
                follows = follows-kept s.voter.length some (entries (record_of h)) (entries (kept h)) (kept-stands h all.1) (entry x)
                    (if-some (λ (y : Artifact S D P G C). IsBehind (floor (entries (kept h))) (entry y)) (recorded_by p) x (next-behind h all.1 begun p all.0) is) fits.follows;
              })
              (λ none. subst (λ (l : List (Artifact S D P G C)). Fits (g.attests s.voter.scheme) (g.certifies s.voter.scheme) (owner_of s) l x) (sym (termless-kept (omega (arith, none)) h all.1)) fits)
              (cases_lt 0 s.voter.length)

      -- so it is lawful
      pub kept-lawful : RecordLaws g
          → ((own : S) (owner : Owner) (r : List (Artifact S D P G C)) (c : Finalization S D P G C) → 0 < owner.term_length → IsLawful (g.attests own) (g.certifies own) owner r → Contains r (artifact.Finalization c)
          → c.proposal.round.view ≡ last_finalized (entries r) → IsLawful (g.attests own) (g.certifies own) owner (rewritten owner.term_length c r))
          → (h : History S D P G C) → AreAllowed g f s h → IsLawful (g.attests s.voter.scheme) (g.certifies s.voter.scheme) (owner_of s) (kept h)
      kept-lawful grows leaves [] all = grows.first s.voter.scheme (owner_of s)
      kept-lawful grows leaves (p ∷ h) all =
          let was = kept-lawful grows leaves h all.1 in
          ⊎_elim
          (λ rewrote.
          let may = may-rewrite g f s p h rewrote.0 rewrote.1 all.0 in
          let last = next-is-last (kept h) rewrote.0 may.next in
          subst (λ (l : List (Artifact S D P G C)). IsLawful (g.attests s.voter.scheme) (g.certifies s.voter.scheme) (owner_of s) l) (sym (rewrote-kept g f s p h rewrote.0 rewrote.1))
          (leaves s.voter.scheme (owner_of s) (kept h) rewrote.0 may.terms was last.0 last.1))
          (λ puts. subst (λ (l : List (Artifact S D P G C)). IsLawful (g.attests s.voter.scheme) (g.certifies s.voter.scheme) (owner_of s) l) (sym (puts s.voter.length (kept h)))
          (lawful-put g grows s.voter.scheme (owner_of s) (kept h) (recorded_by p) was
          (each-some (Fits (g.attests s.voter.scheme) (g.certifies s.voter.scheme) (owner_of s) (kept h)) (recorded_by p) (λ x is. fits-kept h p x all is))))
          (ways-of p)
