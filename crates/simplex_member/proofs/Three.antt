-- The three lists of a member go along with its history: all that it ever recorded, what its opening found and recorded since, what is kept.
use Rattle.std.proofs.Common.{◌≡◌, ◌⊎◌, inl, inr, ⊎_elim, ℕ, ◌<◌, Bool, true, false, List, [], ◌∷◌, ◌++◌, Option, Some, None, refl, sym, ◌∙◌, ap, subst, append_assoc, arith}
use Rattle.std.specs.Prelude.{Contains, IfSome, if◌then◌else◌, nat_lt, option_map}
use Rattle.std.proofs.lemmas.Bool.{cases_lt}
use Rattle.std.proofs.lemmas.List.{append-nil}
use Rattle.types_core.specs.declared.scheme.Scheme.{Ghosts}
use Rattle.types_core.specs.Subject.{notarize, nullify, finalize}
use Rattle.messages_certificates.specs.declared.artifact.Artifact.{Artifact}
use Rattle.messages_certificates.specs.declared.artifact.Artifact.TheVariants as artifact
use Rattle.messages_certificates.specs.declared.certificate.Certificate.{Certificate}
use Rattle.messages_certificates.specs.declared.certificate.Certificate.TheVariants as certificate
use Rattle.messages_certificates.specs.Artifact.{certificate_artifact}
use Rattle.messages_certificates.specs.ProposalCertificate.{Finalization}
use Rattle.simplex_messages.specs.declared.vote.Vote.TheVariants as vote
use Rattle.simplex_record.specs.declared.owner.Owner.{Owner}
use Rattle.simplex_record.specs.Record as recorded
use Rattle.simplex_record.specs.Record.{Entry, entries, entry, floor, last_finalized}
use Rattle.simplex_record.specs.Rules.{MayFollow, MayEverFollow}
use Rattle.simplex_record.specs.Kept.{AreOfOneMember, IsBehind, IsFrom}
use Rattle.simplex_record.specs.Lawful.{Fits, IsLawful, IsRecorded, further, rewritten}
use Rattle.voter_laws.specs.Matching.{EachHistoryMatches}
use Rattle.voter_laws.specs.Recording.{EachRecordIsKnown}
use Rattle.simplex_member.specs.Allowed.{Allowed, AreAllowed, MayRewrite}
use Rattle.simplex_member.specs.Laws.{LifeLaws, ListLaws, RecordLaws}
use Rattle.simplex_member.specs.Layers.{is_begun}
use Rattle.simplex_member.specs.Lives.{Appends, Broken, Course, Founds, IsCut, Lasting, Life, Lived, Lives, Refuses, Rewrites, Turn, Turns, Went}
use Rattle.simplex_member.specs.Member.{AppendsFloor, AreFound, AreOpening, Goes}
use Rattle.simplex_member.specs.Packet.{Formats}
use Rattle.simplex_member.specs.Point.{Point, Opened, Found, Began, Came, Judged, Constructs, Votes, Rewrote, History}
use Rattle.simplex_member.specs.Recorded.{added_by, fresh_of, kept_of, put_behind, record_of, recorded_by}
use Rattle.simplex_member.specs.Setup.{IsOfOneMember, Setup, owner_of}
use Rattle.simplex_member.specs.declared.event.Event.{Event}
use Rattle.simplex_member.proofs.Floored.{due-from}
use Rattle.simplex_member.proofs.Kept.{kept-floor, kept-floor-final, next-is-last, ways-of}
use Rattle.simplex_member.proofs.Sameness.{same-owner}
use Rattle.simplex_member.proofs.Telling.{apart}

-- a member's lists: what it kept of all that it ever recorded is lawful; and either they hang together by the laws of records, or terms
-- have no views, so that nothing was ever rewritten, and they are one
pub record Are {S D P G C : Type 0} (g : Ghosts S D P G C) (own : S) (owner : Owner) (ever opened kept : List (Artifact S D P G C)) : Type 0 where
  pub recorded_so : IsRecorded (g.attests own) (g.certifies own) owner ever kept
  pub lawful : IsLawful (g.attests own) (g.certifies own) owner kept
  pub hang : ((owner.term_length ≡ 0) × (ever ≡ opened) × (opened ≡ kept)) ⊎ ((0 < owner.term_length) × AreOfOneMember (g.attests own) (g.certifies own) owner ever opened kept)

-- what may follow a list may follow it where it is all that was ever recorded, and is kept
ever-follow : {D : Type 0} (views : ℕ) (r : List (Entry D)) (e : Entry D) → MayFollow views r e → IsFrom (floor r) e → MayEverFollow views r r e
ever-follow views r (recorded.voted (notarize p)) may high = record { may = may; from_floor = high; behind_kept = may.behind }
ever-follow views r (recorded.voted (nullify x)) may high = may
ever-follow views r (recorded.voted (finalize p)) may high = may
ever-follow views r (recorded.taken s) may high = may
ever-follow views r (recorded.judged x ok) may high = may

module _ {S D P G C : Type 0} (g : Ghosts S D P G C) (grows : RecordLaws g) (laws : ListLaws g) (own : S) (owner : Owner) where
  abbrev AreSo : (ever opened kept : List (Artifact S D P G C)) → Type 0
  AreSo ever opened kept = Are g own owner ever opened kept

  by-laws : (ever opened kept : List (Artifact S D P G C)) → 0 < owner.term_length → AreOfOneMember (g.attests own) (g.certifies own) owner ever opened kept → AreSo ever opened kept
  by-laws ever opened kept some are = record { recorded_so = are.kept_is; lawful = (laws.kept own owner ever kept some are.kept_is).0; hang = inr (some, are) }

  pub are-first : AreSo [] [] []
  are-first = ⊎_elim
      (λ some. by-laws [] [] [] some (laws.first own owner))
      (λ none. record { recorded_so = (laws.first own owner).kept_is; lawful = grows.first own owner; hang = inl (omega (arith, none), refl, refl) })
      (cases_lt 0 owner.term_length)

  pub are-opened : (ever opened kept : List (Artifact S D P G C)) → AreSo ever opened kept → AreSo ever kept kept
  are-opened ever opened kept are = ⊎_elim
      (λ one. record { recorded_so = are.recorded_so; lawful = are.lawful; hang = inl (one.0, one.1 ∙ one.2, refl) })
      (λ more. by-laws ever kept kept more.0 (laws.opens own owner ever opened kept more.1))
      are.hang

  -- where they are one, with one artifact more
  one-more : (r : List (Artifact S D P G C)) (x : Artifact S D P G C) → owner.term_length ≡ 0 → IsRecorded (g.attests own) (g.certifies own) owner r r → IsLawful (g.attests own) (g.certifies own) owner r
      → IsFrom (floor (entries r)) (entry x) → Fits (g.attests own) (g.certifies own) owner r x → AreSo (r ++ x ∷ []) (r ++ x ∷ []) (r ++ x ∷ [])
  one-more r x none so lawful high fits = record {
    recorded_so = further x so (record { verifies = fits.verifies; follows = ever-follow owner.term_length (entries r) (entry x) fits.follows high });
    lawful = grows.further own owner r x lawful fits;
    hang = inl (none, refl, refl);
  }

  pub are-recorded : (ever opened kept : List (Artifact S D P G C)) (x : Artifact S D P G C) → AreSo ever opened kept → IsFrom (floor (entries opened)) (entry x) → IsBehind (floor (entries kept)) (entry x)
      → Fits (g.attests own) (g.certifies own) owner opened x → AreSo (ever ++ x ∷ []) (opened ++ x ∷ []) (kept ++ x ∷ [])
  are-recorded ever opened kept x are high behind fits = ⊎_elim
      (λ one.
      let all : ever ≡ kept = one.1 ∙ one.2 in
      let so = subst (λ (l : List (Artifact S D P G C)). IsRecorded (g.attests own) (g.certifies own) owner l kept) all are.recorded_so in
      let fits_so = subst (λ (l : List (Artifact S D P G C)). Fits (g.attests own) (g.certifies own) owner l x) one.2 fits in
      let high_so = subst (λ (l : List (Artifact S D P G C)). IsFrom (floor (entries l)) (entry x)) one.2 high in
      let more = one-more kept x one.0 so are.lawful high_so fits_so in
      subst (λ (l : List (Artifact S D P G C)). AreSo (l ++ x ∷ []) (opened ++ x ∷ []) (kept ++ x ∷ [])) (sym all)
      (subst (λ (l : List (Artifact S D P G C)). AreSo (kept ++ x ∷ []) (l ++ x ∷ []) (kept ++ x ∷ [])) (sym one.2) more))
      (λ more. by-laws (ever ++ x ∷ []) (opened ++ x ∷ []) (kept ++ x ∷ []) more.0 (laws.records own owner ever opened kept x more.0 more.1 high behind fits))
      are.hang

  pub are-rewritten : (ever opened kept : List (Artifact S D P G C)) (c : Finalization S D P G C) → AreSo ever opened kept → 0 < owner.term_length → Contains kept (artifact.Finalization c)
      → c.proposal.round.view ≡ last_finalized (entries kept) → AreSo ever opened (rewritten owner.term_length c kept)
  are-rewritten ever opened kept c are some there last = ⊎_elim
      (λ one. absurd (omega (arith, some, one.0)))
      (λ more. by-laws ever opened (rewritten owner.term_length c kept) some (laws.rewrites own owner ever opened kept c more.1 there last))
      are.hang

-- what a point adds is what it records, unless that was found
pub added-or-found : {S D P G C : Type 0} (p : Point S D P G C) → (added_by p ≡ recorded_by p) ⊎ ((x : Artifact S D P G C) × (taken : Bool) × (p ≡ Found x taken))
added-or-found (Found x taken) = inr (x, taken, refl)
added-or-found p = inl refl

module _ {S D P G C : Type 0} where
  -- a floor that is appended is one, or none is
  abbrev pub AtMostOne : List (Artifact S D P G C) → Type 0
  AtMostOne founded = (founded ≡ []) ⊎ ((c : Finalization S D P G C) × (founded ≡ artifact.Finalization c ∷ []))

  pub which-floor : (brought : Option (Finalization S D P G C)) (found founded : List (Artifact S D P G C)) → AppendsFloor brought found founded → AtMostOne founded
  which-floor None found founded is = inl is
  which-floor (Some c) found founded is = go (nat_lt (last_finalized (entries found)) c.proposal.round.view) is
    where
      go : (b : Bool) → founded ≡ (if b then artifact.Finalization c ∷ [] else []) → AtMostOne founded
      go true at = inr (c, at)
      go false at = inl at

module _ {S D P G C : Type 0} (g : Ghosts S D P G C) (f : Formats S D P G C) where
  pub appends-one : (course : Course S D P G C) (brought : Option (Finalization S D P G C)) (found founded : List (Artifact S D P G C)) → Appends g f course brought found founded → AtMostOne founded
  appends-one (Broken now points) brought found founded appends = ⊎_elim (λ none. inl none) (λ is. which-floor brought found founded is) appends
  appends-one (Lasting now points turns cut) brought found founded appends = which-floor brought found founded appends

module _ {S D P G C : Type 0} (g : Ghosts S D P G C) (f : Formats S D P G C) (s : Setup S D C) where
  -- a member's lists at a history, where it ever recorded these before what its opening recorded
  abbrev pub HasLists : List (Artifact S D P G C) → History S D P G C → Type 0
  HasLists ever h = Are g s.voter.scheme (owner_of s) (ever ++ fresh_of h) (record_of h) (kept_of s.voter.length h)

  -- a history whose record was gone through
  pub record IsUnderWay (ever : List (Artifact S D P G C)) (h : History S D P G C) : Type 0 where
    pub allowed : AreAllowed g f s h
    pub begun : is_begun h ≡ true
    pub lists : HasLists ever h

  begun-on : (p : Point S D P G C) (h : History S D P G C) → is_begun h ≡ true → is_begun (p ∷ h) ≡ true
  begun-on Began h begun = refl
  begun-on p h begun = begun

  module _ (law : EachHistoryMatches S D P G C) (knows : EachRecordIsKnown S D P G C) where
    -- what a point records goes behind the floors
    abbrev StandsByFloors : History S D P G C → Artifact S D P G C → Type 0
    StandsByFloors h x = IsFrom (floor (entries (record_of h))) (entry x) × IsBehind (floor (entries (kept_of s.voter.length h))) (entry x)

    certificate-floors : (h : History S D P G C) (c : Certificate S D P G C) → StandsByFloors h (certificate_artifact c)
    certificate-floors h (certificate.Notarization c) = (tt, tt)
    certificate-floors h (certificate.Nullification c) = (tt, tt)
    certificate-floors h (certificate.Finalization c) = (tt, tt)

    made-floors : (h : History S D P G C) (o : Option (Certificate S D P G C)) → IfSome (option_map certificate_artifact o) (StandsByFloors h)
    made-floors h None = tt
    made-floors h (Some c) = certificate-floors h c

    stands-by-floors : (h : History S D P G C) → AreAllowed g f s h → is_begun h ≡ true → (p : Point S D P G C) → Allowed g f s h p → IfSome (recorded_by p) (StandsByFloors h)
    stands-by-floors h all begun (Found x taken) a = absurd (apart (sym a.order.1 ∙ begun))
    stands-by-floors h all begun (Came c) a = certificate-floors h c
    stands-by-floors h all begun (Judged r ok) a =
        let low = kept-floor-final g f s law h all in
        let above = a.due.above in
        (tt, omega (arith, low, above))
    stands-by-floors h all begun (Constructs view kind batch) a = made-floors h batch.certificate
    stands-by-floors h all begun (Votes (vote.Notarize v)) a =
        let low = kept-floor g f s law h all in
        let behind = a.due.0.behind in
        (due-from g f s law knows h all v.proposal.round.view v.proposal a.due.0 a.due.1, omega (arith, low, behind))
    stands-by-floors h all begun (Votes (vote.Nullify v)) a = (tt, tt)
    stands-by-floors h all begun (Votes (vote.Finalize v)) a = (tt, tt)
    stands-by-floors h all begun p a = tt

    module _ (grows : RecordLaws g) (laws : ListLaws g) where
      -- with one artifact more, or none
      put-on : (ever fresh opened kept : List (Artifact S D P G C)) (o : Option (Artifact S D P G C)) → Are g s.voter.scheme (owner_of s) (ever ++ fresh) opened kept
          → IfSome o (λ x. IsFrom (floor (entries opened)) (entry x) × IsBehind (floor (entries kept)) (entry x)) → IfSome o (λ x. Fits (g.attests s.voter.scheme) (g.certifies s.voter.scheme) (owner_of s) opened x)
          → Are g s.voter.scheme (owner_of s) (ever ++ put_behind fresh o) (put_behind opened o) (put_behind kept o)
      put-on ever fresh opened kept None are floors fits = are
      put-on ever fresh opened kept (Some x) are floors fits =
          subst (λ (l : List (Artifact S D P G C)). Are g s.voter.scheme (owner_of s) l (opened ++ x ∷ []) (kept ++ x ∷ [])) (append_assoc ever fresh (x ∷ []))
          (are-recorded g grows laws s.voter.scheme (owner_of s) (ever ++ fresh) opened kept x are floors.0 floors.1 fits)

      rewrite-on : (ever : List (Artifact S D P G C)) (h : History S D P G C) (c : Finalization S D P G C) → MayRewrite g f s h c → HasLists ever h → HasLists ever (Rewrote c ∷ h)
      rewrite-on ever h c may are =
          let last = next-is-last (kept_of s.voter.length h) c may.next in
          are-rewritten g grows laws s.voter.scheme (owner_of s) (ever ++ fresh_of h) (record_of h) (kept_of s.voter.length h) c are may.terms last.0 last.1

      lists-on : (ever : List (Artifact S D P G C)) (h : History S D P G C) (p : Point S D P G C) → AreAllowed g f s h → is_begun h ≡ true → Allowed g f s h p → HasLists ever h → HasLists ever (p ∷ h)
      lists-on ever h p all begun a are = ⊎_elim
          (λ rewrote.
          let b : Allowed g f s h (Rewrote rewrote.0) = subst (λ (q : Point S D P G C). Allowed g f s h q) rewrote.1 a in
          subst (λ (q : Point S D P G C). HasLists ever (q ∷ h)) (sym rewrote.1) (rewrite-on ever h rewrote.0 b.due are))
          (λ puts. ⊎_elim
          (λ added.
          let on = put-on ever (fresh_of h) (record_of h) (kept_of s.voter.length h) (recorded_by p) are (stands-by-floors h all begun p a) a.fits in
          subst (λ (l : List (Artifact S D P G C)). Are g s.voter.scheme (owner_of s) (ever ++ fresh_of (p ∷ h)) (record_of (p ∷ h)) l) (sym (puts s.voter.length (kept_of s.voter.length h)))
          (subst (λ (o : Option (Artifact S D P G C)). Are g s.voter.scheme (owner_of s) (ever ++ put_behind (fresh_of h) o) (record_of (p ∷ h)) (put_behind (kept_of s.voter.length h) (recorded_by p))) (sym added) on))
          (λ found.
          let b : Allowed g f s h (Found found.0 found.1) = subst (λ (q : Point S D P G C). Allowed g f s h q) found.2 a in
          absurd (apart (sym b.order.1 ∙ begun)))
          (added-or-found p))
          (ways-of p)

      pub point-under : (ever : List (Artifact S D P G C)) (h : History S D P G C) (p : Point S D P G C) → Allowed g f s h p → IsUnderWay ever h → IsUnderWay ever (p ∷ h)
      point-under ever h p a is = record { allowed = (a, is.allowed); begun = begun-on p h is.begun; lists = lists-on ever h p is.allowed is.begun a is.lists }

      pub goes-under : (ever : List (Artifact S D P G C)) (h : History S D P G C) (points : List (Point S D P G C)) (end : History S D P G C) → Goes g f s h points end → IsUnderWay ever h → IsUnderWay ever end
      goes-under ever h [] end is under = subst (λ (k : History S D P G C). IsUnderWay ever k) (sym is) under
      goes-under ever h (p ∷ points) end goes under = goes-under ever (p ∷ h) points end goes.1 (point-under ever h p goes.0 under)

      turns-under : (ever : List (Artifact S D P G C)) (h : History S D P G C) (turns : List (Turn S D P G C)) (end : History S D P G C) → Turns g f s h turns end → IsUnderWay ever h → IsUnderWay ever end
      turns-under ever h [] end is under = subst (λ (k : History S D P G C). IsUnderWay ever k) (sym is) under
      turns-under ever h (Refuses e r ∷ turns) end t under = turns-under ever h turns end t.1 under
      turns-under ever h (Went e points ∷ turns) end t under = turns-under ever t.0 turns end t.3 (goes-under ever h points t.0 t.2.goes under)
      turns-under ever h (Rewrites c ∷ turns) end t under = turns-under ever (Rewrote c ∷ h) turns end t.1 (point-under ever h (Rewrote c) t.0.allowed under)

      cut-under : (ever : List (Artifact S D P G C)) (h : History S D P G C) (cut : Option (Event D × List (Point S D P G C))) (end : History S D P G C) → IsCut g f s h cut end → IsUnderWay ever h → IsUnderWay ever end
      cut-under ever h None end is under = subst (λ (k : History S D P G C). IsUnderWay ever k) (sym is) under
      cut-under ever h (Some c) end is under = goes-under ever h c.1 end is.1 under

      -- ---- the reading

      -- while these are still to be read of what was found
      record IsReading (found xs : List (Artifact S D P G C)) (h : History S D P G C) : Type 0 where
        pub allowed : AreAllowed g f s h
        pub record_is : record_of h ++ xs ≡ found
        pub kept_is : kept_of s.voter.length h ++ xs ≡ found
        pub fresh_is : fresh_of h ≡ []

      read-one : (found xs : List (Artifact S D P G C)) (x : Artifact S D P G C) (taken : Bool) (h : History S D P G C) → Allowed g f s h (Found x taken) → IsReading found (x ∷ xs) h → IsReading found xs (Found x taken ∷ h)
      read-one found xs x taken h allowed is = record {
        allowed = (allowed, is.allowed);
        record_is = append_assoc (record_of h) (x ∷ []) xs ∙ is.record_is;
        kept_is = append_assoc (kept_of s.voter.length h) (x ∷ []) xs ∙ is.kept_is;
        fresh_is = is.fresh_is;
      }

      -- it was gone through
      begun-under : (ever found : List (Artifact S D P G C)) (h : History S D P G C) → Allowed g f s h Began → IsReading found [] h → Are g s.voter.scheme (owner_of s) ever found found → IsUnderWay ever (Began ∷ h)
      begun-under ever found h allowed is are =
          let record_is : record_of h ≡ found = sym (append-nil (record_of h)) ∙ is.record_is in
          let kept_is : kept_of s.voter.length h ≡ found = sym (append-nil (kept_of s.voter.length h)) ∙ is.kept_is in
          let ever_is : ever ++ fresh_of h ≡ ever = ap (λ (l : List (Artifact S D P G C)). ever ++ l) is.fresh_is ∙ append-nil ever in
          record {
            allowed = (allowed, is.allowed);
            begun = refl;
            lists = subst (λ (l : List (Artifact S D P G C)). Are g s.voter.scheme (owner_of s) l (record_of h) (kept_of s.voter.length h)) (sym ever_is)
                (subst (λ (l : List (Artifact S D P G C)). Are g s.voter.scheme (owner_of s) ever l (kept_of s.voter.length h)) (sym record_is)
                (subst (λ (l : List (Artifact S D P G C)). Are g s.voter.scheme (owner_of s) ever found l) (sym kept_is) are));
          }

      -- all of it
      read-all : (ever found xs : List (Artifact S D P G C)) (read acts : List (Point S D P G C)) (h end : History S D P G C) → AreFound xs read → Goes g f s h (read ++ Began ∷ acts) end → IsReading found xs h
          → Are g s.voter.scheme (owner_of s) ever found found → IsUnderWay ever end
      read-all ever found [] [] acts h end are_found goes is are = goes-under ever (Began ∷ h) acts end goes.1 (begun-under ever found h goes.0 is are)
      read-all ever found (x ∷ xs) (Found y taken ∷ read) acts h end are_found goes is are =
          let this : Allowed g f s h (Found x taken) = subst (λ (z : Artifact S D P G C). Allowed g f s h (Found z taken)) are_found.0 goes.0 in
          let rest = subst (λ (z : Artifact S D P G C). Goes g f s (Found z taken ∷ h) (read ++ Began ∷ acts) end) are_found.0 goes.1 in
          read-all ever found xs read acts (Found x taken ∷ h) end are_found.1 rest (read-one found xs x taken h this is) are
      read-all ever found [] (p ∷ read) acts h end never goes is are = absurd never
      read-all ever found (x ∷ xs) [] acts h end never goes is are = absurd never
      read-all ever found (x ∷ xs) (p ∷ read) acts h end never goes is are = absurd never

      -- what is read up to a floor that was appended, and then that: so it fits behind what was found
      floor-fits : (found xs : List (Artifact S D P G C)) (c : Finalization S D P G C) (read acts : List (Point S D P G C)) (h end : History S D P G C) → AreFound (xs ++ artifact.Finalization c ∷ []) read
          → Goes g f s h (read ++ Began ∷ acts) end → record_of h ++ xs ≡ found → Fits (g.attests s.voter.scheme) (g.certifies s.voter.scheme) (owner_of s) found (artifact.Finalization c)
      floor-fits found [] c (Found y taken ∷ read) acts h end are_found goes is =
          let this : Allowed g f s h (Found (artifact.Finalization c) taken) = subst (λ (z : Artifact S D P G C). Allowed g f s h (Found z taken)) are_found.0 goes.0 in
          subst (λ (l : List (Artifact S D P G C)). Fits (g.attests s.voter.scheme) (g.certifies s.voter.scheme) (owner_of s) l (artifact.Finalization c)) (sym (append-nil (record_of h)) ∙ is) this.fits
      floor-fits found (x ∷ xs) c (Found y taken ∷ read) acts h end are_found goes is =
          floor-fits found xs c read acts (Found y taken ∷ h) end are_found.1 goes.1
          (subst (λ (z : Artifact S D P G C). (record_of h ++ z ∷ []) ++ xs ≡ found) (sym are_found.0) (append_assoc (record_of h) (x ∷ []) xs ∙ is))
      floor-fits found [] c [] acts h end never goes is = absurd never
      floor-fits found [] c (p ∷ read) acts h end never goes is = absurd never
      floor-fits found (x ∷ xs) c [] acts h end never goes is = absurd never
      floor-fits found (x ∷ xs) c (p ∷ read) acts h end never goes is = absurd never

      opening-under : (ever found founded : List (Artifact S D P G C)) (now : ℕ) (points : List (Point S D P G C)) (end : History S D P G C) → AtMostOne founded
          → AreOpening g f s now (found ++ founded) points → Goes g f s [] points end → Are g s.voter.scheme (owner_of s) ever found found → IsUnderWay (ever ++ founded) end
      opening-under ever found founded now points end which o goes are =
          let gone = subst (λ (l : List (Point S D P G C)). Goes g f s [] l end) o.split goes in
          let start : IsReading (found ++ founded) (found ++ founded) (Opened now ∷ []) = record { allowed = (gone.0, tt); record_is = refl; kept_is = refl; fresh_is = refl } in
          read-all (ever ++ founded) (found ++ founded) (found ++ founded) o.read o.acts (Opened now ∷ []) end o.are gone.1 start (⊎_elim
          (λ none. subst (λ (l : List (Artifact S D P G C)). Are g s.voter.scheme (owner_of s) (ever ++ l) (found ++ l) (found ++ l)) (sym none)
          (subst (λ (l : List (Artifact S D P G C)). Are g s.voter.scheme (owner_of s) l (found ++ []) (found ++ [])) (sym (append-nil ever))
          (subst (λ (l : List (Artifact S D P G C)). Are g s.voter.scheme (owner_of s) ever l l) (sym (append-nil found)) are)))
          (λ one. subst (λ (l : List (Artifact S D P G C)). Are g s.voter.scheme (owner_of s) (ever ++ l) (found ++ l) (found ++ l)) (sym one.1)
          (are-recorded g grows laws s.voter.scheme (owner_of s) ever found found (artifact.Finalization one.0) are tt tt
          (floor-fits found found one.0 o.read o.acts (Opened now ∷ []) end (subst (λ (l : List (Artifact S D P G C)). AreFound (found ++ l) o.read) one.1 o.are) gone.1 refl)))
          which)

      pub life-under : (ever found founded : List (Artifact S D P G C)) (brought : Option (Finalization S D P G C)) (course : Course S D P G C) (end : History S D P G C) → Appends g f course brought found founded
          → Lived g f s (found ++ founded) course end → Are g s.voter.scheme (owner_of s) ever found found → IsUnderWay (ever ++ founded) end
      life-under ever found founded brought (Broken now points) end appends lived are =
          opening-under ever found founded now points end (appends-one g f (Broken now points) brought found founded appends) lived.0 lived.1 are
      life-under ever found founded brought (Lasting now points turns cut) end appends lived are =
          cut-under (ever ++ founded) lived.1 cut end lived.5 (turns-under (ever ++ founded) lived.0 turns lived.1 lived.4
          (opening-under ever found founded now points lived.0 (appends-one g f (Lasting now points turns cut) brought found founded appends) lived.2 lived.3.goes are))

-- ---- lives, each by a setup of its own

module _ {S D P G C : Type 0} (g : Ghosts S D P G C) (f : Formats S D P G C) (basis : LifeLaws g) where
  are-by : (s t : Setup S D C) → IsOfOneMember s t → (ever opened kept : List (Artifact S D P G C)) → Are g t.voter.scheme (owner_of t) ever opened kept → Are g s.voter.scheme (owner_of s) ever opened kept
  are-by s t same ever opened kept are = subst (λ (o : Owner). Are g s.voter.scheme o ever opened kept) (same-owner g s t same)
      (subst (λ (own : S). Are g own (owner_of t) ever opened kept) same.scheme are)

  are-for : (s t : Setup S D C) → IsOfOneMember s t → (ever opened kept : List (Artifact S D P G C)) → Are g s.voter.scheme (owner_of s) ever opened kept → Are g t.voter.scheme (owner_of t) ever opened kept
  are-for s t same ever opened kept are = subst (λ (o : Owner). Are g t.voter.scheme o ever opened kept) (sym (same-owner g s t same))
      (subst (λ (own : S). Are g own (owner_of s) ever opened kept) (sym same.scheme) are)

  module _ (s : Setup S D C) where
    -- the lists behind a life
    pub life-lists : (ever found : List (Artifact S D P G C)) (life : Life S D P G C) (end : History S D P G C) → Founds g f found life
        → Lived g f life.setup (found ++ life.founded) life.course end → IsOfOneMember s life.setup → Are g s.voter.scheme (owner_of s) ever found found
        → Are g s.voter.scheme (owner_of s) (ever ++ (life.founded ++ fresh_of end)) (record_of end) (kept_of life.setup.voter.length end)
    life-lists ever found life end founds lived same are =
        let under = life-under g f life.setup basis.matches basis.known basis.records basis.lists ever found life.founded life.brought life.course end founds.appends lived (are-for s life.setup same ever found found are) in
        are-by s life.setup same (ever ++ (life.founded ++ fresh_of end)) (record_of end) (kept_of life.setup.voter.length end)
        (subst (λ (l : List (Artifact S D P G C)). Are g life.setup.voter.scheme (owner_of life.setup) l (record_of end) (kept_of life.setup.voter.length end)) (append_assoc ever life.founded (fresh_of end)) under.lists)

    lives-lists : (ever found : List (Artifact S D P G C)) (lives : List (Life S D P G C)) (all left : List (Artifact S D P G C)) → Lives g f s ever found lives all left
        → Are g s.voter.scheme (owner_of s) ever found found → Are g s.voter.scheme (owner_of s) all left left
    lives-lists ever found [] all left is are = subst (λ (l : List (Artifact S D P G C)). Are g s.voter.scheme (owner_of s) l left left) (sym is.0)
        (subst (λ (l : List (Artifact S D P G C)). Are g s.voter.scheme (owner_of s) ever l l) (sym is.1) are)
    lives-lists ever found (life ∷ lives) all left led are =
        let end = led.0 in
        let ever_then = ever ++ (life.founded ++ fresh_of end) in
        let kept_then = kept_of life.setup.voter.length end in
        lives-lists ever_then kept_then lives all left led.3 (are-opened g basis.records basis.lists s.voter.scheme (owner_of s) ever_then (record_of end) kept_then (life-lists ever found life end led.1 led.2 led.4 are))

    -- of lives from nothing on: what was ever recorded, and what is left
    pub all-lists : (lives : List (Life S D P G C)) (all left : List (Artifact S D P G C)) → Lives g f s [] [] lives all left → Are g s.voter.scheme (owner_of s) all left left
    all-lists lives all left led = lives-lists [] [] lives all left led (are-first g basis.records basis.lists s.voter.scheme (owner_of s))
