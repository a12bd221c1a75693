-- A verdict that is awaited is on a notarization that is recorded, which the voter has.
use Rattle.std.proofs.Common.{◌≡◌, ⊎_elim, ℕ, ◌==◌, ◌-◌, ◌<◌, ◌≤◌, Bool, true, false, List, [], ◌∷◌, ◌++◌, Option, Some, None, refl, sym, ◌∙◌, ap, subst, arith}
use Rattle.std.specs.Prelude.{Contains, IsSome, if◌then◌else◌, option_map}
use Rattle.std.proofs.lemmas.Bool.{false≢true}
use Rattle.std.proofs.lemmas.Bool.Decides.{Decides-eqb}
use Rattle.std.proofs.lemmas.Option.{none-some}
use Rattle.types_quorum.specs.Counting.{Contains-cases, Contains-nil}
use Rattle.types_core.specs.declared.position.Round.{Round}
use Rattle.types_core.specs.declared.proposal.Proposal.{Proposal}
use Rattle.types_core.specs.declared.scheme.Scheme.{Ghosts}
use Rattle.types_core.specs.Positions.{HasRoom}
use Rattle.types_core.specs.Subject.{notarize}
use Rattle.messages_certificates.specs.declared.artifact.Artifact.{Artifact}
use Rattle.messages_certificates.specs.declared.artifact.Artifact.TheVariants as artifact
use Rattle.messages_certificates.specs.ProposalCertificate.{Notarization}
use Rattle.simplex_record.specs.Record as recorded
use Rattle.simplex_record.specs.Record.{Entry, entry, entries}
use Rattle.voter_history.specs.History.{seen}
use Rattle.voter_history.specs.Past as past
use Rattle.voter_laws.specs.Matching.{EachHistoryMatches}
use Rattle.voter_laws.specs.Recording.{EachRecordIsKnown, IsKnown}
use Rattle.simplex_member.specs.Allowed.{Allowed, AreAllowed, MayRecord}
use Rattle.simplex_member.specs.Asked.{IsAwaited}
use Rattle.simplex_member.specs.Laws.{IsJudgeable}
use Rattle.simplex_member.specs.Layers.{known_of, voter_of}
use Rattle.simplex_member.specs.Packet.{Formats}
use Rattle.simplex_member.specs.Point.{Point, AsksCertify, History}
use Rattle.simplex_member.specs.Recorded.{notarization_in, put_behind, record_of, recorded_by}
use Rattle.simplex_member.specs.Setup.{Setup, member_of}
use Rattle.simplex_member.proofs.Entering.{notarized-recorded}
use Rattle.simplex_member.proofs.Judgeable.{asked-taken, verdict-may}
use Rattle.simplex_member.proofs.Lists.{Contains-map, if-some, put-cases, same-number, some-is}
use Rattle.simplex_member.proofs.Recordable.{matches, orderly}
use Rattle.simplex_member.proofs.Reporting.{notarized-there}
use Rattle.simplex_member.proofs.Telling.{tells-record}

-- what lies above the last finalized view is kept
kept-above : (last low retention view at : ℕ) → last ≡ low → view ≡ at → last < at → low - retention ≤ view
kept-above last low retention view at same is above = omega arith

module _ {S D P G C : Type 0} where
  -- the notarization of a view that is found stays so, whatever stands behind
  found-first : (xs ys : List (Artifact S D P G C)) (view : ℕ) (c : Notarization S D P G C) → notarization_in xs view ≡ Some c → notarization_in (xs ++ ys) view ≡ Some c
  found-first [] ys view c is = absurd (none-some c is)
  found-first (artifact.Notarization d ∷ xs) ys view c is = go (d.proposal.round.view == view) is (λ later. found-first xs ys view c later)
    where
      go : (b : Bool) → (if b then Some d else notarization_in xs view) ≡ Some c → (notarization_in xs view ≡ Some c → notarization_in (xs ++ ys) view ≡ Some c)
          → (if b then Some d else notarization_in (xs ++ ys) view) ≡ Some c
      go true found later = found
      go false found later = later found
  found-first (x ∷ xs) ys view c is = found-first xs ys view c is

  found-put : (xs : List (Artifact S D P G C)) (o : Option (Artifact S D P G C)) (view : ℕ) (c : Notarization S D P G C) → notarization_in xs view ≡ Some c → notarization_in (put_behind xs o) view ≡ Some c
  found-put xs None view c is = is
  found-put xs (Some x) view c is = found-first xs (x ∷ []) view c is

  -- one is found where none of its view stands before it
  found-last : (xs : List (Artifact S D P G C)) (c : Notarization S D P G C) → notarization_in xs c.proposal.round.view ≡ None → notarization_in (xs ++ artifact.Notarization c ∷ []) c.proposal.round.view ≡ Some c
  found-last [] c none = rw (same-number c.proposal.round.view c.proposal.round.view refl) refl
  found-last (artifact.Notarization d ∷ xs) c none = go (d.proposal.round.view == c.proposal.round.view) none (λ later. found-last xs c later)
    where
      go : (b : Bool) → (if b then Some d else notarization_in xs c.proposal.round.view) ≡ None
          → (notarization_in xs c.proposal.round.view ≡ None → notarization_in (xs ++ artifact.Notarization c ∷ []) c.proposal.round.view ≡ Some c)
          → (if b then Some d else notarization_in (xs ++ artifact.Notarization c ∷ []) c.proposal.round.view) ≡ Some c
      go true some later = absurd (none-some d (sym some))
      go false empty later = later empty
  found-last (x ∷ xs) c none = found-last xs c none

  -- what is found of a view is of that view
  found-at : (xs : List (Artifact S D P G C)) (view : ℕ) (c : Notarization S D P G C) → notarization_in xs view ≡ Some c → c.proposal.round.view ≡ view
  found-at [] view c is = absurd (none-some c is)
  found-at (artifact.Notarization d ∷ xs) view c is = go (d.proposal.round.view == view) (λ here. (Decides-eqb d.proposal.round.view view).0 here) is (λ later. found-at xs view c later)
    where
      go : (b : Bool) → (b ≡ true → d.proposal.round.view ≡ view) → (if b then Some d else notarization_in xs view) ≡ Some c → (notarization_in xs view ≡ Some c → c.proposal.round.view ≡ view) → c.proposal.round.view ≡ view
      go true here found later = ap (λ (x : Notarization S D P G C). x.proposal.round.view) (sym (some-is d c found)) ∙ here refl
      go false here found later = later found
  found-at (x ∷ xs) view c is = found-at xs view c is

  -- one is there
  some-certificate : (o : Option (Notarization S D P G C)) → IsSome (option_map (λ (c : Notarization S D P G C). c.proposal) o) → (c : Notarization S D P G C) × (o ≡ Some c)
  some-certificate None none = absurd (false≢true none)
  some-certificate (Some c) some = (c, refl)

module _ {S D P G C : Type 0} (g : Ghosts S D P G C) (f : Formats S D P G C) (s : Setup S D C) where
  -- behind a notarization of its view none more may be recorded
  none-found : (h : History S D P G C) (c : Notarization S D P G C) → MayRecord g f s h (artifact.Notarization c) → notarization_in (record_of h) c.proposal.round.view ≡ None
  none-found h c may = go (notarization_in (record_of h) c.proposal.round.view) refl
    where
      go : (o : Option (Notarization S D P G C)) → notarization_in (record_of h) c.proposal.round.view ≡ o → o ≡ None
      go None is = refl
      go (Some d) is = absurd (may.follows.first (notarize d.proposal) (sym (found-at (record_of h) c.proposal.round.view d is))
          (Contains-map entry (record_of h) (artifact.Notarization d) (notarized-there (record_of h) c.proposal.round.view d is)))

  new-one : (h : History S D P G C) (p : Point S D P G C) (c : Notarization S D P G C) → MayRecord g f s h (artifact.Notarization c) → recorded_by p ≡ Some (artifact.Notarization c)
      → notarization_in (record_of (p ∷ h)) c.proposal.round.view ≡ Some c
  new-one h p c may is = subst (λ (o : Option (Artifact S D P G C)). notarization_in (put_behind (record_of h) o) c.proposal.round.view ≡ Some c) (sym is) (found-last (record_of h) c (none-found h c may))

  -- so each that is recorded is the one that is found
  found-one : (h : History S D P G C) → AreAllowed g f s h → (c : Notarization S D P G C) → Contains (record_of h) (artifact.Notarization c) → notarization_in (record_of h) c.proposal.round.view ≡ Some c
  found-one [] all c here = absurd (Contains-nil (artifact.Notarization c) here)
  found-one (p ∷ h) all c here = ⊎_elim
      (λ before. found-put (record_of h) (recorded_by p) c.proposal.round.view c (found-one h all.1 c before))
      (λ now. new-one h p c (if-some (MayRecord g f s h) (recorded_by p) (artifact.Notarization c) all.0.fits now) now)
      (put-cases (record_of h) (recorded_by p) (artifact.Notarization c) here)

  -- a view on which a verdict was asked for has room
  asked-room : (h : History S D P G C) → AreAllowed g f s h → (p : Proposal D) → Contains h (AsksCertify p) → HasRoom s.voter.length p.round.view
  asked-room [] all p here = absurd (Contains-nil (AsksCertify p) here)
  asked-room (q ∷ h) all p here = ⊎_elim
      (λ is. let a : Allowed g f s h (AsksCertify p) = subst (λ (x : Point S D P G C). Allowed g f s h x) is all.0 in a.due.opens.room)
      (λ later. asked-room h all.1 p later)
      (Contains-cases q h (AsksCertify p) here)

  -- the voter has a notarization of it
  asked-known : EachHistoryMatches S D P G C → EachRecordIsKnown S D P G C → (p : Point S D P G C) (h : History S D P G C) → AreAllowed g f s (p ∷ h) → (view : ℕ) → IsAwaited s (p ∷ h) view
      → (c : Notarization S D P G C) × (past.notarization (seen s.voter (voter_of s (p ∷ h)) view) ≡ Some c)
  asked-known law knows p h all view awaited =
      let q = awaited.proposal in
      let taken = asked-taken g f s law (p ∷ h) all q awaited.asked in
      let is : IsKnown (member_of s) (known_of s (p ∷ h)) (entries (record_of (p ∷ h))) =
      subst (λ (r : List (Entry D)). IsKnown (member_of s) (known_of s (p ∷ h)) r) (tells-record g f s (p ∷ h) all) (knows s.voter (voter_of s (p ∷ h)) (orderly g f s p h all)) in
      let kept = kept-above _ (recorded.last_finalized (entries (record_of (p ∷ h)))) s.voter.retention q.round.view view (matches g f s law p h all).last_finalized awaited.at awaited.above in
      some-certificate (past.notarization (seen s.voter (voter_of s (p ∷ h)) view))
      (subst (λ (u : ℕ). IsSome (option_map (λ (c : Notarization S D P G C). c.proposal) (past.notarization (seen s.voter (voter_of s (p ∷ h)) u)))) awaited.at (is.notarized q taken kept))

  -- so its verdict may be taken
  pub judgeable : EachHistoryMatches S D P G C → EachRecordIsKnown S D P G C → (h : History S D P G C) (r : Round) → AreAllowed g f s h → r.epoch ≡ s.voter.epoch → IsAwaited s h r.view → IsJudgeable g f s h r
  judgeable law knows [] r all epoch awaited = absurd (Contains-nil (AsksCertify awaited.proposal) awaited.asked)
  judgeable law knows (p ∷ h) r all epoch awaited =
      let has = asked-known law knows p h all r.view awaited in
      let c = has.0 in
      let at = ((matches g f s law p h all).notarized r.view c.proposal (ap (λ (o : Option (Notarization S D P G C)). option_map (λ (x : Notarization S D P G C). x.proposal) o) has.1)).0 in
      let found = found-one (p ∷ h) all c (notarized-recorded s (p ∷ h) r.view c has.1) in
      record {
        follows = verdict-may g f s law (p ∷ h) all r epoch awaited;
        room = subst (λ (u : ℕ). HasRoom s.voter.length u) awaited.at (asked-room (p ∷ h) all awaited.proposal awaited.asked);
        notarization = c;
        at = at;
        recorded = subst (λ (u : ℕ). notarization_in (record_of (p ∷ h)) u ≡ Some c) at found;
        known = has.1;
      }
