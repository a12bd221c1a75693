-- What a life leaves can be read again, and what stands in it as found was found.
use Rattle.std.proofs.Common.{◌≡◌, ⊎_elim, ℕ, Bool, true, false, List, [], ◌∷◌, ◌++◌, Option, Some, None, refl, sym, ◌∙◌, ap, subst}
use Rattle.std.specs.Prelude.{Contains, IfSome}
use Rattle.std.proofs.lemmas.Bool.{both_ways}
use Rattle.std.proofs.lemmas.List.Elements.{All-contains, Contains-append_cases}
use Rattle.types_quorum.specs.Counting.{Contains-cases, Contains-head, Contains-nil, Contains-rest}
use Rattle.types_core.specs.declared.scheme.Scheme.{Ghosts}
use Rattle.messages_certificates.specs.declared.artifact.Artifact.{Artifact}
use Rattle.simplex_member.specs.declared.event.Event.{Event}
use Rattle.simplex_member.specs.declared.event.Event.TheVariants as event
use Rattle.simplex_member.specs.Lives.{Broken, Course, IsCut, Lasting, Lived, Refuses, Rewrites, Turn, Turns, Went}
use Rattle.simplex_member.specs.Member.{AreFound, AreOpening, AreStep, Goes, IsPacketPoint, IsPointOf}
use Rattle.simplex_member.specs.Packet.{Formats, IsRecordable, Packet, of_ask, of_certificate, of_vote}
use Rattle.simplex_member.specs.Point.{AreActs, Began, Found, History, Opened, Point, Rewrote, is_act}
use Rattle.simplex_member.specs.Recorded.{added_by, put_behind, record_of, recorded_by}
use Rattle.simplex_member.specs.Setup.{Setup}

module _ {S D P G C : Type 0} (R : Artifact S D P G C → Type 0) where
  -- each of them has R
  abbrev pub Each : List (Artifact S D P G C) → Type 0
  Each xs = (x : Artifact S D P G C) → Contains xs x → R x

  -- so has each that these points found
  abbrev pub EachFound : List (Point S D P G C) → Type 0
  EachFound points = (x : Artifact S D P G C) (taken : Bool) → Contains points (Found x taken) → R x

  put-each : (xs : List (Artifact S D P G C)) (o : Option (Artifact S D P G C)) → Each xs → IfSome o R → Each (put_behind xs o)
  put-each xs None each one x here = each x here
  put-each xs (Some y) each one x here = ⊎_elim
      (λ before. each x before)
      (λ last. ⊎_elim (λ is. subst R is one) (λ later. absurd (Contains-nil x later)) (Contains-cases y [] x last))
      (Contains-append_cases xs (y ∷ []) x here)

  -- what a point records was found, or is added
  of-point : (p : Point S D P G C) → ((x : Artifact S D P G C) (taken : Bool) → p ≡ Found x taken → R x) → IfSome (added_by p) R → IfSome (recorded_by p) R
  of-point (Found x taken) found added = found x taken refl
  of-point p found added = added

  -- what was found of a list stands in it
  among-found : (xs : List (Artifact S D P G C)) (points : List (Point S D P G C)) → AreFound xs points → Each xs → EachFound points
  among-found [] [] are each x taken here = absurd (Contains-nil (Found x taken) here)
  among-found (y ∷ xs) (Found z took ∷ points) are each x taken here = ⊎_elim
      (λ is. each x (subst (λ (a : Artifact S D P G C). Contains (y ∷ xs) a) (sym are.0 ∙ ap inside is) (Contains-head y xs)))
      (λ later. among-found xs points are.1 (λ a there. each a (Contains-rest y xs a there)) x taken later)
      (Contains-cases (Found z took) points (Found x taken) here)
    where
      inside : Point S D P G C → Artifact S D P G C
      inside (Found a t) = a
      inside p = z
  among-found xs points are each x taken here = absurd are

  -- an act finds nothing
  none-acts : (points : List (Point S D P G C)) → AreActs points → EachFound points
  none-acts points acts x taken here = absurd (both_ways false refl (All-contains (λ (p : Point S D P G C). is_act p ≡ true) points (Found x taken) acts here))

  either : (one more : List (Point S D P G C)) → EachFound one → EachFound more → EachFound (one ++ more)
  either one more first second x taken here = ⊎_elim (λ at. first x taken at) (λ at. second x taken at) (Contains-append_cases one more (Found x taken) here)

  one-then : (p : Point S D P G C) (points : List (Point S D P G C)) → ((x : Artifact S D P G C) (taken : Bool) → ¬ (p ≡ Found x taken)) → EachFound points → EachFound (p ∷ points)
  one-then p points other each x taken here = ⊎_elim (λ is. absurd (other x taken is)) (λ later. each x taken later) (Contains-cases p points (Found x taken) here)

-- a point was found
abbrev is_found : {S D P G C : Type 0} → Point S D P G C → Bool
is_found (Found x taken) = true
is_found p = false

module _ {S D P G C : Type 0} where
  not-found : (p : Point S D P G C) → is_found p ≡ false → (x : Artifact S D P G C) (taken : Bool) → ¬ (p ≡ Found x taken)
  not-found p is x taken same = both_ways (is_found p) is (ap is_found same)

module _ {S D P G C : Type 0} (g : Ghosts S D P G C) (f : Formats S D P G C) (s : Setup S D C) where
  abbrev CanBeRead : List (Artifact S D P G C) → Type 0
  CanBeRead xs = Each (IsRecordable f) xs

  -- what comes is not found
  packet-new : (sender : ℕ) (o : Option (Packet S D P G C)) (p : Point S D P G C) → IsPacketPoint sender o p → is_found p ≡ false
  packet-new sender (Some (of_vote v)) (Found x taken) never = absurd never
  packet-new sender (Some (of_certificate c)) (Found x taken) never = absurd never
  packet-new sender (Some (of_ask view)) (Found x taken) never = absurd never
  packet-new sender None (Found x taken) never = absurd never
  packet-new sender o p is = refl

  event-new : (e : Event D) (p : Point S D P G C) → IsPointOf g f s e p → is_found p ≡ false
  event-new (event.Packet sender by bytes) p is = packet-new sender (f.packet_in by bytes.items) p is
  event-new (event.Built number payload) (Found x taken) never = absurd never
  event-new (event.Checked number answer) (Found x taken) never = absurd never
  event-new (event.Verdict view ok) (Found x taken) never = absurd never
  event-new (event.Moment now) (Found x taken) never = absurd never
  event-new e p is = refl

  -- points that are allowed keep what is recorded so
  goes-readable : (h : History S D P G C) (points : List (Point S D P G C)) (end : History S D P G C) → Goes g f s h points end → EachFound (IsRecordable f) points
      → CanBeRead (record_of h) → CanBeRead (record_of end)
  goes-readable h [] end is found each = subst (λ (e : History S D P G C). CanBeRead (record_of e)) (sym is) each
  goes-readable h (p ∷ points) end goes found each =
      goes-readable (p ∷ h) points end goes.1 (λ x taken here. found x taken (Contains-rest p points (Found x taken) here))
      (put-each (IsRecordable f) (record_of h) (recorded_by p) each
      (of-point (IsRecordable f) p (λ x taken is. found x taken (subst (λ (q : Point S D P G C). Contains (p ∷ points) q) is (Contains-head p points))) goes.0.readable))

  -- a step finds nothing, and an opening what it went through
  pub step-new : (R : Artifact S D P G C → Type 0) (h : History S D P G C) (e : Event D) (points : List (Point S D P G C)) → AreStep g f s h e points → EachFound R points
  step-new R h e points step =
      subst (λ (l : List (Point S D P G C)). EachFound R l) (sym step.split)
      (one-then R step.first step.acts (not-found step.first (event-new e step.first step.of_it)) (none-acts R step.acts step.own))

  pub opening-found : (R : Artifact S D P G C → Type 0) (now : ℕ) (found : List (Artifact S D P G C)) (points : List (Point S D P G C)) → AreOpening g f s now found points → Each R found → EachFound R points
  opening-found R now found points opening each =
      subst (λ (l : List (Point S D P G C)). EachFound R l) (sym opening.split)
      (one-then R (Opened now) (opening.read ++ Began ∷ opening.acts) (not-found (Opened now) refl)
      (either R opening.read (Began ∷ opening.acts) (among-found R found opening.read opening.are each)
      (one-then R Began opening.acts (not-found Began refl) (none-acts R opening.acts opening.own))))

  none-recorded : CanBeRead []
  none-recorded x here = absurd (Contains-nil x here)

  turns-readable : (h : History S D P G C) (turns : List (Turn S D P G C)) (end : History S D P G C) → Turns g f s h turns end → CanBeRead (record_of h) → CanBeRead (record_of end)
  turns-readable h [] end is each = subst (λ (e : History S D P G C). CanBeRead (record_of e)) (sym is) each
  turns-readable h (Refuses e r ∷ turns) end t each = turns-readable h turns end t.1 each
  turns-readable h (Went e points ∷ turns) end t each = turns-readable t.0 turns end t.3 (goes-readable h points t.0 t.2.goes (step-new (IsRecordable f) h e points t.1) each)
  turns-readable h (Rewrites c ∷ turns) end t each = turns-readable (Rewrote c ∷ h) turns end t.1 each

  cut-readable : (h : History S D P G C) (cut : Option (Event D × List (Point S D P G C))) (end : History S D P G C) → IsCut g f s h cut end → CanBeRead (record_of h) → CanBeRead (record_of end)
  cut-readable h None end is each = subst (λ (e : History S D P G C). CanBeRead (record_of e)) (sym is) each
  cut-readable h (Some c) end is each = goes-readable h c.1 end is.1 (step-new (IsRecordable f) h c.0 c.1 is.0) each

  pub life-readable : (found : List (Artifact S D P G C)) (course : Course S D P G C) (end : History S D P G C) → Lived g f s found course end → CanBeRead found → CanBeRead (record_of end)
  life-readable found (Broken now points) end lived each = goes-readable [] points end lived.1 (opening-found (IsRecordable f) now found points lived.0 each) none-recorded
  life-readable found (Lasting now points turns cut) end lived each =
      cut-readable lived.1 cut end lived.5 (turns-readable lived.0 turns lived.1 lived.4
      (goes-readable [] points lived.0 lived.3.goes (opening-found (IsRecordable f) now found points lived.2 each) none-recorded))

  -- ---- what stands in a life as found was found

  -- in a history too
  goes-found : (R : Artifact S D P G C → Type 0) (h : History S D P G C) (points : List (Point S D P G C)) (end : History S D P G C) → Goes g f s h points end → EachFound R points → EachFound R h → EachFound R end
  goes-found R h [] end is found before = subst (λ (e : History S D P G C). EachFound R e) (sym is) before
  goes-found R h (p ∷ points) end goes found before =
      goes-found R (p ∷ h) points end goes.1 (λ x taken here. found x taken (Contains-rest p points (Found x taken) here))
      (λ x taken here. ⊎_elim
      (λ is. found x taken (subst (λ (q : Point S D P G C). Contains (p ∷ points) q) is (Contains-head p points)))
      (λ later. before x taken later)
      (Contains-cases p h (Found x taken) here))

  turns-found : (R : Artifact S D P G C → Type 0) (h : History S D P G C) (turns : List (Turn S D P G C)) (end : History S D P G C) → Turns g f s h turns end → EachFound R h → EachFound R end
  turns-found R h [] end is before = subst (λ (e : History S D P G C). EachFound R e) (sym is) before
  turns-found R h (Refuses e r ∷ turns) end t before = turns-found R h turns end t.1 before
  turns-found R h (Went e points ∷ turns) end t before = turns-found R t.0 turns end t.3 (goes-found R h points t.0 t.2.goes (step-new R h e points t.1) before)
  turns-found R h (Rewrites c ∷ turns) end t before = turns-found R (Rewrote c ∷ h) turns end t.1 (one-then R (Rewrote c) h (not-found (Rewrote c) refl) before)

  cut-found : (R : Artifact S D P G C → Type 0) (h : History S D P G C) (cut : Option (Event D × List (Point S D P G C))) (end : History S D P G C) → IsCut g f s h cut end → EachFound R h → EachFound R end
  cut-found R h None end is before = subst (λ (e : History S D P G C). EachFound R e) (sym is) before
  cut-found R h (Some c) end is before = goes-found R h c.1 end is.1 (step-new R h c.0 c.1 is.0) before

  none-found : (R : Artifact S D P G C → Type 0) → EachFound R []
  none-found R x taken here = absurd (Contains-nil (Found x taken) here)

  pub life-found : (R : Artifact S D P G C → Type 0) (found : List (Artifact S D P G C)) (course : Course S D P G C) (end : History S D P G C) → Lived g f s found course end → Each R found → EachFound R end
  life-found R found (Broken now points) end lived each = goes-found R [] points end lived.1 (opening-found R now found points lived.0 each) (none-found R)
  life-found R found (Lasting now points turns cut) end lived each =
      cut-found R lived.1 cut end lived.5 (turns-found R lived.0 turns lived.1 lived.4
      (goes-found R [] points lived.0 lived.3.goes (opening-found R now found points lived.2 each) (none-found R)))
