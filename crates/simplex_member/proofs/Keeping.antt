-- What a life found is of what was ever recorded, and each of its points was allowed.
use Rattle.std.proofs.Common.{◌≡◌, ◌⊎◌, inl, inr, ⊎_elim, Bool, List, [], ◌∷◌, ◌++◌, Option, Some, None, sym, ◌∙◌, ap, subst, append_assoc}
use Rattle.std.specs.Prelude.{Contains, option_to_list}
use Rattle.std.proofs.lemmas.List.{append-nil}
use Rattle.std.proofs.lemmas.Option.{none-some}
use Rattle.std.proofs.lemmas.List.Elements.{Contains-append_cases, Contains-append_left, Contains-append_right}
use Rattle.types_quorum.specs.Counting.{Contains-head, Contains-nil, Contains-rest}
use Rattle.types_core.specs.declared.scheme.Scheme.{Ghosts}
use Rattle.messages_certificates.specs.declared.artifact.Artifact.{Artifact}
use Rattle.simplex_member.specs.Allowed.{AreAllowed}
use Rattle.simplex_member.specs.declared.event.Event.{Event}
use Rattle.simplex_member.specs.Lives.{Course, Life, Broken, Lasting, Turn, Refuses, Rewrites, Went, IsCut, Lived, Lives, Turns}
use Rattle.simplex_member.specs.Member.{Goes}
use Rattle.simplex_member.specs.Packet.{Formats, IsRecordable}
use Rattle.simplex_member.specs.Point.{Point, Found, Rewrote, History}
use Rattle.simplex_member.specs.Recorded.{added_by, fresh_of, kept_of, record_of, recorded_by}
use Rattle.simplex_member.specs.Setup.{Setup}
use Rattle.simplex_member.proofs.Allowing.{begun-allowed, goes-allowed}
use Rattle.simplex_member.proofs.Going.{goes-grow}
use Rattle.simplex_member.proofs.Kept.{kept-within}
use Rattle.simplex_member.proofs.Lists.{put-before, put-cases, put-here, put-list, some-is}
use Rattle.simplex_member.proofs.Rereading.{life-found, life-readable}
use Rattle.simplex_member.proofs.Three.{added-or-found}

module _ {S D P G C : Type 0} (g : Ghosts S D P G C) (f : Formats S D P G C) (s : Setup S D C) where
  -- ---- each point was allowed

  turns-allowed : (h : History S D P G C) (turns : List (Turn S D P G C)) (end : History S D P G C) → Turns g f s h turns end → AreAllowed g f s h → AreAllowed g f s end
  turns-allowed h [] end is all = subst (λ (e : History S D P G C). AreAllowed g f s e) (sym is) all
  turns-allowed h (Refuses e r ∷ turns) end t all = turns-allowed h turns end t.1 all
  turns-allowed h (Went e points ∷ turns) end t all = turns-allowed t.0 turns end t.3 (goes-allowed g f s h points t.0 t.2.goes all)
  turns-allowed h (Rewrites c ∷ turns) end t all = turns-allowed (Rewrote c ∷ h) turns end t.1 (t.0.allowed, all)

  cut-allowed : (h : History S D P G C) (cut : Option (Event D × List (Point S D P G C))) (end : History S D P G C) → IsCut g f s h cut end → AreAllowed g f s h → AreAllowed g f s end
  cut-allowed h None end is all = subst (λ (e : History S D P G C). AreAllowed g f s e) (sym is) all
  cut-allowed h (Some c) end is all = goes-allowed g f s h c.1 end is.1 all

  pub life-allowed : (found : List (Artifact S D P G C)) (life : Course S D P G C) (end : History S D P G C) → Lived g f s found life end → AreAllowed g f s end
  life-allowed found (Broken now points) end lived = begun-allowed g f s points end lived.1
  life-allowed found (Lasting now points turns cut) end lived =
      cut-allowed lived.1 cut end lived.5 (turns-allowed lived.0 turns lived.1 lived.4 (begun-allowed g f s points lived.0 lived.3.goes))

  -- ---- what was recorded stays

  pub grown : (h : History S D P G C) (points : List (Point S D P G C)) (end : History S D P G C) → Goes g f s h points end → (x : Artifact S D P G C) → Contains (record_of h) x → Contains (record_of end) x
  grown h points end goes x here =
      let more = goes-grow g f s h points end goes in
      subst (λ (r : List (Artifact S D P G C)). Contains r x) (sym more.1) (Contains-append_left (record_of h) more.0 x here)

  pub turns-keep : (h : History S D P G C) (turns : List (Turn S D P G C)) (end : History S D P G C) → Turns g f s h turns end → (x : Artifact S D P G C) → Contains (record_of h) x → Contains (record_of end) x
  turns-keep h [] end is x here = subst (λ (e : History S D P G C). Contains (record_of e) x) (sym is) here
  turns-keep h (Refuses e r ∷ turns) end t x here = turns-keep h turns end t.1 x here
  turns-keep h (Went e points ∷ turns) end t x here = turns-keep t.0 turns end t.3 x (grown h points t.0 t.2.goes x here)
  turns-keep h (Rewrites c ∷ turns) end t x here = turns-keep (Rewrote c ∷ h) turns end t.1 x here

  pub cut-keeps : (h : History S D P G C) (cut : Option (Event D × List (Point S D P G C))) (end : History S D P G C) → IsCut g f s h cut end → (x : Artifact S D P G C) → Contains (record_of h) x → Contains (record_of end) x
  cut-keeps h None end is x here = subst (λ (e : History S D P G C). Contains (record_of e) x) (sym is) here
  cut-keeps h (Some c) end is x here = grown h c.1 end is.1 x here

  -- ---- what is recorded was found, or is new

  point-of : (p : Point S D P G C) (x : Artifact S D P G C) → recorded_by p ≡ Some x → ((taken : Bool) × (p ≡ Found x taken)) ⊎ (added_by p ≡ Some x)
  point-of p x is = ⊎_elim
      (λ added. inr (added ∙ is))
      (λ found.
      let one : found.0 ≡ x = some-is found.0 x (ap (λ (q : Point S D P G C). recorded_by q) (sym found.2) ∙ is) in
      inl (found.1, subst (λ (y : Artifact S D P G C). p ≡ Found y found.1) one found.2))
      (added-or-found p)

  pub found-or-fresh : (h : History S D P G C) (x : Artifact S D P G C) → Contains (record_of h) x → ((taken : Bool) × Contains h (Found x taken)) ⊎ Contains (fresh_of h) x
  found-or-fresh [] x here = absurd (Contains-nil x here)
  found-or-fresh (p ∷ h) x here = ⊎_elim
      (λ before. ⊎_elim
      (λ found. inl (found.0, Contains-rest p h (Found x found.0) found.1))
      (λ fresh. inr (put-before (fresh_of h) (added_by p) x fresh))
      (found-or-fresh h x before))
      (λ now. ⊎_elim
      (λ found. inl (found.0, subst (λ (q : Point S D P G C). Contains (p ∷ h) q) found.1 (Contains-head p h)))
      (λ added. inr (put-here (fresh_of h) (added_by p) x added))
      (point-of p x now))
      (put-cases (record_of h) (recorded_by p) x here)

  -- on the way more is new, and what happened stays
  pub goes-fresh : (h : History S D P G C) (points : List (Point S D P G C)) (end : History S D P G C) → Goes g f s h points end → (more : List (Artifact S D P G C)) × (fresh_of end ≡ fresh_of h ++ more)
  goes-fresh h [] end goes = ([], ap fresh_of goes ∙ sym (append-nil (fresh_of h)))
  goes-fresh h (p ∷ points) end goes =
      let later = goes-fresh (p ∷ h) points end goes.1 in
      let now = option_to_list (added_by p) in
      (now ++ later.0, later.1 ∙ (ap (λ (l : List (Artifact S D P G C)). l ++ later.0) (put-list (fresh_of h) (added_by p)) ∙ append_assoc (fresh_of h) now later.0))

  pub goes-there : (h : History S D P G C) (points : List (Point S D P G C)) (end : History S D P G C) → Goes g f s h points end → (p : Point S D P G C) → Contains h p → Contains end p
  goes-there h [] end goes p here = subst (λ (k : History S D P G C). Contains k p) (sym goes) here
  goes-there h (q ∷ points) end goes p here = goes-there (q ∷ h) points end goes.1 p (Contains-rest q h p here)

  -- at the end of a life all that was recorded was found by its opening, or is new
  pub life-known : (found : List (Artifact S D P G C)) (life : Course S D P G C) (end : History S D P G C) → Lived g f s found life end → (x : Artifact S D P G C) → Contains (record_of end) x
      → Contains found x ⊎ Contains (fresh_of end) x
  life-known found life end lived x here = ⊎_elim
      (λ was. inl (life-found g f s (λ (y : Artifact S D P G C). Contains found y) found life end lived (λ y there. there) x was.0 was.1))
      (λ fresh. inr fresh)
      (found-or-fresh end x here)

-- what is new is recorded
added-recorded : {S D P G C : Type 0} (p : Point S D P G C) (x : Artifact S D P G C) → added_by p ≡ Some x → recorded_by p ≡ Some x
added-recorded (Found y taken) x is = absurd (none-some x is)
added-recorded p x is = is

pub fresh-recorded : {S D P G C : Type 0} (s : Setup S D C) (h : History S D P G C) (x : Artifact S D P G C) → Contains (fresh_of h) x → Contains (record_of h) x
fresh-recorded s [] x here = here
fresh-recorded s (p ∷ h) x here = ⊎_elim
    (λ before. put-before (record_of h) (recorded_by p) x (fresh-recorded s h x before))
    (λ now. put-here (record_of h) (recorded_by p) x (added-recorded p x now))
    (put-cases (fresh_of h) (added_by p) x here)

module _ {S D P G C : Type 0} (g : Ghosts S D P G C) (f : Formats S D P G C) (s : Setup S D C) where
  abbrev IsPart : List (Artifact S D P G C) → List (Artifact S D P G C) → Type 0
  IsPart r all = (x : Artifact S D P G C) → Contains r x → Contains all x

  -- what is recorded at the end of a life is of what was ever recorded then
  pub ended-part : (ever found : List (Artifact S D P G C)) (life : Life S D P G C) (end : History S D P G C) → Lived g f life.setup (found ++ life.founded) life.course end → IsPart found ever
      → IsPart (record_of end) (ever ++ (life.founded ++ fresh_of end))
  ended-part ever found life end lived part x here = ⊎_elim
      (λ was. ⊎_elim
      (λ before. Contains-append_left ever (life.founded ++ fresh_of end) x (part x before))
      (λ floor. Contains-append_right ever (life.founded ++ fresh_of end) x (Contains-append_left life.founded (fresh_of end) x floor))
      (Contains-append_cases found life.founded x was))
      (λ fresh. Contains-append_right ever (life.founded ++ fresh_of end) x (Contains-append_right life.founded (fresh_of end) x fresh))
      (life-known g f life.setup (found ++ life.founded) life.course end lived x here)

  -- and so is what is kept
  pub kept-part : (ever found : List (Artifact S D P G C)) (life : Life S D P G C) (end : History S D P G C) → Lived g f life.setup (found ++ life.founded) life.course end → IsPart found ever
      → IsPart (kept_of life.setup.voter.length end) (ever ++ (life.founded ++ fresh_of end))
  kept-part ever found life end lived part x here =
      ended-part ever found life end lived part x (kept-within g f life.setup end (life-allowed g f life.setup (found ++ life.founded) life.course end lived) x here)

  -- what was ever recorded stays so
  pub lives-keep : (ever found : List (Artifact S D P G C)) (lives : List (Life S D P G C)) (all left : List (Artifact S D P G C)) → Lives g f s ever found lives all left
      → (x : Artifact S D P G C) → Contains ever x → Contains all x
  lives-keep ever found [] all left is x here = subst (λ (r : List (Artifact S D P G C)). Contains r x) (sym is.0) here
  lives-keep ever found (life ∷ lives) all left led x here =
      lives-keep (ever ++ (life.founded ++ fresh_of led.0)) (kept_of life.setup.voter.length led.0) lives all left led.3 x (Contains-append_left ever (life.founded ++ fresh_of led.0) x here)

  -- what lives leave can be read again
  abbrev CanBeRead : List (Artifact S D P G C) → Type 0
  CanBeRead r = (x : Artifact S D P G C) → Contains r x → IsRecordable f x

  lives-readable : (ever found : List (Artifact S D P G C)) (lives : List (Life S D P G C)) (all left : List (Artifact S D P G C)) → Lives g f s ever found lives all left → CanBeRead found → CanBeRead left
  lives-readable ever found [] all left is each = subst CanBeRead (sym is.1) each
  lives-readable ever found (life ∷ lives) all left led each =
      let end = led.0 in
      let t = life.setup in
      let whole : CanBeRead (found ++ life.founded) = λ x here. ⊎_elim (λ before. each x before) (λ floor. led.1.readable x floor) (Contains-append_cases found life.founded x here) in
      let readable = life-readable g f t (found ++ life.founded) life.course end led.2 whole in
      lives-readable (ever ++ (life.founded ++ fresh_of end)) (kept_of t.voter.length end) lives all left led.3
      (λ x here. readable x (kept-within g f t end (life-allowed g f t (found ++ life.founded) life.course end led.2) x here))

  pub left-readable : (lives : List (Life S D P G C)) (all left : List (Artifact S D P G C)) → Lives g f s [] [] lives all left → CanBeRead left
  left-readable lives all left led = lives-readable [] [] lives all left led (λ x here. absurd (Contains-nil x here))

  -- and so can all that was ever recorded
  ever-readable : (ever found : List (Artifact S D P G C)) (lives : List (Life S D P G C)) (all left : List (Artifact S D P G C)) → Lives g f s ever found lives all left → CanBeRead ever → CanBeRead found → CanBeRead all
  ever-readable ever found [] all left is every each = subst CanBeRead (sym is.0) every
  ever-readable ever found (life ∷ lives) all left led every each =
      let end = led.0 in
      let t = life.setup in
      let whole : CanBeRead (found ++ life.founded) = λ x here. ⊎_elim (λ before. each x before) (λ floor. led.1.readable x floor) (Contains-append_cases found life.founded x here) in
      let readable = life-readable g f t (found ++ life.founded) life.course end led.2 whole in
      ever-readable (ever ++ (life.founded ++ fresh_of end)) (kept_of t.voter.length end) lives all left led.3
      (λ x here. ⊎_elim
      (λ before. every x before)
      (λ new. ⊎_elim (λ floor. led.1.readable x floor) (λ fresh. readable x (fresh-recorded t end x fresh)) (Contains-append_cases life.founded (fresh_of end) x new))
      (Contains-append_cases ever (life.founded ++ fresh_of end) x here))
      (λ x here. readable x (kept-within g f t end (life-allowed g f t (found ++ life.founded) life.course end led.2) x here))

  pub all-readable : (lives : List (Life S D P G C)) (all left : List (Artifact S D P G C)) → Lives g f s [] [] lives all left → CanBeRead all
  all-readable lives all left led = ever-readable [] [] lives all left led (λ x here. absurd (Contains-nil x here)) (λ x here. absurd (Contains-nil x here))
