-- A life as one walk: its points, one after the other, the histories on its way, and where each deed was done.
use Rattle.std.proofs.Common.{◌≡◌, ◌⊎◌, inl, inr, ⊎_elim, ℕ, List, [], ◌∷◌, ◌++◌, Option, Some, None, refl, sym, ◌∙◌, ap, subst, arith, append_assoc}
use Rattle.std.specs.Prelude.{Contains, option_map, option_to_list, unwrap_or}
use Rattle.std.proofs.lemmas.List.{append-nil}
use Rattle.std.proofs.lemmas.List.Elements.{Contains-append_cases, Contains-append_left, Contains-append_right}
use Rattle.types_quorum.specs.Counting.{Contains-cases, Contains-head, Contains-rest}
use Rattle.types_core.specs.declared.scheme.Scheme.{Ghosts}
use Rattle.messages_certificates.specs.declared.artifact.Artifact.{Artifact}
use Rattle.simplex_record.specs.World.{World, IsCorrect}
use Rattle.simplex_member.specs.declared.event.Event.{Event}
use Rattle.simplex_member.specs.declared.refusal.Refusal.{Refusal}
use Rattle.simplex_member.specs.Allowed.{Allowed}
use Rattle.simplex_member.specs.Deeds.{Deed, all_deeds, deeds_of}
use Rattle.simplex_member.specs.First.{IsFirst}
use Rattle.simplex_member.specs.Laws.{HasHeard, HasReached, IsDoneAt, IsDoneRefusing, IsEverAt}
use Rattle.simplex_member.specs.Lives.{Course, Founds, Life, Broken, Lasting, Turn, Refuses, Rewrites, Went, HandedOut, IsCut, LiveByNodes, Lived, Lives, Members, Turns, WasHanded, events_of, handed_out, points_of, turn_deeds, turn_events, turn_points}
use Rattle.simplex_member.specs.Member.{Goes, after}
use Rattle.simplex_member.specs.Packet.{Formats}
use Rattle.simplex_member.specs.Point.{Point, Found, Heard, Rewrote, History}
use Rattle.simplex_member.specs.Recorded.{fresh_of, kept_of}
use Rattle.simplex_member.specs.Refusals.{refused_deeds, tests}
use Rattle.simplex_member.specs.Setup.{IsOfOneMember, Setup}
use Rattle.simplex_member.proofs.Blame.{after-goes}
use Rattle.simplex_member.proofs.Feeding.{Each, each-append, each-there, goes-each, step-each}
use Rattle.simplex_member.proofs.Going.{goes-then}
use Rattle.simplex_member.proofs.Keeping.{found-or-fresh, goes-fresh, goes-there, kept-part}
use Rattle.simplex_member.proofs.Rereading.{life-found}
use Rattle.simplex_member.proofs.Walk.{AreTaken, IsTaken, came-taken, opening-taken, quiet-taken}

module _ {S D P G C : Type 0} where
  -- the points of the last turn, if it was cut off
  abbrev pub cut_points : Option (Event D × List (Point S D P G C)) → List (Point S D P G C)
  cut_points cut = unwrap_or (option_map (λ (c : Event D × List (Point S D P G C)). c.1) cut) []

  pub after-append : (h : History S D P G C) (xs ys : List (Point S D P G C)) → after h (xs ++ ys) ≡ after (after h xs) ys
  after-append h [] ys = refl
  after-append h (p ∷ xs) ys = after-append (p ∷ h) xs ys

module _ {S D P G C : Type 0} (Q : Point S D P G C → Type 0) where
  pub each-first : (xs ys : List (Point S D P G C)) → Each Q (xs ++ ys) → Each Q xs
  each-first [] ys each = tt
  each-first (p ∷ xs) ys each = (each.0, each-first xs ys each.1)

module _ {S D P G C : Type 0} (g : Ghosts S D P G C) (f : Formats S D P G C) (s : Setup S D C) where
  -- ---- one walk

  turns-goes : (h : History S D P G C) (turns : List (Turn S D P G C)) (end : History S D P G C) → Turns g f s h turns end → Goes g f s h (turn_points turns) end
  turns-goes h [] end is = is
  turns-goes h (Refuses e r ∷ turns) end t = turns-goes h turns end t.1
  turns-goes h (Went e points ∷ turns) end t = goes-then g f s h points t.0 (turn_points turns) end t.2.goes (turns-goes t.0 turns end t.3)
  turns-goes h (Rewrites c ∷ turns) end t = (t.0.allowed, turns-goes (Rewrote c ∷ h) turns end t.1)

  cut-goes : (h : History S D P G C) (cut : Option (Event D × List (Point S D P G C))) (end : History S D P G C) → IsCut g f s h cut end → Goes g f s h (cut_points cut) end
  cut-goes h None end is = is
  cut-goes h (Some c) end is = is.1

  pub life-goes : (found : List (Artifact S D P G C)) (life : Course S D P G C) (end : History S D P G C) → Lived g f s found life end → Goes g f s [] (points_of life) end
  life-goes found (Broken now points) end lived = lived.1
  life-goes found (Lasting now points turns cut) end lived =
      goes-then g f s [] (points ++ turn_points turns) lived.1 (cut_points cut) end
      (goes-then g f s [] points lived.0 (turn_points turns) lived.1 lived.3.goes (turns-goes lived.0 turns lived.1 lived.4)) (cut-goes lived.1 cut end lived.5)

  -- up to a place on the way, and from there on
  pub goes-part : (h end : History S D P G C) (xs ys : List (Point S D P G C)) → Goes g f s h (xs ++ ys) end → Goes g f s h xs (after h xs)
  goes-part h end [] ys goes = refl
  goes-part h end (p ∷ xs) ys goes = (goes.0, goes-part (p ∷ h) end xs ys goes.1)

  pub goes-rest : (h end : History S D P G C) (xs ys : List (Point S D P G C)) → Goes g f s h (xs ++ ys) end → Goes g f s (after h xs) ys end
  goes-rest h end [] ys goes = goes
  goes-rest h end (p ∷ xs) ys goes = goes-rest (p ∷ h) end xs ys goes.1

  -- ---- where a deed was done

  -- at one of these points
  pub record IsDeedAt (h : History S D P G C) (points : List (Point S D P G C)) (d : Deed S D P G C) : Type 0 where
    pub before : List (Point S D P G C)
    pub p : Point S D P G C
    pub behind : List (Point S D P G C)
    pub split : points ≡ before ++ p ∷ behind
    pub at : History S D P G C
    pub is : at ≡ after h before
    pub done : Contains (deeds_of g f s at p) d

  -- or when an event was refused, on their way
  pub record IsRefusalAt (h : History S D P G C) (points : List (Point S D P G C)) (events : List (Event D)) (d : Deed S D P G C) : Type 0 where
    pub before : List (Point S D P G C)
    pub behind : List (Point S D P G C)
    pub split : points ≡ before ++ behind
    pub at : History S D P G C
    pub is : at ≡ after h before
    pub e : Event D
    pub among : Contains events e
    pub r : Refusal
    pub first : IsFirst (tests g f s at e) (Some r)
    pub done : Contains (refused_deeds g f s at e r) d

  deed-at : (h : History S D P G C) (points : List (Point S D P G C)) (d : Deed S D P G C) → Contains (all_deeds g f s h points) d → IsDeedAt h points d
  deed-at h [] d here = absurd (omega (arith, here.1))
  deed-at h (p ∷ points) d here = ⊎_elim
      (λ now. record { before = []; p = p; behind = points; split = refl; at = h; is = refl; done = now })
      (λ later.
      let rest = deed-at (p ∷ h) points d later in
      record {
        before = p ∷ rest.before;
        p = rest.p;
        behind = rest.behind;
        split = ap (λ (l : List (Point S D P G C)). p ∷ l) rest.split;
        at = rest.at;
        is = rest.is;
        done = rest.done;
      })
      (Contains-append_cases (deeds_of g f s h p) (all_deeds g f s (p ∷ h) points) d here)

  deed-before : (h : History S D P G C) (xs ys : List (Point S D P G C)) (d : Deed S D P G C) → IsDeedAt h xs d → IsDeedAt h (xs ++ ys) d
  deed-before h xs ys d at = record {
    before = at.before;
    p = at.p;
    behind = at.behind ++ ys;
    split = ap (λ (l : List (Point S D P G C)). l ++ ys) at.split ∙ append_assoc at.before (at.p ∷ at.behind) ys;
    at = at.at;
    is = at.is;
    done = at.done;
  }

  deed-behind : (h : History S D P G C) (xs ys : List (Point S D P G C)) (d : Deed S D P G C) → IsDeedAt (after h xs) ys d → IsDeedAt h (xs ++ ys) d
  deed-behind h xs ys d at = record {
    before = xs ++ at.before;
    p = at.p;
    behind = at.behind;
    split = ap (λ (l : List (Point S D P G C)). xs ++ l) at.split ∙ sym (append_assoc xs at.before (at.p ∷ at.behind));
    at = at.at;
    is = at.is ∙ sym (after-append h xs at.before);
    done = at.done;
  }

  refusal-before : (h : History S D P G C) (xs ys : List (Point S D P G C)) (events more : List (Event D)) (d : Deed S D P G C) → IsRefusalAt h xs events d → IsRefusalAt h (xs ++ ys) (events ++ more) d
  refusal-before h xs ys events more d at = record {
    before = at.before;
    behind = at.behind ++ ys;
    split = ap (λ (l : List (Point S D P G C)). l ++ ys) at.split ∙ append_assoc at.before at.behind ys;
    at = at.at;
    is = at.is;
    e = at.e;
    among = Contains-append_left events more at.e at.among;
    r = at.r;
    first = at.first;
    done = at.done;
  }

  refusal-behind : (h : History S D P G C) (xs ys : List (Point S D P G C)) (events : List (Event D)) (d : Deed S D P G C) → IsRefusalAt (after h xs) ys events d → IsRefusalAt h (xs ++ ys) events d
  refusal-behind h xs ys events d at = record {
    before = xs ++ at.before;
    behind = at.behind;
    split = ap (λ (l : List (Point S D P G C)). xs ++ l) at.split ∙ sym (append_assoc xs at.before at.behind);
    at = at.at;
    is = at.is ∙ sym (after-append h xs at.before);
    e = at.e;
    among = at.among;
    r = at.r;
    first = at.first;
    done = at.done;
  }

  refusal-later : (h : History S D P G C) (points : List (Point S D P G C)) (e : Event D) (events : List (Event D)) (d : Deed S D P G C) → IsRefusalAt h points events d → IsRefusalAt h points (e ∷ events) d
  refusal-later h points e events d at = record {
    before = at.before;
    behind = at.behind;
    split = at.split;
    at = at.at;
    is = at.is;
    e = at.e;
    among = Contains-rest e events at.e at.among;
    r = at.r;
    first = at.first;
    done = at.done;
  }

  abbrev IsDone : History S D P G C → List (Point S D P G C) → List (Event D) → Deed S D P G C → Type 0
  IsDone h points events d = IsDeedAt h points d ⊎ IsRefusalAt h points events d

  turn-done : (h : History S D P G C) (turns : List (Turn S D P G C)) (end : History S D P G C) (d : Deed S D P G C) → Turns g f s h turns end → Contains (turn_deeds g f s h turns) d → IsDone h (turn_points turns) (turn_events turns) d
  turn-done h [] end d t here = absurd (omega (arith, here.1))
  turn-done h (Refuses e r ∷ turns) end d t here = ⊎_elim
      (λ now. inr (record { before = []; behind = turn_points turns; split = refl; at = h; is = refl; e = e; among = Contains-head e (turn_events turns); r = r; first = t.0; done = now }))
      (λ later. ⊎_elim
      (λ at. inl at)
      (λ at. inr (refusal-later h (turn_points turns) e (turn_events turns) d at))
      (turn-done h turns end d t.1 later))
      (Contains-append_cases (refused_deeds g f s h e r) (turn_deeds g f s h turns) d here)
  turn-done h (Went e points ∷ turns) end d t here = ⊎_elim
      (λ now. inl (deed-before h points (turn_points turns) d (deed-at h points d now)))
      (λ later. ⊎_elim
      (λ at. inl (deed-behind h points (turn_points turns) d at))
      (λ at. inr (refusal-later h (points ++ turn_points turns) e (turn_events turns) d (refusal-behind h points (turn_points turns) (turn_events turns) d at)))
      (turn-done (after h points) turns end d (subst (λ (k : History S D P G C). Turns g f s k turns end) (sym (after-goes g f s h points t.0 t.2.goes)) t.3) later))
      (Contains-append_cases (all_deeds g f s h points) (turn_deeds g f s (after h points) turns) d here)
  turn-done h (Rewrites c ∷ turns) end d t here = ⊎_elim
      (λ at. inl (deed-behind h (Rewrote c ∷ []) (turn_points turns) d at))
      (λ at. inr (refusal-behind h (Rewrote c ∷ []) (turn_points turns) (turn_events turns) d at))
      (turn-done (Rewrote c ∷ h) turns end d t.1 here)

  pub life-done : (found : List (Artifact S D P G C)) (life : Course S D P G C) (end : History S D P G C) (d : Deed S D P G C) → Lived g f s found life end → Contains (handed_out g f s life) d → IsDone [] (points_of life) (events_of life) d
  life-done found (Broken now points) end d lived here = absurd (omega (arith, here.1))
  life-done found (Lasting now points turns cut) end d lived here =
      let cuts : List (Event D) = option_to_list (option_map (λ (c : Event D × List (Point S D P G C)). c.0) cut) in
      ⊎_elim
      (λ now. inl (deed-before [] (points ++ turn_points turns) (cut_points cut) d (deed-before [] points (turn_points turns) d (deed-at [] points d now))))
      (λ later. ⊎_elim
      (λ at. inl (deed-before [] (points ++ turn_points turns) (cut_points cut) d (deed-behind [] points (turn_points turns) d at)))
      (λ at. inr (refusal-before [] (points ++ turn_points turns) (cut_points cut) (turn_events turns) cuts d (refusal-behind [] points (turn_points turns) (turn_events turns) d at)))
      (turn-done (after [] points) turns lived.1 d (subst (λ (k : History S D P G C). Turns g f s k turns lived.1) (sym (after-goes g f s [] points lived.0 lived.3.goes)) lived.4) later))
      (Contains-append_cases (all_deeds g f s [] points) (turn_deeds g f s (after [] points) turns) d here)

module _ {S D P G C : Type 0} (g : Ghosts S D P G C) (f : Formats S D P G C) (s : Setup S D C) where
  abbrev IsPart : List (Artifact S D P G C) → List (Artifact S D P G C) → Type 0
  IsPart r all = (x : Artifact S D P G C) → Contains r x → Contains all x

  -- a life among those of a member that ever recorded this: what it had recorded before, what it found of that, where it ended; and its
  -- setup is the member's
  pub record IsLived (all : List (Artifact S D P G C)) (life : Life S D P G C) : Type 0 where
    pub ever : List (Artifact S D P G C)
    pub found : List (Artifact S D P G C)
    pub end : History S D P G C
    pub behind : List (Artifact S D P G C)
    pub part : IsPart found ever
    pub founds : Founds g f found life
    pub lived : Lived g f life.setup (found ++ life.founded) life.course end
    pub among : all ≡ (ever ++ (life.founded ++ fresh_of end)) ++ behind
    pub own : IsOfOneMember s life.setup

  pub lives-grow : (ever found : List (Artifact S D P G C)) (lives : List (Life S D P G C)) (all left : List (Artifact S D P G C)) → Lives g f s ever found lives all left → (more : List (Artifact S D P G C)) × (all ≡ ever ++ more)
  lives-grow ever found [] all left is = ([], is.0 ∙ sym (append-nil ever))
  lives-grow ever found (life ∷ lives) all left led =
      let new = life.founded ++ fresh_of led.0 in
      let rest = lives-grow (ever ++ new) (kept_of life.setup.voter.length led.0) lives all left led.3 in
      (new ++ rest.0, rest.1 ∙ append_assoc ever new rest.0)

  unfoldable pub lived-first : (ever found : List (Artifact S D P G C)) (life : Life S D P G C) (lives : List (Life S D P G C)) (all left : List (Artifact S D P G C)) → Lives g f s ever found (life ∷ lives) all left → IsPart found ever → IsLived all life
  lived-first ever found life lives all left led part =
      let rest = lives-grow (ever ++ (life.founded ++ fresh_of led.0)) (kept_of life.setup.voter.length led.0) lives all left led.3 in
      record {
        ever = ever;
        found = found;
        end = led.0;
        behind = rest.0;
        part = part;
        founds = led.1;
        lived = led.2;
        among = rest.1;
        own = led.4;
      }

  lived-then : (ever found : List (Artifact S D P G C)) (lives : List (Life S D P G C)) (all left : List (Artifact S D P G C)) (life : Life S D P G C) → Lives g f s ever found lives all left → IsPart found ever → Contains lives life → IsLived all life
  lived-then ever found [] all left life led part here = absurd (omega (arith, here.1))
  lived-then ever found (x ∷ lives) all left life led part here = ⊎_elim
      (λ is. subst (λ (l : Life S D P G C). IsLived all l) is (lived-first ever found x lives all left led part))
      (λ later. lived-then (ever ++ (x.founded ++ fresh_of led.0)) (kept_of x.setup.voter.length led.0) lives all left life led.3 (kept-part g f s ever found x led.0 led.2 part) later)
      (Contains-cases x lives life here)

  pub lived-among : (lives : List (Life S D P G C)) (all left : List (Artifact S D P G C)) (life : Life S D P G C) → Lives g f s [] [] lives all left → Contains lives life → IsLived all life
  lived-among lives all left life led here = lived-then [] [] lives all left life led (λ x there. there) here

  -- what is recorded on its way was ever recorded, by all that was till then
  pub ever-at : (all : List (Artifact S D P G C)) (life : Life S D P G C) (w : IsLived all life) (before behind : List (Point S D P G C)) → points_of life.course ≡ before ++ behind → (h : History S D P G C) → h ≡ after [] before
      → IsEverAt g f all life h (w.ever ++ (life.founded ++ fresh_of h))
  ever-at all life w before behind split h is =
      let t = life.setup in
      let whole = subst (λ (l : List (Point S D P G C)). Goes g f t [] l w.end) split (life-goes g f t (w.found ++ life.founded) life.course w.end w.lived) in
      let on = subst (λ (k : History S D P G C). Goes g f t k behind w.end) (sym is) (goes-rest g f t [] w.end before behind whole) in
      let more = goes-fresh g f t h behind w.end on in
      record {
        before = w.ever;
        behind = more.0 ++ w.behind;
        since = refl;
        among = w.among ∙ (ap (λ (l : List (Artifact S D P G C)). (w.ever ++ (life.founded ++ l)) ++ w.behind) more.1 ∙ (ap (λ (l : List (Artifact S D P G C)). l ++ w.behind)
            (ap (λ (l : List (Artifact S D P G C)). w.ever ++ l) (sym (append_assoc life.founded (fresh_of h) more.0)) ∙ sym (append_assoc w.ever (life.founded ++ fresh_of h) more.0))
            ∙ append_assoc (w.ever ++ (life.founded ++ fresh_of h)) more.0 w.behind));
        known = λ x here. ⊎_elim
            (λ was.
            let there = life-found g f t (λ (y : Artifact S D P G C). Contains (w.found ++ life.founded) y) (w.found ++ life.founded) life.course w.end w.lived (λ y at. at) x was.0 (goes-there g f t h behind w.end on (Found x was.0) was.1) in
            ⊎_elim
            (λ old. Contains-append_left w.ever (life.founded ++ fresh_of h) x (w.part x old))
            (λ floor. Contains-append_right w.ever (life.founded ++ fresh_of h) x (Contains-append_left life.founded (fresh_of h) x floor))
            (Contains-append_cases w.found life.founded x there))
            (λ fresh. Contains-append_right w.ever (life.founded ++ fresh_of h) x (Contains-append_right life.founded (fresh_of h) x fresh))
            (found-or-fresh g f t h x here);
      }

module _ {S D P G C : Type 0} (g : Ghosts S D P G C) (f : Formats S D P G C) (m : Members S D P G C) (i : ℕ) where
  -- points lead to a history on the way
  pub among-goes : (all left : List (Artifact S D P G C)) → Lives g f (m.setup i) [] [] (m.lives i) all left → (life : Life S D P G C) (h : History S D P G C) → (at : HasReached m i life h) → Goes g f life.setup [] at.before h
  among-goes all left lives life h at =
      let lived = lived-among g f (m.setup i) (m.lives i) all left life lives at.among in
      let goes = subst (λ (l : List (Point S D P G C)). Goes g f life.setup [] l lived.end) at.split (life-goes g f life.setup (lived.found ++ life.founded) life.course lived.end lived.lived) in
      subst (λ (k : History S D P G C). Goes g f life.setup [] at.before k) (sym at.is) (goes-part g f life.setup [] lived.end at.before at.behind goes)

module _ {S D P G C : Type 0} (g : Ghosts S D P G C) (f : Formats S D P G C) (scheme : S) (m : Members S D P G C) (world : World S D P G C) (i : ℕ) (s : Setup S D C) where
  -- ---- what came in on the way

  turns-taken : (h : History S D P G C) (turns : List (Turn S D P G C)) (end : History S D P G C) → Turns g f s h turns end → ((e : Event D) → Contains (turn_events turns) e → WasHanded g f scheme m world i e)
      → AreTaken g f scheme m world i s (turn_points turns)
  turns-taken h [] end is handed = tt
  turns-taken h (Refuses e r ∷ turns) end t handed = turns-taken h turns end t.1 (λ x there. handed x (Contains-rest e (turn_events turns) x there))
  turns-taken h (Went e points ∷ turns) end t handed = each-append (IsTaken g f scheme m world i s) points (turn_points turns)
      (step-each g f scheme m world i s (IsTaken g f scheme m world i s) (quiet-taken g f scheme m world i s) (came-taken g f scheme m world i s) h e points (handed e (Contains-head e (turn_events turns))) t.1)
      (turns-taken t.0 turns end t.3 (λ x there. handed x (Contains-rest e (turn_events turns) x there)))
  turns-taken h (Rewrites c ∷ turns) end t handed = (tt, turns-taken (Rewrote c ∷ h) turns end t.1 handed)

  cut-taken : (h : History S D P G C) (cut : Option (Event D × List (Point S D P G C))) (end : History S D P G C) → IsCut g f s h cut end
      → ((e : Event D) → Contains (option_to_list (option_map (λ (c : Event D × List (Point S D P G C)). c.0) cut)) e → WasHanded g f scheme m world i e) → AreTaken g f scheme m world i s (cut_points cut)
  cut-taken h None end is handed = tt
  cut-taken h (Some c) end is handed = step-each g f scheme m world i s (IsTaken g f scheme m world i s) (quiet-taken g f scheme m world i s) (came-taken g f scheme m world i s) h c.0 c.1 (handed c.0 (Contains-head c.0 [])) is.0

  life-taken : (found : List (Artifact S D P G C)) (life : Course S D P G C) (end : History S D P G C) → Lived g f s found life end → ((e : Event D) → Contains (events_of life) e → WasHanded g f scheme m world i e)
      → AreTaken g f scheme m world i s (points_of life)
  life-taken found (Broken now points) end lived handed = opening-taken g f scheme m world i s now found points lived.0
  life-taken found (Lasting now points turns cut) end lived handed =
      let cuts : List (Event D) = option_to_list (option_map (λ (c : Event D × List (Point S D P G C)). c.0) cut) in
      each-append (IsTaken g f scheme m world i s) (points ++ turn_points turns) (cut_points cut)
      (each-append (IsTaken g f scheme m world i s) points (turn_points turns) (opening-taken g f scheme m world i s now found points lived.2)
      (turns-taken lived.0 turns lived.1 lived.4 (λ e there. handed e (Contains-append_left (turn_events turns) cuts e there))))
      (cut-taken lived.1 cut end lived.5 (λ e there. handed e (Contains-append_right (turn_events turns) cuts e there)))

module _ {S D P G C : Type 0} (g : Ghosts S D P G C) (f : Formats S D P G C) (scheme : S) (m : Members S D P G C) (world : World S D P G C) (i : ℕ) where
  -- a life of a correct member
  pub of-correct : LiveByNodes g f scheme m world → IsCorrect world i → (life : Life S D P G C) → Contains (m.lives i) life → IsLived g f (m.setup i) (world.recorded i) life
  of-correct w correct life among = lived-among g f (m.setup i) (m.lives i) (world.recorded i) (w.lived i correct).0 life (w.lived i correct).1 among

  -- a history on the way: points lead to it, what it heard came in, what it recorded is recorded
  pub reached-goes : LiveByNodes g f scheme m world → IsCorrect world i → (life : Life S D P G C) (h : History S D P G C) → (at : HasReached m i life h) → Goes g f life.setup [] at.before h
  reached-goes w correct life h at = among-goes g f m i (world.recorded i) (w.lived i correct).0 (w.lived i correct).1 life h at

  pub reached-own : LiveByNodes g f scheme m world → IsCorrect world i → (life : Life S D P G C) (h : History S D P G C) → HasReached m i life h → IsOfOneMember (m.setup i) life.setup
  reached-own w correct life h at = (of-correct w correct life at.among).own

  pub reached-heard : LiveByNodes g f scheme m world → IsCorrect world i → (life : Life S D P G C) (h : History S D P G C) → HasReached m i life h → HasHeard g f scheme m world i h
  reached-heard w correct life h at =
      let s = life.setup in
      let lived = of-correct w correct life at.among in
      let taken = subst (λ (l : List (Point S D P G C)). AreTaken g f scheme m world i s l) at.split (life-taken g f scheme m world i s (lived.found ++ life.founded) life.course lived.end lived.lived (λ e there. (life, at.among, there))) in
      let ever = ever-at g f (m.setup i) (world.recorded i) life lived at.before at.behind at.split h at.is in
      let here = goes-each (IsTaken g f scheme m world i s) g f s [] at.before h (reached-goes w correct life h at) (each-first (IsTaken g f scheme m world i s) at.before at.behind taken) tt in
      record {
        came = λ v there. each-there (IsTaken g f scheme m world i s) h here (Heard v) there;
        recorded = λ x there. subst (λ (l : List (Artifact S D P G C)). Contains l x) (sym ever.among) (Contains-append_left (lived.ever ++ (life.founded ++ fresh_of h)) ever.behind x (ever.known x there));
      }

  -- what a correct member handed out it did at a point of one of its lives, or when it refused an event
  pub deed-done : LiveByNodes g f scheme m world → IsCorrect world i → (d : Deed S D P G C) → HandedOut g f scheme m world i d → IsDoneAt g f m i d ⊎ IsDoneRefusing g f scheme m world i d
  deed-done w correct d out =
      let life = out.0 in
      let s = life.setup in
      let lived = of-correct w correct life out.1 in
      ⊎_elim
      (λ at.
      let goes = subst (λ (l : List (Point S D P G C)). Goes g f s [] l lived.end) at.split (life-goes g f s (lived.found ++ life.founded) life.course lived.end lived.lived) in
      let rest = goes-rest g f s [] lived.end at.before (at.p ∷ at.behind) goes in
      inl (record {
        life = life;
        h = at.at;
        p = at.p;
        reached = record { among = out.1; before = at.before; behind = at.p ∷ at.behind; split = at.split; is = at.is };
        next = record {
          among = out.1;
          before = at.before ++ at.p ∷ [];
          behind = at.behind;
          split = at.split ∙ sym (append_assoc at.before (at.p ∷ []) at.behind);
          is = ap (λ (k : History S D P G C). at.p ∷ k) at.is ∙ sym (after-append [] at.before (at.p ∷ []));
        };
        allowed = subst (λ (k : History S D P G C). Allowed g f s k at.p) (sym at.is) rest.0;
        done = at.done;
      }))
      (λ at. inr (record {
        life = life;
        h = at.at;
        reached = record { among = out.1; before = at.before; behind = at.behind; split = at.split; is = at.is };
        e = at.e;
        handed = (life, out.1, at.among);
        r = at.r;
        first = at.first;
        done = at.done;
      }))
      (life-done g f s (lived.found ++ life.founded) life.course lived.end d lived.lived out.2)
