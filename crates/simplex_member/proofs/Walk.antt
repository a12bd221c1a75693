-- A correct member blocks a correct one by a refusal alone, for a packet that holds no vote.
use Rattle.std.proofs.Common.{◌≡◌, ⊎_elim, ℕ, Bool, false, List, [], ◌∷◌, ◌++◌, Some, sym, subst, arith}
use Rattle.std.specs.Prelude.{Contains, option_map, option_to_list, ⊤}
use Rattle.std.proofs.lemmas.List.Elements.{Contains-append_cases, Contains-append_left}
use Rattle.types_quorum.specs.Counting.{Contains-cases, Contains-head, Contains-rest}
use Rattle.types_core.specs.declared.scheme.Scheme.{Ghosts}
use Rattle.messages_certificates.specs.declared.artifact.Artifact.{Artifact}
use Rattle.simplex_messages.specs.declared.vote.Vote.{Vote}
use Rattle.simplex_record.specs.World.{World, IsCorrect}
use Rattle.simplex_member.specs.declared.event.Event.{Event}
use Rattle.simplex_member.specs.Allowed.{Allowed, AreAllowed}
use Rattle.simplex_member.specs.Laws.{AreReadBack, DoAttestAlike, HasHeard, HoldsNoVote, IsRefusedFor, LifeLaws, RoundLaws}
use Rattle.simplex_member.specs.Lives.{Course, Life, Broken, Lasting, Turn, Refuses, Rewrites, Went, CameIn, Lived, Lives, Members, Turns, WasHanded, events_of, turn_events, AreFaithful, HandedOut, LiveByNodes, handed_out, turn_deeds}
use Rattle.simplex_member.specs.Member.{AreOpening, AreStep, Goes, IsPacketPoint, after}
use Rattle.simplex_member.specs.Packet.{Formats, Packet, of_vote, of_certificate, of_ask}
use Rattle.simplex_member.specs.Point.{Point, Found, Heard, Came, Wanted, Constructs, Rewrote, History}
use Rattle.simplex_member.specs.Recorded.{fresh_of, kept_of, record_of, recorded_by}
use Rattle.simplex_member.proofs.Allowing.{begun-allowed, goes-allowed}
use Rattle.simplex_member.proofs.Feeding.{Each, each-there, goes-each, opening-each, step-each, takes_in}
use Rattle.simplex_member.proofs.Keeping.{cut-keeps, ended-part, grown, kept-part, lives-keep, turns-keep}
use Rattle.simplex_member.proofs.Telling.{apart}
use Rattle.simplex_messages.specs.VoteParts.{vote_signer}
use Rattle.simplex_member.specs.Deeds.{Blocks, all_deeds, deeds_of}
use Rattle.simplex_member.specs.Setup.{IsOfOneMember, Setup}
use Rattle.simplex_member.specs.Refusals.{refused_deeds, tests}
use Rattle.simplex_member.specs.First.{IsFirst}
use Rattle.simplex_member.specs.declared.refusal.Refusal.{Refusal}
use Rattle.simplex_member.proofs.Spared.{no-vote}
use Rattle.simplex_member.proofs.Blame.{after-goes}
use Rattle.simplex_member.proofs.Blocking.{block-here}
use Rattle.simplex_member.proofs.Peace.{none-invalid}
use Rattle.simplex_member.proofs.Lists.{put-before}

module _ {S D P G C : Type 0} (g : Ghosts S D P G C) (f : Formats S D P G C) (scheme : S) (m : Members S D P G C) (world : World S D P G C) (i : ℕ) (s : Setup S D C) where
  abbrev pub IsTaken : Point S D P G C → Type 0
  IsTaken (Heard v) = CameIn g f scheme m world i (vote_signer v) (of_vote v)
  IsTaken p = ⊤

  abbrev pub AreTaken : List (Point S D P G C) → Type 0
  AreTaken points = Each IsTaken points

  pub quiet-taken : (p : Point S D P G C) → takes_in p ≡ false → IsTaken p
  quiet-taken (Heard v) none = absurd (apart (sym none))
  quiet-taken p none = tt

  heard-came : (h : List (Point S D P G C)) → AreTaken h → (v : Vote S D P G C) → Contains h (Heard v) → CameIn g f scheme m world i (vote_signer v) (of_vote v)
  heard-came h all v here = each-there IsTaken h all (Heard v) here

  goes-taken : (h : History S D P G C) (points : List (Point S D P G C)) (end : History S D P G C) → Goes g f s h points end → AreTaken points → AreTaken h → AreTaken end
  goes-taken h points end goes fed before = goes-each IsTaken g f s h points end goes fed before

  found-taken : (x : Artifact S D P G C) (taken : Bool) → IsTaken (Found x taken)
  found-taken x taken = tt

  pub opening-taken : (now : ℕ) (found : List (Artifact S D P G C)) (points : List (Point S D P G C)) → AreOpening g f s now found points → AreTaken points
  opening-taken now found points o = opening-each g f s IsTaken quiet-taken now found points o (λ x taken there. found-taken x taken)

  pub came-taken : (sender : ℕ) (x : Packet S D P G C) → CameIn g f scheme m world i sender x → (p : Point S D P G C) → IsPacketPoint sender (Some x) p → IsTaken p
  came-taken sender (of_vote v) came (Heard u) is = subst (λ (x : Vote S D P G C). CameIn g f scheme m world i (vote_signer x) (of_vote x)) is.0
      (subst (λ (k : ℕ). CameIn g f scheme m world i k (of_vote v)) (sym is.1) came)
  came-taken sender (of_certificate c) came (Came d) is = tt
  came-taken sender (of_ask view) came (Wanted member asked) is = tt
  came-taken sender (of_vote v) came p is = absurd is
  came-taken sender (of_certificate c) came p is = absurd is
  came-taken sender (of_ask view) came p is = absurd is

  step-taken : (h : History S D P G C) (e : Event D) (points : List (Point S D P G C)) → WasHanded g f scheme m world i e → AreStep g f s h e points → AreTaken points
  step-taken h e points handed step = step-each g f scheme m world i s IsTaken quiet-taken came-taken h e points handed step

  module _ (laws : RoundLaws g f.same) (basis : LifeLaws g) (back : AreReadBack f) (w : LiveByNodes g f scheme m world) (faithful : AreFaithful g f scheme m world) (alike : DoAttestAlike g f scheme m world) (j : ℕ) (ci : IsCorrect world i) (cj : IsCorrect world j) (own : IsOfOneMember (m.setup i) s) where
    abbrev IsPart : List (Artifact S D P G C) → Type 0
    IsPart r = (x : Artifact S D P G C) → Contains r x → Contains (world.recorded i) x

    here-none : (p : Point S D P G C) (h : History S D P G C) → Allowed g f s h p → AreAllowed g f s h → AreTaken h → IsPart (record_of h) → Contains (deeds_of g f s h p) (Blocks j) → ⊥
    here-none (Constructs view kind batch) h a all taken part here =
        none-invalid g f scheme m world basis laws back w faithful alike i j ci cj s own h all (record { came = λ v there. heard-came h taken v there; recorded = part }) view kind batch a (block-here g f s h (Constructs view kind batch) j here)
    here-none p h a all taken part here = absurd (block-here g f s h p j here)

    points-none : (h : History S D P G C) (points : List (Point S D P G C)) (end : History S D P G C) → Goes g f s h points end → AreAllowed g f s h → AreTaken h → AreTaken points → IsPart (record_of end)
        → Contains (all_deeds g f s h points) (Blocks j) → ⊥
    points-none h [] end goes all taken more part here = absurd (omega (arith, here.1))
    points-none h (p ∷ points) end goes all taken more part here = ⊎_elim
        (λ now. here-none p h goes.0 all taken (λ x there. part x (grown g f s (p ∷ h) points end goes.1 x (put-before (record_of h) (recorded_by p) x there))) now)
        (λ later. points-none (p ∷ h) points end goes.1 (goes.0, all) (more.0, taken) more.1 part later)
        (Contains-append_cases (deeds_of g f s h p) (all_deeds g f s (p ∷ h) points) (Blocks j) here)

    abbrev Blamed : Type 0
    Blamed = (x : IsRefusedFor g f scheme m world i j) × HoldsNoVote f x.e j

    with_none : (h : History S D P G C) → AreAllowed g f s h → HasHeard g f scheme m world i h → (e : Event D) → WasHanded g f scheme m world i e → (r : Refusal) → IsFirst (tests g f s h e) (Some r) → Contains (refused_deeds g f s h e r) (Blocks j) → Blamed
    with_none h all heard e handed r first blocks = (record { setup = s; own = own; e = e; handed = handed; h = h; heard = heard; r = r; first = first; blocks = blocks }, no-vote g f scheme m world basis back w faithful i j ci cj s own h all heard e handed r first blocks)

    turns-refused : (h : History S D P G C) (turns : List (Turn S D P G C)) (end : History S D P G C) → Turns g f s h turns end → ((e : Event D) → Contains (turn_events turns) e → WasHanded g f scheme m world i e)
        → AreAllowed g f s h → AreTaken h → IsPart (record_of end) → Contains (turn_deeds g f s h turns) (Blocks j) → Blamed
    turns-refused h [] end t handed all taken part here = absurd (omega (arith, here.1))
    turns-refused h (Refuses e r ∷ turns) end t handed all taken part here = ⊎_elim
        (λ now. with_none h all (record { came = λ v there. heard-came h taken v there; recorded = λ x there. part x (turns-keep g f s h turns end t.1 x there) }) e (handed e (Contains-head e (turn_events turns))) r t.0 now)
        (λ later. turns-refused h turns end t.1 (λ x there. handed x (Contains-rest e (turn_events turns) x there)) all taken part later)
        (Contains-append_cases (refused_deeds g f s h e r) (turn_deeds g f s h turns) (Blocks j) here)
    turns-refused h (Went e points ∷ turns) end t handed all taken part here =
        let stepped = step-taken h e points (handed e (Contains-head e (turn_events turns))) t.1 in
        ⊎_elim
        (λ now. absurd (points-none h points t.0 t.2.goes all taken stepped (λ x there. part x (turns-keep g f s t.0 turns end t.3 x there)) now))
        (λ later. turns-refused t.0 turns end t.3 (λ x there. handed x (Contains-rest e (turn_events turns) x there)) (goes-allowed g f s h points t.0 t.2.goes all) (goes-taken h points t.0 t.2.goes stepped taken) part
        (subst (λ (k : History S D P G C). Contains (turn_deeds g f s k turns) (Blocks j)) (after-goes g f s h points t.0 t.2.goes) later))
        (Contains-append_cases (all_deeds g f s h points) (turn_deeds g f s (after h points) turns) (Blocks j) here)
    turns-refused h (Rewrites c ∷ turns) end t handed all taken part here = turns-refused (Rewrote c ∷ h) turns end t.1 handed (t.0.allowed, all) (tt, taken) part here

    pub life-refused : (found : List (Artifact S D P G C)) (life : Course S D P G C) (end : History S D P G C) → Lived g f s found life end → ((e : Event D) → Contains (events_of life) e → WasHanded g f scheme m world i e)
        → IsPart (record_of end) → Contains (handed_out g f s life) (Blocks j) → Blamed
    life-refused found (Broken now points) end lived handed part here = absurd (omega (arith, here.1))
    life-refused found (Lasting now points turns cut) end lived handed part here =
        let opened = opening-taken now found points lived.2 in
        let last : IsPart (record_of lived.1) = λ x there. part x (cut-keeps g f s lived.1 cut end lived.5 x there) in
        ⊎_elim
        (λ first. absurd (points-none [] points lived.0 lived.3.goes tt tt opened (λ x there. last x (turns-keep g f s lived.0 turns lived.1 lived.4 x there)) first))
        (λ later. turns-refused lived.0 turns lived.1 lived.4 (λ e there. handed e (Contains-append_left (turn_events turns) (option_to_list (option_map (λ (c : Event D × List (Point S D P G C)). c.0) cut)) e there))
        (begun-allowed g f s points lived.0 lived.3.goes) (goes-taken [] points lived.0 lived.3.goes opened tt) last
        (subst (λ (k : History S D P G C). Contains (turn_deeds g f s k turns) (Blocks j)) (after-goes g f s [] points lived.0 lived.3.goes) later))
        (Contains-append_cases (all_deeds g f s [] points) (turn_deeds g f s (after [] points) turns) (Blocks j) here)

module _ {S D P G C : Type 0} (g : Ghosts S D P G C) (f : Formats S D P G C) (scheme : S) (m : Members S D P G C) (world : World S D P G C) (i : ℕ)
    (laws : RoundLaws g f.same) (basis : LifeLaws g) (back : AreReadBack f) (w : LiveByNodes g f scheme m world) (faithful : AreFaithful g f scheme m world) (alike : DoAttestAlike g f scheme m world) (j : ℕ) (ci : IsCorrect world i) (cj : IsCorrect world j) where
  abbrev BlamedSo : Type 0
  BlamedSo = (x : IsRefusedFor g f scheme m world i j) × HoldsNoVote f x.e j

  lives-refused : (ever found : List (Artifact S D P G C)) (lives : List (Life S D P G C)) (all left : List (Artifact S D P G C)) (life : Life S D P G C) → Lives g f (m.setup i) ever found lives all left
      → ((x : Artifact S D P G C) → Contains found x → Contains ever x) → ((l : Life S D P G C) → Contains lives l → Contains (m.lives i) l)
      → ((x : Artifact S D P G C) → Contains all x → Contains (world.recorded i) x) → Contains lives life → Contains (handed_out g f life.setup life.course) (Blocks j) → BlamedSo
  lives-refused ever found [] all left life led part among whole here blocked = absurd (omega (arith, here.1))
  lives-refused ever found (x ∷ lives) all left life led part among whole here blocked =
      let ever_then = ever ++ (x.founded ++ fresh_of led.0) in
      let kept_then = kept_of x.setup.voter.length led.0 in
      ⊎_elim
      (λ is. life-refused g f scheme m world i x.setup laws basis back w faithful alike j ci cj led.4 (found ++ x.founded) x.course led.0 led.2 (λ e there. (x, among x (Contains-head x lives), there))
      (λ y there. whole y (lives-keep g f (m.setup i) ever_then kept_then lives all left led.3 y (ended-part g f (m.setup i) ever found x led.0 led.2 part y there)))
      (subst (λ (l : Life S D P G C). Contains (handed_out g f l.setup l.course) (Blocks j)) (sym is) blocked))
      (λ later. lives-refused ever_then kept_then lives all left life led.3 (kept-part g f (m.setup i) ever found x led.0 led.2 part) (λ l there. among l (Contains-rest x lives l there)) whole later blocked)
      (Contains-cases x lives life here)

  -- a correct member blocks a correct one by a refusal alone
  pub refused-alone : HandedOut g f scheme m world i (Blocks j) → BlamedSo
  refused-alone out = lives-refused [] [] (m.lives i) (world.recorded i) (w.lived i ci).0 out.0 (w.lived i ci).1 (λ x there. there) (λ l there. there) (λ x there. there) out.1 out.2
