-- What lives leave: one more behind those before it, by what it answered, and what a crash inside it leaves.
use Rattle.std.proofs.Common.{◌≡◌, ◌⊎◌, inl, inr, ℕ, List, [], ◌∷◌, ◌++◌, length, Option, Some, None, refl, sym, ap, ◌∙◌, subst, append_assoc, map, arith}
use Rattle.std.specs.Prelude.{All, IfSome, MatchOption, option_map, option_to_list}
use Rattle.std.proofs.lemmas.List.{append-nil}
use Rattle.std.proofs.lemmas.Option.{same_Some}
use Rattle.types_core.specs.declared.scheme.Scheme.{Ghosts}
use Rattle.messages_certificates.specs.declared.artifact.Artifact.{Artifact}
use Rattle.types_terms.specs.declared.elector.Elector as elector
use Rattle.journal_single.specs.declared.disk.Disk as disk
use Rattle.journal_single.specs.Disk.{Call, LeavesOnly, MayLeave}
use Rattle.journal_single.specs.Moments.{and_then, weaker}
use Rattle.journal_single.specs.Record.{IsForeign, Reads}
use Rattle.journal_books.specs.declared.disks.Disks.TheVariants.{One}
use Rattle.simplex_member.specs.declared.action.Action.{Action}
use Rattle.simplex_member.specs.declared.action.Reply.{Reply}
use Rattle.simplex_member.specs.declared.event.Event.{Event}
use Rattle.simplex_member.specs.declared.fault.NodeFault.{NodeFault}
use Rattle.simplex_member.specs.declared.fault.NodeFault.TheVariants as node_fault
use Rattle.simplex_member.specs.declared.fault.OpenFault.{OpenFault}
use Rattle.simplex_member.specs.declared.fault.OpenFault.TheVariants as open_fault
use Rattle.simplex_member.specs.declared.refusal.Refusal.{Refusal}
use Rattle.simplex_member.specs.Deeds.{AreActions}
use Rattle.simplex_member.specs.First.{IsFirst}
use Rattle.simplex_member.specs.Lives.{Broken, Course, Founds, Lasting, Life, Lived, Lives, Refuses, Turn, Turns, Went, turn_events}
use Rattle.simplex_member.specs.Member as whole
use Rattle.simplex_member.specs.Member.{AppendsFloor, Goes, AreActionsOf, IsReached, Run, Steps, Takes, after}
use Rattle.simplex_member.specs.Packet.{Formats}
use Rattle.simplex_member.specs.Point.{Point, History}
use Rattle.simplex_member.specs.Recorded.{fresh_of, kept_of}
use Rattle.simplex_member.specs.Refusals.{refused_deeds, tests}
use Rattle.simplex_member.specs.Setup.{IsOfOneMember, Setup, brought_by, owner_of}
use Rattle.simplex_record.specs.declared.owner.Owner.{Owner}
use Rattle.simplex_record.specs.Lawful.{IsRefusedAt}
use Rattle.node_record.specs.Ledger.{AreFoundOn, IsContradiction}
use Rattle.node_steps.specs.Opening.{AreOpenedOn, MayBeLeftOpen, early, open_tests}
use Rattle.simplex_node.specs.declared.living.Answered.{Answered}
use Rattle.simplex_node.specs.declared.living.Opening.{Opening}
use Rattle.simplex_node.specs.Living.{AreLivesOf, AreReplies, BeginsNone, FailsFor, Gives, IsLeftByLives, IsLeftByTurns, IsLifeOf, MayLeaveOnly, OnImage, Tells, Try, setup_by, tried}
use Rattle.simplex_node.specs.Running.{IsPassed}

some-none : {X : Type 0} (x : X) → Some x ≡ None → ⊥
some-none x e = cc e

module _ {S D P G C : Type 0} (g : Ghosts S D P G C) (f : Formats S D P G C) where
  -- one life behind others
  pub lives-on : (s : Setup S D C) (ever found : List (Artifact S D P G C)) (lives : List (Life S D P G C)) (all left : List (Artifact S D P G C)) (life : Life S D P G C) (end : History S D P G C)
      → Lives g f s ever found lives all left → Founds g f left life → Lived g f life.setup (left ++ life.founded) life.course end → IsOfOneMember s life.setup
      → Lives g f s ever found (lives ++ life ∷ []) (all ++ (life.founded ++ fresh_of end)) (kept_of life.setup.voter.length end)
  lives-on s ever found [] all left life end is founds lived one = (
    end,
    subst (λ (xs : List (Artifact S D P G C)). Founds g f xs life) is.1 founds,
    subst (λ (xs : List (Artifact S D P G C)). Lived g f life.setup (xs ++ life.founded) life.course end) is.1 lived,
    (ap (λ (xs : List (Artifact S D P G C)). xs ++ (life.founded ++ fresh_of end)) is.0, refl),
    one,
  )
  lives-on s ever found (first ∷ lives) all left life end (mid, founds_first, lived_first, more, same) founds lived one =
      (mid, founds_first, lived_first, lives-on s (ever ++ (first.founded ++ fresh_of mid)) (kept_of first.setup.voter.length mid) lives all left life end more founds lived one, same)

  module _ (s : Setup S D C) where
    -- where points lead
    pub goes-after : (points : List (Point S D P G C)) (h end : History S D P G C) → Goes g f s h points end → end ≡ after h points
    goes-after [] h end is = is
    goes-after (p ∷ points) h end (allowed, goes) = goes-after points (p ∷ h) end goes

    -- the turns of a run
    pub record RunTurns (h : History S D P G C) (events : List (Event D)) (replies : List (Reply S D P G C)) (end : History S D P G C) : Type 0 where
      pub turns : List (Turn S D P G C)
      pub turned : Turns g f s h turns end
      pub over : turn_events turns ≡ events
      pub replied : AreReplies g f s h turns replies

    pub run-turns : (h : History S D P G C) (events : List (Event D)) (replies : List (Reply S D P G C)) (end : History S D P G C) → Run g f s h events replies end
        → RunTurns h events replies end
    run-turns h [] [] end is = record { turns = []; turned = is; over = refl; replied = tt }
    run-turns h [] (reply ∷ replies) end run = absurd run
    run-turns h (e ∷ events) [] end run = absurd run
    run-turns h (e ∷ events) (reply ∷ replies) end (mid, step, run) = turn reply.refused refl step (run-turns mid events replies end run)
      where
        turn : (refused : Option Refusal) → reply.refused ≡ refused → Steps g f s h e reply mid → RunTurns mid events replies end → RunTurns h (e ∷ events) (reply ∷ replies) end
        turn None is step more =
            let takes : Takes g f s h e reply.actions.items mid = subst
            (λ (r : Option Refusal). MatchOption r (Takes g f s h e reply.actions.items mid) (λ x. (mid ≡ h) × AreActions f reply.actions.items (refused_deeds g f s h e x))) is step.1 in
            let same : mid ≡ after h takes.points = goes-after takes.points h mid takes.rests.goes in
            record {
              turns = Went e takes.points ∷ more.turns;
              turned = (mid, takes.step, takes.rests, more.turned);
              over = ap (λ (l : List (Event D)). e ∷ l) more.over;
              replied = (
                is,
                subst (λ (k : History S D P G C). AreActionsOf g f s h takes.points k reply.actions.items) same takes.hands_out,
                subst (λ (k : History S D P G C). AreReplies g f s k more.turns replies) same more.replied,
              );
            }
        turn (Some r) is step more =
            let stays : (mid ≡ h) × AreActions f reply.actions.items (refused_deeds g f s h e r) = subst
            (λ (o : Option Refusal). MatchOption o (Takes g f s h e reply.actions.items mid) (λ x. (mid ≡ h) × AreActions f reply.actions.items (refused_deeds g f s h e x))) is step.1 in
            record {
              turns = Refuses e r ∷ more.turns;
              turned = (
                subst (λ (o : Option Refusal). IsFirst (tests g f s h e) o) is step.0,
                subst (λ (k : History S D P G C). Turns g f s k more.turns end) stays.0 more.turned,
              );
              over = ap (λ (l : List (Event D)). e ∷ l) more.over;
              replied = (is, stays.1, subst (λ (k : History S D P G C). AreReplies g f s k more.turns replies) stays.0 more.replied);
            }

    -- all events were answered
    pub turns-whole : (h : History S D P G C) (events : List (Event D)) (replies : List (Reply S D P G C)) (end : History S D P G C) (fault : Option NodeFault) (image : List ℕ)
        → Run g f s h events replies end → Reads image (map f.artifact (kept_of s.voter.length end)) → IsLeftByTurns g f s h events replies fault image
    turns-whole h events replies end fault image run reads =
        let t = run-turns h events replies end run in
        record {
          turns = t.turns;
          last = end;
          cut = None;
          end = end;
          turned = t.turned;
          is_cut = refl;
          replied = t.replied;
          left = [];
          split = sym t.over ∙ sym (append-nil (turn_events t.turns)) ∙ sym (append-nil (turn_events t.turns ++ []));
          whole = λ is. (refl, refl);
          reads = reads;
        }

    -- none was
    pub turns-none : (h : History S D P G C) (events : List (Event D)) (why : NodeFault) (image : List ℕ) → Reads image (map f.artifact (kept_of s.voter.length h)) → IsLeftByTurns g f s h events [] (Some why) image
    turns-none h events why image reads = record {
      turns = [];
      last = h;
      cut = None;
      end = h;
      turned = refl;
      is_cut = refl;
      replied = tt;
      left = events;
      split = refl;
      whole = λ is. absurd (some-none why is);
      reads = reads;
    }

    -- those before one were, and the step over that may have been cut off
    pub turns-cut : (h : History S D P G C) (events before behind : List (Event D)) (event : Event D) (replies : List (Reply S D P G C)) (mid : History S D P G C) (why : NodeFault) (image : List ℕ)
        → events ≡ before ++ event ∷ behind → Run g f s h before replies mid → OnImage (IsReached g f s mid event) image → IsLeftByTurns g f s h events replies (Some why) image
    turns-cut h events before behind event replies mid why image is run (read, reads, reached) = by reached
      where
        t : RunTurns h before replies mid
        t = run-turns h before replies mid run

        by : IsReached g f s mid event read → IsLeftByTurns g f s h events replies (Some why) image
        by (inl same) = record {
          turns = t.turns;
          last = mid;
          cut = None;
          end = mid;
          turned = t.turned;
          is_cut = refl;
          replied = t.replied;
          left = event ∷ behind;
          split = is ∙ ap (λ (l : List (Event D)). l ++ event ∷ behind) (sym t.over ∙ sym (append-nil (turn_events t.turns)));
          whole = λ none. absurd (some-none why none);
          reads = subst (λ (bodies : List (List ℕ)). Reads image bodies) same reads;
        }
        by (inr (points, end, step, goes, same)) = record {
          turns = t.turns;
          last = mid;
          cut = Some (event, points);
          end = end;
          turned = t.turned;
          is_cut = (step, goes);
          replied = t.replied;
          left = behind;
          split = is ∙ sym (append_assoc before (event ∷ []) behind) ∙ ap (λ (l : List (Event D)). (l ++ event ∷ []) ++ behind) (sym t.over);
          whole = λ none. absurd (some-none why none);
          reads = subst (λ (bodies : List (List ℕ)). Reads image bodies) same reads;
        }

    pub turns-passed : (h : History S D P G C) (events : List (Event D)) (image : List ℕ) → (passed : OnImage (IsPassed g f s h events) image)
        → IsLeftByTurns g f s h events passed.2.replies (Some node_fault.Memory) image
    turns-passed h events image passed =
        turns-cut h events passed.2.before passed.2.behind passed.2.event passed.2.replies passed.2.mid node_fault.Memory image passed.2.split passed.2.run (passed.0, passed.1, passed.2.reached)

    -- turns to which no fault is told were over all events
    pub over-all : (events : List (Event D)) (turns : List (Turn S D P G C)) (cut : Option (Event D × List (Point S D P G C))) (left : List (Event D))
        → events ≡ (turn_events turns ++ option_to_list (option_map (λ c. c.0) cut)) ++ left → cut ≡ None → left ≡ [] → turn_events turns ≡ events
    over-all events turns cut left split none nothing =
        sym (split
        ∙ ap (λ (c : Option (Event D × List (Point S D P G C))). (turn_events turns ++ option_to_list (option_map (λ x. x.0) c)) ++ left) none
        ∙ ap (λ (l : List (Event D)). (turn_events turns ++ []) ++ l) nothing
        ∙ append-nil (turn_events turns ++ []) ∙ append-nil (turn_events turns))

-- an opening and what it answered
abbrev pub trial : {S L D P G C : Type 0} → Opening S L D P G C → Option (Answered S D P G C) → Try S L D P G C
trial o answer = record { opening = o; answer = answer }

abbrev pub owner_by : ℕ → ℕ → ℕ → Owner
owner_by epoch length me = record { epoch = epoch; term_length = length; signer = me }

-- openings of which none has told anything, in two parts
pub tried-none : {S L D P G C : Type 0} (over more : List (Opening S L D P G C)) → tried {P = P} {G = G} {C = C} (over ++ more) [] ≡ tried over [] ++ tried more []
tried-none [] more = refl
tried-none {S} {L} {D} {P} {G} {C} (o ∷ over) more = ap (λ (l : List (Try S L D P G C)). trial o None ∷ l) (tried-none over more)

-- one more that answered
pub tried-more : {S L D P G C : Type 0} (over : List (Opening S L D P G C)) (answers : List (Answered S D P G C)) (o : Opening S L D P G C) (a : Answered S D P G C) → length answers ≡ length over
    → tried (over ++ o ∷ []) (answers ++ a ∷ []) ≡ tried over answers ++ trial o (Some a) ∷ []
tried-more [] [] o a same = refl
tried-more [] (b ∷ answers) o a same = absurd (omega (arith, same))
tried-more (p ∷ over) [] o a same = absurd (omega (arith, same))
tried-more {S} {L} {D} {P} {G} {C} (p ∷ over) (b ∷ answers) o a same =
    ap (λ (l : List (Try S L D P G C)). trial p (Some b) ∷ l) (tried-more over answers o a (omega (arith, same)))

module _ {S L D P G C : Type 0} (g : Ghosts S D P G C) (e : elector.Ghosts L S D P G C) (f : Formats S D P G C) (index : ℕ) where
  -- lives behind some openings are such behind more of them that may have begun none
  pub lives-none : (tries : List (Try S L D P G C)) (o : Opening S L D P G C) (answer : Option (Answered S D P G C)) (lives : List (Life S D P G C)) → BeginsNone g e f index o answer
      → AreLivesOf g e f index tries lives → AreLivesOf g e f index (tries ++ trial o answer ∷ []) lives
  lives-none [] o answer [] begins are = (begins, tt)
  lives-none [] o answer (life ∷ lives) begins are = absurd are
  lives-none (t ∷ tries) o answer [] begins are = (are.0, lives-none tries o answer [] begins are.1)
  lives-none (t ∷ tries) o answer (life ∷ lives) begins (inl (is, gives, more)) = inl (is, gives, lives-none tries o answer lives begins more)
  lives-none (t ∷ tries) o answer (life ∷ lives) begins (inr (none, more)) = inr (none, lives-none tries o answer (life ∷ lives) begins more)

  -- and with one life more behind one more opening
  pub lives-more : (tries : List (Try S L D P G C)) (o : Opening S L D P G C) (answer : Option (Answered S D P G C)) (lives : List (Life S D P G C)) (life : Life S D P G C)
      → IsLifeOf g e f index o life → Gives g e f index o answer life → AreLivesOf g e f index tries lives
      → AreLivesOf g e f index (tries ++ trial o answer ∷ []) (lives ++ life ∷ [])
  lives-more [] o answer [] life is gives are = inl (is, gives, tt)
  lives-more [] o answer (first ∷ lives) life is gives are = absurd are
  lives-more (t ∷ tries) o answer [] life is gives are = inr (are.0, lives-more tries o answer [] life is gives are.1)
  lives-more (t ∷ tries) o answer (first ∷ lives) life is gives (inl (of, gave, more)) = inl (of, gave, lives-more tries o answer lives life is gives more)
  lives-more (t ∷ tries) o answer (first ∷ lives) life is gives (inr (none, more)) = inr (none, lives-more tries o answer (first ∷ lives) life is gives more)

  -- what was answered is forgotten
  pub lives-untold : (openings : List (Opening S L D P G C)) (answers : List (Answered S D P G C)) (more : List (Try S L D P G C)) (lives : List (Life S D P G C))
      → AreLivesOf g e f index (tried openings answers ++ more) lives → AreLivesOf g e f index (tried openings [] ++ more) lives
  lives-untold [] answers more lives are = are
  lives-untold (o ∷ openings) [] more lives are = are
  lives-untold (o ∷ openings) (a ∷ answers) more [] are = (tt, lives-untold openings answers more [] are.1)
  lives-untold (o ∷ openings) (a ∷ answers) more (life ∷ lives) (inl (is, gives, rest)) = inl (is, tt, lives-untold openings answers more lives rest)
  lives-untold (o ∷ openings) (a ∷ answers) more (life ∷ lives) (inr (none, rest)) = inr (tt, lives-untold openings answers more (life ∷ lives) rest)

  -- behind what was tried before
  pub lives-behind : (before one other : List (Try S L D P G C)) → ((lives : List (Life S D P G C)) → AreLivesOf g e f index one lives → AreLivesOf g e f index other lives)
      → (lives : List (Life S D P G C)) → AreLivesOf g e f index (before ++ one) lives → AreLivesOf g e f index (before ++ other) lives
  lives-behind [] one other so lives are = so lives are
  lives-behind (t ∷ before) one other so [] are = (are.0, lives-behind before one other so [] are.1)
  lives-behind (t ∷ before) one other so (life ∷ lives) (inl (is, gives, more)) = inl (is, gives, lives-behind before one other so lives more)
  lives-behind (t ∷ before) one other so (life ∷ lives) (inr (none, more)) = inr (none, lives-behind before one other so (life ∷ lives) more)

module _ {S L D P G C : Type 0} (g : Ghosts S D P G C) (e : elector.Ghosts L S D P G C) (f : Formats S D P G C) (s : Setup S D C) where
  abbrev Left : List (Try S L D P G C) → List ℕ → Type 0
  Left tries image = IsLeftByLives g e f s tries image

  -- one more opening that may have begun no life
  pub left-none : (tries : List (Try S L D P G C)) (o : Opening S L D P G C) (answer : Option (Answered S D P G C)) → BeginsNone g e f s.me o answer
      → (image : List ℕ) → Left tries image → Left (tries ++ trial o answer ∷ []) image
  left-none tries o answer begins image is = record {
    lives = is.lives;
    all = is.all;
    left = is.left;
    are = lives-none g e f s.me tries o answer is.lives begins is.are;
    lived = is.lived;
    reads = is.reads;
  }

  -- openings whose answers are forgotten
  pub left-untold : (before : List (Try S L D P G C)) (openings : List (Opening S L D P G C)) (answers : List (Answered S D P G C)) (more : List (Try S L D P G C))
      → (image : List ℕ) → Left (before ++ (tried openings answers ++ more)) image → Left (before ++ (tried openings [] ++ more)) image
  left-untold before openings answers more image is = record {
    lives = is.lives;
    all = is.all;
    left = is.left;
    are = lives-behind g e f s.me before (tried openings answers ++ more) (tried openings [] ++ more) (lives-untold g e f s.me openings answers more) is.lives is.are;
    lived = is.lived;
    reads = is.reads;
  }

  module _ (before : List (Try S L D P G C)) (o : Opening S L D P G C) (one : IsOfOneMember s (setup_by g e s.me o)) where
    -- how it is set up
    abbrev t : Setup S D C
    t = setup_by g e s.me o

    -- its life
    abbrev pub life_by : List (Artifact S D P G C) → Course S D P G C → Life S D P G C
    life_by founded course = record { setup = t; brought = brought_by o.config.floor; founded = founded; course = course }

    -- one life more, which rewrites nothing
    pub left-more : (answer : Option (Answered S D P G C)) (seen image : List ℕ) (is : Left before seen) (founded : List (Artifact S D P G C)) (course : Course S D P G C) (end : History S D P G C)
        → IsLifeOf g e f s.me o (life_by founded course) → Gives g e f s.me o answer (life_by founded course) → Founds g f is.left (life_by founded course)
        → Lived g f t (is.left ++ founded) course end → Reads image (map f.artifact (kept_of t.voter.length end)) → Left (before ++ trial o answer ∷ []) image
    left-more answer seen image is founded course end life gives founds lived reads = record {
      lives = is.lives ++ life_by founded course ∷ [];
      all = is.all ++ (founded ++ fresh_of end);
      left = kept_of t.voter.length end;
      are = lives-more g e f s.me before o answer is.lives (life_by founded course) life gives is.are;
      lived = lives-on g f s [] [] is.lives is.all is.left (life_by founded course) end is.lived founds lived one;
      reads = reads;
    }

    module _ {K : Type 0} (k : disk.Ghosts K) (Readable : Artifact S D P G C → Type 0) (on : K) (keeps : k.keeps)
        (one_record : (image : List ℕ) (bodies others : List (List ℕ)) → Reads image bodies → Reads image others → bodies ≡ others)
        (found_is : (lives : List (Life S D P G C)) (all left found : List (Artifact S D P G C)) (image : List ℕ) → Lives g f s [] [] lives all left → Reads image (map f.artifact left)
        → All Readable found → Reads image (map f.artifact found) → found ≡ left)
        (start : MayLeaveOnly (k.calls on) (Left before)) (seen : MayLeave (k.calls on) (k.seen on)) where
      -- what was left at the start
      pub at-start : Left before (k.seen on)
      at-start = start (k.seen on) seen

      -- what is found is what was left
      pub found-left : (found : List (Artifact S D P G C)) → AreFoundOn k f.artifact Readable (One on) found → found ≡ at-start.left
      found-left found are = found_is at-start.lives at-start.all at-start.left found (k.seen on) at-start.lived at-start.reads are.readable (are.reads keeps)

      -- what a crash inside the opening leaves, and one that failed
      pub left-open : (answer : Option (Answered S D P G C)) → BeginsNone g e f s.me o answer
          → ((founded : List (Artifact S D P G C)) (points : List (Point S D P G C)) → Gives g e f s.me o answer (life_by founded (Broken o.now points)))
          → (image : List ℕ) → OnImage (MayBeLeftOpen g e k f t Readable (brought_by o.config.floor) (One on) o.now) image → Left (before ++ trial o answer ∷ []) image
      left-open answer begins gives image (read, reads, inl (before-image, left_before, reads_before)) =
          let was = start before-image left_before in
          left-none before o answer begins image (record {
            lives = was.lives;
            all = was.all;
            left = was.left;
            are = was.are;
            lived = was.lived;
            reads = subst (λ (bodies : List (List ℕ)). Reads image bodies) (one_record before-image read (map f.artifact was.left) reads_before was.reads) reads;
          })
      left-open answer begins gives image (read, reads, inr (found, founded, are, opened)) = left-more answer (k.seen on) image at-start founded (Broken o.now opened.0) opened.1
          (record { setup = refl; brought = refl; now = refl; left = o.events.items; events = refl }) (gives founded opened.0)
          (record {
            appends = inr (subst (λ (xs : List (Artifact S D P G C)). AppendsFloor (brought_by o.config.floor) xs founded) (found-left found are.are_found) are.appended.appends);
            readable = are.appended.recordable;
          })
          (subst (λ (xs : List (Artifact S D P G C)). Lived g f t (xs ++ founded) (Broken o.now opened.0) opened.1) (found-left found are.are_found) (opened.2, opened.3))
          (subst (λ (bodies : List (List ℕ)). Reads image bodies) opened.4 reads)

      -- what turns behind the opening leave
      pub left-turned : (answer : Option (Answered S D P G C)) (found founded : List (Artifact S D P G C)) (first : List (Action S D P G C)) (mid : History S D P G C) (replies : List (Reply S D P G C)) (fault : Option NodeFault)
          → AreOpenedOn g k f t Readable (brought_by o.config.floor) (One on) found founded → (opens : whole.Opens g f t o.now (found ++ founded) first mid) → (image : List ℕ) → (is : IsLeftByTurns g f t mid o.events.items replies fault image)
          → Gives g e f s.me o answer (life_by founded (Lasting o.now opens.points is.turns is.cut))
          → Left (before ++ trial o answer ∷ []) image
      left-turned answer found founded first mid replies fault are opens image is gives =
          left-more answer (k.seen on) image at-start founded (Lasting o.now opens.points is.turns is.cut) is.end
          (record { setup = refl; brought = refl; now = refl; left = is.left; events = is.split }) gives
          (record {
            appends = subst (λ (xs : List (Artifact S D P G C)). AppendsFloor (brought_by o.config.floor) xs founded) (found-left found are.are_found) are.appended.appends;
            readable = are.appended.recordable;
          })
          (subst (λ (xs : List (Artifact S D P G C)). Lived g f t (xs ++ founded) (Lasting o.now opens.points is.turns is.cut) is.end) (found-left found are.are_found)
          (mid, is.last, opens.opening, opens.rests, is.turned, is.is_cut))
          is.reads

      -- and what they answered
      pub left-told : (found : List (Artifact S D P G C)) (first : List (Action S D P G C)) (mid : History S D P G C) (replies : List (Reply S D P G C)) (fault : Option NodeFault)
          → (opens : whole.Opens g f t o.now found first mid) → (image : List ℕ) → (is : IsLeftByTurns g f t mid o.events.items replies fault image)
          → Tells g f t o.events.items first replies fault (Lasting o.now opens.points is.turns is.cut)
      left-told found first mid replies fault opens image is =
          let same : mid ≡ after [] opens.points = goes-after g f t opens.points [] mid opens.rests.goes in (
            subst (λ (h : History S D P G C). AreActionsOf g f t [] opens.points h first) same opens.hands_out,
            subst (λ (h : History S D P G C). AreReplies g f t h is.turns replies) same is.replied,
            λ none. ((is.whole none).0, over-all g f t o.events.items is.turns is.cut is.left is.split (is.whole none).0 (is.whole none).1),
          )

      -- an opening that failed did so for its arguments, or for want of memory or by the disk
      module _ (never : (lives : List (Life S D P G C)) (all left : List (Artifact S D P G C)) (image : List ℕ) (place : ℕ) → Lives g f s [] [] lives all left → Reads image (map f.artifact left)
          → IsForeign [] Readable f.artifact image place → ⊥)
          (lawful : (lives : List (Life S D P G C)) (all left : List (Artifact S D P G C)) (position : ℕ) → Lives g f s [] [] lives all left
          → IsRefusedAt (g.attests s.voter.scheme) (g.certifies s.voter.scheme) (owner_of s) left position → ⊥) where
        owner-same : owner_of t ≡ owner_of s
        owner-same = ap (λ (n : ℕ). owner_by n t.voter.length t.me) one.epoch ∙ ap (λ (n : ℕ). owner_by s.voter.epoch n t.me) one.length ∙ ap (λ (n : ℕ). owner_by s.voter.epoch s.voter.length n) one.me

        no-contradiction : (position : ℕ) → IsContradiction k f.artifact Readable (g.attests o.scheme.value) (g.certifies o.scheme.value) (owner_of t) (One on) position → ⊥
        no-contradiction position (found, are, refused) =
            lawful at-start.lives at-start.all at-start.left position at-start.lived
            (subst (λ (xs : List (Artifact S D P G C)). IsRefusedAt (g.attests s.voter.scheme) (g.certifies s.voter.scheme) (owner_of s) xs position) (found-left found are)
            (subst (λ (x : S). IsRefusedAt (g.attests x) (g.certifies x) (owner_of s) found position) one.scheme
            (subst (λ (w : Owner). IsRefusedAt (g.attests o.scheme.value) (g.certifies o.scheme.value) w found position) owner-same refused)))

        pub fails : (X : Type 0) (why : OpenFault) → IfSome (early why) (λ x. IsFirst (open_tests g t o.config o.now) (Some x) × X) → (early why ≡ None → IsFirst (open_tests g t o.config o.now) None)
            → ((place : ℕ) → why ≡ open_fault.Foreign place → k.keeps → IsForeign [] Readable f.artifact (k.seen on) place)
            → ((position : ℕ) → why ≡ open_fault.Contradiction position
            → IsContradiction k f.artifact Readable (g.attests o.scheme.value) (g.certifies o.scheme.value) (owner_of t) (One on) position)
            → FailsFor g e f s.me o why
        fails X open_fault.NoKey told later foreign contradiction = (told.0, λ none. absurd (some-none open_fault.NoKey none))
        fails X (open_fault.Config x) told later foreign contradiction = (told.0, λ none. absurd (some-none (open_fault.Config x) none))
        fails X open_fault.MomentTooLate told later foreign contradiction = (told.0, λ none. absurd (some-none open_fault.MomentTooLate none))
        fails X open_fault.TooManyOptimistic told later foreign contradiction = (told.0, λ none. absurd (some-none open_fault.TooManyOptimistic none))
        fails X (open_fault.Foreign place) told later foreign contradiction =
            absurd (never at-start.lives at-start.all at-start.left (k.seen on) place at-start.lived at-start.reads (foreign place refl keeps))
        fails X (open_fault.Contradiction position) told later foreign contradiction = absurd (no-contradiction position (contradiction position refl))
        fails X open_fault.Device told later foreign contradiction = (later refl, λ none. inr refl)
        fails X open_fault.Memory told later foreign contradiction = (later refl, λ none. inl refl)

-- a stretch in which lives left what they may, and at most one behind it
pub leaves-on : {old mid new : List Call} {P Q : List ℕ → Type 0} (R : List ℕ → Type 0) → LeavesOnly old mid P → ((image : List ℕ) → P image → R image) → (new ≡ mid) ⊎ LeavesOnly mid new Q
    → ((image : List ℕ) → Q image → R image) → LeavesOnly old new R
leaves-on {old} {mid} {new} {P} {Q} R first here (inl same) there = subst (λ (l : List Call). LeavesOnly old l R) (sym same) (weaker R first here)
leaves-on {old} {mid} {new} {P} {Q} R first here (inr second) there = and_then (weaker R first here) (weaker R second there)

-- what is so of one index is so of another that is the same
pub same-index : {P : ℕ → Type 0} {own : Option ℕ} {index : ℕ} → ((i : ℕ) × (own ≡ Some i) × P i) → own ≡ Some index → P index
same-index {P} {own} {index} is same = subst P (same_Some is.0 index (sym is.1 ∙ same)) is.2
