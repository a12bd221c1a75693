-- All that a member ever recorded stands on ground, and so do the lists of a world of lives.
use Rattle.std.proofs.Common.{◌≡◌, ◌≢◌, ◌⊎◌, inl, inr, ⊎_elim, ℕ, true, false, List, [], ◌∷◌, ◌++◌, Option, Some, None, refl, sym, ◌∙◌, ap, subst, arith, append_assoc}
use Rattle.std.specs.Prelude.{Contains, IfSome}
use Rattle.std.proofs.lemmas.List.{append-nil, map-append}
use Rattle.std.proofs.lemmas.List.Elements.{Contains-append_cases, Contains-append_left, Contains-append_right}
use Rattle.types_quorum.specs.Counting.{Contains-nil}
use Rattle.types_core.specs.declared.scheme.Scheme.{Ghosts}
use Rattle.types_core.specs.Subject.{notarize, nullify, finalize}
use Rattle.messages_certificates.specs.declared.artifact.Artifact.{Artifact}
use Rattle.messages_certificates.specs.declared.artifact.Artifact.TheVariants as artifact
use Rattle.messages_certificates.specs.ProposalCertificate.{Finalization}
use Rattle.simplex_record.specs.declared.owner.Owner.{Owner}
use Rattle.simplex_record.specs.Chain.{IsGround, MayFollowOnGround, StandsOnGround}
use Rattle.simplex_record.specs.Record as recorded
use Rattle.simplex_record.specs.Record.{Entry, entry, entries}
use Rattle.simplex_record.specs.World.{World, IsCorrect}
use Rattle.voter_history.specs.History.{scheduled_leader}
use Rattle.voter_laws.specs.Matching.{DueNotarizeIsOnGround, DueVerdictIsOnGround, EachHistoryMatches}
use Rattle.simplex_member.specs.declared.event.Event.{Event}
use Rattle.simplex_member.specs.Allowed.{Allowed, AreAllowed}
use Rattle.simplex_member.specs.Layers.{is_begun}
use Rattle.simplex_member.specs.Laws.{HasLived, RoundLaws}
use Rattle.simplex_member.specs.Lives.{Course, Life, Broken, Lasting, Turn, Refuses, Rewrites, Went, IsCut, LiveByNodes, Lived, Lives, Members, Turns}
use Rattle.simplex_member.specs.Member.{AreFound, AreOpening, Goes}
use Rattle.simplex_member.specs.Packet.{Formats}
use Rattle.simplex_member.specs.Point.{Point, Opened, Found, Began, Rewrote, History}
use Rattle.simplex_member.specs.Recorded.{added_by, fresh_of, kept_of, put_behind, record_of, recorded_by}
use Rattle.simplex_member.specs.Setup.{IsOfOneMember, Setup}
use Rattle.simplex_member.proofs.Grounding.{stands}
use Rattle.simplex_member.proofs.Keeping.{kept-part}
use Rattle.simplex_member.proofs.Lists.{Contains-map, Contains-mapped, put-before, put-cases, put-here}
use Rattle.simplex_member.proofs.Sameness.{ground-by, same-turned}
use Rattle.simplex_member.proofs.Telling.{apart}
use Rattle.simplex_member.proofs.Three.{AtMostOne, added-or-found, appends-one}

-- a record that stands on ground does so with one more entry that follows on ground
abbrev pub GroundGrows : Type 0 → Type 0
GroundGrows D = (size views : ℕ) (leader : ℕ → Option ℕ) (member : ℕ) (before : List (Entry D)) (e : Entry D) → StandsOnGround size views leader member before → MayFollowOnGround size views leader member before e → StandsOnGround size views leader member (before ++ e ∷ [])

-- what stands on ground does so where more is recorded
module _ {D : Type 0} (r more : List (Entry D)) (within : (e : Entry D) → Contains r e → Contains more e) where
  pub ground-more : (view : ℕ) → IsGround r view → IsGround more view
  ground-more view is = ⊎_elim
      (λ zero. inl zero)
      (λ explicit. inr (⊎_elim
      (λ final. inl (final.0, final.1, within (recorded.taken (finalize final.0)) final.2))
      (λ good. inr (good.0, good.1, within (recorded.judged good.0 true) good.2))
      explicit))
      is

  pub follows-more : (size views : ℕ) (leader : ℕ → Option ℕ) (member : ℕ) (e : Entry D) → MayFollowOnGround size views leader member r e → MayFollowOnGround size views leader member more e
  follows-more size views leader member (recorded.voted (notarize p)) may = λ start. ⊎_elim (λ ground. inl (ground-more p.parent ground)) (λ leads. inr leads) (may start)
  follows-more size views leader member (recorded.voted (nullify x)) may = tt
  follows-more size views leader member (recorded.voted (finalize p)) may = tt
  follows-more size views leader member (recorded.taken s) may = tt
  follows-more size views leader member (recorded.judged x true) may = (may.0, may.1, within (recorded.taken (notarize may.0)) may.2, λ needed. ground-more may.0.parent (may.3 needed))
  follows-more size views leader member (recorded.judged x false) may = tt

module _ {S D P G C : Type 0} where
  -- the entries of some artifacts are entries of more
  pub entries-within : (xs ys : List (Artifact S D P G C)) → ((x : Artifact S D P G C) → Contains xs x → Contains ys x) → (e : Entry D) → Contains (entries xs) e → Contains (entries ys) e
  entries-within xs ys within e here =
      let x = Contains-mapped entry xs e here in
      subst (λ (y : Entry D). Contains (entries ys) y) x.2 (Contains-map entry ys x.0 (within x.0 x.1))

  -- one list behind another, and one more, or none
  pub put-append : (xs ys : List (Artifact S D P G C)) (o : Option (Artifact S D P G C)) → put_behind (xs ++ ys) o ≡ xs ++ put_behind ys o
  put-append xs ys None = refl
  put-append xs ys (Some x) = append_assoc xs ys (x ∷ [])

  -- what was known stays known
  pub known-on : (ever : List (Artifact S D P G C)) (h : History S D P G C) (p : Point S D P G C) → added_by p ≡ recorded_by p → ((x : Artifact S D P G C) → Contains (record_of h) x → Contains (ever ++ fresh_of h) x)
      → (x : Artifact S D P G C) → Contains (record_of (p ∷ h)) x → Contains (ever ++ fresh_of (p ∷ h)) x
  known-on ever h p added known x here =
      subst (λ (l : List (Artifact S D P G C)). Contains l x) (put-append ever (fresh_of h) (added_by p)) (⊎_elim
      (λ before. put-before (ever ++ fresh_of h) (added_by p) x (known x before))
      (λ now. put-here (ever ++ fresh_of h) (added_by p) x (added ∙ now))
      (put-cases (record_of h) (recorded_by p) x here))

module _ {S D P G C : Type 0} (g : Ghosts S D P G C) (f : Formats S D P G C) (s : Setup S D C) where
  pub begun-stays : (p : Point S D P G C) (h : History S D P G C) → is_begun h ≡ true → is_begun (p ∷ h) ≡ true
  begun-stays Began h begun = refl
  begun-stays p h begun = begun

  -- behind the reading a point adds what it records
  pub added-then : (p : Point S D P G C) (h : History S D P G C) → is_begun h ≡ true → Allowed g f s h p → added_by p ≡ recorded_by p
  added-then p h begun a = ⊎_elim
      (λ added. added)
      (λ found. let b : Allowed g f s h (Found found.0 found.1) = subst (λ (q : Point S D P G C). Allowed g f s h q) found.2 a in absurd (apart (sym b.order.1 ∙ begun)))
      (added-or-found p)

  abbrev pub Ground : List (Artifact S D P G C) → Type 0
  Ground r = StandsOnGround (g.size s.voter.scheme) s.voter.length (scheduled_leader s.voter) s.me (entries r)

  -- a history whose record was gone through, of a member that ever recorded these before: all that it ever recorded stands on ground
  pub record IsGrounded (ever : List (Artifact S D P G C)) (h : History S D P G C) : Type 0 where
    pub allowed : AreAllowed g f s h
    pub begun : is_begun h ≡ true
    pub known : (x : Artifact S D P G C) → Contains (record_of h) x → Contains (ever ++ fresh_of h) x
    pub ground : Ground (ever ++ fresh_of h)

  module _ (grows : GroundGrows D) where
    put-ground : (xs : List (Artifact S D P G C)) (o : Option (Artifact S D P G C)) → Ground xs
        → IfSome o (λ x. MayFollowOnGround (g.size s.voter.scheme) s.voter.length (scheduled_leader s.voter) s.me (entries xs) (entry x)) → Ground (put_behind xs o)
    put-ground xs None is may = is
    put-ground xs (Some x) is may =
        subst (λ (es : List (Entry D)). StandsOnGround (g.size s.voter.scheme) s.voter.length (scheduled_leader s.voter) s.me es) (sym (map-append entry xs (x ∷ [])))
        (grows (g.size s.voter.scheme) s.voter.length (scheduled_leader s.voter) s.me (entries xs) (entry x) is may)

    -- with the floor that was appended
    pub founded-ground : (ever founded : List (Artifact S D P G C)) → AtMostOne founded → Ground ever → Ground (ever ++ founded)
    founded-ground ever founded which is = ⊎_elim
        (λ none. subst (λ (l : List (Artifact S D P G C)). Ground (ever ++ l)) (sym none) (subst Ground (sym (append-nil ever)) is))
        (λ one. subst (λ (l : List (Artifact S D P G C)). Ground (ever ++ l)) (sym one.1) (put-ground ever (Some (artifact.Finalization one.0)) is tt))
        which

  module _ (law : EachHistoryMatches S D P G C) (verdict : DueVerdictIsOnGround D) (notarize_law : DueNotarizeIsOnGround D) (grows : GroundGrows D) (more : g.size s.voter.scheme ≢ 1) (laws : RoundLaws g f.same) (mine : s.voter.me ≡ Some s.me) where
    abbrev Follows : List (Artifact S D P G C) → Artifact S D P G C → Type 0
    Follows xs x = MayFollowOnGround (g.size s.voter.scheme) s.voter.length (scheduled_leader s.voter) s.me (entries xs) (entry x)

    all-follow : (xs ys : List (Artifact S D P G C)) → ((x : Artifact S D P G C) → Contains xs x → Contains ys x) → (o : Option (Artifact S D P G C)) → IfSome o (Follows xs) → IfSome o (Follows ys)
    all-follow xs ys within None may = tt
    all-follow xs ys within (Some x) may = follows-more (entries xs) (entries ys) (entries-within xs ys within) (g.size s.voter.scheme) s.voter.length (scheduled_leader s.voter) s.me (entry x) may

    point-ground : (ever : List (Artifact S D P G C)) (h : History S D P G C) (p : Point S D P G C) → Allowed g f s h p → IsGrounded ever h → IsGrounded ever (p ∷ h)
    point-ground ever h p a is =
        let added = added-then p h is.begun a in
        let may = all-follow (record_of h) (ever ++ fresh_of h) is.known (recorded_by p) (stands g f s law verdict more notarize_law laws mine h is.allowed p a is.begun) in
        let may_add = subst (λ (o : Option (Artifact S D P G C)). IfSome o (Follows (ever ++ fresh_of h))) (sym added) may in
        record {
          allowed = (a, is.allowed);
          begun = begun-stays p h is.begun;
          known = known-on ever h p added is.known;
          ground = subst Ground (put-append ever (fresh_of h) (added_by p)) (put-ground grows (ever ++ fresh_of h) (added_by p) is.ground may_add);
        }

    goes-ground : (ever : List (Artifact S D P G C)) (h : History S D P G C) (points : List (Point S D P G C)) (end : History S D P G C) → Goes g f s h points end → IsGrounded ever h → IsGrounded ever end
    goes-ground ever h [] end goes is = subst (λ (k : History S D P G C). IsGrounded ever k) (sym goes) is
    goes-ground ever h (p ∷ points) end goes is = goes-ground ever (p ∷ h) points end goes.1 (point-ground ever h p goes.0 is)

    -- what was found is of what was ever recorded, and nothing else is there once it was gone through
    read-ground : (ever : List (Artifact S D P G C)) (h : History S D P G C) (xs : List (Artifact S D P G C)) (read acts : List (Point S D P G C)) (end : History S D P G C) → AreFound xs read → Goes g f s h (read ++ (Began ∷ acts)) end
        → AreAllowed g f s h → fresh_of h ≡ [] → ((x : Artifact S D P G C) → Contains (record_of h ++ xs) x → Contains ever x) → Ground ever → IsGrounded ever end
    read-ground ever h [] [] acts end are goes all none part is =
        let whole : ever ++ fresh_of h ≡ ever = ap (λ (l : List (Artifact S D P G C)). ever ++ l) none ∙ append-nil ever in
        goes-ground ever (Began ∷ h) acts end goes.1 (record {
          allowed = (goes.0, all);
          begun = refl;
          known = λ x here. subst (λ (l : List (Artifact S D P G C)). Contains l x) (sym whole) (part x (Contains-append_left (record_of h) [] x here));
          ground = subst Ground (sym whole) is;
        })
    read-ground ever h (x ∷ xs) (Found y taken ∷ read) acts end are goes all none part is =
        read-ground ever (Found y taken ∷ h) xs read acts end are.1 goes.1 (goes.0, all) none
        (λ z here. part z (subst (λ (l : List (Artifact S D P G C)). Contains l z) (append_assoc (record_of h) (x ∷ []) xs)
        (subst (λ (w : Artifact S D P G C). Contains ((record_of h ++ w ∷ []) ++ xs) z) are.0 here)))
        is
    read-ground ever h [] (p ∷ read) acts end never goes all none part is = absurd never
    read-ground ever h (x ∷ xs) [] acts end never goes all none part is = absurd never
    read-ground ever h (x ∷ xs) (p ∷ read) acts end never goes all none part is = absurd never

    opening-ground : (ever : List (Artifact S D P G C)) (now : ℕ) (found : List (Artifact S D P G C)) (points : List (Point S D P G C)) (end : History S D P G C) → AreOpening g f s now found points → Goes g f s [] points end
        → ((x : Artifact S D P G C) → Contains found x → Contains ever x) → Ground ever → IsGrounded ever end
    opening-ground ever now found points end o goes part is =
        let gone = subst (λ (l : List (Point S D P G C)). Goes g f s [] l end) o.split goes in
        read-ground ever (Opened now ∷ []) found o.read o.acts end o.are gone.1 (gone.0, tt) refl part is

    turns-ground : (ever : List (Artifact S D P G C)) (h : History S D P G C) (turns : List (Turn S D P G C)) (end : History S D P G C) → Turns g f s h turns end → IsGrounded ever h → IsGrounded ever end
    turns-ground ever h [] end is ground = subst (λ (k : History S D P G C). IsGrounded ever k) (sym is) ground
    turns-ground ever h (Refuses e r ∷ turns) end t ground = turns-ground ever h turns end t.1 ground
    turns-ground ever h (Went e points ∷ turns) end t ground = turns-ground ever t.0 turns end t.3 (goes-ground ever h points t.0 t.2.goes ground)
    turns-ground ever h (Rewrites c ∷ turns) end t ground = turns-ground ever (Rewrote c ∷ h) turns end t.1 (point-ground ever h (Rewrote c) t.0.allowed ground)

    cut-ground : (ever : List (Artifact S D P G C)) (h : History S D P G C) (cut : Option (Event D × List (Point S D P G C))) (end : History S D P G C) → IsCut g f s h cut end → IsGrounded ever h → IsGrounded ever end
    cut-ground ever h None end is ground = subst (λ (k : History S D P G C). IsGrounded ever k) (sym is) ground
    cut-ground ever h (Some c) end is ground = goes-ground ever h c.1 end is.1 ground

    life-ground : (ever found : List (Artifact S D P G C)) (life : Course S D P G C) (end : History S D P G C) → Lived g f s found life end
        → ((x : Artifact S D P G C) → Contains found x → Contains ever x) → Ground ever → IsGrounded ever end
    life-ground ever found (Broken now points) end lived part is = opening-ground ever now found points end lived.0 lived.1 part is
    life-ground ever found (Lasting now points turns cut) end lived part is =
        cut-ground ever lived.1 cut end lived.5 (turns-ground ever lived.0 turns lived.1 lived.4 (opening-ground ever now found points lived.0 lived.2 lived.3.goes part is))

module _ {S D P G C : Type 0} (g : Ghosts S D P G C) (f : Formats S D P G C) (s : Setup S D C)
    (law : EachHistoryMatches S D P G C) (verdict : DueVerdictIsOnGround D) (notarize_law : DueNotarizeIsOnGround D) (grows : GroundGrows D) (more : g.size s.voter.scheme ≢ 1) (laws : RoundLaws g f.same) (mine : s.voter.me ≡ Some s.me) where
  -- a life by another setup of the member
  life-leaves : (ever found : List (Artifact S D P G C)) (life : Life S D P G C) (end : History S D P G C) → IsOfOneMember s life.setup → AtMostOne life.founded → Lived g f life.setup (found ++ life.founded) life.course end
      → ((x : Artifact S D P G C) → Contains found x → Contains ever x) → Ground g f s ever → Ground g f s (ever ++ (life.founded ++ fresh_of end))
  life-leaves ever found life end same which lived part is =
      let t = life.setup in
      let others : g.size t.voter.scheme ≢ 1 = λ one. more (sym (ap g.size same.scheme) ∙ one) in
      let by : t.voter.me ≡ Some t.me = same.voter_me ∙ (mine ∙ ap (λ (n : ℕ). Some n) (sym same.me)) in
      let ever_on : Ground g f t ever = ground-by g t s (same-turned g s t same) (λ n views leader i. StandsOnGround n views leader i (entries ever)) is in
      let within : (x : Artifact S D P G C) → Contains (found ++ life.founded) x → Contains (ever ++ life.founded) x = λ x here. ⊎_elim
      (λ before. Contains-append_left ever life.founded x (part x before)) (λ floor. Contains-append_right ever life.founded x floor) (Contains-append_cases found life.founded x here) in
      let left = (life-ground g f t law verdict notarize_law grows others laws by (ever ++ life.founded) (found ++ life.founded) life.course end lived within (founded-ground g f t grows ever life.founded which ever_on)).ground in
      subst (Ground g f s) (append_assoc ever life.founded (fresh_of end))
      (ground-by g s t same (λ n views leader i. StandsOnGround n views leader i (entries ((ever ++ life.founded) ++ fresh_of end))) left)

  lives-on-ground : (ever found : List (Artifact S D P G C)) (lives : List (Life S D P G C)) (all left : List (Artifact S D P G C)) → Lives g f s ever found lives all left
      → ((x : Artifact S D P G C) → Contains found x → Contains ever x) → Ground g f s ever → Ground g f s all
  lives-on-ground ever found [] all left is part ground = subst (Ground g f s) (sym is.0) ground
  lives-on-ground ever found (life ∷ lives) all left led part ground =
      lives-on-ground (ever ++ (life.founded ++ fresh_of led.0)) (kept_of life.setup.voter.length led.0) lives all left led.3 (kept-part g f s ever found life led.0 led.2 part)
      (life-leaves ever found life led.0 led.4 (appends-one g f life.course life.brought found life.founded led.1.appends) led.2 part ground)

  pub lives-ground : (lives : List (Life S D P G C)) (all left : List (Artifact S D P G C)) → Lives g f s [] [] lives all left → Ground g f s [] → Ground g f s all
  lives-ground lives all left led ground = lives-on-ground [] [] lives all left led (λ x here. absurd (Contains-nil x here)) ground

module _ {S D P G C : Type 0} (g : Ghosts S D P G C) (f : Formats S D P G C) (scheme : S) (m : Members S D P G C) (world : World S D P G C) (leader : ℕ → Option ℕ)
    (schedule : (i : ℕ) → IsCorrect world i → (view : ℕ) → scheduled_leader (m.setup i).voter view ≡ leader view) (w : LiveByNodes g f scheme m world) (i : ℕ) (correct : IsCorrect world i) where
  mine : (m.setup i).me ≡ i
  mine = ap (λ (o : Owner). o.signer) (w.owner i correct)

  by-index : (m.setup i).voter.me ≡ Some (m.setup i).me
  by-index = w.me i correct ∙ ap (λ (n : ℕ). Some n) (sym mine)

  -- a record that stands on ground by the member's own setup does so by the world's
  pub by-world : Ground g f (m.setup i) (world.recorded i) → StandsOnGround world.size world.term_length leader i (entries (world.recorded i))
  by-world left =
      let by_size = subst (λ (n : ℕ). StandsOnGround n (m.setup i).voter.length (scheduled_leader (m.setup i).voter) (m.setup i).me (entries (world.recorded i))) (w.alike i correct).size_is left in
      let by_length = subst (λ (n : ℕ). StandsOnGround world.size n (scheduled_leader (m.setup i).voter) (m.setup i).me (entries (world.recorded i))) (ap (λ (o : Owner). o.term_length) (w.owner i correct)) by_size in
      let by_leader = subst (λ (l : ℕ → Option ℕ). StandsOnGround world.size world.term_length l (m.setup i).me (entries (world.recorded i))) (λ j view. schedule i correct view j) by_length in
      subst (λ (n : ℕ). StandsOnGround world.size world.term_length leader n (entries (world.recorded i))) mine by_leader

  -- it lived by its own index
  pub has-lived : HasLived g f m i (world.recorded i)
  has-lived = record {
    me = by-index;
    member = omega (arith, correct.0, mine, (w.alike i correct).size_is);
    left = (w.lived i correct).0;
    lives = (w.lived i correct).1;
  }
