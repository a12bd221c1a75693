-- The committee of one is a network, and both its views are final.
use Rattle.std.proofs.Common.{◌≡◌, inl, inr, ⊎_elim, ℕ, ◌<◌, true, false, List, [], ◌∷◌, ◌++◌, Some, None, refl, sym, ◌∙◌, ap, subst, arith}
use Rattle.std.specs.Prelude.{◌+◌, Contains, map, option_map, ⊤}
use Rattle.std.proofs.lemmas.Bool.{cases_lt}
use Rattle.std.proofs.lemmas.List.Elements.{All-contains, Contains-append_left, Contains-append_right}
use Rattle.types_quorum.specs.Counting.{Contains-cases, Contains-nil}
use Rattle.types_core.specs.declared.scheme.Scheme.{Ghosts}
use Rattle.types_terms.specs.declared.kind.Kind.TheVariants as kind
use Rattle.messages_certificates.specs.declared.artifact.Artifact.TheVariants as artifact
use Rattle.messages_certificates.specs.declared.certificate.Certificate.TheVariants as certificate
use Rattle.simplex_messages.specs.declared.vote.Vote.TheVariants as vote
use Rattle.simplex_record.specs.World.{World, IsCorrect}
use Rattle.simplex_member.specs.declared.event.Channel.{Channel}
use Rattle.simplex_member.specs.declared.event.Event.{Event}
use Rattle.simplex_member.specs.declared.event.Event.TheVariants as event
use Rattle.simplex_member.specs.Deeds.{Blocks, Deed, Finalizes, all_deeds, certificate_deeds, deeds_of}
use Rattle.simplex_member.specs.Lives.{Carries, HandedOut, Rewrites, Turn, Went, handed_out, Holds, Life, Lived, Lives, Members, WasHanded, events_of, turn_deeds}
use Rattle.simplex_member.specs.Packet.{Formats, Packet}
use Rattle.simplex_member.specs.Point.{AreActs, History, Point, Opened, Found, Began, Built, Judged, Leads, AsksBuild, AsksCertify, Constructs, Votes, Rewrote, is_act}
use Rattle.simplex_member.specs.Setup.{IsOfOneMember, owner_of}
use Rattle.simplex_network.specs.Network.{IsSeen, WasMade}
use Rattle.network_example.specs.Finalized.{CanBeKept, IsFinalizing, IsLone, Lone, agreeing, alone, context_behind, finalization_behind, finalize_behind, finalizing, left_of_two, lone_life, lone_member, made, next_life, notarization_behind, notarize_behind, over_the_left, proposal_behind, recorded_behind, round_of, two_views, world_of_one}
use Rattle.network_example.proofs.Finalized.{awaited-first, awaited-second, ended, goes-agreed-first, goes-agreed-second, goes-finalized-first, goes-finalized-second, goes-open, goes-over, h1, h2, h3, h4, h5, h6, none-fifth, none-first, none-fourth, none-second, none-some, none-third, opened_over, rewritten-so, unjudged-first, unjudged-second}
use Rattle.network_example.proofs.Rules.{Each, each}

some-is : {X : Type 0} (x y : X) → Some x ≡ Some y → x ≡ y
some-is x y e = cc e

-- nothing that came is a packet
abbrev NoPacket : {D : Type 0} → Event D → Type 0
NoPacket (event.Packet sender by bytes) = ⊥
NoPacket e = ⊤

module _ {S D P G C : Type 0} (g : Ghosts S D P G C) (f : Formats S D P G C) (x : Lone S D G C) (scheme : S) (lone : IsLone g x scheme) (can : CanBeKept g x f) where
  abbrev m : Members S D P G C
  m = lone_member g x

  abbrev w : World S D P G C
  w = world_of_one g x

  abbrev first : History S D P G C
  first = h1 g f x scheme lone can

  abbrev second : History S D P G C
  second = h2 g f x scheme lone can

  abbrev third : History S D P G C
  third = h3 g f x scheme lone can

  abbrev fourth : History S D P G C
  fourth = h4 g f x scheme lone can

  abbrev fifth : History S D P G C
  fifth = h5 g f x scheme lone can

  abbrev sixth : History S D P G C
  sixth = h6 g f x scheme lone can

  abbrev over : History S D P G C
  over = opened_over g f x scheme lone can

  -- ---- its lives

  acts : (points : List (Point S D P G C)) → Each (λ (p : Point S D P G C). is_act p ≡ true) points → AreActs points
  acts points all = each (λ (p : Point S D P G C). is_act p ≡ true) points all

  lived : Lived g f (alone x.own (x.payload 0)) [] (two_views g x) sixth
  lived = (
    first,
    sixth,
    record {
      read = [];
      acts = Leads 1 0 ∷ AsksBuild 0 false (context_behind g x 0) ∷ [];
      split = refl;
      are = tt;
      own = acts (Leads 1 0 ∷ AsksBuild 0 false (context_behind g x 0) ∷ []) (refl, (refl, tt));
    },
    record { goes = goes-open g f x scheme lone can; none_due = none-first g f x scheme lone can },
    (
      second,
      record {
        passes = inr (λ none. none-some (false, context_behind g x 0) (sym none), refl);
        first = Built 0 false (context_behind g x 0) (Some (x.payload 1)) true;
        acts = Votes (vote.Notarize (notarize_behind g x 0)) ∷ Constructs 1 kind.Notarization (made g x (certificate.Notarization (notarization_behind g x 0))) ∷ AsksCertify (proposal_behind g x 0) ∷ [];
        split = refl;
        of_it = (refl, refl);
        own = acts (Votes (vote.Notarize (notarize_behind g x 0)) ∷ Constructs 1 kind.Notarization (made g x (certificate.Notarization (notarization_behind g x 0))) ∷ AsksCertify (proposal_behind g x 0) ∷ []) (refl, (refl, (refl, tt)));
      },
      record { goes = goes-agreed-first g f x scheme lone can; none_due = none-second g f x scheme lone can },
      (
        third,
        record {
          passes = inr (λ nothing. nothing.1 (awaited-first g f x scheme lone can), inr (λ judged. unjudged-first g f x scheme lone can judged, refl));
          first = Judged (round_of 1) true;
          acts = Votes (vote.Finalize (finalize_behind g x 0)) ∷ Constructs 1 kind.Finalization (made g x (certificate.Finalization (finalization_behind g x 0))) ∷ Leads 2 0 ∷ AsksBuild 1 false (context_behind g x 1) ∷ [];
          split = refl;
          of_it = (refl, refl);
          own = acts (Votes (vote.Finalize (finalize_behind g x 0)) ∷ Constructs 1 kind.Finalization (made g x (certificate.Finalization (finalization_behind g x 0))) ∷ Leads 2 0 ∷ AsksBuild 1 false (context_behind g x 1) ∷ []) (refl, (refl, (refl, (refl, tt))));
        },
        record { goes = goes-finalized-first g f x scheme lone can; none_due = none-third g f x scheme lone can },
        (
          fourth,
          record {
            passes = inr (λ none. none-some (false, context_behind g x 1) (sym none), refl);
            first = Built 1 false (context_behind g x 1) (Some (x.payload 2)) true;
            acts = Votes (vote.Notarize (notarize_behind g x 1)) ∷ Constructs 2 kind.Notarization (made g x (certificate.Notarization (notarization_behind g x 1))) ∷ AsksCertify (proposal_behind g x 1) ∷ [];
            split = refl;
            of_it = (refl, refl);
            own = acts (Votes (vote.Notarize (notarize_behind g x 1)) ∷ Constructs 2 kind.Notarization (made g x (certificate.Notarization (notarization_behind g x 1))) ∷ AsksCertify (proposal_behind g x 1) ∷ []) (refl, (refl, (refl, tt)));
          },
          record { goes = goes-agreed-second g f x scheme lone can; none_due = none-fourth g f x scheme lone can },
          (
            fifth,
            record {
              passes = inr (λ nothing. nothing.1 (awaited-second g f x scheme lone can), inr (λ judged. unjudged-second g f x scheme lone can judged, refl));
              first = Judged (round_of 2) true;
              acts = Votes (vote.Finalize (finalize_behind g x 1)) ∷ Constructs 2 kind.Finalization (made g x (certificate.Finalization (finalization_behind g x 1))) ∷ Leads 3 0 ∷ AsksBuild 2 false (context_behind g x 2) ∷ [];
              split = refl;
              of_it = (refl, refl);
              own = acts (Votes (vote.Finalize (finalize_behind g x 1)) ∷ Constructs 2 kind.Finalization (made g x (certificate.Finalization (finalization_behind g x 1))) ∷ Leads 3 0 ∷ AsksBuild 2 false (context_behind g x 2) ∷ []) (refl, (refl, (refl, (refl, tt))));
            },
            record { goes = goes-finalized-second g f x scheme lone can; none_due = none-fifth g f x scheme lone can },
            (rewritten-so g f x scheme lone can, refl),
          ),
        ),
      ),
    ),
    refl,
  )

  same : IsOfOneMember {C = C} (alone x.own (x.payload 0)) (alone x.own (x.payload 0))
  same = record { scheme = refl; me = refl; voter_me = refl; epoch = refl; length = refl; genesis = λ payload more first second. some-is more payload (sym second ∙ first); mode = refl; elect = λ view c. refl }

  lived-over : Lived g f (alone x.own (x.payload 0)) (left_of_two g x) (over_the_left g x) over
  lived-over = (
    record {
      read = Found (artifact.Finalization (finalization_behind g x 1)) false ∷ [];
      acts = [];
      split = refl;
      are = (refl, tt);
      own = acts [] tt;
    },
    goes-over g f x scheme lone can,
  )

  lives : Lives g f (alone x.own (x.payload 0)) [] [] (lone_life g x ∷ next_life g x ∷ []) (recorded_behind g x 0 (recorded_behind g x 1 [])) (left_of_two g x)
  lives = (
    sixth,
    record { appends = refl; readable = λ y here. absurd (Contains-nil y here) },
    lived,
    (over, record { appends = inl refl; readable = λ y here. absurd (Contains-nil y here) }, lived-over, (refl, refl), same),
    same,
  )

  -- ---- what came

  is-one : (i : ℕ) → IsCorrect w i → i ≡ 0
  is-one i correct = let low : i < 1 = correct.0 in omega (arith, low)

  correct : IsCorrect w 0
  correct = (omega arith, λ here. Contains-nil 0 here)

  no-packets : (i : ℕ) (e : Event D) → WasHanded g f scheme m w i e → NoPacket e
  no-packets i e handed = ⊎_elim
      (λ is. All-contains NoPacket (events_of (two_views g x)) e (each NoPacket (events_of (two_views g x)) (tt, (tt, (tt, (tt, tt))))) (subst (λ (life : Life S D P G C). Contains (events_of life.course) e) (sym is) handed.2))
      (λ later. ⊎_elim
      (λ is. absurd (Contains-nil e (subst (λ (life : Life S D P G C). Contains (events_of life.course) e) (sym is) handed.2)))
      (λ none. absurd (Contains-nil handed.0 none))
      (Contains-cases (next_life g x) [] handed.0 later))
      (Contains-cases (lone_life g x) (next_life g x ∷ []) handed.0 handed.1)

  holds-nothing : (e : Event D) (sender : ℕ) (y : Packet S D P G C) → NoPacket e → Holds g f scheme m w e sender y → ⊥
  holds-nothing (event.Packet from by bytes) sender y none holds = none
  holds-nothing e sender y none holds = holds

  carries-nothing : (e : Event D) (sender : ℕ) (by : Channel) (bytes : List ℕ) → NoPacket e → Carries g f scheme m w e sender by bytes → ⊥
  carries-nothing (event.Packet from by_channel given) sender by bytes none carries = none
  carries-nothing e sender by bytes none carries = carries

  -- ---- what it handed out

  -- the third of these points hands this out
  of-third : (h : History S D P G C) (p q r : Point S D P G C) (rest : List (Point S D P G C)) (d : Deed S D P G C) → Contains (deeds_of g f (alone x.own (x.payload 0)) (q ∷ p ∷ h) r) d
      → Contains (all_deeds g f (alone x.own (x.payload 0)) h (p ∷ q ∷ r ∷ rest)) d
  of-third h p q r rest d here =
      let s = alone x.own (x.payload 0) in
      Contains-append_right (deeds_of g f s h p) (all_deeds g f s (p ∷ h) (q ∷ r ∷ rest)) d
      (Contains-append_right (deeds_of g f s (p ∷ h) q) (all_deeds g f s (q ∷ p ∷ h) (r ∷ rest)) d
      (Contains-append_left (deeds_of g f s (q ∷ p ∷ h) r) (all_deeds g f s (r ∷ q ∷ p ∷ h) rest) d here))

  abbrev ending : ℕ → Point S D P G C
  ending n = Constructs (n + 1) kind.Finalization (made g x (certificate.Finalization (finalization_behind g x n)))

  of-construction : (h : History S D P G C) (n : ℕ) (d : Deed S D P G C) → Contains (certificate_deeds g f (alone x.own (x.payload 0)) h (ending n) (certificate.Finalization (finalization_behind g x n))) d
      → Contains (deeds_of g f (alone x.own (x.payload 0)) h (ending n)) d
  of-construction h n d here = Contains-append_right (map Blocks x.nobody.items) (certificate_deeds g f (alone x.own (x.payload 0)) h (ending n) (certificate.Finalization (finalization_behind g x n))) d here

  final-first : Contains (all_deeds g f (alone x.own (x.payload 0)) second (finalizing g x 0)) (Finalizes (proposal_behind g x 0))
  final-first = of-third second (Judged (round_of 1) true) (Votes (vote.Finalize (finalize_behind g x 0))) (ending 0) (Leads 2 0 ∷ AsksBuild 1 false (context_behind g x 1) ∷ []) (Finalizes (proposal_behind g x 0))
      (of-construction (ended g f x scheme lone can 0 second) 0 (Finalizes (proposal_behind g x 0)) (2, omega arith, refl))

  final-second : Contains (all_deeds g f (alone x.own (x.payload 0)) fourth (finalizing g x 1)) (Finalizes (proposal_behind g x 1))
  final-second = of-third fourth (Judged (round_of 2) true) (Votes (vote.Finalize (finalize_behind g x 1))) (ending 1) (Leads 3 0 ∷ AsksBuild 2 false (context_behind g x 2) ∷ []) (Finalizes (proposal_behind g x 1))
      (of-construction (ended g f x scheme lone can 1 fourth) 1 (Finalizes (proposal_behind g x 1)) (2, omega arith, refl))

  abbrev opening : List (Point S D P G C)
  opening = Opened 0 ∷ Began ∷ Leads 1 0 ∷ AsksBuild 0 false (context_behind g x 0) ∷ []

  abbrev last_turns : List (Turn S D P G C)
  last_turns = Went (event.Built 1 (Some (x.payload 2))) (agreeing g x 1) ∷ Went (event.Verdict 2 true) (finalizing g x 1) ∷ Rewrites (finalization_behind g x 1) ∷ []

  is-final : (view : ℕ) → view < 2 → HandedOut g f scheme m w 0 (Finalizes (proposal_behind g x view))
  is-final view low = ⊎_elim
      (λ zero. let e : 0 ≡ view = omega (arith, zero) in subst (λ (n : ℕ). HandedOut g f scheme m w 0 (Finalizes (proposal_behind g x n))) e (lone_life g x, (0, omega arith, refl), in-first))
      (λ one. let e : 1 ≡ view = omega (arith, one, low) in subst (λ (n : ℕ). HandedOut g f scheme m w 0 (Finalizes (proposal_behind g x n))) e (lone_life g x, (0, omega arith, refl), in-second))
      (cases_lt view 1)
    where
      in-first : Contains (handed_out g f (alone x.own (x.payload 0)) (two_views g x)) (Finalizes (proposal_behind g x 0))
      in-first = Contains-append_right (all_deeds g f (alone x.own (x.payload 0)) [] opening) (turn_deeds g f (alone x.own (x.payload 0)) first (Went (event.Built 0 (Some (x.payload 1))) (agreeing g x 0) ∷ Went (event.Verdict 1 true) (finalizing g x 0) ∷ last_turns)) (Finalizes (proposal_behind g x 0))
          (Contains-append_right (all_deeds g f (alone x.own (x.payload 0)) first (agreeing g x 0)) (turn_deeds g f (alone x.own (x.payload 0)) second (Went (event.Verdict 1 true) (finalizing g x 0) ∷ last_turns)) (Finalizes (proposal_behind g x 0))
          (Contains-append_left (all_deeds g f (alone x.own (x.payload 0)) second (finalizing g x 0)) (turn_deeds g f (alone x.own (x.payload 0)) third last_turns) (Finalizes (proposal_behind g x 0)) final-first))

      in-second : Contains (handed_out g f (alone x.own (x.payload 0)) (two_views g x)) (Finalizes (proposal_behind g x 1))
      in-second = Contains-append_right (all_deeds g f (alone x.own (x.payload 0)) [] opening) (turn_deeds g f (alone x.own (x.payload 0)) first (Went (event.Built 0 (Some (x.payload 1))) (agreeing g x 0) ∷ Went (event.Verdict 1 true) (finalizing g x 0) ∷ last_turns)) (Finalizes (proposal_behind g x 1))
          (Contains-append_right (all_deeds g f (alone x.own (x.payload 0)) first (agreeing g x 0)) (turn_deeds g f (alone x.own (x.payload 0)) second (Went (event.Verdict 1 true) (finalizing g x 0) ∷ last_turns)) (Finalizes (proposal_behind g x 1))
          (Contains-append_right (all_deeds g f (alone x.own (x.payload 0)) second (finalizing g x 0)) (turn_deeds g f (alone x.own (x.payload 0)) third last_turns) (Finalizes (proposal_behind g x 1))
          (Contains-append_right (all_deeds g f (alone x.own (x.payload 0)) third (agreeing g x 1)) (turn_deeds g f (alone x.own (x.payload 0)) fourth (Went (event.Verdict 2 true) (finalizing g x 1) ∷ Rewrites (finalization_behind g x 1) ∷ [])) (Finalizes (proposal_behind g x 1))
          (Contains-append_left (all_deeds g f (alone x.own (x.payload 0)) fourth (finalizing g x 1)) [] (Finalizes (proposal_behind g x 1)) final-second))))

  -- its finalizations were made by it
  made-first : WasMade g f scheme m w (certificate.Finalization (finalization_behind g x 0))
  made-first = record {
    member = 0;
    correct = correct;
    life = lone_life g x;
    h = ended g f x scheme lone can 0 second;
    reached = record {
      among = (0, omega arith, refl);
      before = opening ++ agreeing g x 0 ++ Judged (round_of 1) true ∷ Votes (vote.Finalize (finalize_behind g x 0)) ∷ [];
      behind = ending 0 ∷ Leads 2 0 ∷ AsksBuild 1 false (context_behind g x 1) ∷ agreeing g x 1 ++ finalizing g x 1 ++ Rewrote (finalization_behind g x 1) ∷ [];
      split = refl;
      is = refl;
    };
    view = 1;
    kind = kind.Finalization;
    batch = made g x (certificate.Finalization (finalization_behind g x 0));
    allowed = (goes-finalized-first g f x scheme lone can).1.1.0;
    made = refl;
  }

  made-second : WasMade g f scheme m w (certificate.Finalization (finalization_behind g x 1))
  made-second = record {
    member = 0;
    correct = correct;
    life = lone_life g x;
    h = ended g f x scheme lone can 1 fourth;
    reached = record {
      among = (0, omega arith, refl);
      before = opening ++ agreeing g x 0 ++ finalizing g x 0 ++ agreeing g x 1 ++ Judged (round_of 2) true ∷ Votes (vote.Finalize (finalize_behind g x 1)) ∷ [];
      behind = ending 1 ∷ Leads 3 0 ∷ AsksBuild 2 false (context_behind g x 2) ∷ Rewrote (finalization_behind g x 1) ∷ [];
      split = refl;
      is = refl;
    };
    view = 2;
    kind = kind.Finalization;
    batch = made g x (certificate.Finalization (finalization_behind g x 1));
    allowed = (goes-finalized-second g f x scheme lone can).1.1.0;
    made = refl;
  }

  is-seen : (view : ℕ) → view < 2 → IsSeen g f scheme m w (certificate.Finalization (finalization_behind g x view))
  is-seen view low = ⊎_elim
      (λ zero. let e : 0 ≡ view = omega (arith, zero) in subst (λ (n : ℕ). IsSeen g f scheme m w (certificate.Finalization (finalization_behind g x n))) e (inr (inl made-first)))
      (λ one. let e : 1 ≡ view = omega (arith, one, low) in subst (λ (n : ℕ). IsSeen g f scheme m w (certificate.Finalization (finalization_behind g x n))) e (inr (inl made-second)))
      (cases_lt view 1)

  pub is-finalizing : IsFinalizing g x f scheme
  is-finalizing = record {
    rewritten = lives;
    live = record {
      alike = λ i member. lone.alike;
      owner = λ i member. subst (λ (k : ℕ). owner_of (m.setup i) ≡ record { epoch = w.epoch; term_length = w.term_length; signer = k }) (sym (is-one i member)) refl;
      me = λ i member. ap (λ (k : ℕ). Some k) (sym (is-one i member));
      lived = λ i member. (left_of_two g x, lives);
      honest = λ i sender member y came. absurd (holds-nothing came.0 sender y (no-packets i came.0 came.1) came.2);
      floors = λ i member c brought. absurd (⊎_elim
          (λ is. none-some c (ap (λ (l : Life S D P G C). option_map certificate.Finalization l.brought) is ∙ brought.2))
          (λ later. ⊎_elim
          (λ is. none-some c (ap (λ (l : Life S D P G C). option_map certificate.Finalization l.brought) is ∙ brought.2))
          (λ none. Contains-nil brought.0 none)
          (Contains-cases (next_life g x) [] brought.0 later))
          (Contains-cases (lone_life g x) (next_life g x ∷ []) brought.0 brought.1));
    };
    few = record { some = omega arith; few = omega arith };
    elector = record { leader = λ view. None; one = λ i member view. refl };
    faithful = record { handed = λ i j e by bytes ci cj handed carries. absurd (carries-nothing e j by bytes (no-packets i e handed) carries) };
    attest_alike = λ i j ci cj signer t a attests. attests;
    final = is-final;
    seen = is-seen;
    chain = (refl, refl);
  }
