-- The certificates that correct members recorded are honest.
use Rattle.std.proofs.Common.{◌≡◌, ◌⊎◌, inl, inr, ⊎_elim, ℕ, Bool, true, false, List, [], ◌∷◌, ◌++◌, Option, Some, None, refl, sym, ◌∙◌, ap, subst, arith}
use Rattle.std.specs.Prelude.{Contains, if◌then◌else◌, nat_lt, option_map, option_to_list, ⊤}
use Rattle.std.proofs.lemmas.Option.{none-some}
use Rattle.std.proofs.lemmas.List.Elements.{Contains-append_cases, Contains-append_left, Contains-append_right}
use Rattle.types_quorum.specs.Counting.{Contains-cases, Contains-head, Contains-nil, Contains-rest}
use Rattle.types_core.specs.declared.attestation.Attestation.{Attestation}
use Rattle.types_core.specs.declared.scheme.Scheme.{Ghosts}
use Rattle.types_core.specs.Subject.{Statement}
use Rattle.messages_certificates.specs.declared.artifact.Artifact.{Artifact}
use Rattle.messages_certificates.specs.declared.artifact.Artifact.TheVariants as artifact
use Rattle.messages_certificates.specs.declared.certificate.Certificate.{Certificate}
use Rattle.messages_certificates.specs.declared.certificate.Certificate.TheVariants as certificate
use Rattle.simplex_messages.specs.declared.vote.Vote.{Vote}
use Rattle.simplex_messages.specs.declared.vote.Vote.TheVariants as vote
use Rattle.messages_certificates.specs.Artifact.{certificate_artifact}
use Rattle.messages_certificates.specs.ProposalCertificate.{Finalization}
use Rattle.simplex_messages.specs.VoteParts.{vote_artifact}
use Rattle.messages_certificates.specs.Certificate.{certificate_statement, certified_by}
use Rattle.simplex_record.specs.Record.{Entry, entry, entries, last_finalized, HasVoted}
use Rattle.simplex_record.specs.World.{World, IsCorrect, IsHonest}
use Rattle.batcher_verifier.specs.Votes.{vote_attestation, vote_statement}
use Rattle.simplex_member.specs.declared.event.Event.{Event}
use Rattle.simplex_member.specs.Allowed.{Allowed, AreAllowed}
use Rattle.simplex_member.specs.Laws.{IsKnownVote, IsOfVote, RecordedAreHonest, RoundLaws}
use Rattle.simplex_member.specs.Lives.{Appends, Course, Life, Broken, Lasting, Turn, Refuses, Rewrites, Went, IsCut, IsHonestVote, LiveByNodes, CameIn, Lived, Lives, Members, Turns, WasHanded, events_of, turn_events}
use Rattle.simplex_member.specs.Member.{AppendsFloor, AreOpening, AreStep, Goes, IsPacketPoint}
use Rattle.simplex_member.specs.Packet.{Formats, Packet, of_vote, of_certificate, of_ask}
use Rattle.simplex_member.specs.Point.{Point, Found, Heard, Came, Wanted, Judged, Constructs, Votes, Rewrote, History}
use Rattle.simplex_member.specs.Recorded.{fresh_of, kept_of, record_of, recorded_by}
use Rattle.simplex_member.specs.Setup.{Setup}
use Rattle.simplex_member.proofs.Feeding.{Each, each-there, goes-each, opening-each, step-each, takes_in}
use Rattle.simplex_member.proofs.Keeping.{ended-part, fresh-recorded, kept-part, life-allowed, lives-keep}
use Rattle.simplex_member.proofs.Ballots.{made-lists}
use Rattle.simplex_member.proofs.Sameness.{mine-of}
use Rattle.simplex_member.proofs.Telling.{apart}
use Rattle.simplex_member.proofs.Listed.{vote-entry}
use Rattle.simplex_member.proofs.Lists.{Contains-map, put-before, put-cases, some-is}

module _ {S D P G C : Type 0} where
  -- the certificate that an artifact is
  abbrev as_certificate : Artifact S D P G C → Option (Certificate S D P G C)
  as_certificate (artifact.Notarization c) = Some (certificate.Notarization c)
  as_certificate (artifact.Nullification c) = Some (certificate.Nullification c)
  as_certificate (artifact.Finalization c) = Some (certificate.Finalization c)
  as_certificate x = None

  as-is : (c : Certificate S D P G C) → as_certificate (certificate_artifact c) ≡ Some c
  as-is (certificate.Notarization c) = refl
  as-is (certificate.Nullification c) = refl
  as-is (certificate.Finalization c) = refl

  vote-none : (v : Vote S D P G C) → as_certificate (vote_artifact v) ≡ None
  vote-none (vote.Notarize v) = refl
  vote-none (vote.Nullify v) = refl
  vote-none (vote.Finalize v) = refl

  record IsMade (o : Option (Certificate S D P G C)) (x : Artifact S D P G C) : Type 0 where
    pub made : Certificate S D P G C
    pub is : o ≡ Some made
    pub stands : certificate_artifact made ≡ x

  is-made : (o : Option (Certificate S D P G C)) (x : Artifact S D P G C) → option_map certificate_artifact o ≡ Some x → IsMade o x
  is-made None x here = absurd (none-some x here)
  is-made (Some c) x here = record { made = c; is = refl; stands = some-is (certificate_artifact c) x here }

module _ {S D P G C : Type 0} (g : Ghosts S D P G C) (f : Formats S D P G C) (scheme : S) (m : Members S D P G C) (world : World S D P G C) where
  abbrev Honest : Certificate S D P G C → Type 0
  Honest c = IsHonest (g.attests scheme) g.lists world c

  -- each certificate in a record is honest
  abbrev HonestAll : List (Artifact S D P G C) → Type 0
  HonestAll r = (x : Artifact S D P G C) (c : Certificate S D P G C) → Contains r x → as_certificate x ≡ Some c → Honest c

  -- what a point took in from outside is honest
  abbrev IsFed : Point S D P G C → Type 0
  IsFed (Found x taken) = (c : Certificate S D P G C) → as_certificate x ≡ Some c → Honest c
  IsFed (Heard v) = IsHonestVote g f scheme m world v
  IsFed (Came c) = Honest c
  IsFed p = ⊤

  abbrev AreFed : List (Point S D P G C) → Type 0
  AreFed points = Each IsFed points

  quiet-fed : (p : Point S D P G C) → takes_in p ≡ false → IsFed p
  quiet-fed (Found x taken) none = absurd (apart (sym none))
  quiet-fed (Heard v) none = absurd (apart (sym none))
  quiet-fed (Came c) none = absurd (apart (sym none))
  quiet-fed p none = tt

  -- of an honest vote's attestation
  by-vote : (v : Vote S D P G C) (x : Statement D) (a : Attestation G) → vote_attestation v ≡ a → vote_statement v ≡ x → IsHonestVote g f scheme m world v
      → IsCorrect world a.signer → g.attests scheme a.signer x a.signature → HasVoted (entries (world.recorded a.signer)) x
  by-vote v x a is states honest = subst
      (λ (b : Attestation G). IsCorrect world b.signer → g.attests scheme b.signer x b.signature → HasVoted (entries (world.recorded b.signer)) x) is
      (subst (λ (y : Statement D). IsCorrect world (vote_attestation v).signer → g.attests scheme (vote_attestation v).signer y (vote_attestation v).signature → HasVoted (entries (world.recorded (vote_attestation v).signer)) y) states
      (own v honest))
    where
      own : (w : Vote S D P G C) → IsHonestVote g f scheme m world w → IsCorrect world (vote_attestation w).signer → g.attests scheme (vote_attestation w).signer (vote_statement w) (vote_attestation w).signature
          → HasVoted (entries (world.recorded (vote_attestation w).signer)) (vote_statement w)
      own (vote.Notarize w) it = it
      own (vote.Nullify w) it = it
      own (vote.Finalize w) it = it

  module _ (laws : RoundLaws g f.same) (i : ℕ) (s : Setup S D C) (mine : s.me ≡ i) where
    abbrev IsPart : List (Artifact S D P G C) → List (Artifact S D P G C) → Type 0
    IsPart r all = (x : Artifact S D P G C) → Contains r x → Contains all x

    -- a known vote is honest: it was heard, or it is recorded
    known-honest : (h : History S D P G C) → AreFed h → IsPart (record_of h) (world.recorded i) → (v : Vote S D P G C) → IsKnownVote g f s h v → IsHonestVote g f scheme m world v
    known-honest h fed part v known = ⊎_elim
        (λ heard. each-there IsFed h fed (Heard v) heard)
        (λ own. λ correct attests.
        subst (λ (j : ℕ). HasVoted (entries (world.recorded j)) (vote_statement v)) (sym (own.0 ∙ mine))
        (subst (λ (e : Entry D). Contains (entries (world.recorded i)) e) (vote-entry v) (Contains-map entry (world.recorded i) (vote_artifact v) (part (vote_artifact v) own.1))))
        known

    -- a certificate that lists known votes is honest
    made-honest : (h : History S D P G C) → AreFed h → IsPart (record_of h) (world.recorded i) → (c : Certificate S D P G C)
        → ((a : Attestation G) → Contains (g.lists (certified_by c)) a → IsOfVote g f s h (certificate_statement c) a) → Honest c
    made-honest h fed part c each = λ a here correct attests.
        let v = each a here in
        by-vote v.vote (certificate_statement c) a v.attestation_is v.states (known-honest h fed part v.vote v.known) correct attests

    -- what a point records is honest
    here-honest : (p : Point S D P G C) (h : History S D P G C) → Allowed g f s h p → AreAllowed g f s h → IsFed p → AreFed h → IsPart (record_of h) (world.recorded i)
        → (x : Artifact S D P G C) (c : Certificate S D P G C) → recorded_by p ≡ Some x → as_certificate x ≡ Some c → Honest c
    here-honest (Found y taken) h a all it fed part x c here is = it c (ap as_certificate (some-is y x here) ∙ is)
    here-honest (Came d) h a all it fed part x c here is =
        subst (λ (e : Certificate S D P G C). Honest e) (some-is d c (sym (as-is d) ∙ (ap as_certificate (some-is (certificate_artifact d) x here) ∙ is))) it
    here-honest (Judged r ok) h a all it fed part x c here is = absurd (none-some c (ap as_certificate (some-is (artifact.Certification r ok) x here) ∙ is))
    here-honest (Constructs view kind batch) h a all it fed part x c here is =
        let made = is-made batch.certificate x here in
        subst (λ (e : Certificate S D P G C). Honest e) (some-is made.made c (sym (as-is made.made) ∙ (ap as_certificate made.stands ∙ is)))
        (made-honest h fed part made.made (λ b there. made-lists g f s laws h all view kind batch a made.made made.is b there))
    here-honest (Votes w) h a all it fed part x c here is = absurd (none-some c (sym (vote-none w) ∙ (ap as_certificate (some-is (vote_artifact w) x here) ∙ is)))
    here-honest p h a all it fed part x c here is = absurd (none-some x here)

    record-honest : (h : History S D P G C) → AreAllowed g f s h → AreFed h → IsPart (record_of h) (world.recorded i) → HonestAll (record_of h)
    record-honest [] all fed part x c here is = absurd (omega (arith, here.1))
    record-honest (p ∷ h) all fed part x c here is =
        let less : IsPart (record_of h) (world.recorded i) = λ y there. part y (put-before (record_of h) (recorded_by p) y there) in
        ⊎_elim
        (λ before. record-honest h all.1 fed.1 less x c before is)
        (λ now. here-honest p h all.0 all.1 fed.0 fed.1 less x c now is)
        (put-cases (record_of h) (recorded_by p) x here)

    -- ---- what a life takes in is honest

    module _ (w : LiveByNodes g f scheme m world) (correct : IsCorrect world i) where
      came-fed : (sender : ℕ) (x : Packet S D P G C) → CameIn g f scheme m world i sender x → (p : Point S D P G C) → IsPacketPoint sender (Some x) p → IsFed p
      came-fed sender (of_vote v) came (Heard u) is = subst (λ (x : Vote S D P G C). IsHonestVote g f scheme m world x) is.0 (w.honest i sender correct (of_vote v) came)
      came-fed sender (of_certificate c) came (Came d) is = subst (λ (x : Certificate S D P G C). Honest x) is (w.honest i sender correct (of_certificate c) came)
      came-fed sender (of_ask view) came (Wanted member asked) is = tt
      came-fed sender (of_vote v) came p is = absurd is
      came-fed sender (of_certificate c) came p is = absurd is
      came-fed sender (of_ask view) came p is = absurd is

      step-fed : (h : History S D P G C) (e : Event D) (points : List (Point S D P G C)) → WasHanded g f scheme m world i e → AreStep g f s h e points → AreFed points
      step-fed h e points handed step = step-each g f scheme m world i s IsFed quiet-fed came-fed h e points handed step

      opening-fed : (now : ℕ) (found : List (Artifact S D P G C)) (points : List (Point S D P G C)) → AreOpening g f s now found points → HonestAll found → AreFed points
      opening-fed now found points o honest = opening-each g f s IsFed quiet-fed now found points o (λ x taken there. λ c is. honest x c there is)

      goes-fed : (h : History S D P G C) (points : List (Point S D P G C)) (end : History S D P G C) → Goes g f s h points end → AreFed points → AreFed h → AreFed end
      goes-fed h points end goes fed before = goes-each IsFed g f s h points end goes fed before

      turns-fed : (h : History S D P G C) (turns : List (Turn S D P G C)) (end : History S D P G C) → Turns g f s h turns end
          → ((e : Event D) → Contains (turn_events turns) e → WasHanded g f scheme m world i e) → AreFed h → AreFed end
      turns-fed h [] end is handed fed = subst (λ (e : History S D P G C). AreFed e) (sym is) fed
      turns-fed h (Refuses e r ∷ turns) end t handed fed = turns-fed h turns end t.1 (λ x there. handed x (Contains-rest e (turn_events turns) x there)) fed
      turns-fed h (Went e points ∷ turns) end t handed fed = turns-fed t.0 turns end t.3 (λ x there. handed x (Contains-rest e (turn_events turns) x there))
          (goes-fed h points t.0 t.2.goes (step-fed h e points (handed e (Contains-head e (turn_events turns))) t.1) fed)
      turns-fed h (Rewrites c ∷ turns) end t handed fed = turns-fed (Rewrote c ∷ h) turns end t.1 handed (tt, fed)

      cut-fed : (h : History S D P G C) (cut : Option (Event D × List (Point S D P G C))) (end : History S D P G C) → IsCut g f s h cut end
          → ((e : Event D) → Contains (option_to_list (option_map (λ (c : Event D × List (Point S D P G C)). c.0) cut)) e → WasHanded g f scheme m world i e) → AreFed h → AreFed end
      cut-fed h None end is handed fed = subst (λ (e : History S D P G C). AreFed e) (sym is) fed
      cut-fed h (Some c) end is handed fed = goes-fed h c.1 end is.1 (step-fed h c.0 c.1 (handed c.0 (Contains-head c.0 [])) is.0) fed

      life-fed : (found : List (Artifact S D P G C)) (life : Course S D P G C) (end : History S D P G C) → Lived g f s found life end → HonestAll found
          → ((e : Event D) → Contains (events_of life) e → WasHanded g f scheme m world i e) → AreFed end
      life-fed found (Broken now points) end lived honest handed = goes-fed [] points end lived.1 (opening-fed now found points lived.0 honest) tt
      life-fed found (Lasting now points turns cut) end lived honest handed =
          let cuts : List (Event D) = option_to_list (option_map (λ (c : Event D × List (Point S D P G C)). c.0) cut) in
          cut-fed lived.1 cut end lived.5 (λ e there. handed e (Contains-append_right (turn_events turns) cuts e there))
          (turns-fed lived.0 turns lived.1 lived.4 (λ e there. handed e (Contains-append_left (turn_events turns) cuts e there))
          (goes-fed [] points lived.0 lived.3.goes (opening-fed now found points lived.2 honest) tt))

  -- a floor that is appended is the one that was brought
  appended-honest : (brought : Option (Finalization S D P G C)) (found founded : List (Artifact S D P G C)) → AppendsFloor brought found founded
      → ((c : Finalization S D P G C) → brought ≡ Some c → Honest (certificate.Finalization c)) → HonestAll founded
  appended-honest None found founded appends floors x d here is = absurd (Contains-nil x (subst (λ (l : List (Artifact S D P G C)). Contains l x) appends here))
  appended-honest (Some c) found founded appends floors x d here is = go (nat_lt (last_finalized (entries found)) c.proposal.round.view) (subst (λ (l : List (Artifact S D P G C)). Contains l x) appends here)
    where
      go : (b : Bool) → Contains (if b then artifact.Finalization c ∷ [] else []) x → Honest d
      go true there = ⊎_elim
          (λ same. subst (λ (e : Certificate S D P G C). Honest e) (some-is (certificate.Finalization c) d (ap as_certificate same ∙ is)) (floors c refl))
          (λ later. absurd (Contains-nil x later))
          (Contains-cases (artifact.Finalization c) [] x there)
      go false none = absurd (Contains-nil x none)

  module _ (laws : RoundLaws g f.same) (i : ℕ) (w : LiveByNodes g f scheme m world) (correct : IsCorrect world i) where
    -- the floor that an opening recorded was brought
    founded-honest : (course : Course S D P G C) (brought : Option (Finalization S D P G C)) (found founded : List (Artifact S D P G C)) → Appends g f course brought found founded
        → ((c : Finalization S D P G C) → brought ≡ Some c → Honest (certificate.Finalization c)) → HonestAll founded
    founded-honest (Broken now points) brought found founded (inl none) floors x d here is = absurd (Contains-nil x (subst (λ (l : List (Artifact S D P G C)). Contains l x) none here))
    founded-honest (Broken now points) brought found founded (inr appends) floors x d here is = appended-honest brought found founded appends floors x d here is
    founded-honest (Lasting now points turns cut) brought found founded appends floors x d here is = appended-honest brought found founded appends floors x d here is

    -- lives, one after the other, record honest certificates
    lives-honest : (ever found : List (Artifact S D P G C)) (lives : List (Life S D P G C)) (all left : List (Artifact S D P G C)) → Lives g f (m.setup i) ever found lives all left → HonestAll ever
        → ((x : Artifact S D P G C) → Contains found x → Contains ever x) → ((life : Life S D P G C) → Contains lives life → Contains (m.lives i) life)
        → ((x : Artifact S D P G C) → Contains all x → Contains (world.recorded i) x) → HonestAll all
    lives-honest ever found [] all left is honest part among whole = subst (λ (r : List (Artifact S D P G C)). HonestAll r) (sym is.0) honest
    lives-honest ever found (life ∷ lives) all left led honest part among whole =
        let s = life.setup in
        let end = led.0 in
        let ever_then = ever ++ (life.founded ++ fresh_of end) in
        let kept_then = kept_of s.voter.length end in
        let mine = mine-of g f scheme m world w i correct s led.4 in
        let floor = founded-honest life.course life.brought found life.founded led.1.appends
        (λ c is. w.floors i correct (certificate.Finalization c) (life, among life (Contains-head life lives), ap (λ (o : Option (Finalization S D P G C)). option_map certificate.Finalization o) is)) in
        let both : HonestAll (found ++ life.founded) = λ x d there is. ⊎_elim (λ old. honest x d (part x old) is) (λ new. floor x d new is) (Contains-append_cases found life.founded x there) in
        let fed = life-fed laws i s mine w correct (found ++ life.founded) life.course end led.2 both (λ e there. (life, among life (Contains-head life lives), there)) in
        let allowed = life-allowed g f s (found ++ life.founded) life.course end led.2 in
        let ended = record-honest laws i s mine end allowed fed
        (λ x there. whole x (lives-keep g f (m.setup i) ever_then kept_then lives all left led.3 x (ended-part g f (m.setup i) ever found life end led.2 part x there))) in
        lives-honest ever_then kept_then lives all left led.3
        (λ x d there is. ⊎_elim
        (λ old. honest x d old is)
        (λ new. ⊎_elim (λ at. floor x d at is) (λ fresh. ended x d (fresh-recorded s end x fresh) is) (Contains-append_cases life.founded (fresh_of end) x new))
        (Contains-append_cases ever (life.founded ++ fresh_of end) x there))
        (kept-part g f (m.setup i) ever found life end led.2 part) (λ l there. among l (Contains-rest life lives l there)) whole

  pub recorded-honest : RoundLaws g f.same → LiveByNodes g f scheme m world → RecordedAreHonest g f scheme m world
  recorded-honest laws w i correct c here =
      lives-honest laws i w correct [] [] (m.lives i) (world.recorded i) (w.lived i correct).0 (w.lived i correct).1
      (λ x d there is. absurd (omega (arith, there.1))) (λ x there. there) (λ life there. there) (λ x there. there) (certificate_artifact c) c here (as-is c)
