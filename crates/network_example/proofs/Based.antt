-- The member that begins at a floor: its life, and what it handed out.
use Rattle.std.proofs.Common.{◌≡◌, inl, inr, ⊎_elim, ℕ, ◌<◌, ◌≤◌, ◌==◌, Bool, true, false, [], ◌∷◌, Option, Some, refl, sym, ◌∙◌, ap, subst, arith}
use Rattle.std.specs.Prelude.{Contains, if◌then◌else◌, nat_lt, option_map}
use Rattle.std.proofs.lemmas.Bool.{both_ways}
use Rattle.std.proofs.lemmas.List.Elements.{All-cons, All-nil}
use Rattle.types_quorum.specs.Counting.{Contains-cases, Contains-nil}
use Rattle.types_core.specs.declared.scheme.Scheme.{Ghosts}
use Rattle.types_core.specs.Subject.{nullify, finalize}
use Rattle.messages_certificates.specs.declared.artifact.Artifact.{Artifact}
use Rattle.messages_certificates.specs.declared.artifact.Artifact.TheVariants as artifact
use Rattle.messages_certificates.specs.declared.certificate.Certificate.{Certificate}
use Rattle.messages_certificates.specs.declared.certificate.Certificate.TheVariants as certificate
use Rattle.simplex_messages.specs.declared.activity.Activity.TheVariants as activity
use Rattle.simplex_record.specs.World.{World, IsCorrect, IsHonest}
use Rattle.batcher_verifier.specs.History as votes
use Rattle.batcher_verifier.specs.History.{Certified, Led, leader_of}
use Rattle.simplex_resolver.specs.Outstanding.{IsOutstanding}
use Rattle.simplex_member.specs.declared.event.Event.{Event}
use Rattle.simplex_member.specs.Deeds.{Deed, Finalizes, Reports, Sends}
use Rattle.simplex_member.specs.Layers.{floor_of, repair_of, votes_of}
use Rattle.simplex_member.specs.Lives.{HandedOut, Life, Lived, Lives, Members, WasBrought, WasHanded, events_of, handed_out}
use Rattle.simplex_member.specs.Member.{Goes, NoneDue}
use Rattle.simplex_member.specs.Packet.{Formats, IsRecordable, Packet}
use Rattle.simplex_member.specs.Point.{AreActs, Point, Opened, Found, Began, Leads, History, is_act}
use Rattle.simplex_member.specs.Setup.{IsOfOneMember, Setup}
use Rattle.network_example.specs.Based.{IsBased, based_course, based_life, based_member, one_based, only_floor}
use Rattle.network_example.specs.Contradicted.{AreForged, Forged, agreed_on, finalization, second, timed}
use Rattle.network_example.proofs.Contradicted.{FirstOrThird, above-third, apart, first-alone, in-time, may-finalize, moment_of, not-excused, nothing-due, one-three, one-two, some-is, some-points, two-three}

first-of-one : 0 < 1
first-of-one = omega arith

first-of-two : 0 < 2
first-of-two = omega arith

last-of-two : 1 < 2
last-of-two = omega arith

-- the votes of a view: none, or its leader; or the certificate
votes-based : {S D P G C : Type 0} (c : Certificate S D P G C) (Q : votes.History S D P G C → Type 0) → Q [] → Q (Led 3 ∷ []) → Q (Certified c ∷ []) → (behind three one two : Bool) → (three ≡ true → two ≡ true → ⊥) → (three ≡ true → one ≡ true → ⊥) → (two ≡ true → one ≡ true → ⊥)
    → Q (if behind then [] else (if three then Led 3 ∷ (if one then Led 3 ∷ (if two then Certified c ∷ [] else []) else (if two then Certified c ∷ [] else [])) else (if one then Led 3 ∷ (if two then Certified c ∷ [] else []) else (if two then Certified c ∷ [] else []))))
votes-based c Q none led taken true three one two a b e = none
votes-based c Q none led taken false true true two a b e = absurd (b refl refl)
votes-based c Q none led taken false true false true a b e = absurd (a refl refl)
votes-based c Q none led taken false true false false a b e = led
votes-based c Q none led taken false false true true a b e = absurd (e refl refl)
votes-based c Q none led taken false false true false a b e = led
votes-based c Q none led taken false false false true a b e = taken
votes-based c Q none led taken false false false false a b e = none

module _ {S D P G C : Type 0} (g : Ghosts S D P G C) (f : Formats S D P G C) (x : Forged S D C) (size : g.size x.own ≡ 4)
    (finalized : g.certifies x.own (finalize (agreed_on x)) x.agreed) (nullified : g.certifies x.own (nullify second) x.given_up) where
  abbrev s : Setup S D C
  s = timed x.own x.genesis 0 1500

  abbrev z : Certificate S D P G C
  z = certificate.Finalization (finalization x)

  abbrev floor_found : Point S D P G C
  floor_found = Found (artifact.Finalization (finalization x)) false

  abbrev begun_above : History S D P G C
  begun_above = Leads 3 3 ∷ Leads 1 3 ∷ Began ∷ floor_found ∷ Opened 0 ∷ []

  settles : (view : ℕ) → IsOutstanding 1 (repair_of f begun_above) view → ⊥
  settles view out = ⊎_elim
      (λ below. let l : view < 2 = below.0 in let low : 2 < view = out.above in omega (arith, l, low))
      (λ failed. both_ways false refl failed)
      out.due

  none-based : NoneDue g f s begun_above
  none-based = nothing-due g f x size finalized nullified FirstOrThird begun_above tt above-third (inr refl, (inl refl, tt))
      (λ view one. ⊎_elim
      (λ e. subst (λ (w : ℕ). leader_of (votes_of s begun_above w) ≡ Some 3) e refl)
      (λ e. subst (λ (w : ℕ). leader_of (votes_of s begun_above w) ≡ Some 3) e refl)
      one)
      (λ Q none led one two view. votes-based z Q none led one (nat_lt view (floor_of s begun_above)) (3 == view) (1 == view) (2 == view) (apart 2 3 view two-three) (apart 1 3 view one-three) (apart 1 2 view one-two))
      (λ due. let e : 1500 ≡ due.moment = ap moment_of due.next in let r : due.moment ≤ 0 = due.reached in omega (arith, e, r))
      (λ e. absurd (both_ways false refl e)) (λ number. refl) settles

  goes-based : Goes g f s [] (Opened 0 ∷ floor_found ∷ Began ∷ Leads 1 3 ∷ Leads 3 3 ∷ []) begun_above
  goes-based = (
    record { order = refl; due = in-time g f x size finalized nullified 0 (omega arith); fits = tt; readable = tt },
    (
      record { order = (some-points (Opened 0) [], refl); due = tt; fits = may-finalize g f x size finalized nullified; readable = tt },
      (
        record { order = (some-points floor_found (Opened 0 ∷ []), refl); due = tt; fits = tt; readable = tt },
        (
          record { order = refl; due = (refl, refl, refl); fits = tt; readable = tt },
          (record { order = refl; due = (refl, refl, refl); fits = tt; readable = tt }, refl),
        ),
      ),
    ),
  )

  acts : AreActs {S = S} {D = D} {P = P} {G = G} {C = C} (Leads 1 3 ∷ Leads 3 3 ∷ [])
  acts = All-cons (λ (p : Point S D P G C). is_act p ≡ true) (Leads 1 3) (Leads 3 3 ∷ []) refl
      (All-cons (λ (p : Point S D P G C). is_act p ≡ true) (Leads 3 3) [] refl (All-nil (λ (p : Point S D P G C). is_act p ≡ true)))

  lived-based : Lived g f s (only_floor x) (based_course x) begun_above
  lived-based = (
    begun_above,
    begun_above,
    record { read = floor_found ∷ []; acts = Leads 1 3 ∷ Leads 3 3 ∷ []; split = refl; are = (refl, tt); own = acts },
    record { goes = goes-based; none_due = none-based },
    refl,
    refl,
  )

  same : IsOfOneMember s s
  same = record { scheme = refl; me = refl; voter_me = refl; epoch = refl; length = refl; genesis = λ payload more first second. some-is more payload (sym second ∙ first); mode = refl; elect = λ view c. refl }

  pub lives-based : IsRecordable f (artifact.Finalization (finalization x)) → Lives g f s [] [] ((based_member x).lives 0) (only_floor x) (only_floor x)
  lives-based kept = (
    begun_above,
    record {
      appends = refl;
      readable = λ y here. ⊎_elim
          (λ is. subst (λ (a : Artifact S D P G C). IsRecordable f a) is kept)
          (λ none. absurd (Contains-nil y none))
          (Contains-cases (artifact.Finalization (finalization x)) [] y here);
    },
    lived-based,
    (refl, refl),
    same,
  )

-- ---- the world of it

module _ {S D P G C : Type 0} (g : Ghosts S D P G C) (f : Formats S D P G C) (scheme : S) (x : Forged S D C) (keys : AreForged g f scheme x) (kept : IsRecordable f (artifact.Finalization (finalization x))) where
  abbrev m : Members S D P G C
  m = based_member x

  abbrev w : World S D P G C
  w = one_based x

  is-first : (i : ℕ) → IsCorrect w i → i ≡ 0
  is-first i correct = first-alone i correct.0 correct.1

  -- its one life
  only-life : (i : ℕ) (life : Life S D P G C) → Contains (m.lives i) life → based_life x i ≡ life
  only-life i life among = ⊎_elim (λ is. is) (λ none. absurd (Contains-nil life none)) (Contains-cases (based_life x i) [] life among)

  none-handed : (i : ℕ) (e : Event D) → WasHanded g f scheme m w i e → ⊥
  none-handed i e handed = Contains-nil e (subst (λ (life : Life S D P G C). Contains (events_of life.course) e) (sym (only-life i handed.0 handed.1)) handed.2)

  floor-honest : (i : ℕ) (c : Certificate S D P G C) → WasBrought g f scheme m w i c → IsHonest (g.attests scheme) g.lists w c
  floor-honest i c brought =
      let is : Some (certificate.Finalization (finalization x)) ≡ Some c = ap (λ (life : Life S D P G C). option_map certificate.Finalization life.brought) (only-life i brought.0 brought.1) ∙ brought.2 in
      subst (λ (d : Certificate S D P G C). IsHonest (g.attests scheme) g.lists w d) (some-is (certificate.Finalization (finalization x)) c is)
      (λ a here signs attests. absurd (keys.by_others_too a here (is-first a.signer signs)))

  unsent : (to : Option ℕ) (packet : Packet S D P G C) → HandedOut g f scheme m w 0 (Sends to packet) → ⊥
  unsent to packet out =
      let here : Contains (Reports (activity.Finalization (finalization x)) ∷ Finalizes (agreed_on x) ∷ []) (Sends to packet) =
      subst (λ (life : Life S D P G C). Contains (handed_out g f life.setup life.course) (Sends to packet)) (sym (only-life 0 out.0 out.1)) out.2 in
      ⊎_elim
      (λ is. cc is)
      (λ later. ⊎_elim (λ is. cc is) (λ none. Contains-nil {X = Deed S D P G C} (Sends to packet) none) (Contains-cases {X = Deed S D P G C} (Finalizes (agreed_on x)) [] (Sends to packet) later))
      (Contains-cases (Reports (activity.Finalization (finalization x))) (Finalizes (agreed_on x) ∷ []) (Sends to packet) here)

  pub is-based : IsBased g f scheme x
  is-based = record {
    live = record {
      alike = λ i signs. keys.alike;
      owner = λ i signs. refl;
      me = λ i signs. refl;
      lived = λ i signs. (
        only_floor x,
        subst (λ (k : ℕ). Lives g f (m.setup k) [] [] (m.lives k) (w.recorded k) (only_floor x)) (sym (is-first i signs)) (lives-based g f x keys.alike.size_is keys.finalized keys.nullified kept),
      );
      honest = λ i sender signs y came. absurd (none-handed i came.0 came.1);
      floors = λ i signs c brought. floor-honest i c brought;
    };
    correct = (omega arith, not-excused);
    begins = refl;
    reported = (based_life x 0, (0, first-of-one, refl), (0, first-of-two, refl));
    final = (based_life x 0, (0, first-of-one, refl), (1, last-of-two, refl));
    unsent = unsent;
  }
