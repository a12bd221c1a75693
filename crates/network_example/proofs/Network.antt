-- The example is a network.
use Rattle.std.proofs.Common.{◌≡◌, inl, ⊎_elim, ℕ, ◌<◌, ◌≤◌, ◌==◌, Bool, true, false, List, [], ◌∷◌, Some, None, refl, sym, ◌∙◌, ap, subst, arith}
use Rattle.messages_certificates.specs.declared.certificate.Certificate.TheVariants as certificate
use Rattle.std.specs.Prelude.{All, Contains, if◌then◌else◌, option_map}
use Rattle.std.proofs.lemmas.Bool.{cases_lt}
use Rattle.std.proofs.lemmas.List.Elements.{All-cons, All-contains, All-nil}
use Rattle.types_quorum.specs.Counting.{Contains-cases, Contains-nil}
use Rattle.types_core.specs.declared.scheme.Scheme.{Ghosts}
use Rattle.messages_certificates.specs.declared.certificate.Certificate.{Certificate}
use Rattle.simplex_record.specs.World.{World, IsCorrect, IsHonest}
use Rattle.simplex_member.specs.declared.event.Channel.{Channel}
use Rattle.simplex_member.specs.declared.event.Channel.TheVariants as channel
use Rattle.simplex_member.specs.declared.event.Event.{Event}
use Rattle.simplex_member.specs.declared.event.Event.TheVariants as event
use Rattle.simplex_member.specs.Deeds.{Deed, Sends}
use Rattle.simplex_member.specs.Lives.{Carries, HandedOut, HasBytes, Holds, IsHonestPacket, Life, Members, events_of}
use Rattle.simplex_member.specs.Packet.{Formats, Packet, of_certificate}
use Rattle.network_example.specs.Example.{AreKeys, ArePackets, IsExample, IsJunk, IsPacketOf, Parts, first_life, four_members, four_world, given_up, second_life, sender_to}
use Rattle.network_example.proofs.Living.{blocked, both-lived}
use Rattle.network_example.proofs.Resting.{opened_first}

none-some : {X : Type 0} (x : X) → None ≡ Some x → ⊥
none-some x e = cc e

some-is : {X : Type 0} (x y : X) → Some x ≡ Some y → x ≡ y
some-is x y e = cc e

first-of-one : 0 < 1
first-of-one = omega arith

first-of-two : 0 < 2
first-of-two = omega arith

last-of-two : 1 < 2
last-of-two = omega arith

second-of-four : 1 < 4
second-of-four = omega arith

last-of-four : 3 < 4
last-of-four = omega arith

one-of-four : 0 < 4
one-of-four = omega arith

few-enough : 1 ≤ 1
few-enough = omega arith

module _ {S D P G C : Type 0} (g : Ghosts S D P G C) (f : Formats S D P G C) (scheme : S) (x : Parts S D G C) (keys : AreKeys g f scheme x) (packets : ArePackets g f x) where
  abbrev m : Members S D P G C
  m = four_members x

  abbrev w : World S D P G C
  w = four_world x

  abbrev certificate_of : Certificate S D P G C
  certificate_of = given_up x

  below : (i : ℕ) → IsCorrect w i → i < 3
  below i correct = ⊎_elim (λ lt. lt) (λ le. let lt : i < 4 = correct.0 in let e : 3 ≡ i = omega (arith, le, lt) in absurd (correct.1 (0, first-of-one, e))) (cases_lt i 3)

  -- what holds of each event that a member was handed
  module _ (Fine : Event D → Type 0) (junk_fine : Fine x.junk) (moments_fine : (now : ℕ) → Fine (event.Moment now)) (handed_fine : (i : ℕ) → Fine (x.handed i)) where
    abbrev FineLife : Life S D P G C → Type 0
    FineLife life = All Fine (events_of life.course)

    all-fine : (i : ℕ) → All FineLife (m.lives i)
    all-fine i = All-cons FineLife (first_life x i) (second_life x i ∷ [])
        (All-cons Fine x.junk (event.Moment 1000 ∷ []) junk_fine (All-cons Fine (event.Moment 1000) [] (moments_fine 1000) (All-nil Fine)))
        (All-cons FineLife (second_life x i) []
        (All-cons Fine (event.Moment 3000) (x.handed i ∷ []) (moments_fine 3000) (All-cons Fine (x.handed i) [] (handed_fine i) (All-nil Fine))) (All-nil FineLife))

    each-fine : (i : ℕ) (life : Life S D P G C) → Contains (m.lives i) life → (e : Event D) → Contains (events_of life.course) e → Fine e
    each-fine i life among e here = All-contains Fine (events_of life.course) e (All-contains FineLife (m.lives i) life (all-fine i) among) here

  -- ---- what came in is honest

  abbrev HoldsHonest : Event D → Type 0
  HoldsHonest e = (sender : ℕ) (y : Packet S D P G C) → Holds g f scheme m w e sender y → IsHonestPacket g f scheme m w y

  junk-honest : (e : Event D) → IsJunk g f e → HoldsHonest e
  junk-honest (event.Packet from by bytes) unread sender y holds = absurd (none-some y (sym unread.1 ∙ holds.1))
  junk-honest e unread sender y holds = absurd unread

  moment-honest : (now : ℕ) → HoldsHonest (event.Moment now)
  moment-honest now sender y holds = absurd holds

  read-so : (by : Channel) (bytes : List ℕ) → by ≡ channel.Certificates → bytes ≡ f.packet (of_certificate certificate_of) → f.packet_in by bytes ≡ Some (of_certificate certificate_of)
  read-so by bytes at are = subst (λ (c : Channel). f.packet_in c bytes ≡ Some (of_certificate certificate_of)) (sym at)
      (subst (λ (l : List ℕ). f.packet_in channel.Certificates l ≡ Some (of_certificate certificate_of)) (sym are) packets.read)

  given-honest : IsHonest (g.attests scheme) g.lists w certificate_of
  given-honest = λ a here correct attests. (0, first-of-two, refl)

  handed-honest : (e : Event D) (from : ℕ) → IsPacketOf g f e from certificate_of → HoldsHonest e
  handed-honest (event.Packet sent_by by bytes) from is sender y holds =
      subst (λ (z : Packet S D P G C). IsHonestPacket g f scheme m w z) (some-is (of_certificate certificate_of) y (sym (read-so by bytes.items is.1 is.2) ∙ holds.1)) given-honest
  handed-honest e from is sender y holds = absurd is

  -- it holds the certificate
  handed-holds : (e : Event D) (from : ℕ) → IsPacketOf g f e from certificate_of → Holds g f scheme m w e from (of_certificate certificate_of)
  handed-holds (event.Packet sent_by by bytes) from is = (is.0, read-so by bytes.items is.1 is.2)
  handed-holds e from is = absurd is

  -- ---- what each hands out

  hands-on : (i : ℕ) → HandedOut g f scheme m w i (Sends None (of_certificate certificate_of))
  hands-on i = (second_life x i, (1, last-of-two, refl), (3, last-of-four, refl))

  -- ---- packets in the names of correct members are theirs

  abbrev IsOwn : Event D → Type 0
  IsOwn e = (j : ℕ) (by : Channel) (bytes : List ℕ) → IsCorrect w j → Carries g f scheme m w e j by bytes → (d : Deed S D P G C) × HandedOut g f scheme m w j d × HasBytes g f scheme m w by bytes d

  junk-own : (e : Event D) → IsJunk g f e → IsOwn e
  junk-own (event.Packet from by_channel given_bytes) unread j by bytes correct carries = let low = below j correct in absurd (omega (arith, unread.0, carries.0, low))
  junk-own e unread j by bytes correct carries = absurd unread

  moment-own : (now : ℕ) → IsOwn (event.Moment now)
  moment-own now j by bytes correct carries = absurd carries

  handed-own : (e : Event D) (from : ℕ) → IsPacketOf g f e from certificate_of → IsOwn e
  handed-own (event.Packet sent_by by_channel given_bytes) from is j by bytes correct carries = (Sends None (of_certificate certificate_of), hands-on j, (sym carries.1 ∙ is.1, sym carries.2 ∙ is.2))
  handed-own e from is j by bytes correct carries = absurd is

  from-first : (i : ℕ) → 1 ≤ i → sender_to i ≡ 0
  from-first i some = go (i == 0) refl
    where
      go : (b : Bool) → (i == 0) ≡ b → ◌≡◌ {A = ℕ} (if b then 3 else 0) 0
      go true e = absurd (let zero : i ≡ 0 = grind (arith, e) in omega (arith, zero, some))
      go false e = refl

  pub is-example : IsExample g f scheme x
  is-example = record {
    live = record {
      alike = λ i correct. keys.alike i (below i correct);
      owner = λ i correct. refl;
      me = λ i correct. refl;
      lived = λ i correct. (
        (four_world x).recorded i,
        both-lived g f x.own x.genesis x.signed i (below i correct) (keys.alike i (below i correct)).size_is (keys.attests i (below i correct)) x.packed (keys.certifies i (below i correct)) (packets.recordable i (below i correct)) packets.certificate_recordable
            (x.handed i) (packets.handed i) packets.read x.junk packets.junk,
      );
      honest = λ i sender correct y came.
          each-fine HoldsHonest (junk-honest x.junk packets.junk) moment-honest (λ k. handed-honest (x.handed k) (sender_to k) (packets.handed k)) i came.1.0 came.1.1 came.0 came.1.2 sender y came.2;
      floors = λ i correct c brought. absurd (⊎_elim
          (λ is. none-some c (ap (λ (l : Life S D P G C). option_map certificate.Finalization l.brought) is ∙ brought.2))
          (λ later. ⊎_elim
          (λ is. none-some c (ap (λ (l : Life S D P G C). option_map certificate.Finalization l.brought) is ∙ brought.2))
          (λ none. Contains-nil brought.0 none)
          (Contains-cases (second_life x i) [] brought.0 later))
          (Contains-cases (first_life x i) (second_life x i ∷ []) brought.0 brought.1));
    };
    few = record { some = one-of-four; few = few-enough };
    elector = record { leader = λ view. Some 3; one = λ i correct view. refl };
    faithful = record {
      handed = λ i j e by bytes ci cj handed carries.
          each-fine IsOwn (junk-own x.junk packets.junk) moment-own (λ k. handed-own (x.handed k) (sender_to k) (packets.handed k)) i handed.0 handed.1 e handed.2 j by bytes cj carries;
    };
    attest_alike = λ i j ci cj signer s a attests. keys.one_another i j (below i ci) (below j cj) signer s a attests;
    liar = λ i correct. (
      first_life x i,
      (0, first-of-two, refl),
      blocked g f x.own x.genesis x.signed i (below i correct) (keys.alike i (below i correct)).size_is (keys.attests i (below i correct)) x.packed (keys.certifies i (below i correct)) (packets.recordable i (below i correct)) packets.certificate_recordable
          (opened_first g f x.own x.genesis i x.signed (keys.alike i (below i correct)).size_is) x.junk packets.junk,
    );
    repeated = λ i correct. (second_life x i, (1, last-of-two, refl), (1, second-of-four, refl));
    seen = inl (record {
      member = 0;
      correct = (one-of-four, λ here. ⊎_elim (λ is. omega (arith, is)) (λ none. let l : none.0 < 0 = none.1 in omega (arith, l)) (Contains-cases 3 [] 0 here));
      handed = inl (sender_to 0, (x.handed 0, (second_life x 0, (1, last-of-two, refl), (1, last-of-two, refl)), handed-holds (x.handed 0) (sender_to 0) (packets.handed 0)));
      verifies = keys.certifies 0 (omega arith);
    });
    taken = λ i correct. (1, last-of-two, refl);
    handed_on = λ i correct. hands-on i;
    came = λ i correct some. (
      x.handed i,
      (second_life x i, (1, last-of-two, refl), (1, last-of-two, refl)),
      subst (λ (sender : ℕ). Holds g f scheme m w (x.handed i) sender (of_certificate certificate_of)) (from-first i some) (handed-holds (x.handed i) (sender_to i) (packets.handed i)),
    );
  }
