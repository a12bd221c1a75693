-- The two lives of each correct member of the example are lives: what the liar sends is refused, and the certificate taken.
use Rattle.std.proofs.Common.{◌≡◌, inl, inr, ⊎_elim, ℕ, ◌+◌, ◌^◌, ◌<◌, ◌≤◌, Bool, true, false, List, [], ◌∷◌, ◌++◌, Option, Some, None, refl, sym, ◌∙◌, ap, subst, arith}
use Rattle.std.specs.Prelude.{◌==◌, Contains, if◌then◌else◌}
use Rattle.std.proofs.lemmas.Bool.{both_ways}
use Rattle.std.proofs.lemmas.List.Elements.{All-cons, All-nil}
use Rattle.types_core.specs.declared.scheme.Scheme.{Ghosts}
use Rattle.types_quorum.specs.Counting.{Contains-cases, Contains-nil}
use Rattle.types_core.specs.Subject.{Statement, nullify}
use Rattle.messages_certificates.specs.declared.artifact.Artifact.TheVariants as artifact
use Rattle.messages_certificates.specs.declared.certificate.Certificate.TheVariants as certificate
use Rattle.messages_certificates.specs.declared.nullification.Nullification.{Nullification}
use Rattle.simplex_messages.specs.declared.vote.Vote.TheVariants as vote
use Rattle.voter_history.specs.declared.timeout_reason.TimeoutReason.TheVariants as reason
use Rattle.simplex_record.specs.Lawful.{Fits}
use Rattle.simplex_record.specs.Record as recorded
use Rattle.simplex_record.specs.Record.{Entry}
use Rattle.simplex_member.specs.declared.event.Channel.{Channel}
use Rattle.simplex_member.specs.declared.event.Channel.TheVariants as channel
use Rattle.simplex_member.specs.declared.event.Event.{Event}
use Rattle.simplex_member.specs.declared.event.Event.TheVariants as event
use Rattle.simplex_member.specs.declared.refusal.Refusal.TheVariants as refusal
use Rattle.simplex_member.specs.Deeds.{Deed, Blocks}
use Rattle.simplex_member.specs.First.{IsFirst}
use Rattle.simplex_member.specs.Lives.{Lived, Lives}
use Rattle.simplex_member.specs.Member.{Goes, IsPacketPoint, IsPointOf}
use Rattle.simplex_member.specs.Packet.{Formats, IsRecordable, Packet, of_certificate}
use Rattle.simplex_member.specs.Point.{Point, AreActs, Opened, Found, Began, Came, Told, Leads, Polls, Votes, Repeats, History, is_act}
use Rattle.simplex_member.specs.Refusals.{packet_tests, refused_deeds, sender_tests, tests}
use Rattle.simplex_member.specs.Setup.{Setup, IsInTime, IsOfOneMember, owner_of}
use Rattle.network_example.specs.Example.{IsJunk, IsPacketOf, crashed_life, first, nullification_of, nullify_of, repeating_life, sender_to, set_up}
use Rattle.network_example.proofs.Resting.{none-due, opened_first, opened_again, has_repeated, has_taken, quiet-first, quiet-again, quiet-repeated, quiet-taken}

some-is : {X : Type 0} (x y : X) → Some x ≡ Some y → x ≡ y
some-is x y e = cc e

abbrev is_there : {X : Type 0} → List X → Bool
is_there [] = false
is_there (x ∷ xs) = true

some-points : {X : Type 0} (x : X) (xs : List X) → (x ∷ xs ≡ [] → ⊥)
some-points x xs e = both_ways true (ap is_there e) refl

-- whoever hands a member the certificate is another
pub sender-other : (i : ℕ) → i < 3 → (sender_to i ≡ i → ⊥) × (sender_to i < 4)
sender-other i small = go (i == 0) refl
  where
    go : (b : Bool) → (i == 0) ≡ b → ((if b then 3 else 0) ≡ i → ⊥) × ((if b then 3 else 0) < 4)
    go true e = (λ same. omega (arith, same, small), omega arith)
    go false e = (λ same. both_ways (i == 0) e (let zero : i ≡ 0 = sym same in grind (arith, zero)), omega arith)

module _ {S D P G C : Type 0} where
  no-acts : AreActs {S = S} {D = D} {P = P} {G = G} {C = C} []
  no-acts = All-nil (λ (p : Point S D P G C). is_act p ≡ true)

  one-act : (p : Point S D P G C) → is_act p ≡ true → AreActs (p ∷ [])
  one-act p is = All-cons (λ (q : Point S D P G C). is_act q ≡ true) p [] is no-acts

  two-acts : (p q : Point S D P G C) → is_act p ≡ true → is_act q ≡ true → AreActs (p ∷ q ∷ [])
  two-acts p q is also = All-cons (λ (r : Point S D P G C). is_act r ≡ true) p (q ∷ []) is (one-act q also)

module _ {S D P G C : Type 0} (g : Ghosts S D P G C) (f : Formats S D P G C) (own : ℕ → S) (genesis : D) (signed : ℕ → G) (i : ℕ) (small : i < 3) (size : g.size (own i) ≡ 4) (attests : g.attests (own i) i (nullify first) (signed i)) (packed : C) (certifies : g.certifies (own i) (nullify first) packed)
    (kept : IsRecordable f (artifact.Nullify (nullify_of signed i))) (kept_too : IsRecordable f (artifact.Nullification (nullification_of packed))) where
  abbrev s : Setup S D C
  s = set_up own genesis i

  abbrev h1 : History S D P G C
  h1 = opened_first g f own genesis i signed size

  abbrev h2 : History S D P G C
  h2 = Votes (vote.Nullify (nullify_of signed i)) ∷ Told 1000 ∷ h1

  abbrev h3 : History S D P G C
  h3 = opened_again g f own genesis i signed size

  abbrev h4 : History S D P G C
  h4 = has_repeated g f own genesis i signed size

  abbrev given : Nullification S D P G C
  given = nullification_of packed

  abbrev h5 : History S D P G C
  h5 = has_taken g f own genesis i signed size packed

  le-up-to : (n : ℕ) → 0 ≤ n
  le-up-to n = omega arith

  at-last : (n : ℕ) → n ≤ n
  at-last n = omega arith

  later-than : 2000 ≤ 3000
  later-than = omega arith

  has-room : 5 < 2 ^ 64
  has-room = omega arith

  one-more : 0 < 1
  one-more = omega arith

  -- the nullify may stand in an empty record
  may-stand : Fits {S = S} {D = D} {P = P} {G = G} {C = C} (g.attests (own i)) (g.certifies (own i)) (owner_of s) [] (artifact.Nullify (nullify_of signed i))
  may-stand = record {
    verifies = record { own = refl; epoch = refl; verifies = attests };
    follows = record {
      room = has-room;
      current = refl;
      first = λ t alike voted. let l : voted.0 < 0 = voted.1 in omega (arith, l);
      not_finalized = λ p same voted. let l : voted.0 < 0 = voted.1 in omega (arith, l);
    };
  }

  -- and the certificate behind that
  none-taken : (t : Statement D) → Contains {X = Entry D} (recorded.voted (nullify first) ∷ []) (recorded.taken t) → ⊥
  none-taken t here = ⊎_elim (λ is. cc is) (λ later. let l : later.0 < 0 = later.1 in omega (arith, l)) (Contains-cases (recorded.voted (nullify first)) [] (recorded.taken t) here)

  may-follow : Fits {S = S} {D = D} {P = P} {G = G} {C = C} (g.attests (own i)) (g.certifies (own i)) (owner_of s) (artifact.Nullify (nullify_of signed i) ∷ []) (artifact.Nullification given)
  may-follow = record {
    verifies = record { epoch = refl; verifies = certifies };
    follows = record { from_one = at-last 1; room = has-room; parent_below = tt; first = λ t alike taken. none-taken t taken };
  }

  in-time : (now : ℕ) → now + 2000 < 2 ^ 64 → IsInTime s now
  in-time now early = early

  goes-first : Goes g f s [] (Opened 0 ∷ Began ∷ Leads 1 3 ∷ []) h1
  goes-first = (
    record { order = refl; due = in-time 0 (omega arith); fits = tt; readable = tt },
    (
      record { order = (some-points (Opened 0) [], refl); due = tt; fits = tt; readable = tt },
      (record { order = refl; due = (refl, refl, refl); fits = tt; readable = tt }, refl),
    ),
  )

  goes-cut : Goes g f s h1 (Told 1000 ∷ Votes (vote.Nullify (nullify_of signed i)) ∷ []) h2
  goes-cut = (
    record { order = refl; due = (le-up-to 1000, in-time 1000 (omega arith)); fits = tt; readable = tt },
    (
      record {
        order = refl;
        due = (
          refl,
          record {
            gives_up = record { current = refl; some = one-more; room = has-room; not_finalized = refl };
            moment = 1000;
            why = reason.LeaderTimeout;
            next = refl;
            reached = at-last 1000;
          },
          refl,
        );
        fits = may-stand;
        readable = kept;
      },
      refl,
    ),
  )

  goes-again : Goes g f s [] (Opened 2000 ∷ Found (artifact.Nullify (nullify_of signed i)) false ∷ Began ∷ Leads 1 3 ∷ Polls ∷ []) h3
  goes-again = (
    record { order = refl; due = in-time 2000 (omega arith); fits = tt; readable = tt },
    (
      record { order = (some-points (Opened 2000) [], refl); due = tt; fits = may-stand; readable = tt },
      (
        record { order = (some-points (Found (artifact.Nullify (nullify_of signed i)) false) (Opened 2000 ∷ []), refl); due = tt; fits = tt; readable = tt },
        (
          record { order = refl; due = (refl, refl, refl); fits = tt; readable = tt },
          (record { order = refl; due = λ known. cc (known refl); fits = tt; readable = tt }, refl),
        ),
      ),
    ),
  )

  goes-repeated : Goes g f s h3 (Told 3000 ∷ Repeats (nullify_of signed i) None ∷ Polls ∷ []) h4
  goes-repeated = (
    record { order = refl; due = (later-than, in-time 3000 (omega arith)); fits = tt; readable = tt },
    (
      record {
        order = refl;
        due = record {
          due = (
            refl,
            record {
              gives_up = record { current = refl; some = one-more; room = has-room; not_finalized = refl };
              moment = 3000;
              why = reason.Retry;
              next = refl;
              reached = at-last 3000;
            },
            refl,
          );
          recorded = (0, one-more, refl);
          best_is = refl;
        };
        fits = tt;
        readable = tt;
      },
      (record { order = refl; due = λ known. cc (known refl); fits = tt; readable = tt }, refl),
    ),
  )

  goes-taken : Goes g f s h4 (Came (certificate.Nullification given) ∷ Leads 2 3 ∷ []) h5
  goes-taken = (
    record { order = refl; due = (at-last 1, le-up-to 1); fits = may-follow; readable = kept_too },
    (record { order = refl; due = (refl, refl, refl); fits = tt; readable = tt }, refl),
  )

  passes-cut : IsFirst (tests g f s h1 (event.Moment 1000)) None
  passes-cut = inr (λ before. let l : 1000 < 0 = before in omega (arith, l), inr (λ late. late (in-time 1000 (omega arith)), refl))

  passes-repeated : IsFirst (tests g f s h3 (event.Moment 3000)) None
  passes-repeated = inr (λ before. let l : 3000 < 2000 = before in omega (arith, l), inr (λ late. late (in-time 3000 (omega arith)), refl))

  -- the packet that holds the certificate is taken
  taken-first : (sender : ℕ) → sender < 4 → (sender ≡ i → ⊥) → IsFirst (sender_tests g f s sender ++ packet_tests g f s h4 sender (Some (of_certificate (certificate.Nullification given)))) None
  taken-first sender low another =
      inr (
        λ big. let b : g.size (own i) ≤ sender = big in omega (arith, b, size, low),
        inr (
          λ mine. another mine,
          inr (
            λ epoch. epoch refl,
            inr (
              λ none. let e : 1 ≡ 0 = none in omega (arith, e),
              inr (
                λ outside. outside (at-last 1, le-up-to 1),
                inr (
                  λ narrow. narrow has-room,
                  inr (
                    λ parent. parent tt,
                    inr (
                      λ repeated. repeated (λ t alike taken. none-taken t taken),
                      inr (λ false_one. false_one certifies, refl),
                    ),
                  ),
                ),
              ),
            ),
          ),
        ),
      )

  passes-taken : (handed : Event D) → IsPacketOf g f handed (sender_to i) (certificate.Nullification given) → f.packet_in channel.Certificates (f.packet (of_certificate (certificate.Nullification given))) ≡ Some (of_certificate (certificate.Nullification given))
      → IsFirst (tests g f s h4 handed) None × IsPointOf g f s handed (Came (certificate.Nullification given))
  passes-taken (event.Packet from by bytes) is read =
      let reads : f.packet_in by bytes.items ≡ Some (of_certificate (certificate.Nullification given)) = read-so by bytes.items is.1 is.2 read in
      let other = sender-other i small in (
        subst (λ (o : Option (Packet S D P G C)). IsFirst (sender_tests g f s from ++ packet_tests g f s h4 from o) None) (sym reads)
            (taken-first from (omega (arith, is.0, other.1)) (λ mine. other.0 (sym is.0 ∙ mine))),
        subst (λ (o : Option (Packet S D P G C)). IsPacketPoint from o (Came (certificate.Nullification given))) (sym reads) refl,
      )
    where
      read-so : (by : Channel) (bytes : List ℕ) → by ≡ channel.Certificates → bytes ≡ f.packet (of_certificate (certificate.Nullification given))
          → f.packet_in channel.Certificates (f.packet (of_certificate (certificate.Nullification given))) ≡ Some (of_certificate (certificate.Nullification given)) → f.packet_in by bytes ≡ Some (of_certificate (certificate.Nullification given))
      read-so by bytes at are whole = subst (λ (c : Channel). f.packet_in c bytes ≡ Some (of_certificate (certificate.Nullification given))) (sym at)
          (subst (λ (l : List ℕ). f.packet_in channel.Certificates l ≡ Some (of_certificate (certificate.Nullification given))) (sym are) whole)
  passes-taken e is read = absurd is

  -- what the liar sends is refused
  refused : (h : History S D P G C) (junk : Event D) → IsJunk g f junk → IsFirst (tests g f s h junk) (Some refusal.NotDecoded)
  refused h (event.Packet sender by bytes) is =
      subst (λ (o : Option (Packet S D P G C)). IsFirst (sender_tests g f s sender ++ packet_tests g f s h sender o) (Some refusal.NotDecoded)) (sym is.1)
      (inr (λ big. let b : g.size (own i) ≤ sender = big in omega (arith, b, size, is.0), inr (λ mine. let e : sender ≡ i = mine in omega (arith, e, is.0, small), inl (tt, refl))))
  refused h e is = absurd is

  pub blocked : (h : History S D P G C) (junk : Event D) → IsJunk g f junk → Contains (refused_deeds g f s h junk refusal.NotDecoded ++ []) (Blocks 3)
  blocked h (event.Packet sender by bytes) is = (0, one-more, subst (λ (n : ℕ). ◌≡◌ {A = Deed S D P G C} (Blocks sender) (Blocks n)) is.0 refl)
  blocked h e is = absurd is

  pub lived-first : (junk : Event D) → IsJunk g f junk → Lived g f s [] (crashed_life junk (nullify_of signed i)) h2
  lived-first junk is = (
    h1,
    h1,
    record { read = []; acts = Leads 1 3 ∷ []; split = refl; are = tt; own = one-act (Leads 1 3) refl },
    record { goes = goes-first; none_due = none-due g f own genesis i small h1 (quiet-first g f own genesis i signed size) },
    (refused h1 junk is, refl),
    (record { passes = passes-cut; first = Told 1000; acts = Votes (vote.Nullify (nullify_of signed i)) ∷ []; split = refl; of_it = refl; own = one-act (Votes (vote.Nullify (nullify_of signed i))) refl }, goes-cut),
  )

  module _ (handed : Event D) (by_packet : IsPacketOf g f handed (sender_to i) (certificate.Nullification given)) (read : f.packet_in channel.Certificates (f.packet (of_certificate (certificate.Nullification given))) ≡ Some (of_certificate (certificate.Nullification given))) where
    pub lived-second : Lived g f s (artifact.Nullify (nullify_of signed i) ∷ []) (repeating_life (nullify_of signed i) handed given) h5
    lived-second = (
      h3,
      h5,
      record { read = Found (artifact.Nullify (nullify_of signed i)) false ∷ []; acts = Leads 1 3 ∷ Polls ∷ []; split = refl; are = (refl, tt); own = two-acts (Leads 1 3) Polls refl refl },
      record { goes = goes-again; none_due = none-due g f own genesis i small h3 (quiet-again g f own genesis i signed size) },
      (
        h4,
        record { passes = passes-repeated; first = Told 3000; acts = Repeats (nullify_of signed i) None ∷ Polls ∷ []; split = refl; of_it = refl; own = two-acts (Repeats (nullify_of signed i) None) Polls refl refl },
        record { goes = goes-repeated; none_due = none-due g f own genesis i small h4 (quiet-repeated g f own genesis i signed size) },
        (
          h5,
          record { passes = (passes-taken handed by_packet read).0; first = Came (certificate.Nullification given); acts = Leads 2 3 ∷ []; split = refl; of_it = (passes-taken handed by_packet read).1; own = one-act (Leads 2 3) refl },
          record { goes = goes-taken; none_due = none-due g f own genesis i small h5 (quiet-taken g f own genesis i signed size packed) },
          refl,
        ),
      ),
      refl,
    )

    same : IsOfOneMember s s
    same = record { scheme = refl; me = refl; voter_me = refl; epoch = refl; length = refl; genesis = λ payload more first second. some-is more payload (sym second ∙ first); mode = refl; elect = λ view certificate. refl }

    pub both-lived : (junk : Event D) → IsJunk g f junk → Lives g f s [] [] (record { setup = s; brought = None; founded = []; course = crashed_life junk (nullify_of signed i) } ∷ record { setup = s; brought = None; founded = []; course = repeating_life (nullify_of signed i) handed given } ∷ [])
        (artifact.Nullify (nullify_of signed i) ∷ artifact.Nullification given ∷ []) (artifact.Nullify (nullify_of signed i) ∷ artifact.Nullification given ∷ [])
    both-lived junk is = (
      h2,
      record { appends = refl; readable = λ y here. absurd (Contains-nil y here) },
      lived-first junk is,
      (h5, record { appends = refl; readable = λ y here. absurd (Contains-nil y here) }, lived-second, (refl, refl), same),
      same,
    )
