-- No correct member blocks a correct one.
use Rattle.std.proofs.Common.{◌≡◌, ⊎_elim, ℕ, Bool, true, false, List, [], ◌∷◌, ◌++◌, Option, Some, refl, sym, ◌∙◌, ap, subst}
use Rattle.std.specs.Prelude.{Contains, if◌then◌else◌, ⊤, IfSome}
use Rattle.std.proofs.lemmas.Option.{none-some}
use Rattle.std.proofs.lemmas.List.Elements.{Contains-append_cases}
use Rattle.types_quorum.specs.Counting.{Contains-nil}
use Rattle.types_core.specs.declared.scheme.Scheme.{Ghosts}
use Rattle.types_core.specs.Quorum.{IsQuorum}
use Rattle.types_core.specs.Subject.{Statement}
use Rattle.messages_certificates.specs.declared.certificate.Certificate.{Certificate}
use Rattle.messages_certificates.specs.declared.certificate.Certificate.TheVariants as certificate
use Rattle.messages_certificates.specs.Artifact.{certificate_artifact}
use Rattle.messages_certificates.specs.Certificate.{certificate_statement, certified_by}
use Rattle.simplex_messages.specs.declared.vote.Vote.{Vote}
use Rattle.simplex_record.specs.Rules.{HasParentBelow}
use Rattle.simplex_record.specs.World.{World, IsCorrect}
use Rattle.voter_laws.specs.Matching.{EachHistoryMatches}
use Rattle.simplex_resolver.specs.Answers.{WhatIsProducedCame}
use Rattle.simplex_member.specs.declared.event.Channel.{Channel}
use Rattle.simplex_member.specs.declared.event.Channel.TheVariants as channel
use Rattle.simplex_member.specs.declared.event.Event.{Event}
use Rattle.simplex_member.specs.declared.event.Event.TheVariants as event
use Rattle.simplex_member.specs.declared.refusal.Refusal.{Refusal}
use Rattle.simplex_member.specs.declared.refusal.Refusal.TheVariants as refusal
use Rattle.simplex_member.specs.Allowed.{Allowed}
use Rattle.simplex_member.specs.Deeds.{Deed, Sends, Serves, Blocks, Reports}
use Rattle.simplex_member.specs.First.{IsFirst}
use Rattle.simplex_member.specs.Laws.{AreReadBack, DoAttestAlike, HoldsNoVote, IsRefusedFor, LifeLaws, ReadsAsPacket, RoundLaws}
use Rattle.simplex_member.specs.Lives.{AreFaithful, Carries, HandedOut, HasBytes, LiveByNodes, Members}
use Rattle.simplex_member.specs.Packet.{Formats, IsReadable, Packet, of_ask, of_certificate, of_vote, packet_channel, packet_of}
use Rattle.simplex_member.specs.Point.{Point, History}
use Rattle.simplex_member.specs.Recorded.{record_of, recorded_by}
use Rattle.simplex_member.specs.Refusals.{blocks_sender, evidence_deeds, packet_tests, refusal_report, refused_deeds, sender_tests, tests}
use Rattle.simplex_member.specs.Setup.{IsOfOneMember, Setup}
use Rattle.simplex_member.proofs.Allowing.{begun-allowed}
use Rattle.simplex_member.proofs.Asking.{AreSmall, asked-low}
use Rattle.simplex_member.proofs.Blame.{LawfulEver, own-sound, splits, vote-readable}
use Rattle.simplex_member.proofs.Doing.{deeds-are}
use Rattle.simplex_member.proofs.Entering.{best-recorded}
use Rattle.simplex_member.proofs.Keeping.{all-readable}
use Rattle.simplex_member.proofs.Lists.{Contains-mapped, put-here}
use Rattle.simplex_member.proofs.Living.{votes-so}
use Rattle.simplex_member.proofs.Reporting.{one}
use Rattle.simplex_member.proofs.Serving.{served-spelled}
use Rattle.simplex_member.proofs.Spared.{evidence-spares, report-spares, sender-alone, spares}
use Rattle.simplex_member.proofs.Walk.{refused-alone}
use Rattle.simplex_member.proofs.Walking.{deed-done, reached-goes, reached-heard}

module _ {S D P G C : Type 0} where
  -- a deed hands out bytes
  abbrev goes_out : Deed S D P G C → Bool
  goes_out (Sends to x) = true
  goes_out (Serves member bytes) = true
  goes_out d = false

  sender-none : (b : Bool) (sender : ℕ) (d : Deed S D P G C) → goes_out d ≡ true → Contains {X = Deed S D P G C} (if b then Blocks sender ∷ [] else []) d → ⊥
  sender-none true sender d out here = absurd (cc (ap goes_out (one (Blocks sender) d here), out))
  sender-none false sender d out here = Contains-nil d here

module _ {S D P G C : Type 0} (g : Ghosts S D P G C) (f : Formats S D P G C) (scheme : S) (m : Members S D P G C) (world : World S D P G C) where
  evidence-none : (s : Setup S D C) (h : History S D P G C) (sender : ℕ) (o : Option (Packet S D P G C)) (d : Deed S D P G C) → goes_out d ≡ true → Contains (evidence_deeds g f s h sender o) d → ⊥
  evidence-none s h sender (Some (of_vote v)) d out here = let of = Contains-mapped Reports _ d here in absurd (cc (ap goes_out of.2, out))
  evidence-none s h sender o d out here = Contains-nil d here

  report-none : (s : Setup S D C) (r : Refusal) (deeds : List (Deed S D P G C)) (d : Deed S D P G C) → (Contains deeds d → ⊥) → Contains (refusal_report g f s r deeds) d → ⊥
  report-none s refusal.Contradiction deeds d none here = none here
  report-none s r deeds d none here = Contains-nil d here

  -- a refusal hands out no bytes
  refused-none : (s : Setup S D C) (h : History S D P G C) (e : Event D) (r : Refusal) (d : Deed S D P G C) → goes_out d ≡ true → Contains (refused_deeds g f s h e r) d → ⊥
  refused-none s h (event.Packet sender by bytes) r d out here = ⊎_elim
      (λ block. sender-none (blocks_sender r) sender d out block)
      (λ report. report-none s r (evidence_deeds g f s h sender (f.packet_in by bytes.items)) d (evidence-none s h sender (f.packet_in by bytes.items) d out) report)
      (Contains-append_cases (if blocks_sender r then Blocks sender ∷ [] else []) (refusal_report g f s r (evidence_deeds g f s h sender (f.packet_in by bytes.items))) d here)
  refused-none s h e r d out here = Contains-nil d here

  module _ (basis : LifeLaws g) (w : LiveByNodes g f scheme m world) (j : ℕ) (cj : IsCorrect world j) where
    lawful : LawfulEver g f (m.setup j) (world.recorded j)
    lawful = votes-so g f basis (m.setup j) (m.lives j) (world.recorded j) (w.lived j cj).0 (w.lived j cj).1

    -- of a certificate that a correct member recorded: the parent is below, and it certifies
    parent-below : (c : Certificate S D P G C) → Contains (world.recorded j) (certificate_artifact c) → HasParentBelow (certificate_statement c)
    parent-below (certificate.Notarization c) here = let at = splits (world.recorded j) (certificate_artifact (certificate.Notarization c)) here in (lawful at.before at.behind (certificate_artifact (certificate.Notarization c)) at.is).stands
    parent-below (certificate.Nullification c) here = tt
    parent-below (certificate.Finalization c) here = let at = splits (world.recorded j) (certificate_artifact (certificate.Finalization c)) here in (lawful at.before at.behind (certificate_artifact (certificate.Finalization c)) at.is).stands

    pub own-certifies : (c : Certificate S D P G C) → Contains (world.recorded j) (certificate_artifact c) → g.certifies (m.setup j).voter.scheme (certificate_statement c) (certified_by c)
    own-certifies (certificate.Notarization c) here = let at = splits (world.recorded j) (certificate_artifact (certificate.Notarization c)) here in (lawful at.before at.behind (certificate_artifact (certificate.Notarization c)) at.is).verifies.verifies
    own-certifies (certificate.Nullification c) here = let at = splits (world.recorded j) (certificate_artifact (certificate.Nullification c)) here in (lawful at.before at.behind (certificate_artifact (certificate.Nullification c)) at.is).verifies.verifies
    own-certifies (certificate.Finalization c) here = let at = splits (world.recorded j) (certificate_artifact (certificate.Finalization c)) here in (lawful at.before at.behind (certificate_artifact (certificate.Finalization c)) at.is).verifies.verifies

    -- a certificate that it sends it recorded
    sent-recorded : (to : Option ℕ) (c : Certificate S D P G C) → HandedOut g f scheme m world j (Sends to (of_certificate c)) → Contains (world.recorded j) (certificate_artifact c)
    sent-recorded to c out = ⊎_elim
        (λ at. ⊎_elim
        (λ records. (reached-heard g f scheme m world j w cj at.life (at.p ∷ at.h) at.next).recorded (certificate_artifact c) (put-here (record_of at.h) (recorded_by at.p) (certificate_artifact c) records))
        (λ repeats.
        let due = (subst (λ (p : Point S D P G C). Allowed g f at.life.setup at.h p) repeats.1 at.allowed).due in
        (reached-heard g f scheme m world j w cj at.life at.h at.reached).recorded (certificate_artifact c) (best-recorded at.life.setup at.h c (sym due.best_is)))
        (deeds-are g f at.life.setup at.h at.p (Sends to (of_certificate c)) at.done))
        (λ at. absurd (refused-none at.life.setup at.h at.e at.r (Sends to (of_certificate c)) refl at.done))
        (deed-done g f scheme m world j w cj (Sends to (of_certificate c)) out)

    -- what it serves is the spelling of one that it recorded
    record IsServed (bytes : List ℕ) : Type 0 where
      pub c : Certificate S D P G C
      pub recorded : Contains (world.recorded j) (certificate_artifact c)
      pub are : bytes ≡ f.certificate c

    served-recorded : WhatIsProducedCame → (member : ℕ) (bytes : List ℕ) → HandedOut g f scheme m world j (Serves member bytes) → IsServed bytes
    served-recorded law member bytes out = ⊎_elim
        (λ at.
        let of = deeds-are g f at.life.setup at.h at.p (Serves member bytes) at.done in
        let all = begun-allowed g f at.life.setup at.reached.before at.h (reached-goes g f scheme m world j w cj at.life at.h at.reached) in
        let spelled = served-spelled g f at.life.setup law at.h all at.life.setup.voter.length of.0 bytes of.2 in
        record { c = spelled.c; recorded = (reached-heard g f scheme m world j w cj at.life at.h at.reached).recorded (certificate_artifact spelled.c) spelled.recorded; are = spelled.are })
        (λ at. absurd (refused-none at.life.setup at.h at.e at.r (Serves member bytes) refl at.done))
        (deed-done g f scheme m world j w cj (Serves member bytes) out)

    module _ (known : EachHistoryMatches S D P G C) (law : WhatIsProducedCame) (back : AreReadBack f) where
      -- a packet, of which a certificate is recorded by the sender
      abbrev IsFine : Packet S D P G C → Type 0
      IsFine (of_vote v) = ⊤
      IsFine (of_certificate c) = Contains (world.recorded j) (certificate_artifact c)
      IsFine (of_ask view) = ⊤

      record IsRead (by : Channel) (bytes : List ℕ) : Type 0 where
        pub x : Packet S D P G C
        pub is : f.packet_in by bytes ≡ Some x
        pub fine : IsFine x

      fine : (to : Option ℕ) (x : Packet S D P G C) → HandedOut g f scheme m world j (Sends to x) → IsFine x
      fine to (of_vote v) out = tt
      fine to (of_certificate c) out = sent-recorded to c out
      fine to (of_ask view) out = tt

      -- a certificate that it recorded can be read
      certificate-readable : (c : Certificate S D P G C) → Contains (world.recorded j) (certificate_artifact c) → IsReadable f (of_certificate c)
      certificate-readable c here = certificate-read c (back.recorded (certificate_artifact c)
          (all-readable g f (m.setup j) (m.lives j) (world.recorded j) (w.lived j cj).0 (w.lived j cj).1 (certificate_artifact c) here))
        where
          certificate-read : (d : Certificate S D P G C) → IfSome (packet_of (certificate_artifact d)) (IsReadable f) → IsReadable f (of_certificate d)
          certificate-read (certificate.Notarization d) read = read
          certificate-read (certificate.Nullification d) read = read
          certificate-read (certificate.Finalization d) read = read

      -- and so can an ask that it sends
      ask-readable : (to : Option ℕ) (view : ℕ) → HandedOut g f scheme m world j (Sends to (of_ask view)) → IsReadable f (of_ask view)
      ask-readable to view out = ⊎_elim
          (λ at.
          let of = deeds-are g f at.life.setup at.h at.p (Sends to (of_ask view)) at.done in
          let all = begun-allowed g f at.life.setup at.reached.before at.h (reached-goes g f scheme m world j w cj at.life at.h at.reached) in
          let small : AreSmall (record_of at.h) = λ c here. back.views c (certificate-readable c ((reached-heard g f scheme m world j w cj at.life at.h at.reached).recorded (certificate_artifact c) here)) in
          back.asks view (asked-low g f at.life.setup basis.records known at.h all small view of.0 to (subst (λ (p : Point S D P G C). Allowed g f at.life.setup at.h p) of.1 at.allowed)))
          (λ at. absurd (refused-none at.life.setup at.h at.e at.r (Sends to (of_ask view)) refl at.done))
          (deed-done g f scheme m world j w cj (Sends to (of_ask view)) out)

      -- so can all that it sends
      sent-readable : (to : Option ℕ) (x : Packet S D P G C) → HandedOut g f scheme m world j (Sends to x) → IsReadable f x
      sent-readable to (of_vote v) out = vote-readable g f scheme m world back w j cj v (own-sound g f scheme m world basis w j cj to v out).recorded
      sent-readable to (of_certificate c) out = certificate-readable c (sent-recorded to c out)
      sent-readable to (of_ask view) out = ask-readable to view out

      served-read : (bytes : List ℕ) → IsServed bytes → (c : Certificate S D P G C) × (f.packet_in channel.Certificates bytes ≡ Some (of_certificate c))
      served-read bytes of = (
        of.c,
        ap (f.packet_in channel.Certificates) (of.are ∙ back.certificates of.c) ∙ back.again (of_certificate of.c) (certificate-readable of.c of.recorded),
      )

      -- all that it hands out is in the grammar
      pub in-grammar : (d : Deed S D P G C) → HandedOut g f scheme m world j d → ReadsAsPacket g f d
      in-grammar (Sends to x) out = back.again x (sent-readable to x out)
      in-grammar (Serves member bytes) out = served-read bytes (served-recorded law member bytes out)
      in-grammar d out = tt

      at-channel : (by at : Channel) (bytes own : List ℕ) (x : Packet S D P G C) → by ≡ at → bytes ≡ own → f.packet_in at own ≡ Some x → f.packet_in by bytes ≡ Some x
      at-channel by at bytes own x e b read =
          subst (λ (c : Channel). f.packet_in c bytes ≡ Some x) (sym e) (subst (λ (l : List ℕ). f.packet_in at l ≡ Some x) (sym b) read)

      -- each packet in its name reads as such a one
      handed-read : (by : Channel) (bytes : List ℕ) (d : Deed S D P G C) → HandedOut g f scheme m world j d → HasBytes g f scheme m world by bytes d → IsRead by bytes
      handed-read by bytes (Sends to x) out is = record {
        x = x;
        is = at-channel by (packet_channel x) bytes (f.packet x) x is.0 is.1 (back.again x (sent-readable to x out));
        fine = fine to x out;
      }
      handed-read by bytes (Serves member served) out is =
          let of = served-recorded law member served out in
          record {
            x = of_certificate of.c;
            is = at-channel by channel.Certificates bytes (f.packet (of_certificate of.c)) (of_certificate of.c) is.0 (is.1 ∙ (of.are ∙ back.certificates of.c)) (back.again (of_certificate of.c) (certificate-readable of.c of.recorded));
            fine = of.recorded;
          }
      handed-read by bytes d out is = absurd is

  module _ (basis : LifeLaws g) (laws : RoundLaws g f.same) (known : EachHistoryMatches S D P G C) (law : WhatIsProducedCame) (back : AreReadBack f) (w : LiveByNodes g f scheme m world) (faithful : AreFaithful g f scheme m world) (alike : DoAttestAlike g f scheme m world)
      (backed : (own : S) (x : Statement D) (c : C) → g.certifies own x c → IsQuorum (g.size own) (λ k a. g.attests own k x a) (g.lists c))
      (sufficient : (own : S) (x : Statement D) (c : C) → IsQuorum (g.size own) (λ k a. g.attests own k x a) (g.lists c) → g.certifies own x c)
      (i j : ℕ) (ci : IsCorrect world i) (cj : IsCorrect world j) where
    -- what certifies by the one's scheme does by the other's
    certifies-alike : (x : Statement D) (c : C) → g.certifies (m.setup j).voter.scheme x c → g.certifies (m.setup i).voter.scheme x c
    certifies-alike x c is =
        let q = backed (m.setup j).voter.scheme x c is in
        let sizes : g.size (m.setup j).voter.scheme ≡ g.size (m.setup i).voter.scheme = (w.alike j cj).size_is ∙ sym (w.alike i ci).size_is in
        let p = subst (λ (n : ℕ). IsQuorum n (λ k a. g.attests (m.setup j).voter.scheme k x a) (g.lists c)) sizes q in
        sufficient (m.setup i).voter.scheme x c (record { distinct = p.distinct; members = p.members; enough = p.enough; attesting = λ k d l. alike i j ci cj _ x _ (p.attesting k d l) })

    -- no test that blocks applies to it
    none-first : (s : Setup S D C) → IsOfOneMember (m.setup i) s → (h : History S D P G C) (x : Packet S D P G C) → IsFine basis w j cj known law back x → ((v : Vote S D P G C) → x ≡ of_vote v → ⊥) → (r : Refusal)
        → IsFirst (sender_tests g f s j ++ packet_tests g f s h j (Some x)) (Some r) → blocks_sender r ≡ true → ⊥
    none-first s same h (of_vote v) fine unvoted r first blocks = unvoted v refl
    none-first s same h (of_certificate c) fine unvoted r first blocks =
        ⊎_elim (λ t. spares r refusal.UnknownSender t.1 refl blocks) (λ n.
        ⊎_elim (λ t. spares r refusal.OwnName t.1 refl blocks) (λ n.
        ⊎_elim (λ t. spares r refusal.WrongEpoch t.1 refl blocks) (λ n.
        ⊎_elim (λ t. spares r refusal.ViewZero t.1 refl blocks) (λ n.
        ⊎_elim (λ t. spares r refusal.OutsideWindow t.1 refl blocks) (λ n.
        ⊎_elim (λ t. spares r refusal.NoRoom t.1 refl blocks) (λ n.
        ⊎_elim (λ t. t.0 (parent-below basis w j cj c fine)) (λ n.
        ⊎_elim (λ t. spares r refusal.Repeated t.1 refl blocks) (λ n.
        ⊎_elim (λ t. t.0 (subst (λ (own : S). g.certifies own (certificate_statement c) (certified_by c)) (sym same.scheme) (certifies-alike (certificate_statement c) (certified_by c) (own-certifies basis w j cj c fine)))) (λ n. none-some r (sym n.1)) n.1) n.1) n.1) n.1) n.1) n.1) n.1) n.1) first
    none-first s same h (of_ask view) fine unvoted r first blocks =
        ⊎_elim (λ t. spares r refusal.UnknownSender t.1 refl blocks) (λ n.
        ⊎_elim (λ t. spares r refusal.OwnName t.1 refl blocks) (λ n.
        ⊎_elim (λ t. spares r refusal.ViewZero t.1 refl blocks) (λ n. none-some r (sym n.1)) n.1) n.1) first

    none-refused : (e : Event D) (is : IsRefusedFor g f scheme m world i j) → is.e ≡ e → HoldsNoVote f e j → ⊥
    none-refused (event.Packet sender by bytes) is same holds =
        let o = f.packet_in by bytes.items in
        let h = is.h in
        let s = is.setup in
        let first : IsFirst (sender_tests g f s sender ++ packet_tests g f s h sender o) (Some is.r) = subst (λ (x : Event D). IsFirst (tests g f s h x) (Some is.r)) same is.first in
        let blocks : Contains (refused_deeds g f s h (event.Packet sender by bytes) is.r) (Blocks j) = subst (λ (x : Event D). Contains (refused_deeds g f s h x is.r) (Blocks j)) same is.blocks in
        let who = ⊎_elim (λ block. sender-alone {S = S} {D = D} {P = P} {G = G} {C = C} (blocks_sender is.r) sender j block)
        (λ report. absurd (report-spares g f s is.r (evidence_deeds g f s h sender o) j (evidence-spares g f s h sender o j) report))
        (Contains-append_cases (if blocks_sender is.r then Blocks sender ∷ [] else []) (refusal_report g f s is.r (evidence_deeds g f s h sender o)) (Blocks j) blocks) in
        let by_deed = faithful.handed i j is.e by bytes.items ci cj is.handed (subst (λ (x : Event D). Carries g f scheme m world x j by bytes.items) (sym same) (holds.0, refl, refl)) in
        let of = handed-read basis w j cj known law back by bytes.items by_deed.0 by_deed.1 by_deed.2 in
        none-first s is.own h of.x of.fine (λ v e. holds.1 v (of.is ∙ ap (λ (x : Packet S D P G C). Some x) e)) is.r
        (subst (λ (x : Option (Packet S D P G C)). IsFirst (sender_tests g f s j ++ packet_tests g f s h j x) (Some is.r)) of.is
        (subst (λ (k : ℕ). IsFirst (sender_tests g f s k ++ packet_tests g f s h k o) (Some is.r)) holds.0 first)) who.0
    none-refused e is same holds = absurd holds

    pub none-blamed : HandedOut g f scheme m world i (Blocks j) → ⊥
    none-blamed out = let by = refused-alone g f scheme m world i laws basis back w faithful alike j ci cj out in none-refused by.0.e by.0 refl by.1
