-- What correct members report is made of votes and certificates that can be read.
use Rattle.std.proofs.Common.{◌≡◌, ⊎_elim, ℕ, ◌==◌, Bool, true, false, List, [], ◌∷◌, Option, Some, None, refl, sym, ap, subst}
use Rattle.std.specs.Prelude.{Contains, IfSome, ◌&&◌, if◌then◌else◌, find, map, nat_lt, option_map, option_to_list, unwrap_or}
use Rattle.std.specs.Option.{option_and_then}
use Rattle.std.proofs.lemmas.Option.{none-some}
use Rattle.std.proofs.lemmas.List.Elements.{Contains-append_cases, Contains-append_right}
use Rattle.types_quorum.specs.Counting.{Contains-cases, Contains-head, Contains-nil, Contains-rest}
use Rattle.types_core.specs.declared.scheme.Scheme.{Ghosts}
use Rattle.messages_certificates.specs.declared.artifact.Artifact.{Artifact}
use Rattle.messages_certificates.specs.declared.artifact.Artifact.TheVariants as artifact
use Rattle.messages_certificates.specs.declared.certificate.Certificate.TheVariants as certificate
use Rattle.messages_certificates.specs.ProposalCertificate.{Notarization}
use Rattle.messages_certificates.specs.ProposalVote.{contradict}
use Rattle.messages_certificates.specs.StandsBeside.{stands_beside}
use Rattle.simplex_messages.specs.declared.activity.Activity.{Activity}
use Rattle.simplex_messages.specs.declared.activity.Activity.TheVariants as activity
use Rattle.simplex_messages.specs.declared.vote.Vote.{Vote}
use Rattle.simplex_messages.specs.declared.vote.Vote.TheVariants as vote
use Rattle.simplex_messages.specs.VoteParts.{vote_artifact, vote_round, vote_signer}
use Rattle.batcher_admission.specs.Blocking.{evidence_against}
use Rattle.batcher_admission.specs.Evidence.{as_report, evidence}
use Rattle.simplex_batcher.specs.Admission.{report_of}
use Rattle.batcher_verifier.specs.History.{accepted, is_kept_in_full, recorded, takes}
use Rattle.batcher_verifier.specs.Votes.{is_in_way, vote_kind}
use Rattle.simplex_record.specs.World.{World, IsCorrect}
use Rattle.simplex_member.specs.declared.event.Event.{Event}
use Rattle.simplex_member.specs.declared.event.Event.TheVariants as event
use Rattle.simplex_member.specs.declared.event.Channel.{Channel}
use Rattle.simplex_member.specs.declared.refusal.Refusal.{Refusal}
use Rattle.simplex_member.specs.declared.refusal.Refusal.TheVariants as refusal
use Rattle.simplex_member.specs.Deeds.{Deed, Blocks, Reports}
use Rattle.simplex_member.specs.Laws.{AcceptedAreKnown, AreReadBack, DeedsAreDone, DeedsAreOfPoints, HasReached, IsDoneAt, IsKnownVote, ReachedAreGoneTo}
use Rattle.simplex_member.specs.Layers.{votes_of, votes_setup}
use Rattle.simplex_member.specs.Lives.{CameIn, HandedOut, Holds, Life, LiveByNodes, Members, WasHanded}
use Rattle.simplex_member.specs.Packet.{Formats, IsReadable, Packet, of_certificate, of_vote, packet_of}
use Rattle.simplex_member.specs.Point.{Point, Heard, History}
use Rattle.simplex_member.specs.Recorded.{notarization_in, put_behind, record_of, recorded_by, reported}
use Rattle.simplex_member.specs.Refusals.{blocks_sender, evidence_deeds, refusal_report, refused_deeds}
use Rattle.simplex_member.specs.Setup.{Setup}

some-is : {X : Type 0} (x y : X) → Some x ≡ Some y → x ≡ y
some-is {X} x y e = ap (λ (o : Option X). unwrap_or o x) e

alone : {X : Type 0} (x y : X) → Contains (x ∷ []) y → x ≡ y
alone x y here = ⊎_elim (λ is. is) (λ later. absurd (Contains-nil y later)) (Contains-cases x [] y here)

-- a test gave this
if-so : {X : Type 0} (b : Bool) (x y : X) → (if b then Some x else None) ≡ Some y → (b ≡ true) × (x ≡ y)
if-so true x y is = (refl, some-is x y is)
if-so false x y is = absurd (none-some y is)

-- what holds of each element holds of the one that a search finds
of-found : {X : Type 0} (P : X → Type 0) (p : X → Bool) (xs : List X) → ((x : X) → Contains xs x → P x) → IfSome (find p xs) P
of-found P p [] each = tt
of-found {X} P p (y ∷ xs) each = go (p y) (of-found P p xs (λ x later. each x (Contains-rest y xs x later)))
  where
    go : (b : Bool) → IfSome (find p xs) P → IfSome (if b then Some y else find p xs) P
    go true later = each y (Contains-head y xs)
    go false later = later

module _ {S D P G C : Type 0} where
  -- what is reported, if anything is
  abbrev told : Deed S D P G C → Option (Activity S D P G C)
  told (Reports a) = Some a
  told d = None

  told-is : (a b : Activity S D P G C) → Reports a ≡ Reports b → a ≡ b
  told-is a b e = some-is a b (ap told e)

  reported-is : (o : Option (Activity S D P G C)) (a : Activity S D P G C) → Contains (map Reports (option_to_list o)) (Reports a) → o ≡ Some a
  reported-is None a here = absurd (Contains-nil (Reports a) here)
  reported-is (Some b) a here = ap (λ (x : Activity S D P G C). Some x) (told-is b a (alone (Reports b) (Reports a) here))

  -- what a point records stands in the record behind it
  recorded-there : (p : Point S D P G C) (h : History S D P G C) (x : Artifact S D P G C) → recorded_by p ≡ Some x → Contains (record_of (p ∷ h)) x
  recorded-there p h x is = subst (λ (o : Option (Artifact S D P G C)). Contains (put_behind (record_of h) o) x) (sym is)
      (Contains-append_right (record_of h) (x ∷ []) x (Contains-head x []))

module _ {S D P G C : Type 0} (f : Formats S D P G C) where
  -- a vote, or a notarization, can be read
  abbrev pub IsReadableVote : Vote S D P G C → Type 0
  IsReadableVote v = IsReadable f (of_vote v)

  abbrev pub IsReadableNotarization : Notarization S D P G C → Type 0
  IsReadableNotarization c = IsReadable f (of_certificate (certificate.Notarization c))

  -- what a report holds can be read: its vote, its certificate, or the two votes of evidence, which contradict each other
  abbrev pub HoldsReadable : Activity S D P G C → Type 0
  HoldsReadable (activity.Notarize v) = IsReadableVote (vote.Notarize v)
  HoldsReadable (activity.Notarization c) = IsReadableNotarization c
  HoldsReadable (activity.Certification c) = IsReadableNotarization c
  HoldsReadable (activity.Nullify v) = IsReadableVote (vote.Nullify v)
  HoldsReadable (activity.Nullification c) = IsReadable f (of_certificate (certificate.Nullification c))
  HoldsReadable (activity.Finalize v) = IsReadableVote (vote.Finalize v)
  HoldsReadable (activity.Finalization c) = IsReadable f (of_certificate (certificate.Finalization c))
  HoldsReadable (activity.ConflictingNotarize x) = IsReadableVote (vote.Notarize x.0) × IsReadableVote (vote.Notarize x.1) × (contradict f.same x.0 x.1 ≡ true)
  HoldsReadable (activity.ConflictingFinalize x) = IsReadableVote (vote.Finalize x.0) × IsReadableVote (vote.Finalize x.1) × (contradict f.same x.0 x.1 ≡ true)
  HoldsReadable (activity.NullifyFinalize x) = IsReadableVote (vote.Nullify x.0) × IsReadableVote (vote.Finalize x.1) × (stands_beside x.0 x.1 ≡ true)

  of-vote : (v : Vote S D P G C) → IsReadableVote v → HoldsReadable (as_report v)
  of-vote (vote.Notarize v) read = read
  of-vote (vote.Nullify v) read = read
  of-vote (vote.Finalize v) read = read

  of-evidence : (u v : Vote S D P G C) (a : Activity S D P G C) → IsReadableVote u → IsReadableVote v → evidence f.same u v ≡ Some a → HoldsReadable a
  of-evidence (vote.Notarize u) (vote.Notarize v) a first second is =
      let by = if-so (contradict f.same u v) (activity.ConflictingNotarize (u, v)) a is in subst HoldsReadable by.1 (first, second, by.0)
  of-evidence (vote.Finalize u) (vote.Finalize v) a first second is =
      let by = if-so (contradict f.same u v) (activity.ConflictingFinalize (u, v)) a is in subst HoldsReadable by.1 (first, second, by.0)
  of-evidence (vote.Nullify u) (vote.Finalize v) a first second is =
      let by = if-so (stands_beside u v) (activity.NullifyFinalize (u, v)) a is in subst HoldsReadable by.1 (first, second, by.0)
  of-evidence (vote.Finalize u) (vote.Nullify v) a first second is =
      let by = if-so (stands_beside v u) (activity.NullifyFinalize (v, u)) a is in subst HoldsReadable by.1 (second, first, by.0)
  of-evidence (vote.Notarize u) (vote.Nullify v) a first second is = absurd (none-some a is)
  of-evidence (vote.Notarize u) (vote.Finalize v) a first second is = absurd (none-some a is)
  of-evidence (vote.Nullify u) (vote.Notarize v) a first second is = absurd (none-some a is)
  of-evidence (vote.Nullify u) (vote.Nullify v) a first second is = absurd (none-some a is)
  of-evidence (vote.Finalize u) (vote.Notarize v) a first second is = absurd (none-some a is)

  -- where a vote contradicts the accepted one that stands in its way, if that is kept in full
  of-both : (full : Bool) (u v : Vote S D P G C) (a : Activity S D P G C) → IsReadableVote u → IsReadableVote v → (if full then evidence f.same u v else None) ≡ Some a → HoldsReadable a
  of-both true u v a first second is = of-evidence u v a first second is
  of-both false u v a first second is = absurd (none-some a is)

  of-against : (members : ℕ) (o : Option (Vote S D P G C)) (full : Vote S D P G C → Bool) (sender : ℕ) (v : Vote S D P G C) (a : Activity S D P G C) → IfSome o IsReadableVote → IsReadableVote v
      → evidence_against f.same members o full sender v ≡ Some a → HoldsReadable a
  of-against members o full sender v a first second is = go ((sender == vote_signer v) && nat_lt sender members) o first is
    where
      go : (b : Bool) (found : Option (Vote S D P G C)) → IfSome found IsReadableVote → (if b then option_and_then (λ u. if full u then evidence f.same u v else None) found else None) ≡ Some a → HoldsReadable a
      go true (Some u) read there = of-both (full u) u v a read second there
      go true None read there = absurd (none-some a there)
      go false found read there = absurd (none-some a there)

  -- the notarization of a view that a record has
  notarization-read : (r : List (Artifact S D P G C)) (view : ℕ) → ((x : Artifact S D P G C) → Contains r x → IfSome (packet_of x) (IsReadable f)) → IfSome (notarization_in r view) IsReadableNotarization
  notarization-read [] view each = tt
  notarization-read (artifact.Notarization c ∷ xs) view each =
      go (c.proposal.round.view == view) (notarization-read xs view (λ x later. each x (Contains-rest (artifact.Notarization c) xs x later)))
    where
      go : (b : Bool) → IfSome (notarization_in xs view) IsReadableNotarization → IfSome (if b then Some c else notarization_in xs view) IsReadableNotarization
      go true later = each (artifact.Notarization c) (Contains-head (artifact.Notarization c) xs)
      go false later = later
  notarization-read (x ∷ xs) view each = notarization-read xs view (λ y later. each y (Contains-rest x xs y later))

  certification-read : (o : Option (Notarization S D P G C)) → IfSome o IsReadableNotarization → (a : Activity S D P G C) → Contains (option_to_list (option_map activity.Certification o)) a → HoldsReadable a
  certification-read None read a here = absurd (Contains-nil a here)
  certification-read (Some c) read a here = subst HoldsReadable (alone (activity.Certification c) a here) read

  -- what an artifact is reported as behind a record, where it can be read, and so can what is recorded
  recorded-read : (before : List (Artifact S D P G C)) (x : Artifact S D P G C) → ((y : Artifact S D P G C) → Contains before y → IfSome (packet_of y) (IsReadable f)) → IfSome (packet_of x) (IsReadable f)
      → (a : Activity S D P G C) → Contains (reported before x) a → HoldsReadable a
  recorded-read before (artifact.Notarize v) each read a here = subst HoldsReadable (alone (activity.Notarize v) a here) read
  recorded-read before (artifact.Notarization c) each read a here = subst HoldsReadable (alone (activity.Notarization c) a here) read
  recorded-read before (artifact.Nullify v) each read a here = subst HoldsReadable (alone (activity.Nullify v) a here) read
  recorded-read before (artifact.Nullification c) each read a here = subst HoldsReadable (alone (activity.Nullification c) a here) read
  recorded-read before (artifact.Finalize v) each read a here = subst HoldsReadable (alone (activity.Finalize v) a here) read
  recorded-read before (artifact.Finalization c) each read a here = subst HoldsReadable (alone (activity.Finalization c) a here) read
  recorded-read before (artifact.Certification round true) each read a here = certification-read (notarization_in before round.view) (notarization-read before round.view each) a here
  recorded-read before (artifact.Certification round false) each read a here = absurd (Contains-nil a here)

module _ {S D P G C : Type 0} (g : Ghosts S D P G C) (f : Formats S D P G C) (scheme : S) (m : Members S D P G C) (world : World S D P G C) (w : LiveByNodes g f scheme m world)
    (back : AreReadBack f) (records : (i : ℕ) → IsCorrect world i → (x : Artifact S D P G C) → Contains (world.recorded i) x → IfSome (packet_of x) (IsReadable f)) (done : DeedsAreDone g f) (gone : ReachedAreGoneTo g f)
    (points : (s : Setup S D C) → DeedsAreOfPoints g f s) (known : (s : Setup S D C) → AcceptedAreKnown g f s) where
  -- what came in was read
  came-read : (i sender : ℕ) (x : Packet S D P G C) → CameIn g f scheme m world i sender x → IsReadable f x
  came-read i sender x came = go came.0 came.2
    where
      go : (e : Event D) → Holds g f scheme m world e sender x → IsReadable f x
      go (event.Packet from by bytes) holds =
          (bytes.items, subst (λ (c : Channel). f.packet_in c bytes.items ≡ Some x) (sym (back.by_channel by bytes.items x holds.1)) holds.1)
      go e holds = absurd holds

  module _ (i : ℕ) (correct : IsCorrect world i) where
    own-read : (v : Vote S D P G C) → Contains (world.recorded i) (vote_artifact v) → IsReadableVote f v
    own-read (vote.Notarize v) here = records i correct (artifact.Notarize v) here
    own-read (vote.Nullify v) here = records i correct (artifact.Nullify v) here
    own-read (vote.Finalize v) here = records i correct (artifact.Finalize v) here

    -- a vote that a history heard, or has recorded
    known-read : (life : Life S D P G C) (h : History S D P G C) → HasReached m i life h → (v : Vote S D P G C) → IsKnownVote g f life.setup h v → IsReadableVote f v
    known-read life h reached v is =
        let heard = (gone scheme m world w i correct life h reached).2 in
        ⊎_elim (λ there. came-read i (vote_signer v) (of_vote v) (heard.came v there)) (λ own. own-read v (heard.recorded (vote_artifact v) own.1)) is

    -- the accepted vote that stands in a vote's way
    in-way-read : (life : Life S D P G C) (h : History S D P G C) → HasReached m i life h → (view : ℕ) (v : Vote S D P G C) → IfSome (recorded (votes_of life.setup h view) v) (IsReadableVote f)
    in-way-read life h reached view v =
        let goes = (gone scheme m world w i correct life h reached).1 in
        of-found (IsReadableVote f) (is_in_way v) (accepted (votes_of life.setup h view)) (λ u here. known-read life h reached u (known life.setup h goes.0 view u goes.1 here))

    -- what is reported at a point
    point-read : (a : Activity S D P G C) → IsDoneAt g f m i (Reports a) → HoldsReadable f a
    point-read a at = ⊎_elim
        (λ of.
        let before = (gone scheme m world w i correct at.life at.h at.reached).2 in
        let behind = (gone scheme m world w i correct at.life (at.p ∷ at.h) at.next).2 in
        recorded-read f (record_of at.h) of.0 (λ y there. records i correct y (before.recorded y there))
        (records i correct of.0 (behind.recorded of.0 (recorded-there at.p at.h of.0 of.1))) a of.2)
        (λ of.
        let behind = (gone scheme m world w i correct at.life (at.p ∷ at.h) at.next).2 in
        let heard : Contains (at.p ∷ at.h) (Heard of.0) = subst (λ (p : Point S D P G C). Contains (p ∷ at.h) (Heard of.0)) (sym of.1) (Contains-head (Heard of.0) at.h) in
        subst (HoldsReadable f) (sym of.2) (of-vote f of.0 (came-read i (vote_signer of.0) (of_vote of.0) (behind.came of.0 heard))))
        (points at.life.setup at.h at.p (Reports a) at.done)

    -- the evidence at a refusal
    evidence-read : (life : Life S D P G C) (h : History S D P G C) → HasReached m i life h → (sender : ℕ) (o : Option (Packet S D P G C)) → IfSome o (IsReadable f)
        → (a : Activity S D P G C) → Contains (evidence_deeds g f life.setup h sender o) (Reports a) → HoldsReadable f a
    evidence-read life h reached sender (Some (of_vote v)) read a here =
        go (takes (votes_setup life.setup g h (vote_round v).view) (votes_of life.setup h (vote_round v).view) sender v)
        (reported-is (report_of f.same (votes_setup life.setup g h (vote_round v).view) (votes_of life.setup h (vote_round v).view) sender v) a here)
      where
        go : (t : Bool) → (if t then Some (as_report v) else evidence_against f.same (votes_setup life.setup g h (vote_round v).view).members (recorded (votes_of life.setup h (vote_round v).view) v)
            (λ u. is_kept_in_full (votes_setup life.setup g h (vote_round v).view) (vote_kind u) (votes_of life.setup h (vote_round v).view)) sender v) ≡ Some a → HoldsReadable f a
        go true is = subst (HoldsReadable f) (some-is (as_report v) a is) (of-vote f v read)
        go false is = of-against f (votes_setup life.setup g h (vote_round v).view).members (recorded (votes_of life.setup h (vote_round v).view) v)
            (λ u. is_kept_in_full (votes_setup life.setup g h (vote_round v).view) (vote_kind u) (votes_of life.setup h (vote_round v).view)) sender v a
            (in-way-read life h reached (vote_round v).view v) read is
    evidence-read life h reached sender o read a here = absurd (Contains-nil (Reports a) here)

    no-block : (b : Bool) (sender : ℕ) (a : Activity S D P G C) → Contains {X = Deed S D P G C} (if b then Blocks sender ∷ [] else []) (Reports a) → ⊥
    no-block true sender a here = none-some a (ap told (alone (Blocks sender) (Reports a) here))
    no-block false sender a here = Contains-nil (Reports a) here

    beside-block : (life : Life S D P G C) (r : Refusal) (deeds : List (Deed S D P G C)) (a : Activity S D P G C) → Contains (refusal_report g f life.setup r deeds) (Reports a) → Contains deeds (Reports a)
    beside-block life refusal.Contradiction deeds a here = here
    beside-block life r deeds a here = absurd (Contains-nil (Reports a) here)

    packet-read : (sender : ℕ) (o : Option (Packet S D P G C)) → ((x : Packet S D P G C) → o ≡ Some x → CameIn g f scheme m world i sender x) → IfSome o (IsReadable f)
    packet-read sender None came = tt
    packet-read sender (Some x) came = came-read i sender x (came x refl)

    refused-read : (life : Life S D P G C) (h : History S D P G C) → HasReached m i life h → (e : Event D) → WasHanded g f scheme m world i e → (r : Refusal) (a : Activity S D P G C) → Contains (refused_deeds g f life.setup h e r) (Reports a) → HoldsReadable f a
    refused-read life h reached (event.Packet sender by bytes) handed r a here =
        let o = f.packet_in by bytes.items in
        let deeds = evidence_deeds g f life.setup h sender o in
        ⊎_elim
        (λ block. absurd (no-block (blocks_sender r) sender a block))
        (λ report. evidence-read life h reached sender o (packet-read sender o (λ x is. (event.Packet sender by bytes, handed, (refl, is)))) a (beside-block life r deeds a report))
        (Contains-append_cases (if blocks_sender r then Blocks sender ∷ [] else []) (refusal_report g f life.setup r deeds) (Reports a) here)
    refused-read life h reached e handed r a here = absurd (Contains-nil (Reports a) here)

    -- what a correct member reports holds what can be read
    pub report-read : (a : Activity S D P G C) → HandedOut g f scheme m world i (Reports a) → HoldsReadable f a
    report-read a out = ⊎_elim
        (λ at. point-read a at)
        (λ at. refused-read at.life at.h at.reached at.e at.handed at.r a at.done)
        (done scheme m world w i correct (Reports a) out)
