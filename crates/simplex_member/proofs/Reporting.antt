-- What correct members report is honest.
use Rattle.std.proofs.Common.{◌≡◌, ⊎_elim, ℕ, ◌==◌, Bool, true, false, List, [], ◌∷◌, Option, Some, None, refl, sym, ◌∙◌, ap, subst}
use Rattle.std.specs.Prelude.{Contains, ◌&&◌, if◌then◌else◌, nat_lt, option_map, option_to_list}
use Rattle.std.specs.Option.{option_and_then}
use Rattle.std.proofs.lemmas.Option.{none-some}
use Rattle.std.proofs.lemmas.List.Elements.{Contains-append_cases}
use Rattle.types_quorum.specs.Counting.{Contains-cases, Contains-head, Contains-nil, Contains-rest}
use Rattle.types_core.specs.declared.attestation.Attestation.{Attestation}
use Rattle.types_core.specs.declared.scheme.Scheme.{Ghosts}
use Rattle.types_core.specs.Subject.{Statement, notarize, nullify, finalize}
use Rattle.messages_certificates.specs.declared.artifact.Artifact.{Artifact}
use Rattle.messages_certificates.specs.declared.artifact.Artifact.TheVariants as artifact
use Rattle.messages_certificates.specs.declared.certificate.Certificate.{Certificate}
use Rattle.messages_certificates.specs.declared.certificate.Certificate.TheVariants as certificate
use Rattle.messages_certificates.specs.declared.nullify.Nullify.{Nullify}
use Rattle.messages_certificates.specs.Artifact.{certificate_artifact}
use Rattle.messages_certificates.specs.Nullify.{nullify_of_parts}
use Rattle.messages_certificates.specs.ProposalCertificate.{Notarization}
use Rattle.messages_certificates.specs.ProposalVote.{Finalize, Notarize, contradict, vote_of_parts}
use Rattle.messages_certificates.specs.StandsBeside.{stands_beside}
use Rattle.simplex_messages.specs.declared.activity.Activity.{Activity}
use Rattle.simplex_messages.specs.declared.activity.Activity.TheVariants as activity
use Rattle.simplex_messages.specs.declared.vote.Vote.{Vote}
use Rattle.simplex_messages.specs.declared.vote.Vote.TheVariants as vote
use Rattle.simplex_messages.specs.Activity.{certificate_activity}
use Rattle.simplex_messages.specs.Guilt.{notarizes_in}
use Rattle.simplex_messages.specs.VoteParts.{vote_artifact, vote_round, vote_signer}
use Rattle.batcher_admission.specs.Evidence.{as_report, evidence}
use Rattle.simplex_batcher.specs.Admission.{report_of}
use Rattle.batcher_verifier.specs.History.{accepted, is_kept_in_full, recorded, takes}
use Rattle.batcher_verifier.specs.Votes.{is_in_way, vote_kind, vote_statement}
use Rattle.simplex_record.specs.declared.owner.Owner.{Owner}
use Rattle.simplex_record.specs.Record.{Entry, entry, entries, voted, HasVoted}
use Rattle.simplex_record.specs.Rules.{MayFollow, StandsByVotes, StandsInTheWay}
use Rattle.simplex_record.specs.World.{World, IsCorrect, IsHonest}
use Rattle.simplex_member.specs.declared.event.Event.{Event}
use Rattle.simplex_member.specs.declared.event.Event.TheVariants as event
use Rattle.simplex_member.specs.declared.refusal.Refusal.{Refusal}
use Rattle.simplex_member.specs.declared.refusal.Refusal.TheVariants as refusal
use Rattle.simplex_member.specs.Deeds.{Deed, Blocks, Reports}
use Rattle.simplex_member.specs.Laws.{HasReached, IsDoneAt, IsHonestReport, LifeLaws, RoundLaws}
use Rattle.simplex_member.specs.Layers.{all_votes, floor_of, votes_of, votes_setup}
use Rattle.simplex_member.specs.Lives.{CameIn, HandedOut, IsHonestVote, Life, LiveByNodes, Members, WasHanded}
use Rattle.simplex_member.specs.Packet.{Formats, Packet, of_vote}
use Rattle.simplex_member.specs.Point.{Point, Heard, History}
use Rattle.simplex_member.specs.Recorded.{notarization_in, record_of, recorded_by, reported}
use Rattle.simplex_member.specs.Refusals.{blocks_sender, evidence_deeds, refusal_report, refused_deeds}
use Rattle.simplex_member.proofs.Allowing.{begun-allowed}
use Rattle.simplex_member.proofs.Blame.{LawfulEver, ever-signed, splits}
use Rattle.simplex_member.proofs.Doing.{deeds-are, option-there}
use Rattle.simplex_member.proofs.Honest.{recorded-honest}
use Rattle.simplex_member.proofs.Listed.{accepted-known, kept-only, vote-entry}
use Rattle.simplex_member.proofs.Lists.{Contains-map, Contains-mapped, put-here, some-is}
use Rattle.simplex_member.proofs.Living.{votes-so}
use Rattle.simplex_member.proofs.Making.{known-honest}
use Rattle.simplex_member.proofs.Peace.{Before, find-there, ordered}
use Rattle.simplex_member.proofs.Walking.{deed-done, reached-goes, reached-heard, reached-own}

pub one : {X : Type 0} (x y : X) → Contains (x ∷ []) y → x ≡ y
one x y here = ⊎_elim (λ is. is) (λ later. absurd (Contains-nil y later)) (Contains-cases x [] y here)

pub if-is : {X : Type 0} (b : Bool) (x y : X) → (if b then Some x else None) ≡ Some y → x ≡ y
if-is true x y is = some-is x y is
if-is false x y is = absurd (none-some y is)

-- what an entry says was voted for
abbrev said : {D : Type 0} → Entry D → Option (Statement D)
said (voted x) = Some x
said x = None

said-is : {D : Type 0} (x y : Statement D) → voted x ≡ voted y → x ≡ y
said-is x y is = some-is x y (ap said is)

way-turned : {D : Type 0} (x y : Statement D) → StandsInTheWay x y → StandsInTheWay y x
way-turned (notarize p) (notarize q) is = sym is
way-turned (nullify p) (nullify q) is = sym is
way-turned (finalize p) (finalize q) is = sym is
way-turned (nullify p) (finalize q) is = sym is
way-turned (finalize p) (nullify q) is = sym is
way-turned (notarize p) (nullify q) is = absurd is
way-turned (notarize p) (finalize q) is = absurd is
way-turned (nullify p) (notarize q) is = absurd is
way-turned (finalize p) (notarize q) is = absurd is

module _ {S D P G C : Type 0} where
  abbrev pub report_in : Deed S D P G C → Option (Activity S D P G C)
  report_in (Reports a) = Some a
  report_in d = None

  -- the notarization of a view that a record has stands in it
  pub notarized-there : (r : List (Artifact S D P G C)) (view : ℕ) (c : Notarization S D P G C) → notarization_in r view ≡ Some c → Contains r (artifact.Notarization c)
  notarized-there [] view c is = absurd (none-some c is)
  notarized-there (artifact.Notarization d ∷ xs) view c is = go (d.proposal.round.view == view) is (λ found. notarized-there xs view c found)
    where
      go : (b : Bool) → (if b then Some d else notarization_in xs view) ≡ Some c → (notarization_in xs view ≡ Some c → Contains xs (artifact.Notarization c)) → Contains (artifact.Notarization d ∷ xs) (artifact.Notarization c)
      go true found later = subst (λ (x : Notarization S D P G C). Contains (artifact.Notarization d ∷ xs) (artifact.Notarization x)) (some-is d c found) (Contains-head (artifact.Notarization d) xs)
      go false found later = Contains-rest (artifact.Notarization d) xs (artifact.Notarization c) (later found)
  notarized-there (x ∷ xs) view c is = Contains-rest x xs (artifact.Notarization c) (notarized-there xs view c is)

module _ {S D P G C : Type 0} (g : Ghosts S D P G C) (f : Formats S D P G C) (scheme : S) (m : Members S D P G C) (world : World S D P G C) where
  abbrev IsTrueOf : Vote S D P G C → Type 0
  IsTrueOf v = IsHonestVote g f scheme m world v

  abbrev Report : Activity S D P G C → Type 0
  Report a = IsHonestReport g f scheme m world a

  vote-report : (v : Vote S D P G C) → IsTrueOf v → Report (as_report v)
  vote-report (vote.Notarize v) honest = record {
    notarizes = λ u here. subst (λ (x : Notarize S D P G C). IsTrueOf (vote.Notarize x)) (one v u here) honest;
    nullifies = λ u here. absurd (Contains-nil u here);
    finalizes = λ u here. absurd (Contains-nil u here);
  }
  vote-report (vote.Nullify v) honest = record {
    notarizes = λ u here. absurd (Contains-nil u here);
    nullifies = λ u here. subst (λ (x : Nullify S D P G C). IsTrueOf (vote.Nullify x)) (one v u here) honest;
    finalizes = λ u here. absurd (Contains-nil u here);
  }
  vote-report (vote.Finalize v) honest = record {
    notarizes = λ u here. absurd (Contains-nil u here);
    nullifies = λ u here. absurd (Contains-nil u here);
    finalizes = λ u here. subst (λ (x : Finalize S D P G C). IsTrueOf (vote.Finalize x)) (one v u here) honest;
  }

  notarization-report : (c : Notarization S D P G C) → IsHonest (g.attests scheme) g.lists world (certificate.Notarization c) → (u : Notarize S D P G C)
      → Contains (notarizes_in g.lists (activity.Notarization c)) u → IsTrueOf (vote.Notarize u)
  notarization-report c honest u here =
      let of = Contains-mapped (λ (a : Attestation G). vote_of_parts (c.proposal, a)) (g.lists c.certificate) u here in
      subst (λ (x : Notarize S D P G C). IsTrueOf (vote.Notarize x)) of.2 (honest of.0 of.1)

  certificate-report : (c : Certificate S D P G C) → IsHonest (g.attests scheme) g.lists world c → Report (certificate_activity c)
  certificate-report (certificate.Notarization c) honest = record {
    notarizes = λ u here. notarization-report c honest u here;
    nullifies = λ u here. absurd (Contains-nil u here);
    finalizes = λ u here. absurd (Contains-nil u here);
  }
  certificate-report (certificate.Nullification c) honest = record {
    notarizes = λ u here. absurd (Contains-nil u here);
    nullifies = λ u here.
        let of = Contains-mapped (λ (a : Attestation G). nullify_of_parts (c.round, a)) (g.lists c.certificate) u here in
        subst (λ (x : Nullify S D P G C). IsTrueOf (vote.Nullify x)) of.2 (honest of.0 of.1);
    finalizes = λ u here. absurd (Contains-nil u here);
  }
  certificate-report (certificate.Finalization c) honest = record {
    notarizes = λ u here. absurd (Contains-nil u here);
    nullifies = λ u here. absurd (Contains-nil u here);
    finalizes = λ u here.
        let of = Contains-mapped (λ (a : Attestation G). vote_of_parts (c.proposal, a)) (g.lists c.certificate) u here in
        subst (λ (x : Finalize S D P G C). IsTrueOf (vote.Finalize x)) of.2 (honest of.0 of.1);
  }

  certified-report : (c : Notarization S D P G C) → IsHonest (g.attests scheme) g.lists world (certificate.Notarization c) → Report (activity.Certification c)
  certified-report c honest = record {
    notarizes = λ u here. notarization-report c honest u here;
    nullifies = λ u here. absurd (Contains-nil u here);
    finalizes = λ u here. absurd (Contains-nil u here);
  }

  -- evidence of two honest votes is honest
  evidence-report : (u v : Vote S D P G C) (a : Activity S D P G C) → evidence f.same u v ≡ Some a → IsTrueOf u → IsTrueOf v → Report a
  evidence-report (vote.Notarize u) (vote.Notarize v) a is first second = subst Report (if-is (contradict f.same u v) (activity.ConflictingNotarize (u, v)) a is) (record {
    notarizes = λ x here. ⊎_elim
        (λ e. subst (λ (y : Notarize S D P G C). IsTrueOf (vote.Notarize y)) e first)
        (λ later. subst (λ (y : Notarize S D P G C). IsTrueOf (vote.Notarize y)) (one v x later) second)
        (Contains-cases u (v ∷ []) x here);
    nullifies = λ x here. absurd (Contains-nil x here);
    finalizes = λ x here. absurd (Contains-nil x here);
  })
  evidence-report (vote.Finalize u) (vote.Finalize v) a is first second = subst Report (if-is (contradict f.same u v) (activity.ConflictingFinalize (u, v)) a is) (record {
    notarizes = λ x here. absurd (Contains-nil x here);
    nullifies = λ x here. absurd (Contains-nil x here);
    finalizes = λ x here. ⊎_elim
        (λ e. subst (λ (y : Finalize S D P G C). IsTrueOf (vote.Finalize y)) e first)
        (λ later. subst (λ (y : Finalize S D P G C). IsTrueOf (vote.Finalize y)) (one v x later) second)
        (Contains-cases u (v ∷ []) x here);
  })
  evidence-report (vote.Nullify u) (vote.Finalize v) a is first second = subst Report (if-is (stands_beside u v) (activity.NullifyFinalize (u, v)) a is) (record {
    notarizes = λ x here. absurd (Contains-nil x here);
    nullifies = λ x here. subst (λ (y : Nullify S D P G C). IsTrueOf (vote.Nullify y)) (one u x here) first;
    finalizes = λ x here. subst (λ (y : Finalize S D P G C). IsTrueOf (vote.Finalize y)) (one v x here) second;
  })
  evidence-report (vote.Finalize u) (vote.Nullify v) a is first second = subst Report (if-is (stands_beside v u) (activity.NullifyFinalize (v, u)) a is) (record {
    notarizes = λ x here. absurd (Contains-nil x here);
    nullifies = λ x here. subst (λ (y : Nullify S D P G C). IsTrueOf (vote.Nullify y)) (one v x here) second;
    finalizes = λ x here. subst (λ (y : Finalize S D P G C). IsTrueOf (vote.Finalize y)) (one u x here) first;
  })
  evidence-report (vote.Notarize u) (vote.Nullify v) a is first second = absurd (none-some a is)
  evidence-report (vote.Notarize u) (vote.Finalize v) a is first second = absurd (none-some a is)
  evidence-report (vote.Nullify u) (vote.Notarize v) a is first second = absurd (none-some a is)
  evidence-report (vote.Nullify u) (vote.Nullify v) a is first second = absurd (none-some a is)
  evidence-report (vote.Finalize u) (vote.Notarize v) a is first second = absurd (none-some a is)

  full-report : (b : Bool) (u v : Vote S D P G C) (a : Activity S D P G C) → (if b then evidence f.same u v else None) ≡ Some a → IsTrueOf u → IsTrueOf v → Report a
  full-report true u v a is first second = evidence-report u v a is first second
  full-report false u v a is first second = absurd (none-some a is)

  against-report : (b : Bool) (o : Option (Vote S D P G C)) (full : Vote S D P G C → Bool) (v : Vote S D P G C) (a : Activity S D P G C) → ((u : Vote S D P G C) → o ≡ Some u → IsTrueOf u) → IsTrueOf v
      → (if b then option_and_then (λ u. if full u then evidence f.same u v else None) o else None) ≡ Some a → Report a
  against-report true (Some u) full v a each honest is = full-report (full u) u v a is (each u refl) honest
  against-report true None full v a each honest is = absurd (none-some a is)
  against-report false o full v a each honest is = absurd (none-some a is)

  module _ (basis : LifeLaws g) (w : LiveByNodes g f scheme m world) (i : ℕ) (correct : IsCorrect world i) where
    lawful : LawfulEver g f (m.setup i) (world.recorded i)
    lawful = votes-so g f basis (m.setup i) (m.lives i) (world.recorded i) (w.lived i correct).0 (w.lived i correct).1

    -- an own vote is honest
    own-honest : (v : Vote S D P G C) → Contains (world.recorded i) (vote_artifact v) → IsTrueOf v
    own-honest v here = λ signs attests.
        let at = splits (world.recorded i) (vote_artifact v) here in
        let signer : vote_signer v ≡ i = ever-signed g f (m.setup i) at.before v (lawful at.before at.behind (vote_artifact v) at.is) ∙ ap (λ (o : Owner). o.signer) (w.owner i correct) in
        subst (λ (j : ℕ). HasVoted (entries (world.recorded j)) (vote_statement v)) (sym signer)
        (subst (λ (e : Entry D). Contains (entries (world.recorded i)) e) (vote-entry v) (Contains-map entry (world.recorded i) (vote_artifact v) here))

    voted-follow : (views : ℕ) (before : List (Entry D)) (s : Statement D) → StandsByVotes views before (voted s) → MayFollow views before (voted s)
    voted-follow views before (notarize p) stands = stands
    voted-follow views before (nullify x) stands = stands
    voted-follow views before (finalize p) stands = stands

    behind : ((views : ℕ) (before : List (Entry D)) (s t : Statement D) → MayFollow views before (voted s) → HasVoted before t → StandsInTheWay s t → ⊥)
        → (x y : Artifact S D P G C) (a b : Statement D) → Before (world.recorded i) x y → entry x ≡ voted a → entry y ≡ voted b → StandsInTheWay b a → ⊥
    behind law x y a b at first second stands =
        let fits = lawful at.before at.behind y at.is in
        law (m.setup i).voter.length (entries at.before) b a (voted-follow (m.setup i).voter.length (entries at.before) b (subst (λ (e : Entry D). StandsByVotes (m.setup i).voter.length (entries at.before) e) second fits.stands))
        (subst (λ (e : Entry D). Contains (entries at.before) e) first (Contains-map entry at.before x at.there)) stands

    -- two own votes of which one stands in the other's way are for one statement
    pub one-statement : ((views : ℕ) (before : List (Entry D)) (s t : Statement D) → MayFollow views before (voted s) → HasVoted before t → StandsInTheWay s t → ⊥)
        → (s t : Statement D) → HasVoted (entries (world.recorded i)) s → HasVoted (entries (world.recorded i)) t → StandsInTheWay s t → s ≡ t
    one-statement law s t first second way =
        let x = Contains-mapped entry (world.recorded i) (voted s) first in
        let y = Contains-mapped entry (world.recorded i) (voted t) second in
        ⊎_elim
        (λ same. said-is s t (sym x.2 ∙ (ap entry same ∙ y.2)))
        (λ apart. ⊎_elim
        (λ before. absurd (behind law x.0 y.0 s t before x.2 y.2 (way-turned s t way)))
        (λ before. absurd (behind law y.0 x.0 t s before y.2 x.2 way))
        apart)
        (ordered (world.recorded i) x.0 y.0 x.1 y.1)

  module _ (basis : LifeLaws g) (laws : RoundLaws g f.same) (w : LiveByNodes g f scheme m world) (i : ℕ) (correct : IsCorrect world i) where
    taken-honest : (c : Certificate S D P G C) → Contains (world.recorded i) (certificate_artifact c) → IsHonest (g.attests scheme) g.lists world c
    taken-honest c here = recorded-honest g f scheme m world laws w i correct c here

    judged-report : (r : List (Artifact S D P G C)) (view : ℕ) → ((x : Artifact S D P G C) → Contains r x → Contains (world.recorded i) x) → (a : Activity S D P G C)
        → Contains (option_to_list (option_map activity.Certification (notarization_in r view))) a → Report a
    judged-report r view part a here = go (notarization_in r view) refl here
      where
        go : (o : Option (Notarization S D P G C)) → notarization_in r view ≡ o → Contains (option_to_list (option_map activity.Certification o)) a → Report a
        go None is there = absurd (Contains-nil a there)
        go (Some c) is there = subst Report (one (activity.Certification c) a there) (certified-report c (taken-honest (certificate.Notarization c) (part (artifact.Notarization c) (notarized-there r view c is))))

    -- so is what is reported of an artifact that is recorded
    recorded-report : (r : List (Artifact S D P G C)) (x : Artifact S D P G C) → ((y : Artifact S D P G C) → Contains r y → Contains (world.recorded i) y) → Contains (world.recorded i) x → (a : Activity S D P G C) → Contains (reported r x) a → Report a
    recorded-report r (artifact.Notarize v) part here a there = subst Report (one (activity.Notarize v) a there) (vote-report (vote.Notarize v) (own-honest basis w i correct (vote.Notarize v) here))
    recorded-report r (artifact.Nullify v) part here a there = subst Report (one (activity.Nullify v) a there) (vote-report (vote.Nullify v) (own-honest basis w i correct (vote.Nullify v) here))
    recorded-report r (artifact.Finalize v) part here a there = subst Report (one (activity.Finalize v) a there) (vote-report (vote.Finalize v) (own-honest basis w i correct (vote.Finalize v) here))
    recorded-report r (artifact.Notarization c) part here a there = subst Report (one (activity.Notarization c) a there) (certificate-report (certificate.Notarization c) (taken-honest (certificate.Notarization c) here))
    recorded-report r (artifact.Nullification c) part here a there = subst Report (one (activity.Nullification c) a there) (certificate-report (certificate.Nullification c) (taken-honest (certificate.Nullification c) here))
    recorded-report r (artifact.Finalization c) part here a there = subst Report (one (activity.Finalization c) a there) (certificate-report (certificate.Finalization c) (taken-honest (certificate.Finalization c) here))
    recorded-report r (artifact.Certification round true) part here a there = judged-report r round.view part a there
    recorded-report r (artifact.Certification round false) part here a there = absurd (Contains-nil a there)

    point-report : (a : Activity S D P G C) → IsDoneAt g f m i (Reports a) → Report a
    point-report a at = ⊎_elim
        (λ of. recorded-report (record_of at.h) of.0 (λ y there. (reached-heard g f scheme m world i w correct at.life at.h at.reached).recorded y there)
        ((reached-heard g f scheme m world i w correct at.life (at.p ∷ at.h) at.next).recorded of.0 (put-here (record_of at.h) (recorded_by at.p) of.0 of.1)) a of.2)
        (λ of. subst Report (sym of.2) (vote-report of.0 (w.honest i (vote_signer of.0) correct (of_vote of.0)
        ((reached-heard g f scheme m world i w correct at.life (at.p ∷ at.h) at.next).came of.0 (subst (λ (p : Point S D P G C). Contains (p ∷ at.h) (Heard of.0)) (sym of.1) (Contains-head (Heard of.0) at.h))))))
        (deeds-are g f at.life.setup at.h at.p (Reports a) at.done)

    -- ---- evidence at a refusal

    evidence-there : (life : Life S D P G C) (h : History S D P G C) → HasReached m i life h → (sender : ℕ) (o : Option (Packet S D P G C)) → ((x : Packet S D P G C) → o ≡ Some x → CameIn g f scheme m world i sender x)
        → (a : Activity S D P G C) → Contains (evidence_deeds g f life.setup h sender o) (Reports a) → Report a
    evidence-there life h reached sender (Some (of_vote v)) came a here =
        let s = votes_setup life.setup g h (vote_round v).view in
        let r = votes_of life.setup h (vote_round v).view in
        let of = Contains-mapped Reports (option_to_list (report_of f.same s r sender v)) (Reports a) here in
        let honest = w.honest i sender correct (of_vote v) (came (of_vote v) refl) in
        subst Report (some-is of.0 a (ap report_in of.2)) (go of.0 (takes s r sender v) honest (option-there (report_of f.same s r sender v) of.0 of.1))
      where
        known : (u : Vote S D P G C) → recorded (votes_of life.setup h (vote_round v).view) v ≡ Some u → IsTrueOf u
        known u is =
            let found = find-there (is_in_way v) (accepted (votes_of life.setup h (vote_round v).view)) u is in
            let all = begun-allowed g f life.setup reached.before h (reached-goes g f scheme m world i w correct life h reached) in
            let from = accepted-known g f life.setup h all (vote_round v).view u (kept-only (nat_lt (vote_round v).view (floor_of life.setup h)) (all_votes (vote_round v).view h) u found.0) in
            known-honest g f scheme m world w i correct life.setup (reached-own g f scheme m world i w correct life h reached) h (reached-heard g f scheme m world i w correct life h reached) u from.known

        go : (b : Activity S D P G C) (t : Bool) → IsTrueOf v
            → (if t then Some (as_report v) else (if (sender == vote_signer v) && nat_lt sender (votes_setup life.setup g h (vote_round v).view).members
            then option_and_then (λ u. if is_kept_in_full (votes_setup life.setup g h (vote_round v).view) (vote_kind u) (votes_of life.setup h (vote_round v).view) then evidence f.same u v else None) (recorded (votes_of life.setup h (vote_round v).view) v)
            else None)) ≡ Some b → Report b
        go b true honest is = subst Report (some-is (as_report v) b is) (vote-report v honest)
        go b false honest is = against-report ((sender == vote_signer v) && nat_lt sender (votes_setup life.setup g h (vote_round v).view).members) (recorded (votes_of life.setup h (vote_round v).view) v)
            (λ u. is_kept_in_full (votes_setup life.setup g h (vote_round v).view) (vote_kind u) (votes_of life.setup h (vote_round v).view)) v b known honest is
    evidence-there life h reached sender o came a here = absurd (Contains-nil (Reports a) here)

    sender-none : (b : Bool) (sender : ℕ) (a : Activity S D P G C) → Contains {X = Deed S D P G C} (if b then Blocks sender ∷ [] else []) (Reports a) → ⊥
    sender-none true sender a here = none-some a (ap report_in (one (Blocks sender) (Reports a) here))
    sender-none false sender a here = Contains-nil (Reports a) here

    refusal-there : (life : Life S D P G C) (r : Refusal) (deeds : List (Deed S D P G C)) (a : Activity S D P G C) → Contains (refusal_report g f life.setup r deeds) (Reports a) → Contains deeds (Reports a)
    refusal-there life refusal.Contradiction deeds a here = here
    refusal-there life r deeds a here = absurd (Contains-nil (Reports a) here)

    refused-report : (life : Life S D P G C) (h : History S D P G C) → HasReached m i life h → (e : Event D) → WasHanded g f scheme m world i e → (r : Refusal) (a : Activity S D P G C) → Contains (refused_deeds g f life.setup h e r) (Reports a) → Report a
    refused-report life h reached (event.Packet sender by bytes) handed r a here = ⊎_elim
        (λ block. absurd (sender-none (blocks_sender r) sender a block))
        (λ report. evidence-there life h reached sender (f.packet_in by bytes.items) (λ x is. (event.Packet sender by bytes, handed, (refl, is))) a
        (refusal-there life r (evidence_deeds g f life.setup h sender (f.packet_in by bytes.items)) a report))
        (Contains-append_cases (if blocks_sender r then Blocks sender ∷ [] else []) (refusal_report g f life.setup r (evidence_deeds g f life.setup h sender (f.packet_in by bytes.items))) (Reports a) here)
    refused-report life h reached e handed r a here = absurd (Contains-nil (Reports a) here)

    -- what a correct member reports is honest
    pub report-honest : (a : Activity S D P G C) → HandedOut g f scheme m world i (Reports a) → Report a
    report-honest a out = ⊎_elim
        (λ at. point-report a at)
        (λ at. refused-report at.life at.h at.reached at.e at.handed at.r a at.done)
        (deed-done g f scheme m world i w correct (Reports a) out)
